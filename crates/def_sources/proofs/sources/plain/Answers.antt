use Rattle.std.proofs.Common.{refl, [], ◌∷◌}
use Rattle.def_sources.specs.Asking.{question_in, map_in}
use Rattle.def_sources.specs.Items.{is_fitting}
use Rattle.def_sources.specs.PerNs.{nothing}
use Rattle.def_sources.specs.Sources.{textual_source, scope_and_builtin}
use Rattle.def_sources.proofs.SourcesLemmas.{with_source-last}
use Rattle.def_sources.proofs.sources.plain.Goals as goal

pub returns : goal.returns
returns g c =
    let q = question_in g.D.PathDatabase.oracle c.args.asking.now in
    let own = map_in g.T.BindingTable.content c.args.asking.now in
    let keep = is_fitting q.kind_of c.args.segment.sub in
    let textual = textual_source q own c.args.segment.place in
    let first = with_source-last keep [] textual c.args.segment.name nothing c.textual-textual.result c.textual-textual.ensures refl in
    let inside = c.or_inside-inside.ensures (textual ∷ []) first in
    rw (← c.is_builtin_first-is_builtin_first.ensures)
    (c.or_outside.ensures (textual ∷ scope_and_builtin c.is_builtin_first-is_builtin_first.result q own c.args.segment.place) inside)
