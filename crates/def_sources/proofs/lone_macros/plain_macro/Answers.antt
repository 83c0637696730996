use Rattle.std.proofs.Common.{◌∙◌, sym}
use Rattle.def_bindings.specs.declared.bindings.Namespace.TheVariants.{Macros}
use Rattle.def_sources.specs.Asking.{question_in, map_in}
use Rattle.def_sources.specs.Items.{is_builtin_first, is_fitting}
use Rattle.def_sources.specs.PerNs.{kept}
use Rattle.def_sources.specs.Sources.{textual_source, scope_and_builtin, outer_sources}
use Rattle.def_sources.proofs.SourcesLemmas.{found-last, found-next}
use Rattle.def_sources.proofs.lone_macros.plain_macro.Goals as goal

pub returns-then-is_some-2 : goal.returns-then-is_some-2
returns-then-is_some-2 g c =
    let q = question_in g.D.PathDatabase.oracle c.args.asking.now in
    let own = map_in g.T.BindingTable.content c.args.asking.now in
    let keep = is_fitting q.kind_of c.args.segment.sub in
    let first = is_builtin_first q.asked.shadow in
    found-next keep (scope_and_builtin first q own c.args.segment.place) (outer_sources q own c.args.segment.place) c.args.segment.name Macros
    c.textual-textual.result (kept keep (textual_source q own c.args.segment.place c.args.segment.name Macros)) c.inside-bound.result
    c.textual-textual.ensures (sym c.is_some.ensures ∙ c.if-is_some.false) (c.inside-bound.ensures first) (sym c.is_some-2.ensures ∙ c.if-is_some-2.true)

pub returns : goal.returns
returns g c =
    let q = question_in g.D.PathDatabase.oracle c.args.asking.now in
    let own = map_in g.T.BindingTable.content c.args.asking.now in
    let keep = is_fitting q.kind_of c.args.segment.sub in
    let first = is_builtin_first q.asked.shadow in
    found-last keep (scope_and_builtin first q own c.args.segment.place) (outer_sources q own c.args.segment.place) c.args.segment.name Macros
    c.textual-textual.result (kept keep (textual_source q own c.args.segment.place c.args.segment.name Macros)) c.inside-bound.result c.outside.result
    c.textual-textual.ensures (sym c.is_some.ensures ∙ c.if-is_some.false) (c.inside-bound.ensures first) (sym c.is_some-2.ensures ∙ c.if-is_some-2.false) c.outside.ensures
