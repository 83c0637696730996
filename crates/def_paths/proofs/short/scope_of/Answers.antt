use Rattle.std.proofs.Common.{None, false}
use Rattle.std.proofs.lemmas.Option.{IfSome_then}
use Rattle.def_paths.specs.Answers.{reached}
use Rattle.def_sources.specs.Asking.{question_in, map_in}
use Rattle.def_sources.specs.PerNs.{per_namespace}
use Rattle.def_sources.specs.Sources.{scope_source}
use Rattle.def_paths.proofs.AnswersLemmas.{plain-in}
use Rattle.def_paths.proofs.short.scope_of.Goals as goal

pub returns-in-Plain : goal.returns-in-Plain
returns-in-Plain g c =
    let q = question_in g.D.PathDatabase.oracle c.args.asking.now in
    let own = map_in g.T.BindingTable.content c.args.asking.now in
    IfSome_then c.plain_scope.result c.plain_scope.ensures (λ there is.
    plain-in q own c.args.place c.args.path.now c.as_slice-segments.result.now (reached (per_namespace (scope_source q own there.0 there.1)) None false) c.in-Plain.is c.as_slice-segments.ensures is)
