use Rattle.std.proofs.Common.{◌∙◌, ap}
use Rattle.def_bindings.specs.declared.bindings.Namespace.TheVariants.{Macros, Values}
use Rattle.def_sources.specs.Tables.{bound_by}
use Rattle.def_laws.proofs.RecordLaws.{on_ok}
use Rattle.def_macros.specs.Censored.{censored_place}
use Rattle.def_macros.proofs.CensoredLemmas.{name_whole}
use Rattle.def_macros.proofs.censored.censor_name.Goals as goal

pub returns : goal.returns
returns c =
    on_ok c.censor_place-3.result c.censor_place-3.ensures (λ third.
    third
    ∙ ap (censored_place c.args.at c.args.name Macros) (c.in_ok-censor_place-2.ensures ∙ ap (censored_place c.args.at c.args.name Values) c.in_ok-censor_place.ensures)
    ∙ name_whole c.args.at c.args.name (bound_by c.args.table.now))
