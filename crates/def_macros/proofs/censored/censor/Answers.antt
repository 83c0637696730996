use Rattle.std.proofs.Common.{◌∙◌, ap, subst, sym}
use Rattle.def_laws.proofs.RecordLaws.{on_ok}
use Rattle.def_macros.specs.Censored.{ListsOnce, censored_traits}
use Rattle.def_macros.proofs.censored.censor.Goals as goal

pub censor_traits-requires : goal.censor_traits-requires
censor_traits-requires c = subst (λ content. ListsOnce content c.args.root) (sym c.in_ok-censor_names.ensures) c.requires

pub returns : goal.returns
returns c = on_ok c.censor_traits.result c.censor_traits.ensures (λ traits. traits ∙ ap (censored_traits c.args.root) c.in_ok-censor_names.ensures)
