use Rattle.std.proofs.Common.{sym, ◌∙◌}
use Rattle.indexmap.specs.IndexMap.{get}
use Rattle.def_ids.specs.Equality.{glob_eq}
use Rattle.def_steps.proofs.TargetsLemmas.{target_known, target_new}
use Rattle.def_steps.proofs.targets.add_target.Goals as goal

pub returns-then-is_recorded : goal.returns-then-is_recorded
returns-then-is_recorded c = target_known c.args.glob c.args.def (get glob_eq c.args.targets.now) (sym c.is_recorded.ensures ∙ c.if-is_recorded.true)

pub returns : goal.returns
returns c =
    target_new c.args.glob c.args.def (get glob_eq c.args.targets.now) (get glob_eq c.push_target.new.targets) (sym c.is_recorded.ensures ∙ c.if-is_recorded.false) c.in_ok-push_target.ensures
