use Rattle.std.proofs.Common.{ap, map, ◌∙◌}
use Rattle.def_rules.specs.Report.{shown_targets}
use Rattle.def_steps.proofs.GatherLemmas.{taken_more}
use Rattle.def_steps.proofs.targets.targets_of.Goals as goal

pub targets-init : goal.targets-init
targets-init c = ap (map shown_targets) (c.reserve.ensures.items ∙ c.new-list.ensures.items)

pub targets-preserved : goal.targets-preserved
targets-preserved c =
    let copied = c.in_ok-copy.ensures.items_if_clones_equal (λ x y is. is) ∙ c.as_slice.ensures in
    taken_more shown_targets c.targets.list.items c.push.new.self.items c.args.targets.now.entries c.targets.number _ (c.in-Some.glob.now, c.in-Some.defs.now) c.targets.invariant c.in-Some.ensures.entry
    (λ i. (c.in-Some.glob.now, copied i)) c.in_ok-push.ensures.items
