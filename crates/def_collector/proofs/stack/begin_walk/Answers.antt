use Rattle.std.proofs.Common.{subst}
use Rattle.def_items.specs.Lists.{IsBegun}
use Rattle.def_collector.proofs.stack.begin_walk.Goals as goal

pub returns-clause-begun : goal.returns-clause-begun
returns-clause-begun c = subst (λ below. IsBegun below c.args.first c.push_list.new.frames.items) c.new-frames.ensures.items c.in_ok-push_list.ensures.begun
