use Rattle.def_collector.proofs.modules.push_module.Goals as goal

pub returns-clause-child : goal.returns-clause-child
returns-clause-child c = c.push_child_module.ensures.child

pub returns-clause-added : goal.returns-clause-added
returns-clause-added c = c.push_child_module.ensures.added
