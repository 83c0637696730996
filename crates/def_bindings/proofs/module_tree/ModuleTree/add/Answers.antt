use Rattle.def_bindings.specs.ParentLaws.{push-lower-either}
use Rattle.def_bindings.proofs.module_tree.ModuleTree.add.Goals as goal

pub invariant_of-self-clause-lower : goal.invariant_of-self-clause-lower
invariant_of-self-clause-lower c = push-lower-either c.push.result c.args.self.now.parents c.push.new.self c.args.parent c.push.ensures.ok c.push.ensures.err c.args.self.now.lower c.requires
