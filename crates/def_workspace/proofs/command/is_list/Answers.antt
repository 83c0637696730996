use Rattle.def_workspace.specs.Command.{is_list}
use Rattle.def_workspace.proofs.command.is_list.Goals as goal

pub returns : goal.returns
unfolding is_list
returns c = c.eq.ensures
