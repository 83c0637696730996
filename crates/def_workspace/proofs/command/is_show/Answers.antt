use Rattle.def_workspace.specs.Command.{is_show}
use Rattle.def_workspace.proofs.command.is_show.Goals as goal

pub returns : goal.returns
unfolding is_show
returns c = c.eq.ensures
