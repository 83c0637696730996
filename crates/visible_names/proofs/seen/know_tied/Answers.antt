use Rattle.visible_names.proofs.seen.know_tied.Goals as goal

pub returns : goal.returns
returns g c = g.met.T.BindingTable.tied c.args._table.now
