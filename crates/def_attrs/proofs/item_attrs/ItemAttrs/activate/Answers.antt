use Rattle.def_attrs.proofs.AttrsLemmas.{active-added}
use Rattle.def_attrs.proofs.item_attrs.ItemAttrs.activate.Goals as goal

pub returns-clause-active : goal.returns-clause-active
returns-clause-active c = active-added c.args.self.now.active c.push_active.new.active c.args.position c.args.id c.in_ok-push_active.ensures
