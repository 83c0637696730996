use Rattle.def_globs.proofs.UpdateLemmas.{update_begun, update_whole, update_copies, update_closed, update_coherent, update_edges, update_recorded, update_globs, update_raised, update_raises}
use Rattle.def_globs.proofs.StaysLemmas.{stays_then}
use Rattle.def_globs.proofs.TurnsLemmas.{on_err_from}
use Rattle.def_globs.proofs.globs.Globs.update.Goals as goal

pub returns-clause-updates : goal.returns-clause-updates
returns-clause-updates g c =
    rw (← c.self.view_is) (update_copies (g.O.VisOrder.order c.args.order.now) c.args.module c.args.list.now (g.T.BindingTable.content c.self.inside.table)
    (g.T.BindingTable.content c.put_list.new.table) (g.T.BindingTable.content c.spread.new.table) c.in_ok-changed.changed.items c.in_ok-changed.ensures.done c.spread.ensures.copies)

pub returns-clause-closed : goal.returns-clause-closed
returns-clause-closed g c =
    rw (← c.self.view_is) (update_closed (g.O.VisOrder.order c.args.order.now) c.args.module c.args.list.now (g.T.BindingTable.content c.self.inside.table)
    (g.T.BindingTable.content c.put_list.new.table) (g.T.BindingTable.content c.spread.new.table) c.in_ok-changed.changed.items c.in_ok-changed.ensures.done c.in_ok-spread.ensures.closed)

pub returns-clause-coherent : goal.returns-clause-coherent
returns-clause-coherent g c =
    rw (← c.self.view_is) (update_coherent (g.O.VisOrder.order c.args.order.now) c.args.module c.args.list.now (g.T.BindingTable.content c.self.inside.table)
    (g.T.BindingTable.content c.put_list.new.table) (g.T.BindingTable.content c.spread.new.table) c.in_ok-changed.changed.items c.in_ok-changed.ensures.done c.in_ok-spread.ensures.coherent)

pub returns-clause-closes : goal.returns-clause-closes
returns-clause-closes g c =
    rw (← c.self.view_is) (update_recorded (g.O.VisOrder.order c.args.order.now) c.args.module c.args.list.now (g.T.BindingTable.content c.self.inside.table)
    (g.T.BindingTable.content c.put_list.new.table) (g.T.BindingTable.content c.spread.new.table) c.in_ok-changed.changed.items c.in_ok-changed.ensures.done c.spread.ensures.copies)

pub returns-clause-globs : goal.returns-clause-globs
returns-clause-globs g c =
    rw (← c.self.view_is) (update_globs (g.O.VisOrder.order c.args.order.now) c.args.module c.args.list.now (g.T.BindingTable.content c.self.inside.table)
    (g.T.BindingTable.content c.put_list.new.table) (g.T.BindingTable.content c.spread.new.table) c.in_ok-changed.changed.items c.in_ok-changed.ensures.done c.spread.ensures.copies)

pub returns-clause-edges : goal.returns-clause-edges
returns-clause-edges g c =
    rw (← c.self.view_is) (update_edges (g.O.VisOrder.order c.args.order.now) c.args.module c.args.list.now (g.T.BindingTable.content c.self.inside.table)
    (g.T.BindingTable.content c.put_list.new.table) (g.T.BindingTable.content c.spread.new.table) c.in_ok-changed.changed.items c.in_ok-changed.ensures.done c.spread.ensures.copies)

pub returns-clause-raised : goal.returns-clause-raised
returns-clause-raised g c =
    rw (← c.self.view_is) (update_raised (g.O.VisOrder.order c.args.order.now) c.args.module c.args.list.now (g.T.BindingTable.content c.self.inside.table)
    (g.T.BindingTable.content c.put_list.new.table) (g.T.BindingTable.content c.spread.new.table) c.in_ok-changed.changed.items c.in_ok-changed.ensures.done
    (g.met.O.VisOrder.lawful c.args.order.now).is_order c.spread.ensures.copies c.in_ok-spread.ensures.raised)

pub returns-clause-raises : goal.returns-clause-raises
returns-clause-raises g c =
    rw (← c.self.view_is) (update_raises (g.O.VisOrder.order c.args.order.now) c.args.module c.args.list.now (g.T.BindingTable.content c.self.inside.table)
    (g.T.BindingTable.content c.put_list.new.table) (g.T.BindingTable.content c.spread.new.table) c.in_ok-changed.changed.items c.in_ok-changed.ensures.done
    (g.met.O.VisOrder.lawful c.args.order.now).is_order c.spread.ensures.copies)

pub returns-clause-stays : goal.returns-clause-stays
returns-clause-stays g c =
    rw (← c.self.view_is) (stays_then (g.T.BindingTable.content c.self.inside.table) (g.T.BindingTable.content c.put_list.new.table) (g.T.BindingTable.content c.spread.new.table)
    c.put_list.ensures.stays c.spread.ensures.stays)

pub returns-in_err-spread-clause-stays : goal.returns-in_err-spread-clause-stays
returns-in_err-spread-clause-stays g c =
    rw (← c.self.view_is) (stays_then (g.T.BindingTable.content c.self.inside.table) (g.T.BindingTable.content c.put_list.new.table) (g.T.BindingTable.content c.spread.new.table)
    c.put_list.ensures.stays c.spread.ensures.stays)

pub returns-in_err-changed-clause-refused : goal.returns-in_err-changed-clause-refused
returns-in_err-changed-clause-refused g c =
    rw (← c.self.view_is) (on_err_from _ (update_begun (g.O.VisOrder.order c.args.order.now) c.args.module c.args.list.now (g.T.BindingTable.content c.self.inside.table)
    (g.T.BindingTable.content c.put_list.new.table) c.in_err-changed.ensures.refused))

pub returns-in_err-spread-clause-refused : goal.returns-in_err-spread-clause-refused
returns-in_err-spread-clause-refused g c =
    rw (← c.self.view_is) (on_err_from _ (update_whole (g.O.VisOrder.order c.args.order.now) c.args.module c.args.list.now (g.T.BindingTable.content c.self.inside.table)
    (g.T.BindingTable.content c.spread.new.table)
    (update_copies (g.O.VisOrder.order c.args.order.now) c.args.module c.args.list.now (g.T.BindingTable.content c.self.inside.table)
    (g.T.BindingTable.content c.put_list.new.table) (g.T.BindingTable.content c.spread.new.table) c.in_ok-changed.changed.items c.in_ok-changed.ensures.done c.spread.ensures.copies)))
