use Rattle.std.proofs.Common.{refl, ◌∙◌}
use Rattle.std.specs.Prelude.{option_to_list}
use Rattle.def_globs.specs.Pending.{CopiesFirst}
use Rattle.def_globs.proofs.TurnsLemmas.{on_err_from, stays_reached, copied_begins, copied_ends, copied_noted, copied_first}
use Rattle.def_globs.proofs.globs.wave.copy_all.Goals as goal

pub returns-in_err-note-clause-stays : goal.returns-in_err-note-clause-stays
returns-in_err-note-clause-stays g c =
    let content = g.T.BindingTable.content in
    stays_reached (g.O.VisOrder.order c.args.order.now) c.args.source c.args.edge (content c.args.table.now) _ (content c.loop-slot.table) (content c.copy_slot.new.table)
    c.loop-slot.invariant.stays c.in_ok-copied.ensures.done.1

pub returns-in_err-add-clause-stays : goal.returns-in_err-add-clause-stays
returns-in_err-add-clause-stays g c =
    let content = g.T.BindingTable.content in
    stays_reached (g.O.VisOrder.order c.args.order.now) c.args.source c.args.edge (content c.args.table.now) _ (content c.loop-slot.table) (content c.copy_slot.new.table)
    c.loop-slot.invariant.stays c.in_ok-copied.ensures.done.1

pub loop-slot-preserved : goal.loop-slot-preserved
loop-slot-preserved g c =
    let content = g.T.BindingTable.content in
    copied_noted (g.O.VisOrder.order c.args.order.now) c.args.source c.args.edge c.args.slots.now (content c.args.table.now) c.loop-slot.slot-index _ _ (option_to_list c.in_ok-copied.copied)
    c.loop-slot.changed.items c.note.new.changed.items (content c.loop-slot.table) (content c.copy_slot.new.table) c.loop-slot-test.true refl c.in_ok-copied.ensures.done c.in_ok-note.ensures.done c.loop-slot.invariant

pub loop-slot-init : goal.loop-slot-init
loop-slot-init g c =
    copied_begins (g.O.VisOrder.order c.args.order.now) c.args.source c.args.edge c.args.slots.now (g.T.BindingTable.content c.args.table.now) c.new-changed.result.items c.new-changed.ensures.items

pub returns-clause-done : goal.returns-clause-done
returns-clause-done g c =
    let content = g.T.BindingTable.content in
    copied_ends (g.O.VisOrder.order c.args.order.now) c.args.source c.args.edge c.args.slots.now (content c.args.table.now) c.loop-slot.slot-index c.loop-slot.changed.items
    (content c.loop-slot.table) c.loop-slot-test.false c.loop-slot.invariant

pub returns-clause-stays : goal.returns-clause-stays
returns-clause-stays g c = c.loop-slot.invariant.stays

pub returns-in_err-copied-clause-refused : goal.returns-in_err-copied-clause-refused
returns-in_err-copied-clause-refused g c =
    let content = g.T.BindingTable.content in
    let first : CopiesFirst (g.O.VisOrder.order c.args.order.now) c.args.source c.args.edge c.args.slots.now (content c.args.table.now) (content c.copy_slot.new.table) =
    (c.loop-slot.slot-index, c.in_err-copied.ensures.refused ∙ c.loop-slot.invariant.begun) in
    on_err_from _ first

pub returns-in_err-add-clause-refused : goal.returns-in_err-add-clause-refused
returns-in_err-add-clause-refused g c =
    let content = g.T.BindingTable.content in
    on_err_from _ (copied_first (g.O.VisOrder.order c.args.order.now) c.args.source c.args.edge c.args.slots.now (content c.args.table.now) c.loop-slot.slot-index _ _ (content c.loop-slot.table) (content c.copy_slot.new.table)
    c.loop-slot-test.true refl c.in_ok-copied.ensures.done.1 c.loop-slot.invariant.begun)

pub returns-in_err-note-clause-refused : goal.returns-in_err-note-clause-refused
returns-in_err-note-clause-refused g c =
    let content = g.T.BindingTable.content in
    on_err_from _ (copied_first (g.O.VisOrder.order c.args.order.now) c.args.source c.args.edge c.args.slots.now (content c.args.table.now) c.loop-slot.slot-index _ _ (content c.loop-slot.table) (content c.copy_slot.new.table)
    c.loop-slot-test.true refl c.in_ok-copied.ensures.done.1 c.loop-slot.invariant.begun)
