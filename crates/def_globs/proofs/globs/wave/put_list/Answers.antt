use Rattle.std.proofs.Common.{ap, ◌∙◌, Vec}
use Rattle.std.specs.Prelude.{option_to_list}
use Rattle.def_globs.specs.Pending.{PutsFirst}
use Rattle.def_globs.proofs.TurnsLemmas.{on_err_from, stays_entry, put_begins, put_ends, put_noted, put_first, put_unnoted}
use Rattle.def_globs.proofs.globs.wave.put_list.Goals as goal
use Rattle.def_globs.proofs.globs.wave.put_list.Goals.{then-has_edge+in_ok-note, else-has_edge}

pub returns-in_err-note-clause-stays : goal.returns-in_err-note-clause-stays
returns-in_err-note-clause-stays g c =
    let content = g.T.BindingTable.content in
    stays_entry (g.O.VisOrder.order c.args.order.now) c.args.module (content c.args.table.now) c.entry-item.result (content c.loop-entry.table) (content c.put_entry.new.table)
    c.loop-entry.invariant.stays c.in_ok-slot.ensures.done.1

pub returns-in_err-add-clause-stays : goal.returns-in_err-add-clause-stays
returns-in_err-add-clause-stays g c =
    let content = g.T.BindingTable.content in
    stays_entry (g.O.VisOrder.order c.args.order.now) c.args.module (content c.args.table.now) c.entry-item.result (content c.loop-entry.table) (content c.put_entry.new.table)
    c.loop-entry.invariant.stays c.in_ok-slot.ensures.done.1

pub loop-entry-preserved : goal.loop-entry-preserved
loop-entry-preserved g c =
    let content = g.T.BindingTable.content in
    let o = g.O.VisOrder.order c.args.order.now in
    let first = content c.args.table.now in
    let items = λ (v : Vec _ _). v.items in
    elim c.if-has_edge.branch [
      | then-has_edge+in_ok-note w ↦
          put_noted o c.args.module c.args.list.now c.has_edges-has_edge.result first c.loop-entry.entry-index c.entry-item.result (option_to_list c.in_ok-slot.slot) c.loop-entry.changed.items c.if-has_edge.changed.items
          (content c.loop-entry.table) (content c.put_entry.new.table) c.loop-entry-test.true c.entry-item.is c.in_ok-slot.ensures.done c.loop-entry.invariant
          w.note.new.changed.items w.if-has_edge.true (ap items w.changed-is) w.in_ok-note.ensures.done
      | else-has_edge w ↦
          put_unnoted o c.args.module c.args.list.now c.has_edges-has_edge.result first c.loop-entry.entry-index c.entry-item.result (option_to_list c.in_ok-slot.slot) c.loop-entry.changed.items c.if-has_edge.changed.items
          (content c.loop-entry.table) (content c.put_entry.new.table) c.loop-entry-test.true c.entry-item.is c.in_ok-slot.ensures.done c.loop-entry.invariant
          w.if-has_edge.false (ap items w.changed-is)
    ]

pub loop-entry-init : goal.loop-entry-init
loop-entry-init g c =
    put_begins (g.O.VisOrder.order c.args.order.now) c.args.module c.args.list.now c.has_edges-has_edge.result (g.T.BindingTable.content c.args.table.now) c.new-changed.result.items
    c.new-changed.ensures.items c.has_edges-has_edge.ensures

pub returns-clause-done : goal.returns-clause-done
returns-clause-done g c =
    let content = g.T.BindingTable.content in
    put_ends (g.O.VisOrder.order c.args.order.now) c.args.module c.args.list.now c.has_edges-has_edge.result (content c.args.table.now) c.loop-entry.entry-index c.loop-entry.changed.items
    (content c.loop-entry.table) c.loop-entry-test.false c.loop-entry.invariant

pub returns-clause-stays : goal.returns-clause-stays
returns-clause-stays g c = c.loop-entry.invariant.stays

pub returns-in_err-slot-clause-refused : goal.returns-in_err-slot-clause-refused
returns-in_err-slot-clause-refused g c =
    let content = g.T.BindingTable.content in
    let first : PutsFirst (g.O.VisOrder.order c.args.order.now) c.args.module c.args.list.now (content c.args.table.now) (content c.put_entry.new.table) =
    (c.loop-entry.entry-index, c.in_err-slot.ensures.refused ∙ c.loop-entry.invariant.begun) in
    on_err_from _ first

pub returns-in_err-add-clause-refused : goal.returns-in_err-add-clause-refused
returns-in_err-add-clause-refused g c =
    let content = g.T.BindingTable.content in
    on_err_from _ (put_first (g.O.VisOrder.order c.args.order.now) c.args.module c.args.list.now (content c.args.table.now) c.loop-entry.entry-index c.entry-item.result (content c.loop-entry.table) (content c.put_entry.new.table)
    c.loop-entry-test.true c.entry-item.is c.in_ok-slot.ensures.done.1 c.loop-entry.invariant.begun)

pub returns-in_err-note-clause-refused : goal.returns-in_err-note-clause-refused
returns-in_err-note-clause-refused g c =
    let content = g.T.BindingTable.content in
    on_err_from _ (put_first (g.O.VisOrder.order c.args.order.now) c.args.module c.args.list.now (content c.args.table.now) c.loop-entry.entry-index c.entry-item.result (content c.loop-entry.table) (content c.put_entry.new.table)
    c.loop-entry-test.true c.entry-item.is c.in_ok-slot.ensures.done.1 c.loop-entry.invariant.begun)
