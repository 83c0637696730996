use Rattle.std.proofs.Common.{◌≡◌, refl, sym, ◌∙◌, arith, List, [], length, ◌<◌, ◌^◌}
use Rattle.std.proofs.lemmas.Option.{slice_get_within}
use Rattle.std.specs.Prelude.{vec_len}
use Rattle.std.proofs.lemmas.Bool.{eqb-true, eq-eqb, false≢true}
use Rattle.def_bindings.specs.declared.bindings.EdgeTo.{EdgeTo}
use Rattle.def_globs.proofs.WavingLemmas.{wave_start, wave_closed, wave_coherent, wave_raised, wave_without, wave_still}
use Rattle.def_globs.proofs.IterationLemmas.{copies_whole, iterate_on, iterate_reached, measure_on, measure_reached, some_slot, wave_copies}
use Rattle.def_globs.proofs.MeasureLemmas.{measure_ends}
use Rattle.def_globs.specs.Waves.{none}
use Rattle.def_globs.proofs.StaysLemmas.{stays_then, stays_copies}
use Rattle.def_globs.proofs.globs.wave.spread.Goals as goal

pub frames-init : goal.frames-init
frames-init g c = rw (c.in_ok-push.ensures.items, c.new-frames.ensures.items) (wave_start _ _ _ _ _ _ refl refl refl)

pub overflow_add-next : goal.overflow_add-next
overflow_add-next g c =
    let edges : List (EdgeTo g.row.T-Vis.Denot) = (g.T.BindingTable.content c.frames.table).edges c.in-Some.frame.source in
    let h : c.in-Some.frame.next < length edges = slice_get_within edges c.in-Some.frame.next c.in-Some-edge_at.edge (sym c.in-Some-edge_at.ensures.edge) in
    let few : length edges < 2 ^ 64 = c.in-Some-edge_at.ensures.few in omega arith

pub frames-preserved : goal.frames-preserved
frames-preserved g c =
    let before = rw c.in-Some.ensures.items at c.frames.invariant in
    wave_without (g.T.BindingTable.content c.frames.table) c.pop.new.self.items c.in-Some.frame (sym c.in_default-edge_at.ensures.edge) _ _ _ _ _ before

pub frames-smaller : goal.frames-smaller
frames-smaller g c =
    let less = measure_ends (g.O.VisOrder.order c.args.order.now) (g.O.VisOrder.height c.args.order.now) c.args.module c.args.slots.items (g.T.BindingTable.sources c.args.table.now)
    (g.T.BindingTable.content c.args.table.now) (g.T.BindingTable.content c.frames.table) c.pop.new.self.items c.in-Some.frame in
    rw c.in-Some.ensures.items less

pub frames-preserved-else-not-is_empty : goal.frames-preserved-else-not-is_empty
frames-preserved-else-not-is_empty g c =
    let none : length c.in_ok-changed.changed.items ≡ 0 = sym c.in_ok-changed.changed.ok.0 ∙ eqb-true _ _ (sym c.if-not-is_empty.ensures) in
    iterate_on (g.O.VisOrder.order c.args.order.now) (g.O.VisOrder.height c.args.order.now) (g.met.O.VisOrder.lawful c.args.order.now) c.args.module c.args.slots.items (g.T.BindingTable.sources c.args.table.now)
    (g.T.BindingTable.content c.args.table.now) (g.T.BindingTable.content c.frames.table) (g.T.BindingTable.content c.copy_all.new.table)
    c.pop.new.self.items c.frames.frames.items c.push-in-Some-edge_at.new.self.items c.in-Some.frame _ c.in-Some-edge_at.edge c.as_slice.result.now c.in_ok-changed.changed.items
    c.in-Some-edge_at.ensures.edge c.as_slice.ensures.value c.in_ok-changed.ensures.done c.in-Some.ensures.items c.in_ok-push-2.ensures.items refl refl refl
    (g.met.T.BindingTable.finite c.args.table.now) c.frames.invariant none

pub frames-preserved-in-Continue-branch-4 : goal.frames-preserved-in-Continue-branch-4
frames-preserved-in-Continue-branch-4 g c =
    iterate_reached (g.O.VisOrder.order c.args.order.now) (g.O.VisOrder.height c.args.order.now) (g.met.O.VisOrder.lawful c.args.order.now) c.args.module c.args.slots.items (g.T.BindingTable.sources c.args.table.now)
    (g.T.BindingTable.content c.args.table.now) (g.T.BindingTable.content c.frames.table) (g.T.BindingTable.content c.copy_all.new.table)
    c.pop.new.self.items c.frames.frames.items c.push-in-Some-edge_at.new.self.items c.in-Some.frame _ c.in-Some-edge_at.edge c.as_slice.result.now c.in_ok-changed.changed.items
    c.in-Some-edge_at.ensures.edge c.as_slice.ensures.value c.in_ok-changed.ensures.done c.in-Some.ensures.items c.in_ok-push-2.ensures.items refl refl refl
    (g.met.T.BindingTable.finite c.args.table.now) c.frames.invariant _ c.push-then-not-is_empty.new.self.items c.in_ok-push-3.ensures.items refl refl refl

pub frames-smaller-else-not-is_empty : goal.frames-smaller-else-not-is_empty
frames-smaller-else-not-is_empty g c =
    measure_on (g.O.VisOrder.order c.args.order.now) (g.O.VisOrder.height c.args.order.now) (g.met.O.VisOrder.lawful c.args.order.now) c.args.module c.args.slots.items (g.T.BindingTable.sources c.args.table.now)
    (g.T.BindingTable.content c.args.table.now) (g.T.BindingTable.content c.frames.table) (g.T.BindingTable.content c.copy_all.new.table)
    c.pop.new.self.items c.frames.frames.items c.push-in-Some-edge_at.new.self.items c.in-Some.frame _ c.in-Some-edge_at.edge c.as_slice.result.now c.in_ok-changed.changed.items
    c.in-Some-edge_at.ensures.edge c.as_slice.ensures.value c.in_ok-changed.ensures.done c.in-Some.ensures.items c.in_ok-push-2.ensures.items refl refl refl
    (g.met.T.BindingTable.finite c.args.table.now) c.frames.invariant

pub frames-smaller-in-Continue-branch-4 : goal.frames-smaller-in-Continue-branch-4
frames-smaller-in-Continue-branch-4 g c =
    let some = some_slot c.in_ok-changed.changed.items (λ none. false≢true (c.if-not-is_empty.ensures ∙ eq-eqb (vec_len c.in_ok-changed.changed) 0 (c.in_ok-changed.changed.ok.0 ∙ none))) in
    measure_reached (g.O.VisOrder.order c.args.order.now) (g.O.VisOrder.height c.args.order.now) (g.met.O.VisOrder.lawful c.args.order.now) c.args.module c.args.slots.items (g.T.BindingTable.sources c.args.table.now)
    (g.T.BindingTable.content c.args.table.now) (g.T.BindingTable.content c.frames.table) (g.T.BindingTable.content c.copy_all.new.table)
    c.pop.new.self.items c.frames.frames.items c.push-in-Some-edge_at.new.self.items c.in-Some.frame _ c.in-Some-edge_at.edge c.as_slice.result.now c.in_ok-changed.changed.items
    c.in-Some-edge_at.ensures.edge c.as_slice.ensures.value c.in_ok-changed.ensures.done c.in-Some.ensures.items c.in_ok-push-2.ensures.items refl refl refl
    (g.met.T.BindingTable.finite c.args.table.now) c.frames.invariant
    _ c.push-then-not-is_empty.new.self.items some.0 c.in_ok-push-3.ensures.items refl refl some.1

pub returns-clause-closed : goal.returns-clause-closed
returns-clause-closed g c = wave_closed _ _ _ _ _ _ c.frames.frames.items (sym c.frames.frames.ok.0 ∙ c.in_default.ensures.cases.0) c.frames.invariant

pub returns-clause-coherent : goal.returns-clause-coherent
returns-clause-coherent g c = wave_coherent _ _ _ _ _ _ c.frames.frames.items (sym c.frames.frames.ok.0 ∙ c.in_default.ensures.cases.0) c.frames.invariant

pub returns-clause-raised : goal.returns-clause-raised
returns-clause-raised g c = wave_raised _ _ _ _ _ _ c.frames.frames.items (sym c.frames.frames.ok.0 ∙ c.in_default.ensures.cases.0) c.frames.invariant

pub returns-then-is_empty-clause-copies : goal.returns-then-is_empty-clause-copies
returns-then-is_empty-clause-copies g c = none

pub returns-then-is_empty-clause-closed : goal.returns-then-is_empty-clause-closed
returns-then-is_empty-clause-closed g c =
    wave_closed _ _ _ _ _ _ [] refl (wave_still (g.O.VisOrder.order c.args.order.now) c.args.module c.args.slots.items (g.T.BindingTable.content c.args.table.now) (sym c.args.slots.ok.0 ∙ eqb-true _ _ (sym c.if-is_empty.ensures)))

pub returns-then-is_empty-clause-coherent : goal.returns-then-is_empty-clause-coherent
returns-then-is_empty-clause-coherent g c =
    wave_coherent _ _ _ _ _ _ [] refl (wave_still (g.O.VisOrder.order c.args.order.now) c.args.module c.args.slots.items (g.T.BindingTable.content c.args.table.now) (sym c.args.slots.ok.0 ∙ eqb-true _ _ (sym c.if-is_empty.ensures)))

pub returns-then-is_empty-clause-raised : goal.returns-then-is_empty-clause-raised
returns-then-is_empty-clause-raised g c =
    wave_raised _ _ _ _ _ _ [] refl (wave_still (g.O.VisOrder.order c.args.order.now) c.args.module c.args.slots.items (g.T.BindingTable.content c.args.table.now) (sym c.args.slots.ok.0 ∙ eqb-true _ _ (sym c.if-is_empty.ensures)))

pub returns-in_err-changed-clause-stays : goal.returns-in_err-changed-clause-stays
returns-in_err-changed-clause-stays g c = stays_then _ _ _ (stays_copies _ _ _ c.frames.invariant.copies) c.copy_all.ensures.stays

pub returns-in_err-push-3-clause-stays : goal.returns-in_err-push-3-clause-stays
returns-in_err-push-3-clause-stays g c = stays_then _ _ _ (stays_copies _ _ _ c.frames.invariant.copies) c.copy_all.ensures.stays

pub returns-clause-stays : goal.returns-clause-stays
returns-clause-stays g c = stays_copies _ _ _ c.frames.invariant.copies

pub returns-in_err-push-clause-copies : goal.returns-in_err-push-clause-copies
returns-in_err-push-clause-copies g c = none

pub returns-in_err-changed-clause-copies : goal.returns-in_err-changed-clause-copies
returns-in_err-changed-clause-copies g c =
    let content = g.T.BindingTable.content in
    wave_copies (g.O.VisOrder.order c.args.order.now) c.args.module c.args.slots.items _ (content c.args.table.now) (content c.frames.table) (content c.copy_all.new.table)
    c.pop.new.self.items c.frames.frames.items c.in-Some.frame c.in-Some-edge_at.edge c.as_slice.result.now
    c.in-Some-edge_at.ensures.edge c.as_slice.ensures.value c.in-Some.ensures.items c.in_err-changed.ensures.refused c.frames.invariant

pub returns-in_err-push-2-clause-copies : goal.returns-in_err-push-2-clause-copies
returns-in_err-push-2-clause-copies g c =
    let content = g.T.BindingTable.content in
    wave_copies (g.O.VisOrder.order c.args.order.now) c.args.module c.args.slots.items _ (content c.args.table.now) (content c.frames.table) (content c.copy_all.new.table)
    c.pop.new.self.items c.frames.frames.items c.in-Some.frame c.in-Some-edge_at.edge c.as_slice.result.now
    c.in-Some-edge_at.ensures.edge c.as_slice.ensures.value c.in-Some.ensures.items (copies_whole (g.O.VisOrder.order c.args.order.now) c.in-Some.frame.source c.in-Some-edge_at.edge c.as_slice.result.now (content c.frames.table) (content c.copy_all.new.table)
    c.in_ok-changed.ensures.done.1) c.frames.invariant

pub returns-in_err-push-3-clause-copies : goal.returns-in_err-push-3-clause-copies
returns-in_err-push-3-clause-copies g c =
    let content = g.T.BindingTable.content in
    wave_copies (g.O.VisOrder.order c.args.order.now) c.args.module c.args.slots.items _ (content c.args.table.now) (content c.frames.table) (content c.copy_all.new.table)
    c.pop.new.self.items c.frames.frames.items c.in-Some.frame c.in-Some-edge_at.edge c.as_slice.result.now
    c.in-Some-edge_at.ensures.edge c.as_slice.ensures.value c.in-Some.ensures.items (copies_whole (g.O.VisOrder.order c.args.order.now) c.in-Some.frame.source c.in-Some-edge_at.edge c.as_slice.result.now (content c.frames.table) (content c.copy_all.new.table)
    c.in_ok-changed.ensures.done.1) c.frames.invariant

pub returns-clause-copies : goal.returns-clause-copies
returns-clause-copies g c = c.frames.invariant.copies
