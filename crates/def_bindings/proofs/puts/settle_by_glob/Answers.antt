use Rattle.std.proofs.Common.{true, false, refl, sym, ◌∙◌}
use Rattle.def_ids.specs.Equality.{glob_eq}
use Rattle.def_bindings.specs.Order.{rises_to}
use Rattle.def_bindings.proofs.SettledLemmas.{def-same, settled_as}
use Rattle.def_bindings.proofs.puts.settle_by_glob.Goals as goal

pub returns-then-is_raised : goal.returns-then-is_raised
returns-then-is_raised g c =
    settled_as (g.O.VisOrder.order c.args.order.now) c.args.there c.args.offer c.args.glob c.args.later true true (glob_eq c.args.glob c.args.later)
    (sym c.if-eq.true ∙ c.eq.ensures ∙ def-same c.args.there.def c.args.offer.def) (sym c.if-is_raised.true ∙ c.is_raised.ensures) refl

pub returns-else-is_raised : goal.returns-else-is_raised
returns-else-is_raised g c =
    settled_as (g.O.VisOrder.order c.args.order.now) c.args.there c.args.offer c.args.glob c.args.later true false (glob_eq c.args.glob c.args.later)
    (sym c.if-eq.true ∙ c.eq.ensures ∙ def-same c.args.there.def c.args.offer.def) (sym c.if-is_raised.false ∙ c.is_raised.ensures) refl

pub returns-then-eq-2 : goal.returns-then-eq-2
returns-then-eq-2 g c =
    let o = g.O.VisOrder.order c.args.order.now in
    settled_as o c.args.there c.args.offer c.args.glob c.args.later false (rises_to o c.args.there.vis c.args.offer.vis) true
    (sym c.if-eq.false ∙ c.eq.ensures ∙ def-same c.args.there.def c.args.offer.def) refl (sym c.if-eq-2.true ∙ c.eq-else-eq.ensures)
