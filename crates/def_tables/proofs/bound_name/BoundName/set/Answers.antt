use Rattle.std.proofs.Common.{None, Some, ap, sym, ◌∙◌}
use Rattle.def_tables.specs.BoundName.{stands_for, with_namespace}
use Rattle.def_tables.specs.Parts.{parts_in}
use Rattle.def_tables.specs.Short.{long}
use Rattle.def_tables.proofs.BoundNameLemmas.{alone-left, written-over}
use Rattle.def_tables.proofs.PartsLemmas.{bound-some, parts-put, some-put}
use Rattle.def_tables.proofs.bound_name.BoundName.set.Goals as goal

pub returns-then-is_same-clause-done : goal.returns-then-is_same-clause-done
returns-then-is_same-clause-done g c =
    let map = c.args.map in
    let ns = c.args.ns in
    let s = c.args.self.now in
    let one = c.in-One in
    let alone = ap (λ s. with_namespace (stands_for g.K.Kept.meaning map s) ns None) one.is ∙ alone-left one.own ns (Some (long g.K.Kept.meaning map (record { kind = one.kind; source = one.source; idx = one.idx; def = one.def; vis = one.vis; import = one.import }))) (sym c.is_same.ensures ∙ c.if-is_same.true) in
    c.in_ok-self-in-One.ensures ∙ ap (λ f. with_namespace f ns (Some c.args.binding.now)) (sym alone) ∙ written-over (stands_for g.K.Kept.meaning map s) ns (Some c.args.binding.now)

pub returns-in_ok-self-in-One-2-clause-done : goal.returns-in_ok-self-in-One-2-clause-done
returns-in_ok-self-in-One-2-clause-done g c =
    c.in_ok-self-in-One-2.ensures ∙ ap (λ s. with_namespace (stands_for g.K.Kept.meaning c.args.map s) c.args.ns (Some c.args.binding.now)) (sym c.in-One.is)

pub invariant_of-deref_mut : goal.invariant_of-deref_mut
invariant_of-deref_mut g c =
    record { some = some-put c.deref_mut.result.now.parts c.put.new.self c.args.ns c.in_ok-part-in-Each.part c.put.ensures (bound-some g.K.Kept.meaning c.args.map c.in_ok-part-in-Each.part c.args.binding.now c.in_ok-part-in-Each.ensures) }

pub returns-in_ok-part-in-Each-clause-done : goal.returns-in_ok-part-in-Each-clause-done
returns-in_ok-part-in-Each-clause-done g c =
    let map = c.args.map in
    let ns = c.args.ns in
    let b = Some c.args.binding.now in
    parts-put g.K.Kept.meaning map c.deref_mut.result.now.parts c.put.new.self ns c.in_ok-part-in-Each.part c.put.ensures
    ∙ ap (with_namespace (parts_in g.K.Kept.meaning map c.deref_mut.result.now.parts) ns) c.in_ok-part-in-Each.ensures
    ∙ ap (λ e. with_namespace (parts_in g.K.Kept.meaning map e.parts) ns b) c.deref_mut.ensures.value
    ∙ ap (λ s. with_namespace (stands_for g.K.Kept.meaning map s) ns b) (sym c.in-Each.is)
