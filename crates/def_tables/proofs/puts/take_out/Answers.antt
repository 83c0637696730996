use Rattle.std.specs.Prelude.{◌+◌, if◌then◌else◌, length}
use Rattle.std.proofs.Common.{◌∙◌, None, ap, arith, is_some, length-set, sym}
use Rattle.def_tables.specs.BoundName.{meaning_of, with_namespace}
use Rattle.def_tables.proofs.IndexedVecLemmas.{found-before, found-none, removed-after, removed-others, removed-some, set-at}
use Rattle.def_tables.proofs.ResultLemmas.{nothing-left}
use Rattle.def_tables.proofs.puts.take_out.Goals as goal

pub returns-in_default-clause-left : goal.returns-in_default-clause-left
returns-in_default-clause-left g c =
    let v = c.args.bound.now in
    let none = found-none g.P.PartialEq.eq g.met.P.Eq.laws v.keys.keys v.values.items v.paired c.args.key (sym c.in_default.ensures.index) in
    ap (meaning_of g.K.Kept.meaning c.args.map) none ∙ nothing-left c.args.ns ∙ ap (λ o. with_namespace (meaning_of g.K.Kept.meaning c.args.map o) c.args.ns None) (sym none)

pub returns-in_default-clause-stays : goal.returns-in_default-clause-stays
returns-in_default-clause-stays g c =
    let v = c.args.bound.now in
    let none = found-none g.P.PartialEq.eq g.met.P.Eq.laws v.keys.keys v.values.items v.paired c.args.key (sym c.in_default.ensures.index) in
    sym (ap is_some none)

pub returns-then-take-clause-left : goal.returns-then-take-clause-left
returns-then-take-clause-left g c =
    let v = c.args.bound.now in
    let here = sym c.in-Some.ensures.index in
    let within = c.in-Some.ensures.within in
    let there = found-before g.P.PartialEq.eq g.met.P.Eq.laws v.keys.keys v.values.items v.paired c.args.key c.in-Some.number here within c.index_mut.result.now c.index_mut.ensures.value in
    let after = (set-at g.P.PartialEq.eq g.met.P.Eq.laws v.keys.keys v.values.items v.paired c.args.key c.in-Some.number here c.take.new.self).1 in
    ap (meaning_of g.K.Kept.meaning c.args.map) after ∙ c.take.ensures.left c.if-take.true ∙ ap (λ o. with_namespace (meaning_of g.K.Kept.meaning c.args.map o) c.args.ns None) (sym there)

pub returns-then-take-clause-stays : goal.returns-then-take-clause-stays
returns-then-take-clause-stays g c =
    let v = c.args.bound.now in
    let here = sym c.in-Some.ensures.index in
    let within = c.in-Some.ensures.within in
    let after = (set-at g.P.PartialEq.eq g.met.P.Eq.laws v.keys.keys v.values.items v.paired c.args.key c.in-Some.number here c.take.new.self).1 in
    sym (ap is_some after)

pub returns-then-take-clause-others : goal.returns-then-take-clause-others
returns-then-take-clause-others g c =
    let v = c.args.bound.now in
    let here = sym c.in-Some.ensures.index in
    let within = c.in-Some.ensures.within in
    (set-at g.P.PartialEq.eq g.met.P.Eq.laws v.keys.keys v.values.items v.paired c.args.key c.in-Some.number here c.take.new.self).2

pub invariant_of-bound-2 : goal.invariant_of-bound-2
invariant_of-bound-2 g c =
    let v = c.args.bound.now in
    let here = sym c.in-Some.ensures.index in
    let within = c.in-Some.ensures.within in
    let some = removed-some g.P.PartialEq.eq g.met.P.Eq.laws v.keys.keys v.values.items v.paired c.args.key c.in-Some.number here within c.len.ensures.unique c.take.new.self c.swap_remove.result c.swap_remove_index.new.self.keys c.swap_remove.new.self.items c.swap_remove_index.result c.swap_remove_index.ensures.key c.swap_remove_index.ensures.keys c.swap_remove.ensures.items in
    let counted = ap (λ b. length c.swap_remove_index.new.self.keys + (if b then 1 else 0)) (sym some) ∙ c.swap_remove_index.ensures.len in
    record { paired = omega (arith, v.paired, counted, c.swap_remove.ensures.len, length-set v.values.items c.in-Some.number c.take.new.self) }

pub returns-clause-left : goal.returns-clause-left
returns-clause-left g c =
    let v = c.args.bound.now in
    let here = sym c.in-Some.ensures.index in
    let within = c.in-Some.ensures.within in
    let there = found-before g.P.PartialEq.eq g.met.P.Eq.laws v.keys.keys v.values.items v.paired c.args.key c.in-Some.number here within c.index_mut.result.now c.index_mut.ensures.value in
    let gone = removed-after g.P.PartialEq.eq g.met.P.Eq.laws v.keys.keys v.values.items v.paired c.args.key c.in-Some.number here within c.len.ensures.unique c.take.new.self c.swap_remove.result c.swap_remove_index.new.self.keys c.swap_remove.new.self.items c.swap_remove_index.result c.swap_remove_index.ensures.key c.swap_remove_index.ensures.keys c.swap_remove.ensures.items in
    ap (meaning_of g.K.Kept.meaning c.args.map) gone ∙ sym (c.take.ensures.none c.if-take.false) ∙ ap (λ o. with_namespace (meaning_of g.K.Kept.meaning c.args.map o) c.args.ns None) (sym there)

pub returns-clause-stays : goal.returns-clause-stays
returns-clause-stays g c =
    let v = c.args.bound.now in
    let here = sym c.in-Some.ensures.index in
    let within = c.in-Some.ensures.within in
    sym (ap is_some (removed-after g.P.PartialEq.eq g.met.P.Eq.laws v.keys.keys v.values.items v.paired c.args.key c.in-Some.number here within c.len.ensures.unique c.take.new.self c.swap_remove.result c.swap_remove_index.new.self.keys c.swap_remove.new.self.items c.swap_remove_index.result c.swap_remove_index.ensures.key c.swap_remove_index.ensures.keys c.swap_remove.ensures.items))

pub returns-clause-others : goal.returns-clause-others
returns-clause-others g c =
    let v = c.args.bound.now in
    let here = sym c.in-Some.ensures.index in
    let within = c.in-Some.ensures.within in
    removed-others g.P.PartialEq.eq g.met.P.Eq.laws v.keys.keys v.values.items v.paired c.args.key c.in-Some.number here within c.len.ensures.unique c.take.new.self c.swap_remove.result c.swap_remove_index.new.self.keys c.swap_remove.new.self.items c.swap_remove_index.result c.swap_remove_index.ensures.key c.swap_remove_index.ensures.keys c.swap_remove.ensures.items
