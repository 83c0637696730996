use Rattle.std.proofs.Common.{◌∙◌, ◌||◌, Some, ap, arith, cond, is_some, refl, sym}
use Rattle.std.specs.Prelude.{is_none, ◌++◌, ◌∷◌, []}
use Rattle.std.specs.List.{zip}
use Rattle.def_bindings.specs.Content.{listed_as}
use Rattle.def_bindings.specs.Puts.{if_vacant}
use Rattle.def_tables.specs.BoundName.{meaning_of, with_namespace, written_in}
use Rattle.def_tables.specs.IndexedVec.{get}
use Rattle.def_tables.specs.Lists.{lists_of}
use Rattle.def_tables.proofs.IndexedVecLemmas.{absent-from, known-after, known-before, known-others, new-after, new-before, new-others, taken-back, there-from}
use Rattle.def_tables.proofs.ResultLemmas.{IfOk_then, OnErr_then, OnOk_from, or-true}
use Rattle.def_tables.proofs.puts.put_at.Goals as goal

pub returns-then-not-is_new-clause-wrote : goal.returns-then-not-is_new-clause-wrote
returns-then-not-is_new-clause-wrote g c =
    let v = c.args.bound.now in
    let e = c.in_ok-number.ensures in
    let there = known-before g.P.PartialEq.eq g.met.P.Eq.laws v.keys.keys c.insert_full.new.self.keys v.values.items c.reserve.new.self.items v.paired c.in_ok-reserve.ensures.items c.args.key e.keys
    (there-from c.in_ok-number.is_new _ e.added c.if-not-is_new.true) e.unique c.in_ok-number.number e.stored c.index_mut.result.now c.index_mut.ensures.value in
    IfOk_then c.put_beside.result c.put_beside.ensures.wrote (λ wrote is. is ∙ ap (λ o. c.args.put.over || is_none (meaning_of g.K.Kept.meaning c.args.map o c.args.put.ns)) (sym there))

pub returns-then-not-is_new-clause-done : goal.returns-then-not-is_new-clause-done
returns-then-not-is_new-clause-done g c =
    let v = c.args.bound.now in
    let e = c.in_ok-number.ensures in
    let is = there-from c.in_ok-number.is_new _ e.added c.if-not-is_new.true in
    let there = known-before g.P.PartialEq.eq g.met.P.Eq.laws v.keys.keys c.insert_full.new.self.keys v.values.items c.reserve.new.self.items v.paired c.in_ok-reserve.ensures.items c.args.key e.keys
    is e.unique c.in_ok-number.number e.stored c.index_mut.result.now c.index_mut.ensures.value in
    let after = known-after g.P.PartialEq.eq g.met.P.Eq.laws v.keys.keys c.insert_full.new.self.keys v.values.items c.reserve.new.self.items v.paired c.in_ok-reserve.ensures.items c.args.key e.keys
    is e.unique c.in_ok-number.number e.stored c.put_beside.new.bound in
    IfOk_then c.put_beside.result c.put_beside.ensures.done (λ wrote now. ap (meaning_of g.K.Kept.meaning c.args.map) after ∙ now
    ∙ ap (λ o. written_in (meaning_of g.K.Kept.meaning c.args.map o) c.args.put.ns (if_vacant wrote c.args.binding.now)) (sym there))

pub returns-then-not-is_new-clause-names : goal.returns-then-not-is_new-clause-names
returns-then-not-is_new-clause-names g c =
    let v = c.args.bound.now in
    let e = c.in_ok-number.ensures in
    let there = known-before g.P.PartialEq.eq g.met.P.Eq.laws v.keys.keys c.insert_full.new.self.keys v.values.items c.reserve.new.self.items v.paired c.in_ok-reserve.ensures.items c.args.key e.keys
    (there-from c.in_ok-number.is_new _ e.added c.if-not-is_new.true) e.unique c.in_ok-number.number e.stored c.index_mut.result.now c.index_mut.ensures.value in
    let names = lists_of c.args.names.now in
    OnOk_from c.put_beside.result (sym (ap (λ o. cond (is_some o) names (listed_as names c.args.put.at (names c.args.put.at ++ c.args.put.name ∷ []))) there))

pub returns-then-not-is_new-clause-refused : goal.returns-then-not-is_new-clause-refused
returns-then-not-is_new-clause-refused g c =
    let v = c.args.bound.now in
    let e = c.in_ok-number.ensures in
    let is = there-from c.in_ok-number.is_new _ e.added c.if-not-is_new.true in
    let there = known-before g.P.PartialEq.eq g.met.P.Eq.laws v.keys.keys c.insert_full.new.self.keys v.values.items c.reserve.new.self.items v.paired c.in_ok-reserve.ensures.items c.args.key e.keys
    is e.unique c.in_ok-number.number e.stored c.index_mut.result.now c.index_mut.ensures.value in
    let after = known-after g.P.PartialEq.eq g.met.P.Eq.laws v.keys.keys c.insert_full.new.self.keys v.values.items c.reserve.new.self.items v.paired c.in_ok-reserve.ensures.items c.args.key e.keys
    is e.unique c.in_ok-number.number e.stored c.put_beside.new.bound in
    OnErr_then c.put_beside.result c.put_beside.ensures.refused (λ same. (ap (meaning_of g.K.Kept.meaning c.args.map) (after ∙ ap Some same ∙ sym there), refl))

pub returns-then-not-is_new-clause-others : goal.returns-then-not-is_new-clause-others
returns-then-not-is_new-clause-others g c =
    let v = c.args.bound.now in
    let e = c.in_ok-number.ensures in
    λ q apart. known-others g.P.PartialEq.eq g.met.P.Eq.laws v.keys.keys c.insert_full.new.self.keys v.values.items c.reserve.new.self.items v.paired c.in_ok-reserve.ensures.items c.args.key e.keys
    (there-from c.in_ok-number.is_new _ e.added c.if-not-is_new.true) e.unique c.in_ok-number.number e.stored c.put_beside.new.bound q apart

pub returns-in-Ok-clause-wrote : goal.returns-in-Ok-clause-wrote
returns-in-Ok-clause-wrote g c =
    let v = c.args.bound.now in
    let e = c.in_ok-number.ensures in
    let none = absent-from c.in_ok-number.is_new _ e.added c.if-not-is_new.false in
    let before = new-before g.P.PartialEq.eq g.met.P.Eq.laws v.keys.keys c.insert_full.new.self.keys v.values.items c.reserve.new.self.items v.paired c.in_ok-reserve.ensures.items c.args.key e.keys none in
    or-true c.args.put.over ∙ ap (λ o. c.args.put.over || is_none (meaning_of g.K.Kept.meaning c.args.map o c.args.put.ns)) (sym before)

pub returns-in-Ok-clause-done : goal.returns-in-Ok-clause-done
returns-in-Ok-clause-done g c =
    let v = c.args.bound.now in
    let e = c.in_ok-number.ensures in
    let none = absent-from c.in_ok-number.is_new _ e.added c.if-not-is_new.false in
    let before = new-before g.P.PartialEq.eq g.met.P.Eq.laws v.keys.keys c.insert_full.new.self.keys v.values.items c.reserve.new.self.items v.paired c.in_ok-reserve.ensures.items c.args.key e.keys none in
    let after = new-after g.P.PartialEq.eq g.met.P.Eq.laws v.keys.keys c.insert_full.new.self.keys v.values.items c.reserve.new.self.items v.paired c.in_ok-reserve.ensures.items c.args.key e.keys none c.in-Ok.begun in
    ap (meaning_of g.K.Kept.meaning c.args.map) (ap (λ values. get g.P.PartialEq.eq (zip c.insert_full.new.self.keys values) c.args.key) c.push_reserved.ensures.items ∙ after) ∙ c.in-Ok.ensures.begun
    ∙ ap (λ o. with_namespace (meaning_of g.K.Kept.meaning c.args.map o) c.args.put.ns (Some c.args.binding.now)) (sym before)

pub returns-in-Ok-clause-names : goal.returns-in-Ok-clause-names
returns-in-Ok-clause-names g c =
    let v = c.args.bound.now in
    let e = c.in_ok-number.ensures in
    let none = absent-from c.in_ok-number.is_new _ e.added c.if-not-is_new.false in
    let before = new-before g.P.PartialEq.eq g.met.P.Eq.laws v.keys.keys c.insert_full.new.self.keys v.values.items c.reserve.new.self.items v.paired c.in_ok-reserve.ensures.items c.args.key e.keys none in
    let names = lists_of c.args.names.now in
    c.in-Ok.ensures.names ∙ sym (ap (λ o. cond (is_some o) names (listed_as names c.args.put.at (names c.args.put.at ++ c.args.put.name ∷ []))) before)

pub returns-in-Ok-clause-others : goal.returns-in-Ok-clause-others
returns-in-Ok-clause-others g c =
    let v = c.args.bound.now in
    let e = c.in_ok-number.ensures in
    let none = absent-from c.in_ok-number.is_new _ e.added c.if-not-is_new.false in
    λ q apart. ap (λ values. get g.P.PartialEq.eq (zip c.insert_full.new.self.keys values) q) c.push_reserved.ensures.items
    ∙ new-others g.P.PartialEq.eq g.met.P.Eq.laws v.keys.keys c.insert_full.new.self.keys v.values.items c.reserve.new.self.items v.paired c.in_ok-reserve.ensures.items c.args.key e.keys none c.in-Ok.begun q apart

pub returns-in-Err-clause-refused : goal.returns-in-Err-clause-refused
returns-in-Err-clause-refused g c =
    let v = c.args.bound.now in
    let e = c.in_ok-number.ensures in
    let none = absent-from c.in_ok-number.is_new _ e.added c.if-not-is_new.false in
    let back = taken-back g.P.PartialEq.eq g.met.P.Eq.laws v.keys.keys c.insert_full.new.self.keys v.values.items c.reserve.new.self.items v.paired c.in_ok-reserve.ensures.items c.args.key e.keys none
    c.pop.new.self.keys c.pop.result c.pop.ensures.keys (c.pop.ensures.found.1 (omega (arith, e.within))) in
    (λ i. meaning_of g.K.Kept.meaning c.args.map (get g.P.PartialEq.eq (zip (back i) (c.in_ok-reserve.ensures.items i)) c.args.key), c.in-Err.ensures.refused)

pub returns-in-Err-clause-others : goal.returns-in-Err-clause-others
returns-in-Err-clause-others g c =
    let v = c.args.bound.now in
    let e = c.in_ok-number.ensures in
    let none = absent-from c.in_ok-number.is_new _ e.added c.if-not-is_new.false in
    let back = taken-back g.P.PartialEq.eq g.met.P.Eq.laws v.keys.keys c.insert_full.new.self.keys v.values.items c.reserve.new.self.items v.paired c.in_ok-reserve.ensures.items c.args.key e.keys none
    c.pop.new.self.keys c.pop.result c.pop.ensures.keys (c.pop.ensures.found.1 (omega (arith, e.within))) in
    λ q apart. λ i. get g.P.PartialEq.eq (zip (back i) (c.in_ok-reserve.ensures.items i)) q
