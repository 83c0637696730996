use Rattle.std.proofs.Common.{◌≡◌, [], ◌∷◌, ◌<◌, Some, None, length, sym, ◌∙◌, ap, slice_get, drop, ◌+◌, arith, rules}
use Rattle.std.specs.Prelude.{option_map}
use Rattle.def_sources.specs.PerNs.{Item}
use Rattle.def_map.specs.ItemScopes.{place_of, scope_content, bound_name, bound_from}
use Rattle.def_map.proofs.IterLemmas.{drop_at, found_at, passed_at, none_from}
use Rattle.def_map.proofs.scope_bindings.BoundNamesIterator.next.Goals as goal

pub returns-in-Some-found-clause-steps : goal.returns-in-Some-found-clause-steps
returns-in-Some-found-clause-steps c =
    let s = c.loop-name.self-inside.scope in
    let ns = c.loop-name.self-inside.ns in
    let i = c.loop-name.self-inside.next in
    let name = c.in-Some.name in
    let item = c.in-Some-found.item in
    let all = (scope_content s).names (place_of s) in
    let there : slice_get all i ≡ Some name = sym c.in-Some.ensures.name in
    let is : bound_name ns (scope_content s) (place_of s) name ≡ Some (name, item) = ap (option_map (λ (found : Item). (name, found))) (sym c.in-Some-found.ensures) in
    sym c.self.view_is ∙ sym c.loop-name.invariant.same_rest ∙ found_at (bound_name ns (scope_content s) (place_of s)) all i name (name, item) there is

pub returns-in-Some-found-clause-goes : goal.returns-in-Some-found-clause-goes
returns-in-Some-found-clause-goes c =
    let s = c.loop-name.self-inside.scope in
    let ns = c.loop-name.self-inside.ns in
    let i = c.loop-name.self-inside.next in
    let name = c.in-Some.name in
    let item = c.in-Some-found.item in
    let all = (scope_content s).names (place_of s) in
    let there : slice_get all i ≡ Some name = sym c.in-Some.ensures.name in
    let is : bound_name ns (scope_content s) (place_of s) name ≡ Some (name, item) = ap (option_map (λ (found : Item). (name, found))) (sym c.in-Some-found.ensures) in
    let e : c.args.self.now ≡ (name, item) ∷ bound_from (i + 1) ns (scope_content s) (place_of s) =
    sym c.self.view_is ∙ sym c.loop-name.invariant.same_rest ∙ found_at (bound_name ns (scope_content s) (place_of s)) all i name (name, item) there is in
    let shorter : length (bound_from (i + 1) ns (scope_content s) (place_of s)) < length c.args.self.now = omega (arith, ap length e) in
    record { on = λ finite. (tt, tt, shorter); keeps = search rules; rests = search rules }

pub loop-name-smaller : goal.loop-name-smaller
loop-name-smaller c =
    let s = c.loop-name.self-inside.scope in
    let i = c.loop-name.self-inside.next in
    let all = (scope_content s).names (place_of s) in
    let there : slice_get all i ≡ Some c.in-Some.name = sym c.in-Some.ensures.name in
    let shorter : length (drop (i + 1) all) < length (drop i all) = omega (arith, ap length (drop_at all i c.in-Some.name there)) in
    shorter

pub loop-name-preserved : goal.loop-name-preserved
loop-name-preserved c =
    let s = c.loop-name.self-inside.scope in
    let ns = c.loop-name.self-inside.ns in
    let i = c.loop-name.self-inside.next in
    let name = c.in-Some.name in
    let all = (scope_content s).names (place_of s) in
    let there : slice_get all i ≡ Some name = sym c.in-Some.ensures.name in
    let none : (scope_content s).binding (place_of s) name ns ≡ None = sym c.in_default-found.ensures in
    let is : bound_name ns (scope_content s) (place_of s) name ≡ None = ap (option_map (λ (found : Item). (name, found))) none in
    record {
      same_scope = c.loop-name.invariant.same_scope;
      same_ns = c.loop-name.invariant.same_ns;
      same_rest = passed_at (bound_name ns (scope_content s) (place_of s)) all i name there is ∙ c.loop-name.invariant.same_rest;
    }

pub returns-clause-steps : goal.returns-clause-steps
returns-clause-steps c =
    let s = c.loop-name.self-inside.scope in
    let ns = c.loop-name.self-inside.ns in
    let i = c.loop-name.self-inside.next in
    let all = (scope_content s).names (place_of s) in
    let none : slice_get all i ≡ None = sym c.in_default.ensures.name in
    let e : bound_from i ns (scope_content s) (place_of s) ≡ [] = none_from (bound_name ns (scope_content s) (place_of s)) all i none in
    (sym c.self.view_is ∙ sym c.loop-name.invariant.same_rest ∙ e, e)
