use Rattle.std.proofs.Common.{◌≡◌, [], ◌∷◌, ◌<◌, Some, None, length, sym, ◌∙◌, ap, slice_get, drop, ◌+◌, arith, rules}
use Rattle.std.specs.Prelude.{map}
use Rattle.std.proofs.lemmas.Option.{slice_get_within}
use Rattle.tree_ids.specs.declared.name.Name.{Name}
use Rattle.def_sources.specs.declared.per_ns.PerNs.{PerNs}
use Rattle.def_map.specs.ItemScopes.{place_of, scope_content, meaning}
use Rattle.def_map.proofs.IterLemmas.{drop_at, drop_end}
use Rattle.def_map.proofs.item_scope.ResolutionsIterator.next.Goals as goal

pub returns-in_err-name-clause-steps : goal.returns-in_err-name-clause-steps
returns-in_err-name-clause-steps c =
    let s = c.self.inside.scope in
    let all = (scope_content s).names (place_of s) in
    let none : slice_get all c.self.inside.next ≡ None = sym c.name_at.ensures.name ∙ c.in_err-name.was in
    let empty : c.args.self.now ≡ [] = sym c.self.view_is ∙ ap (map (λ n. (n, meaning (scope_content s) (place_of s) n))) (drop_end all c.self.inside.next none) in
    rw c.from_residual.ensures (empty, empty)

pub overflow_add-self : goal.overflow_add-self
overflow_add-self c =
    let s = c.self.inside.scope in
    let all = (scope_content s).names (place_of s) in
    let there : slice_get all c.self.inside.next ≡ Some c.in_ok-name.name = sym c.name_at.ensures.name ∙ c.in_ok-name.was in
    omega (arith, slice_get_within all c.self.inside.next c.in_ok-name.name there, c.name_at.ensures.few)

pub returns-clause-steps : goal.returns-clause-steps
returns-clause-steps c =
    let s = c.self.inside.scope in
    let all = (scope_content s).names (place_of s) in
    let there : slice_get all c.self.inside.next ≡ Some c.in_ok-name.name = sym c.name_at.ensures.name ∙ c.in_ok-name.was in
    let e = ap (map (λ n. (n, meaning (scope_content s) (place_of s) n))) (drop_at all c.self.inside.next c.in_ok-name.name there) in
    rw c.get.ensures (sym c.self.view_is ∙ e)

pub returns-clause-goes : goal.returns-clause-goes
returns-clause-goes c =
    let s = c.self.inside.scope in
    let all = (scope_content s).names (place_of s) in
    let shown : Name → Name × PerNs = λ n. (n, meaning (scope_content s) (place_of s) n) in
    let there : slice_get all c.self.inside.next ≡ Some c.in_ok-name.name = sym c.name_at.ensures.name ∙ c.in_ok-name.was in
    let e : c.args.self.now ≡ shown c.in_ok-name.name ∷ map shown (drop (c.self.inside.next + 1) all) =
    sym c.self.view_is ∙ ap (map shown) (drop_at all c.self.inside.next c.in_ok-name.name there) in
    let shorter : length (map shown (drop (c.self.inside.next + 1) all)) < length c.args.self.now = omega (arith, ap length e) in
    record { on = λ finite. (tt, tt, shorter); keeps = search rules; rests = search rules }
