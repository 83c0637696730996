use Rattle.std.proofs.Common.{◌≡◌, [], ◌∷◌, ◌<◌, Some, None, length, sym, ◌∙◌, ap, slice_get, drop, ◌+◌, arith, rules}
use Rattle.std.proofs.lemmas.Option.{slice_get_within}
use Rattle.def_map.specs.ItemScopes.{place_of, scope_content}
use Rattle.def_map.proofs.IterLemmas.{drop_at, drop_end}
use Rattle.def_map.proofs.item_scope.UnnamedTraitsIterator.next.Goals as goal

pub returns-in_err-item-clause-steps : goal.returns-in_err-item-clause-steps
returns-in_err-item-clause-steps c =
    let s = c.self.inside.scope in
    let all = (scope_content s).unnamed (place_of s) in
    let none : slice_get all c.self.inside.next ≡ None = sym c.unnamed_at.ensures.item ∙ c.in_err-item.was in
    let empty : c.args.self.now ≡ [] = sym c.self.view_is ∙ drop_end all c.self.inside.next none in
    rw c.from_residual.ensures (empty, empty)

pub overflow_add-self : goal.overflow_add-self
overflow_add-self c =
    let s = c.self.inside.scope in
    let all = (scope_content s).unnamed (place_of s) in
    let there : slice_get all c.self.inside.next ≡ Some c.in_ok-item.item = sym c.unnamed_at.ensures.item ∙ c.in_ok-item.was in
    omega (arith, slice_get_within all c.self.inside.next c.in_ok-item.item there, c.unnamed_at.ensures.few)

pub returns-clause-steps : goal.returns-clause-steps
returns-clause-steps c =
    let s = c.self.inside.scope in
    let all = (scope_content s).unnamed (place_of s) in
    let there : slice_get all c.self.inside.next ≡ Some c.in_ok-item.item = sym c.unnamed_at.ensures.item ∙ c.in_ok-item.was in
    sym c.self.view_is ∙ drop_at all c.self.inside.next c.in_ok-item.item there

pub returns-clause-goes : goal.returns-clause-goes
returns-clause-goes c =
    let s = c.self.inside.scope in
    let all = (scope_content s).unnamed (place_of s) in
    let there : slice_get all c.self.inside.next ≡ Some c.in_ok-item.item = sym c.unnamed_at.ensures.item ∙ c.in_ok-item.was in
    let e : c.args.self.now ≡ c.in_ok-item.item ∷ drop (c.self.inside.next + 1) all = sym c.self.view_is ∙ drop_at all c.self.inside.next c.in_ok-item.item there in
    let shorter : length (drop (c.self.inside.next + 1) all) < length c.args.self.now = omega (arith, ap length e) in
    record { on = λ finite. search rules; keeps = search rules; rests = search rules }
