-- Helpers that are renamed in place, one after the other.
use Rattle.std.proofs.Common.{◌≡◌, ℕ, zero, suc, ◌+◌, Bool, true, false, cond, List, [], ◌∷◌, Option, Some, refl, sym, ap, ◌∙◌, arith, length, take, ◌++◌}
use Rattle.std.proofs.Math.Seq.{take-append_seam}
use Rattle.std.specs.Prelude.{map}
use Rattle.std.specs.Option.{option_map_or}
use Rattle.indexmap.specs.IndexMap.{IndexMap, get}
use Rattle.def_ids.specs.declared.ids.BuiltinDeriveImplId.{BuiltinDeriveImplId}
use Rattle.def_modules.specs.declared.map.DeriveHelper.{DeriveHelper}
use Rattle.def_modules.specs.Equality.{position_eq}
use Rattle.def_modules.specs.MapState.{Position, ShownHelper}
use Rattle.def_modules.specs.Maps.{given_by, helper_state, helpers_of, renamed_from}
use Rattle.def_modules.specs.Updates.{set_where, update_at}
use Rattle.def_modules.proofs.CrateLemmas.{rekeyed}

renamed_none : (id : BuiltinDeriveImplId) (helpers : List ShownHelper) → renamed_from 0 0 id helpers ≡ helpers
renamed_none id [] = refl
renamed_none id (h ∷ hs) = refl

-- where none are to be renamed, they stay
pub renamed_nowhere : (start : ℕ) (id : BuiltinDeriveImplId) (helpers : List ShownHelper) → renamed_from start 0 id helpers ≡ helpers
renamed_nowhere zero id helpers = renamed_none id helpers
renamed_nowhere (suc start) id [] = refl
renamed_nowhere (suc start) id (h ∷ hs) = ap (λ xs. h ∷ xs) (renamed_nowhere start id hs)

-- one helper more is renamed
pub one_more_renamed : (start count place : ℕ) (id : BuiltinDeriveImplId) (helpers : List ShownHelper) → place ≡ start + count
    → update_at (renamed_from start count id helpers) place (given_by id) ≡ renamed_from start (suc count) id helpers
one_more_renamed start count place id [] is = refl
one_more_renamed zero zero zero id (h ∷ hs) is = ap (λ xs. given_by id h ∷ xs) (sym (renamed_none id hs))
one_more_renamed zero zero (suc place) id (h ∷ hs) is = absurd (omega arith)
one_more_renamed zero (suc count) zero id (h ∷ hs) is = absurd (omega arith)
one_more_renamed zero (suc count) (suc place) id (h ∷ hs) is = ap (λ xs. given_by id h ∷ xs) (one_more_renamed zero count place id hs (omega arith))
one_more_renamed (suc start) count zero id (h ∷ hs) is = absurd (omega arith)
one_more_renamed (suc start) count (suc place) id (h ∷ hs) is = ap (λ xs. h ∷ xs) (one_more_renamed start count place id hs (omega arith))

-- the helpers of one position changed, where it has any
pub helpers-changed : {S : Type 0} (eq : Position → Position → Bool) → eq ≡ position_eq → (old new : IndexMap Position (List DeriveHelper) S) (position : Position) (f : List ShownHelper → List ShownHelper) (was now : List DeriveHelper)
    → get eq old position ≡ Some was
    → map helper_state now ≡ f (map helper_state was)
    → ((q : Position) → get eq new q ≡ cond (eq position q) (Some now) (get eq old q))
    → helpers_of new ≡ set_where (position_eq position) (f (helpers_of old position)) (helpers_of old)
helpers-changed eq same old new position f was now there changed written = λ i q. at q i
  where
    before : helpers_of old position ≡ map helper_state was
    before = ap (λ o. option_map_or (map helper_state) o []) (ap (λ e. get e old position) (sym same) ∙ there)

    by : (b : Bool) (o : Option (List DeriveHelper)) → option_map_or (map helper_state) (cond b (Some now) o) [] ≡ cond b (f (helpers_of old position)) (option_map_or (map helper_state) o [])
    by true o = changed ∙ ap f (sym before)
    by false o = refl

    at : (q : Position) → helpers_of new q ≡ set_where (position_eq position) (f (helpers_of old position)) (helpers_of old) q
    at q = ap (λ g. option_map_or (map helper_state) (g q) []) (rekeyed eq position_eq same old new position (Some now) written) ∙ by (position_eq position q) (get position_eq old q)

-- the elements of a list, where others stand behind them
pub written-back : {X : Type 0} (n : ℕ) (xs ys : List X) → n ≡ length xs → take n (xs ++ ys) ≡ xs
written-back n xs ys same = ap (λ k. take k (xs ++ ys)) same ∙ take-append_seam xs ys
