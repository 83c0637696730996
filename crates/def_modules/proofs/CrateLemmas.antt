-- What a map shows by key after a write, whatever test of keys the map itself has.
use Rattle.std.proofs.Common.{◌≡◌, Bool, true, false, cond, List, [], ◌∷◌, ◌++◌, Option, Some, None, refl, ap, ◌∙◌, subst}
use Rattle.std.specs.Prelude.{map, unwrap_or}
use Rattle.std.specs.Option.{option_map_or}
use Rattle.std.proofs.lemmas.List.{map-append}
use Rattle.indexmap.specs.IndexMap.{IndexMap, get}
use Rattle.tree_ids.specs.declared.name.Name.{Name}
use Rattle.def_ids.specs.declared.ids.MacroId.{MacroId}
use Rattle.def_ids.specs.Equality.{macro_eq}
use Rattle.def_modules.specs.declared.map.DeriveHelper.{DeriveHelper}
use Rattle.def_modules.specs.Equality.{position_eq}
use Rattle.def_modules.specs.MapState.{Position}
use Rattle.def_modules.specs.KeyedLists.{PushesUnder}
use Rattle.def_modules.specs.Maps.{exported_of, helper_state, helpers_of, with_last_helper}
use Rattle.def_modules.specs.Updates.{set_where}

module _ {K X S : Type 0} (eq shown : K → K → Bool) (same : eq ≡ shown) (old new : IndexMap K X S) (k : K) (w : Option X) where
  -- a write as the shown test sees it
  pub rekeyed : ((q : K) → get eq new q ≡ cond (eq k q) w (get eq old q)) → get shown new ≡ set_where (shown k) w (get shown old)
  rekeyed written = λ i q. after q i
    where
      after : (q : K) → get shown new q ≡ cond (shown k q) w (get shown old q)
      after = let P : (K → K → Bool) → Type 0 = λ e. (q : K) → get e new q ≡ cond (e k q) w (get e old q) in subst P same written

-- the helpers of one derive macro set
pub exported-set : {S : Type 0} (eq : MacroId → MacroId → Bool) → eq ≡ macro_eq → (old new : IndexMap MacroId (List Name) S) (id : MacroId) (helpers : List Name)
    → ((q : MacroId) → get eq new q ≡ cond (eq id q) (Some helpers) (get eq old q))
    → exported_of new ≡ set_where (macro_eq id) (Some helpers) (exported_of old)
exported-set eq same old new id helpers written = rekeyed eq macro_eq same old new id (Some helpers) written

-- one helper of a position more
pub helpers-added : {S : Type 0} (eq : Position → Position → Bool) → eq ≡ position_eq → (old new : IndexMap Position (List DeriveHelper) S) (position : Position) (helper : DeriveHelper)
    → PushesUnder eq (get eq old) (get eq new) position helper → helpers_of new ≡ with_last_helper (helpers_of old) position (helper_state helper)
helpers-added eq same old new position helper written = λ i q. at q i
  where
    after : PushesUnder position_eq (get position_eq old) (get position_eq new) position helper
    after = let P : (Position → Position → Bool) → Type 0 = λ e. PushesUnder e (get e old) (get e new) position helper in subst P same written

    shown : (o : Option (List DeriveHelper)) → map helper_state (unwrap_or o [] ++ helper ∷ []) ≡ option_map_or (map helper_state) o [] ++ helper_state helper ∷ []
    shown None = refl
    shown (Some xs) = map-append helper_state xs (helper ∷ [])

    by : (b : Bool) (o : Option (List DeriveHelper)) → option_map_or (map helper_state) (cond b (Some (unwrap_or (get position_eq old position) [] ++ helper ∷ [])) o) [] ≡ cond b (helpers_of old position ++ helper_state helper ∷ []) (option_map_or (map helper_state) o [])
    by true o = shown (get position_eq old position)
    by false o = refl

    at : (q : Position) → helpers_of new q ≡ with_last_helper (helpers_of old) position (helper_state helper) q
    at q = ap (λ o. option_map_or (map helper_state) o []) (after q) ∙ by (position_eq position q) (get position_eq old q)
