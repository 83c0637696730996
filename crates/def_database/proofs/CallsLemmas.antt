-- What macro calls are answered after a write.
use Rattle.std.proofs.Common.{◌≡◌, refl, sym, ap, ◌∙◌, subst, Bool, true, false, ◌&&◌, ◌==◌, cond, List, [], ◌∷◌, Option, Some, None}
use Rattle.std.specs.Prelude.{Result, Ok, unwrap_or}
use Rattle.indexmap.specs.IndexMap.{IndexMap}
use Rattle.def_ids.specs.declared.ids.MacroId.{MacroId}
use Rattle.def_interner.specs.declared.macro_def.MacroDefId.{MacroDefId}
use Rattle.def_modules.specs.Equality.{position_eq}
use Rattle.def_modules.specs.EqualityLaws.{positions_same}
use Rattle.def_modules.specs.MapState.{Position}
use Rattle.def_modules.specs.Updates.{set_where}
use Rattle.def_oracle.specs.declared.source_database.CallAnswer.{CallAnswer}
use Rattle.def_oracle.specs.declared.source_database.UnresolvedMacro.{UnresolvedMacro}
use Rattle.def_oracle.specs.Queries.{PlainCall}
use Rattle.tree_ids.specs.declared.ids.Crate.{Crate}
use Rattle.tree_ids.specs.declared.ids.MacroCallId.{MacroCallId}
use Rattle.tree_ids.specs.declared.macro_flags.MacroCallStyles.{MacroCallStyles}
use Rattle.def_database.specs.declared.by_macro.ByMacro.{ByMacro}
use Rattle.def_database.specs.declared.database.DerivePlace.{DerivePlace}
use Rattle.def_database.specs.contracts.database.DerivePlacePartialEq.TheImpl as derive_places
use Rattle.def_database.specs.ByMacro.{said_at, with_any_said, with_said}
use Rattle.def_database.specs.Calls.{call_answer, derive_place_eq, is_call_of, no_call, no_expansion}

-- the derived test of places of derives is that of the definitions
pub derive_places_same : derive_places.ghosts.eq ≡ derive_place_eq
derive_places_same = λ i a b. at a b i
  where
    at : (a b : DerivePlace) → derive_places.ghosts.eq a b ≡ derive_place_eq a b
    at a b = ap (λ f. f a.position b.position && ((a.attr_id.0 == b.attr_id.0) && (a.pos == b.pos))) positions_same

module _ {P A S : Type 0} (eq shown : P → P → Bool) (same : eq ≡ shown) (old new : IndexMap P (ByMacro A) S) (place : P) where
  -- a write for one macro, as the shown test sees it
  pub for-rekeyed : (macro_id : MacroId) (answer : A) → said_at eq new ≡ with_said eq (said_at eq old) place macro_id answer
      → said_at shown new ≡ with_said shown (said_at shown old) place macro_id answer
  for-rekeyed macro_id answer written = subst (λ e. said_at e new ≡ with_said e (said_at e old) place macro_id answer) same written

  -- a write for all macros, as the shown test sees it
  pub any-rekeyed : (answer : A) → said_at eq new ≡ with_any_said eq (said_at eq old) place answer
      → said_at shown new ≡ with_any_said shown (said_at shown old) place answer
  any-rekeyed answer written = subst (λ e. said_at e new ≡ with_any_said e (said_at e old) place answer) same written

-- a refused write, as the shown test sees it
pub still-rekeyed : {P A S : Type 0} (eq shown : P → P → Bool) → eq ≡ shown → (old new : IndexMap P (ByMacro A) S) → said_at eq new ≡ said_at eq old → said_at shown new ≡ said_at shown old
still-rekeyed eq shown same old new still = subst (λ e. said_at e new ≡ said_at e old) same still

-- what a call gives, by what was written down of it
abbrev gives : Option CallAnswer → Result CallAnswer UnresolvedMacro
gives o = Ok (unwrap_or o no_expansion)

-- what calls are answered, once one answer is written down where a test holds
pub answer-set : (test : Position → MacroId → Bool) (answer : CallAnswer) (old : Position → MacroId → Option CallAnswer)
    → call_answer (λ p m. cond (test p m) (Some answer) (old p m)) ≡ (λ (query : PlainCall) (found : List (Option MacroDefId)). cond (is_call_of test query found) (Ok answer) (call_answer old query found))
answer-set test answer old = λ i query found. at query found i
  where
    by : (b : Bool) (o : Option CallAnswer) → gives (cond b (Some answer) o) ≡ cond b (Ok answer) (gives o)
    by true o = refl
    by false o = refl

    at : (query : PlainCall) (found : List (Option MacroDefId)) → call_answer (λ p m. cond (test p m) (Some answer) (old p m)) query found ≡ cond (is_call_of test query found) (Ok answer) (call_answer old query found)
    at query [] = refl
    at query (None ∷ _) = refl
    at query (Some m ∷ _) = by (test query.position m.id) (old query.position m.id)

-- what the call of a macro that is found is answered
pub answer-read : (answers : Position → MacroId → Option CallAnswer) (query : PlainCall) (found : MacroDefId) (looked : Option MacroDefId) (answer : Option CallAnswer)
    → looked ≡ Some found → answers query.position found.id ≡ answer → gives answer ≡ call_answer answers query (looked ∷ [])
answer-read answers query found looked answer is written =
    sym (ap (λ o. call_answer answers query (o ∷ [])) is ∙ ap gives written)

-- which calls are made, by what is asked of them, once one is written down where a test holds
pub made-set : {Q P : Type 0} (place : Q → P) (id : Q → MacroId) (test : P → MacroId → Bool) (call : MacroCallId) (old : P → MacroId → Option MacroCallId)
    → ◌≡◌ {A = Q → MacroCallId} (λ q. unwrap_or (cond (test (place q) (id q)) (Some call) (old (place q) (id q))) no_call) (λ q. cond (test (place q) (id q)) call (unwrap_or (old (place q) (id q)) no_call))
made-set {Q = Q} place id test call old = λ i q. by (test (place q) (id q)) (old (place q) (id q)) i
  where
    by : (b : Bool) (o : Option MacroCallId) → unwrap_or (cond b (Some call) o) no_call ≡ cond b call (unwrap_or o no_call)
    by true o = refl
    by false o = refl

-- in which ways macros may be called, once that is written down of one more
pub styles-set : (position : Position) (styles : MacroCallStyles) (old new : Position → Option MacroCallStyles) → new ≡ set_where (position_eq position) (Some styles) old
    → ◌≡◌ {A = Position → Crate → MacroCallStyles} (λ p krate. unwrap_or (new p) (record { 0 = 1 })) (λ p krate. cond (position_eq position p) styles (unwrap_or (old p) (record { 0 = 1 })))
styles-set position styles old new written = λ i p krate. at p i
  where
    by : (b : Bool) (o : Option MacroCallStyles) → unwrap_or (cond b (Some styles) o) (record { 0 = 1 }) ≡ cond b styles (unwrap_or o (record { 0 = 1 }))
    by true o = refl
    by false o = refl

    at : (p : Position) → unwrap_or (new p) (record { 0 = 1 }) ≡ cond (position_eq position p) styles (unwrap_or (old p) (record { 0 = 1 }))
    at p = ap (λ f. unwrap_or (f p) (record { 0 = 1 })) written ∙ by (position_eq position p) (old p)
