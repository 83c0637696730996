-- Maps read by key after a write.
use Rattle.std.proofs.Common.{subst, sym, rules, ℕ, ◌≡◌, Bool, true, false, cond, List, [], ◌∷◌, ◌++◌, Option, Some, None, refl, ap, ◌∙◌}
use mathlib.Core.Logic.{◌⊎◌, inl, inr}
use Rattle.std.specs.List.{AllZip}
use Rattle.std.specs.Prelude.{IsSome, reverse, unwrap_or}
use Rattle.std.specs.Option.{option_map_or}
use Rattle.std.proofs.lemmas.List.{map-append, reverse-append}
use Rattle.std.proofs.lemmas.List.Elements.{same_from_all_zip}
use Rattle.indexmap.specs.IndexMap.{IndexMap, get}
use Rattle.indexmap.specs.IndexSet.{IndexSet, contains}
use Rattle.tree_ids.specs.declared.ids.AttrId.{AttrId}
use Rattle.tree_ids.specs.declared.ids.MacroCallId.{MacroCallId}
use Rattle.tree_ids.specs.declared.name.Name.{Name}
use Rattle.def_modules.specs.declared.module_data.DeriveKey.{DeriveKey}
use Rattle.def_modules.specs.declared.module_data.DeriveMacroInvocation.{DeriveMacroInvocation}
use Rattle.def_modules.specs.declared.module_data.DeriveRecords.{DeriveRecords}
use Rattle.def_modules.specs.declared.module_data.Invocation.{Invocation}
use Rattle.def_modules.specs.Equality.{derive_key_eq, invocation_eq}
use Rattle.def_modules.specs.KeyedLists.{PushesUnder}
use Rattle.def_modules.specs.MapState.{Position, DeriveCall}
use Rattle.def_modules.specs.Updates.{update_at}
use Rattle.def_ids.specs.declared.ids.MacroId.{MacroId}
use Rattle.def_bindings.specs.Content.{is_name}
use Rattle.def_modules.specs.ScopeMaps.{PushesRecord, textual_of, with_first, derive_state, records_in, with_record, derives_of, derive_set, derive_recorded, derive_called, with_call, is_derive_of, invoked_of, invoked_with}

-- an option that has a value
pub some_there : {X : Type 0} {o : Option X} {x : X} → o ≡ Some x → IsSome o
some_there {o = o} {x = x} h = subst IsSome (sym h) (search rules)

-- a textual macro that shadows the others of its name
pub textual-shadowed : {S : Type 0} (old new : IndexMap Name (List MacroId) S) (name : Name) (id : MacroId) → PushesUnder is_name (get is_name old) (get is_name new) name id
    → textual_of new ≡ with_first (textual_of old) name id
textual-shadowed old new name id after = λ i q. at q i
  where
    shown : (o : Option (List MacroId)) → reverse (unwrap_or o [] ++ id ∷ []) ≡ id ∷ option_map_or reverse o []
    shown None = refl
    shown (Some xs) = reverse-append xs (id ∷ [])

    by : (b : Bool) (o : Option (List MacroId)) → option_map_or reverse (cond b (Some (unwrap_or (get is_name old name) [] ++ id ∷ [])) o) [] ≡ cond b (id ∷ textual_of old name) (option_map_or reverse o [])
    by true o = shown (get is_name old name)
    by false o = refl

    at : (q : Name) → textual_of new q ≡ with_first (textual_of old) name id q
    at q = ap (λ o. option_map_or reverse o []) (after q) ∙ by (is_name name q) (get is_name old q)

-- a list under its name, and a copy of both
abbrev IsCopied : Name × List MacroId → Name × List MacroId → Type 0
IsCopied p q = (q.0 ≡ p.0) × AllZip (λ (x y : MacroId). y ≡ x) p.1 q.1

-- lists that are a map's own, or a copy of them, are those of the map
own-entries : {S : Type 0} (old new : IndexMap Name (List MacroId) S) → (new ≡ old) ⊎ AllZip IsCopied old.entries new.entries → new.entries ≡ old.entries
own-entries old new (inl same) = ap (λ m. m.entries) same
own-entries old new (inr copied) =
    same_from_all_zip IsCopied old.entries new.entries copied
    (λ p q is i. (is.0 i, same_from_all_zip (λ (x y : MacroId). y ≡ x) p.1 q.1 is.1 (λ x y same. same) i))

-- and so they show the same textual macros
pub own-textual : {S : Type 0} (old new : IndexMap Name (List MacroId) S) → (new ≡ old) ⊎ AllZip IsCopied old.entries new.entries → textual_of new ≡ textual_of old
own-textual old new own = let same = own-entries old new own in rw same refl

-- the derives after the records of one are others
derives-set : {S : Type 0} (old new : IndexMap DeriveKey DeriveRecords S) (position : Position) (attr : AttrId) (now : DeriveRecords) (eq : DeriveKey → DeriveKey → Bool) → eq ≡ derive_key_eq
    → ((q : DeriveKey) → get eq new q ≡ cond (eq (record { position = position; attr = attr }) q) (Some now) (get eq old q))
    → derives_of new ≡ derive_set (derives_of old) position attr (records_in now)
derives-set old new position attr now eq same written = λ i p a. at p a i
  where
    after : (q : DeriveKey) → get derive_key_eq new q ≡ cond (derive_key_eq (record { position = position; attr = attr }) q) (Some now) (get derive_key_eq old q)
    after = let P : (DeriveKey → DeriveKey → Bool) → Type 0 = λ e. (q : DeriveKey) → get e new q ≡ cond (e (record { position = position; attr = attr }) q) (Some now) (get e old q) in subst P same written

    by : (b : Bool) (o : Option DeriveRecords) → option_map_or records_in (cond b (Some now) o) [] ≡ cond b (records_in now) (option_map_or records_in o [])
    by true o = refl
    by false o = refl

    at : (p : Position) (a : AttrId) → derives_of new p a ≡ derive_set (derives_of old) position attr (records_in now) p a
    at p a = ap (λ o. option_map_or records_in o []) (after (record { position = p; attr = a })) ∙ by (is_derive_of position attr p a) (get derive_key_eq old (record { position = p; attr = a }))

-- the derives after one is recorded
pub derives-recorded : {S : Type 0} (old new : IndexMap DeriveKey DeriveRecords S) (position : Position) (attr : AttrId) (derive : DeriveMacroInvocation) (eq : DeriveKey → DeriveKey → Bool) → eq ≡ derive_key_eq
    → PushesRecord eq (get eq old) (get eq new) (record { position = position; attr = attr }) derive
    → derives_of new ≡ derive_recorded (derives_of old) position attr (derive_state derive)
derives-recorded old new position attr derive eq same written =
    let key : DeriveKey = record { position = position; attr = attr } in
    derives-set old new position attr (with_record (get eq old key) derive) eq same written
    ∙ ap (derive_set (derives_of old) position attr) (shown (get eq old key) ∙ ap (λ e. option_map_or records_in (get e old key) [] ++ derive_state derive ∷ []) same)
  where
    shown : (o : Option DeriveRecords) → records_in (with_record o derive) ≡ option_map_or records_in o [] ++ derive_state derive ∷ []
    shown None = refl
    shown (Some r) = ap (λ ds. derive_state r.first ∷ ds) (map-append derive_state r.later (derive ∷ []))

-- the calls after one is recorded
pub invoked-set : {S : Type 0} (old new : IndexSet Invocation S) (position : Position) (call : MacroCallId) (eq : Invocation → Invocation → Bool) → eq ≡ invocation_eq
    → ((q : Invocation) → contains eq new q ≡ cond (eq (record { position = position; call = call }) q) true (contains eq old q))
    → invoked_of new ≡ invoked_with (invoked_of old) position call
invoked-set old new position call eq same written = λ i p c. after (record { position = p; call = c }) i
  where
    after : (q : Invocation) → contains invocation_eq new q ≡ cond (invocation_eq (record { position = position; call = call }) q) true (contains invocation_eq old q)
    after = let P : (Invocation → Invocation → Bool) → Type 0 = λ e. (q : Invocation) → contains e new q ≡ cond (e (record { position = position; call = call }) q) true (contains e old q) in subst P same written

-- the derives after one call of a recorded one is set
pub derives-called : {S : Type 0} (old new : IndexMap DeriveKey DeriveRecords S) (position : Position) (attr : AttrId) (pos : ℕ) (call : DeriveCall) (was now : DeriveRecords) (eq : DeriveKey → DeriveKey → Bool) → eq ≡ derive_key_eq
    → get eq old (record { position = position; attr = attr }) ≡ Some was
    → records_in now ≡ update_at (records_in was) 0 (with_call pos call)
    → ((q : DeriveKey) → get eq new q ≡ cond (eq (record { position = position; attr = attr }) q) (Some now) (get eq old q))
    → derives_of new ≡ derive_called (derives_of old) position attr pos call
derives-called old new position attr pos call was now eq same there called written =
    let before : derives_of old position attr ≡ records_in was =
    ap (λ o. option_map_or records_in o []) (ap (λ e. get e old (record { position = position; attr = attr })) (sym same) ∙ there) in
    let found : records_in now ≡ update_at (derives_of old position attr) 0 (with_call pos call) =
    called ∙ ap (λ ds. update_at ds 0 (with_call pos call)) (sym before) in
    derives-set old new position attr now eq same written ∙ ap (derive_set (derives_of old) position attr) found
