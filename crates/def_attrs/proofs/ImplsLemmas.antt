-- The impls of deferred derives, one after the other.
use Rattle.std.proofs.Common.{◌≡◌, ℕ, List, [], ◌∷◌, ◌++◌, Option, Some, None, refl, sym, ap, ◌∙◌}
use Rattle.tree_ids.specs.declared.ids.FileAstId.{FileAstId}
use Rattle.tree_ids.specs.declared.ids.InFile.{InFile}
use Rattle.def_ids.specs.declared.ids.Adt.{Adt}
use Rattle.def_ids.specs.declared.ids.BuiltinDeriveImplId.{BuiltinDeriveImplId}
use Rattle.def_ids.specs.declared.ids.ModuleId.{ModuleId}
use Rattle.def_interner.specs.Session.{AddsLocations, Session}
use Rattle.def_map.specs.Oracle.{Oracle}
use Rattle.def_modules.specs.Maps.{with_module}
use Rattle.def_modules.specs.MapState.{MapState}
use Rattle.def_modules.specs.Scopes.{with_derive_impl}
use Rattle.def_rules.specs.declared.deferred.DeferredDerive.{DeferredDerive}
use Rattle.def_rules.specs.Locations.{AddsImpls}
use Rattle.def_laws.proofs.LocationsLaws.{only_refl, only_trans}
use Rattle.def_rules.specs.Deferred.{AreGiven, AreImpls, giving_impls, last_of, naming_impl, with_impls}

module _ (adt : Adt) (derive : DeferredDerive) where
  -- impls stay where locations are added
  impls_stay : (old new : Session) → AddsLocations old new → (traits : List ℕ) (ids : List BuiltinDeriveImplId) → AreImpls old adt derive traits ids → AreImpls new adt derive traits ids
  impls_stay old new adds [] [] are = tt
  impls_stay old new adds (derived ∷ traits) (id ∷ ids) are = (adds.grows.derive_impl id.0 _ are.0, impls_stay old new adds traits ids are.1)
  impls_stay old new adds [] (id ∷ ids) are = absurd are
  impls_stay old new adds (derived ∷ traits) [] are = absurd are

  -- one impl more
  impls_push : (session : Session) (traits : List ℕ) (ids : List BuiltinDeriveImplId) (derived : ℕ) (id : BuiltinDeriveImplId) → AreImpls session adt derive traits ids
      → session.derive_impl id.0 ≡ Some (record { adt = adt; derived = derived; attr = derive.attr_id; pos = derive.pos }) → AreImpls session adt derive (traits ++ derived ∷ []) (ids ++ id ∷ [])
  impls_push session [] [] derived id are is = (is, tt)
  impls_push session (first ∷ traits) (it ∷ ids) derived id are is = (are.0, impls_push session traits ids derived id are.1 is)
  impls_push session [] (it ∷ ids) derived id are is = absurd are
  impls_push session (first ∷ traits) [] derived id are is = absurd are

with_push : (at : ModuleId) (ids : List BuiltinDeriveImplId) (id : BuiltinDeriveImplId) (m : MapState) → with_impls m at (ids ++ id ∷ []) ≡ with_module (with_impls m at ids) at.index (with_derive_impl id)
with_push at [] id m = refl
with_push at (first ∷ ids) id m = with_push at ids id (with_module m at.index (with_derive_impl first))

last_push : (before : Option BuiltinDeriveImplId) (ids : List BuiltinDeriveImplId) (id : BuiltinDeriveImplId) → last_of before (ids ++ id ∷ []) ≡ Some id
last_push before [] id = refl
last_push before (first ∷ ids) id = last_push (Some first) ids id

-- a derive gave an impl for each of these traits so far
pub record GaveFor (old new : Session) (at : ModuleId) (adt : Adt) (derive : DeferredDerive) (traits : List ℕ) (last : Option BuiltinDeriveImplId) (m n : MapState) : Type 0 where
  pub ids : List BuiltinDeriveImplId
  pub are : AreImpls new adt derive traits ids
  pub map : n ≡ with_impls m at ids
  pub is_last : last ≡ last_of None ids
  pub own : AddsImpls adt old new

module _ (at : ModuleId) (adt : Adt) (derive : DeferredDerive) where
  -- none
  pub gave_none : (s : Session) (m : MapState) → GaveFor s s at adt derive [] None m m
  gave_none s m = record { ids = []; are = tt; map = refl; is_last = refl; own = only_refl s }

  -- one more
  pub gave_more : (old s t : Session) (traits : List ℕ) (last : Option BuiltinDeriveImplId) (m n k : MapState) → GaveFor old s at adt derive traits last m n → (derived : ℕ) (id : BuiltinDeriveImplId) → AddsImpls adt s t
      → t.derive_impl id.0 ≡ Some (record { adt = adt; derived = derived; attr = derive.attr_id; pos = derive.pos }) → k ≡ with_module n at.index (with_derive_impl id)
      → GaveFor old t at adt derive (traits ++ derived ∷ []) (Some id) m k
  gave_more old s t traits last m n k gave derived id own is after = record {
    ids = gave.ids ++ id ∷ [];
    are = impls_push adt derive t traits gave.ids derived id (impls_stay adt derive s t own.adds traits gave.ids gave.are) is;
    map = after ∙ ap (λ x. with_module x at.index (with_derive_impl id)) gave.map ∙ sym (with_push at gave.ids id m);
    is_last = sym (last_push None gave.ids id);
    own = only_trans old s t gave.own own;
  }

  -- all of them, and the last stands for the derive
  pub gave_all : (old s : Session) (position : InFile FileAstId) (traits : List ℕ) (last known : Option BuiltinDeriveImplId) (m n k : MapState) → GaveFor old s at adt derive traits last m n → last ≡ known → k ≡ naming_impl n at position derive known
      → (ids : List BuiltinDeriveImplId) × AreImpls s adt derive traits ids × (k ≡ giving_impls m at position derive ids)
  gave_all old s position traits last known m n k gave is after = (
    gave.ids,
    gave.are,
    after ∙ ap (λ x. naming_impl x at position derive known) gave.map ∙ ap (naming_impl (with_impls m at gave.ids) at position derive) (sym is ∙ gave.is_last),
  )

-- What a list of derives gave

module _ (oracle : Oracle) (at : ModuleId) (position : InFile FileAstId) (adt : Adt) where
  given_stay : (old new : Session) → AddsLocations old new → (derives : List DeferredDerive) (m n : MapState) → AreGiven oracle old at position adt derives m n → AreGiven oracle new at position adt derives m n
  given_stay old new adds [] m n given = given
  given_stay old new adds (derive ∷ derives) m n (ids, are, rest) =
      (ids, impls_stay adt derive old new adds (oracle.derive_traits derive.derive) ids are, given_stay old new adds derives (giving_impls m at position derive ids) n rest)

  given_push : (session : Session) (derives : List DeferredDerive) (derive : DeferredDerive) (m n k : MapState) → AreGiven oracle session at position adt derives m n
      → (ids : List BuiltinDeriveImplId) × AreImpls session adt derive (oracle.derive_traits derive.derive) ids × (k ≡ giving_impls n at position derive ids)
      → AreGiven oracle session at position adt (derives ++ derive ∷ []) m k
  given_push session [] derive m n k given (ids, are, is) = (ids, are, is ∙ ap (λ x. giving_impls x at position derive ids) given)
  given_push session (first ∷ derives) derive m n k (ids, are, rest) more = (ids, are, given_push session derives derive (giving_impls m at position first ids) n k rest more)

  -- one derive more
  pub given_more : (s t : Session) → AddsLocations s t → (derives : List DeferredDerive) (derive : DeferredDerive) (m n k : MapState) → AreGiven oracle s at position adt derives m n
      → (ids : List BuiltinDeriveImplId) × AreImpls t adt derive (oracle.derive_traits derive.derive) ids × (k ≡ giving_impls n at position derive ids)
      → AreGiven oracle t at position adt (derives ++ derive ∷ []) m k
  given_more s t adds derives derive m n k given more = given_push t derives derive m n k (given_stay s t adds derives m n given) more
