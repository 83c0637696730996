-- A module that holds nothing, as it is kept and as it is shown.
use Rattle.std.proofs.Common.{◌≡◌, true, false, List, [], Option, Some, None, refl, sym, ap, ◌∙◌, reverse}
use Rattle.std.specs.Prelude.{unwrap_or}
use Rattle.std.specs.Option.{option_map_or}
use Rattle.std.proofs.lemmas.Bool.{eq-eqb}
use Rattle.std.proofs.lemmas.List.{reverse-reverse}
use Rattle.indexmap.specs.IndexMap.{IndexMap, get}
use Rattle.tree_ids.specs.declared.ids.HirFileId.{HirFileId}
use Rattle.tree_ids.specs.declared.ids.HirFileId.TheVariants.{File, Macro}
use Rattle.tree_ids.specs.declared.name.Name.{Name}
use Rattle.def_bindings.specs.Content.{is_name}
use Rattle.def_bindings.specs.IdLaws.{name-refl}
use Rattle.def_bindings.specs.declared.visibility.Visibility.TheVariants.{Public}
use Rattle.def_modules.specs.declared.module_data.DeriveKey.{DeriveKey}
use Rattle.def_modules.specs.declared.module_data.DeriveRecords.{DeriveRecords}
use Rattle.def_modules.specs.declared.module_data.Invocation.{Invocation}
use Rattle.def_modules.specs.declared.module_data.ModuleData.{ModuleData}
use Rattle.def_modules.specs.declared.module_data.ModuleOrigin.{ModuleOrigin}
use Rattle.def_modules.specs.declared.module_data.RareParts.{RareParts}
use Rattle.def_modules.specs.Equality.{file_eq, position_eq, derive_key_eq, invocation_eq}
use Rattle.def_modules.specs.MapState.{Position}
use Rattle.def_modules.specs.RareParts.{rare_state, no_rare, rare_in}
use Rattle.def_modules.specs.ScopeMaps.{records_in, derives_of, invoked_of}
use Rattle.def_modules.specs.Scopes.{module_state, empty_module}
use Rattle.def_modules.proofs.FreshLemmas.{no_keys, keys_none, no_members, members_none}

file-refl : (f : HirFileId) → file_eq f f ≡ true
file-refl (File a) = eq-eqb a.0 a.0 refl
file-refl (Macro a) = eq-eqb a.0 a.0 refl

pub position-refl : (p : Position) → position_eq p p ≡ true
position-refl p = rw (file-refl p.file, eq-eqb p.value.0 p.value.0 refl) refl

derive_key-refl : (k : DeriveKey) → derive_key_eq k k ≡ true
derive_key-refl k = rw (file-refl k.position.file, eq-eqb k.position.value.0 k.position.value.0 refl, eq-eqb k.attr.0 k.attr.0 refl) refl

invocation-refl : (k : Invocation) → invocation_eq k k ≡ true
invocation-refl k = rw (file-refl k.position.file, eq-eqb k.position.value.0 k.position.value.0 refl, eq-eqb k.call.0 k.call.0 refl) refl

-- no name has an item
abbrev pub HasNone : {X S : Type 0} → IndexMap Name (List X) S → Type 0
HasNone lists = (k : Name) → unwrap_or (get is_name lists k) [] ≡ []

-- parts hold nothing
pub record AreBare (r : RareParts) : Type 0 where
  pub extern_crates : r.extern_crates ≡ []
  pub extern_blocks : r.extern_blocks ≡ []
  pub unnamed_consts : r.unnamed_consts ≡ []
  pub derive_impls : r.builtin_derive_impls ≡ []
  pub derives : r.derives.entries ≡ []
  pub invoked : r.invocations.keys ≡ []
  pub failed : r.failed.keys ≡ []

-- a module holds nothing
pub record IsBare (m : ModuleData) (made : ModuleOrigin) : Type 0 where
  pub name : m.name ≡ None
  pub origin : m.origin ≡ made
  pub vis : m.visibility ≡ Public
  pub children : m.children.entries ≡ []
  pub textual : HasNone m.scope.legacy_macros.value
  pub declarations : m.scope.declarations ≡ []
  pub impls : m.scope.impls ≡ []
  pub rare : rare_in m.scope.rare ≡ no_rare

shown_none : {X : Type 0} (o : Option (List X)) → unwrap_or o [] ≡ [] → option_map_or reverse o [] ≡ []
shown_none None h = refl
shown_none (Some xs) h = ap reverse h

none_shown : {X : Type 0} (o : Option (List X)) → option_map_or reverse o [] ≡ [] → unwrap_or o [] ≡ []
none_shown None h = refl
none_shown (Some xs) h = sym (reverse-reverse xs) ∙ ap reverse h

no_derive : (o : Option DeriveRecords) → option_map_or records_in o [] ≡ [] → o ≡ None
no_derive None h = refl
no_derive (Some d) h = cc

module _ (r : RareParts) where
  -- parts that hold nothing show nothing
  pub bare_parts : AreBare r → rare_state r ≡ no_rare
  bare_parts b =
      let derives : derives_of r.derives ≡ (λ p a. []) = rw b.derives refl in
      let invoked : invoked_of r.invocations ≡ (λ p c. false) = rw b.invoked refl in
      λ i. record {
        extern_crates = b.extern_crates i;
        extern_blocks = b.extern_blocks i;
        unnamed_consts = b.unnamed_consts i;
        derive_impls = b.derive_impls i;
        derives = derives i;
        invoked = invoked i;
        failed = members_none is_name name-refl r.failed b.failed i;
      }

  -- parts that show nothing hold nothing
  pub parts_bare : rare_state r ≡ no_rare → AreBare r
  parts_bare h = record {
    extern_crates = λ i. (h i).extern_crates;
    extern_blocks = λ i. (h i).extern_blocks;
    unnamed_consts = λ i. (h i).unnamed_consts;
    derive_impls = λ i. (h i).derive_impls;
    derives = no_keys derive_key_eq derive_key-refl r.derives (λ i k. no_derive (get derive_key_eq r.derives k) (λ j. (h j).derives k.position k.attr) i);
    invoked = no_members invocation_eq invocation-refl r.invocations (λ i k. (h i).invoked k.position k.call);
    failed = no_members is_name name-refl r.failed (λ i. (h i).failed);
  }

module _ (m : ModuleData) (origin : ModuleOrigin) where
  -- what holds nothing shows nothing
  pub bare_state : IsBare m origin → module_state m ≡ empty_module None origin Public
  bare_state b =
      λ i. record {
        name = b.name i;
        origin = b.origin i;
        vis = b.vis i;
        children = keys_none is_name name-refl m.children b.children i;
        textual = λ k. shown_none (get is_name m.scope.legacy_macros.value k) (b.textual k) i;
        declarations = b.declarations i;
        extern_crates = (b.rare i).extern_crates;
        unnamed_consts = (b.rare i).unnamed_consts;
        impls = b.impls i;
        derive_impls = (b.rare i).derive_impls;
        extern_blocks = (b.rare i).extern_blocks;
        derives = (b.rare i).derives;
        invoked = (b.rare i).invoked;
        failed = (b.rare i).failed;
      }

  -- what shows nothing holds nothing
  pub state_bare : module_state m ≡ empty_module None origin Public → IsBare m origin
  state_bare h =
      let rare : rare_in m.scope.rare ≡ no_rare =
      λ i. record {
        extern_crates = (h i).extern_crates;
        extern_blocks = (h i).extern_blocks;
        unnamed_consts = (h i).unnamed_consts;
        derive_impls = (h i).derive_impls;
        derives = (h i).derives;
        invoked = (h i).invoked;
        failed = (h i).failed;
      } in
      record {
        name = λ i. (h i).name;
        origin = λ i. (h i).origin;
        vis = λ i. (h i).vis;
        children = no_keys is_name name-refl m.children (λ i. (h i).children);
        textual = λ k. none_shown (get is_name m.scope.legacy_macros.value k) (λ i. (h i).textual k);
        declarations = λ i. (h i).declarations;
        impls = λ i. (h i).impls;
        rare = rare;
      }
