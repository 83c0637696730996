-- Worked rows of what each write changes in a map, in a module and in a local map.
use Rattle.std.proofs.Common.{◌≡◌, ℕ, true, false, [], ◌∷◌, Some, None, refl}
use Rattle.either.specs.declared.Either.TheVariants.{Left, Right}
use Rattle.tree_ids.specs.declared.ids.HirFileId.TheVariants.{File, Macro}
use Rattle.tree_ids.specs.declared.name.Name.{Name}
use Rattle.def_ids.specs.declared.ids.MacroId.{MacroId}
use Rattle.def_ids.specs.declared.ids.MacroId.TheVariants.{MacroRules, Macro2}
use Rattle.def_ids.specs.declared.edition.Edition.TheVariants.{Edition2021}
use Rattle.def_bindings.specs.declared.visibility.Visibility.TheVariants.{Public}
use Rattle.def_modules.specs.declared.local_def_map.ExternPreludeEntry.{ExternPreludeEntry}
use Rattle.def_modules.specs.declared.module_data.ModuleOrigin.TheVariants.{CrateRoot}
use Rattle.def_modules.specs.Locals.{with_extern}
use Rattle.def_modules.specs.MapState.{CrateState, DeriveCall, DeriveState, MapState, ModuleState, Position, ShownHelper}
use Rattle.def_modules.specs.MapView.{empty_local}
use Rattle.def_modules.specs.Maps.{with_feature, with_tool, with_exported, paired, with_macro_at, with_macro_use, with_helper, with_renamed_helpers}
use Rattle.def_modules.specs.Scopes.{empty_module, with_extern_crate, with_extern_block, with_unnamed_const, with_impl, with_derive_impl, with_derive, with_invocation, called_at, with_textual_of, brought}

abbrev name : ℕ → Name
name n = record { 0 = n }

abbrev rules : ℕ → MacroId
rules n = MacroRules (record { 0 = n })

-- the n-th item of a source file
abbrev item : ℕ → Position
item n = record { file = File (record { 0 = 1 }); value = record { 0 = n } }

-- a crate of which nothing is known
abbrev unknown : CrateState
unknown = record {
  exported_helpers = λ id. None;
  macro_of_function = λ function. None;
  function_of_macro = λ id. None;
  tools = [];
  features = λ name. false;
  coherence_is_core = false;
  no_core = false;
  no_std = false;
  edition = Edition2021;
  recursion_limit = None;
}

-- a map of it without modules
abbrev bare : MapState
bare = record {
  id = record { krate = record { 0 = 1 }; block = None };
  containing = [];
  parents = [];
  modules = [];
  krate = unknown;
  prelude = None;
  macro_use = λ name. None;
  helpers = λ position. [];
  macro_at = λ position. None;
}

abbrev root : ModuleState
root = empty_module None CrateRoot Public

-- one feature is enabled, and no other
feature : ((with_feature unknown (name 5)).features (name 5) ≡ true) × ((with_feature unknown (name 5)).features (name 6) ≡ false)
feature = (refl, refl)

-- tools stand in order of registration
tools : (with_tool (with_tool unknown (name 6)) (name 5)).tools ≡ name 6 ∷ name 5 ∷ []
tools = refl

-- a derive macro's helpers take the place of the earlier ones, one may have none, and a macro of another kind is not exported
exported : (with_exported (with_exported unknown (rules 1) (name 5 ∷ [])) (rules 1) (name 6 ∷ name 7 ∷ [])).exported_helpers (rules 1) ≡ Some (name 6 ∷ name 7 ∷ [])
exported = refl

without_helpers : (with_exported unknown (rules 1) []).exported_helpers (rules 1) ≡ Some []
without_helpers = refl

not_exported : (with_exported unknown (rules 1) (name 5 ∷ [])).exported_helpers (Macro2 (record { 0 = 1 })) ≡ None
not_exported = refl

-- a function leads to its macro, and the macro back
abbrev one_pair : CrateState
one_pair = paired unknown (record { 0 = 2 }) (record { 0 = 3 })

pair : (one_pair.macro_of_function (record { 0 = 2 }) ≡ Some (record { 0 = 3 })) × (one_pair.function_of_macro (record { 0 = 3 }) ≡ Some (record { 0 = 2 }))
pair = (refl, refl)

pair_of_none : (one_pair.macro_of_function (record { 0 = 3 }) ≡ None) × (one_pair.function_of_macro (record { 0 = 2 }) ≡ None)
pair_of_none = (refl, refl)

-- an item leads to its macro; the item of its number in a macro's file leads nowhere
macro_there : (with_macro_at bare (item 4) (rules 1)).macro_at (item 4) ≡ Some (rules 1)
macro_there = refl

macro_of_another_file : (with_macro_at bare (item 4) (rules 1)).macro_at (record { file = Macro (record { 0 = 1 }); value = record { 0 = 4 } }) ≡ None
macro_of_another_file = refl

-- a later macro of a name takes the place of an earlier one
used_macro : (with_macro_use (with_macro_use bare (name 5) (rules 1)) (name 5) (rules 2)).macro_use (name 5) ≡ Some (rules 2)
used_macro = refl

-- helpers of an item stand in order, and those of another item apart
abbrev helper : ℕ → ShownHelper
helper n = record { name = name n; macro_id = rules 1; by = Left (record { 0 = 8 }) }

helpers : (with_helper (with_helper (with_helper bare (item 4) (helper 5)) (item 3) (helper 6)) (item 4) (helper 7)).helpers (item 4) ≡ helper 5 ∷ helper 7 ∷ []
helpers = refl

-- a helper that a builtin impl gave
abbrev builtin_helper : ℕ → ShownHelper
builtin_helper n = record { name = name n; macro_id = rules 1; by = Right (record { 0 = 3 }) }

-- of an item's helpers those in the range name the impl, though one call gave all, and those of another item stay
abbrev four : MapState
four = with_helper (with_helper (with_helper (with_helper bare (item 4) (helper 5)) (item 4) (helper 6)) (item 4) (helper 8)) (item 3) (helper 7)

abbrev renamed : ℕ → ℕ → MapState
renamed start end = with_renamed_helpers four (item 4) (record { start = start; end = end }) (record { 0 = 3 })

helper_renamed : ((renamed 1 2).helpers (item 4) ≡ helper 5 ∷ builtin_helper 6 ∷ helper 8 ∷ []) × ((renamed 1 2).helpers (item 3) ≡ helper 7 ∷ [])
helper_renamed = (refl, refl)

helpers_renamed : (renamed 0 2).helpers (item 4) ≡ builtin_helper 5 ∷ builtin_helper 6 ∷ helper 8 ∷ []
helpers_renamed = refl

-- in an empty range is none
no_helper_renamed : (renamed 1 1).helpers (item 4) ≡ helper 5 ∷ helper 6 ∷ helper 8 ∷ []
no_helper_renamed = refl

-- impls stand in order, each with whether it is one of a trait
impls : (with_impl (record { 0 = 2 }) true (with_impl (record { 0 = 1 }) false root)).impls ≡ (record { 0 = 1 }, false) ∷ (record { 0 = 2 }, true) ∷ []
impls = refl

derive_impls : (with_derive_impl (record { 0 = 2 }) (with_derive_impl (record { 0 = 1 }) root)).derive_impls ≡ record { 0 = 1 } ∷ record { 0 = 2 } ∷ []
derive_impls = refl

-- so do extern crates, extern blocks and constants without a name
extern_crates : (with_extern_crate (record { 0 = 2 }) (with_extern_crate (record { 0 = 1 }) root)).extern_crates ≡ record { 0 = 1 } ∷ record { 0 = 2 } ∷ []
extern_crates = refl

extern_blocks : (with_extern_block (record { 0 = 2 }) (with_extern_block (record { 0 = 1 }) root)).extern_blocks ≡ record { 0 = 1 } ∷ record { 0 = 2 } ∷ []
extern_blocks = refl

unnamed_consts : (with_unnamed_const (record { 0 = 2 }) (with_unnamed_const (record { 0 = 1 }) root)).unnamed_consts ≡ record { 0 = 1 } ∷ record { 0 = 2 } ∷ []
unnamed_consts = refl

-- a derive attribute's call, with nothing yet for the two paths of its list
abbrev pending : ℕ → DeriveState
pending call = record { call = record { 0 = call }; calls = None ∷ None ∷ [] }

-- a derive stands behind the earlier one of its item and attribute, and of no other
abbrev twice : ModuleState
twice = with_derive (item 4) (record { 0 = 0 }) (pending 9) (with_derive (item 4) (record { 0 = 0 }) (pending 8) root)

derive : twice.derives (item 4) (record { 0 = 0 }) ≡ pending 8 ∷ pending 9 ∷ []
derive = refl

derive_of_another_attribute : (with_derive (item 4) (record { 0 = 0 }) (pending 9) (with_derive (item 4) (record { 0 = 1 }) (pending 8) root)).derives (item 4) (record { 0 = 1 }) ≡ pending 8 ∷ []
derive_of_another_attribute = refl

-- a call goes to its place in the list of the first record of its derive, and where there is no such derive nothing is put
abbrev given : DeriveCall
given = Right (record { 0 = 3 })

second_call : (called_at (item 4) (record { 0 = 0 }) 1 given twice).derives (item 4) (record { 0 = 0 }) ≡ record { call = record { 0 = 8 }; calls = None ∷ Some given ∷ [] } ∷ pending 9 ∷ []
second_call = refl

call_of_no_derive : (called_at (item 4) (record { 0 = 0 }) 1 given root).derives (item 4) (record { 0 = 0 }) ≡ []
call_of_no_derive = refl

-- a macro call is recorded with its item: neither suffices alone
abbrev called : ModuleState
called = with_invocation (item 4) (record { 0 = 8 }) root

invocation : (called.invoked (item 4) (record { 0 = 8 }) ≡ true) × (called.invoked (item 3) (record { 0 = 8 }) ≡ false) × (called.invoked (item 4) (record { 0 = 7 }) ≡ false)
invocation = (refl, refl, refl)

-- a module with one textual macro of a name
abbrev own_macros : ModuleState
own_macros = with_textual_of (λ x. rules 1 ∷ []) root

-- another module brings the last macro of a name before its own, and where it has none its own stay
macros_brought : (brought (λ x. rules 3 ∷ rules 2 ∷ []) own_macros).textual (name 5) ≡ rules 3 ∷ rules 1 ∷ []
macros_brought = refl

no_macros_brought : (brought (λ x. []) own_macros).textual (name 5) ≡ rules 1 ∷ []
no_macros_brought = refl

-- inherited macros take the place of its own
macros_inherited : (with_textual_of (λ x. rules 3 ∷ rules 2 ∷ []) own_macros).textual (name 5) ≡ rules 3 ∷ rules 2 ∷ []
macros_inherited = refl

-- a name leads to the crate that was put last, with the item that put it there, and another name nowhere
abbrev entry : ℕ → ExternPreludeEntry
entry n = record { root = record { map = record { krate = record { 0 = n }; block = None }; index = 0 }; by = Some (record { 0 = n }) }

extern_crate : (with_extern (with_extern empty_local (name 5) (entry 1)) (name 5) (entry 2)).extern_prelude (name 5)
    ≡ Some (record { root = record { map = record { krate = record { 0 = 2 }; block = None }; index = 0 }; by = Some (record { 0 = 2 }) })
extern_crate = refl

no_extern_crate : (with_extern empty_local (name 5) (entry 1)).extern_prelude (name 6) ≡ None
no_extern_crate = refl
