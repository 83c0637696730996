-- Worked rows of what maps show and of what writes do.
use Rattle.std.proofs.Common.{◌≡◌, ℕ, ◌+◌, true, false, [], ◌∷◌, Some, None, refl}
use Rattle.tree_ids.specs.declared.ids.HirFileId.TheVariants.{File, Macro}
use Rattle.tree_ids.specs.declared.name.Name.{Name}
use Rattle.def_ids.specs.declared.ids.Def.TheVariants.{Builtin}
use Rattle.def_ids.specs.declared.ids.MacroId.{MacroId}
use Rattle.def_ids.specs.declared.ids.MacroId.TheVariants.{MacroRules}
use Rattle.def_ids.specs.declared.edition.Edition.TheVariants.{Edition2018, Edition2021}
use Rattle.def_bindings.specs.declared.visibility.Visibility.TheVariants.{Public}
use Rattle.def_modules.specs.declared.module_data.ModuleOrigin.TheVariants.{CrateRoot, Block}
use Rattle.def_modules.specs.Equality.{file_eq, position_eq}
use Rattle.def_modules.specs.Fresh.{fresh_crate, fresh_state, fresh_by, block_crate, root_origin}
use Rattle.def_modules.specs.MapState.{MapState, ModuleState, Position}
use Rattle.def_modules.specs.Maps.{known_parent, pushed, with_module, facts_in, limit_of}
use Rattle.def_modules.specs.ScopeMaps.{with_first, last_macros, defined_all, with_last}
use Rattle.def_modules.specs.Scopes.{empty_module, declared_in, with_child, with_textual, marked_failed}
use Rattle.def_modules.specs.Updates.{update_at}

name : ℕ → Name
name n = record { 0 = n }

rules : ℕ → MacroId
rules n = MacroRules (record { 0 = n })

-- one element changes, and a place that is not there changes nothing
changed_in_the_middle : update_at (1 ∷ 2 ∷ 3 ∷ []) 1 (λ n. n + 10) ≡ 1 ∷ 12 ∷ 3 ∷ []
changed_in_the_middle = refl

changed_past_the_end : update_at (1 ∷ 2 ∷ []) 2 (λ n. n + 10) ≡ 1 ∷ 2 ∷ []
changed_past_the_end = refl

-- a parent is known where it is there
parent_there : known_parent (None ∷ Some 0 ∷ []) 1 ≡ Some 1
parent_there = refl

parent_past_the_end : known_parent (None ∷ Some 0 ∷ []) 2 ≡ None
parent_past_the_end = refl

-- a source file and a macro's file are different files
file_of_a_macro : file_eq (File (record { 0 = 3 })) (Macro (record { 0 = 3 })) ≡ false
file_of_a_macro = refl

same_place : Position
same_place = record { file = File (record { 0 = 1 }); value = record { 0 = 4 } }

place_is_itself : position_eq same_place same_place ≡ true
unfolding same_place
place_is_itself = refl

-- the last textual macro stands first
shadowed : with_first (with_first (λ n. []) (name 40) (rules 1)) (name 40) (rules 2) (name 40) ≡ rules 2 ∷ rules 1 ∷ []
unfolding name
shadowed = refl

not_shadowed : with_first (with_first (λ n. []) (name 40) (rules 1)) (name 41) (rules 2) (name 40) ≡ rules 1 ∷ []
unfolding name
not_shadowed = refl

-- macros are kept in order of definition, and only the last of each name is taken over
taken_over : last_macros ((name 40, rules 1 ∷ rules 2 ∷ []) ∷ (name 41, []) ∷ (name 42, rules 3 ∷ []) ∷ []) ≡ (name 40, rules 2) ∷ (name 42, rules 3) ∷ []
taken_over = refl

-- defined in turn, the last macro of a name stands first; one that is brought stands before all of its own
defined_in_turn : defined_all (λ n. []) ((name 40, rules 1) ∷ (name 41, rules 3) ∷ (name 40, rules 2) ∷ []) (name 40) ≡ rules 2 ∷ rules 1 ∷ []
unfolding name
defined_in_turn = refl

last_of_others : with_last (rules 3 ∷ rules 2 ∷ []) (rules 1 ∷ []) ≡ rules 3 ∷ rules 1 ∷ []
last_of_others = refl

none_of_others : with_last [] (rules 1 ∷ []) ≡ rules 1 ∷ []
none_of_others = refl

root : ModuleState
root = empty_module None CrateRoot Public

-- a child replaces an earlier one of its name
later_child : (with_child (name 40) 2 (with_child (name 40) 1 root)).children (name 40) ≡ Some 2
unfolding name
later_child = refl

-- declarations are listed in order
declared_in_order : (declared_in (Builtin 2) (declared_in (Builtin 1) root)).declarations ≡ Builtin 1 ∷ Builtin 2 ∷ []
unfolding root
declared_in_order = refl

-- one name is marked, another is not
one_failed : (marked_failed (name 40) root).failed (name 41) ≡ false
unfolding name root
one_failed = refl

seed : MapState
seed = fresh_state (record { krate = record { 0 = 1 }; block = None }) [] (fresh_crate Edition2021)

-- a seeded map is fresh, and no longer with a declaration
seed_is_fresh : seed ≡ fresh_by None seed
unfolding seed
seed_is_fresh = refl

-- a new module has its parent, and an index after all others
second_module : (pushed seed 0 root).parents ≡ None ∷ Some 0 ∷ []
unfolding seed
second_module = refl

orphan : (pushed seed 1 root).parents ≡ None ∷ None ∷ []
unfolding seed
orphan = refl

-- paths see the last textual macro of a module, and none in a module that is not there
seen_macro : (facts_in (with_module seed 0 (λ m. with_textual (name 40) (rules 2) (with_textual (name 40) (rules 1) m)))).textual_macro (record { map = seed.id; index = 0 }) (name 40) ≡ Some (rules 2)
unfolding seed name
seen_macro = refl

unseen_macro : (facts_in (with_module seed 0 (with_textual (name 40) (rules 1)))).textual_macro (record { map = seed.id; index = 1 }) (name 40) ≡ None
unfolding seed
unseen_macro = refl

-- of another map's module it has none, also where one of its own has that index
macro_of_another_map : (facts_in (with_module seed 0 (with_textual (name 40) (rules 1)))).textual_macro (record { map = record { krate = record { 0 = 1 }; block = Some (record { 0 = 0 }) }; index = 0 }) (name 40) ≡ None
unfolding seed
macro_of_another_map = refl

-- the limit is 128 where none is stated
limit_unstated : limit_of (fresh_crate Edition2021) ≡ 128
limit_unstated = refl

limit_stated : limit_of (record (fresh_crate Edition2021) { recursion_limit = Some 7 }) ≡ 7
limit_stated = refl

-- the root of a block's map is made by the block
root_of_block : root_origin (Some (record { 0 = 5 })) ≡ Block
root_of_block = refl

-- a block's map takes over flags, and has the edition that is said of it
block_keeps_flags : (block_crate Edition2018 (record (fresh_crate Edition2021) { no_std = true })).no_std ≡ true
block_keeps_flags = refl

block_has_its_edition : (block_crate Edition2018 (fresh_crate Edition2021)).edition ≡ Edition2018
block_has_its_edition = refl
