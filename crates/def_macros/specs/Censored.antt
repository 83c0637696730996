-- What each step leaves in a table that censors a module.
use Rattle.std.specs.Prelude.{ℕ, zero, suc, Bool, cond, ◌&&◌, List, [], ◌∷◌, map, option_map}
use Rattle.std.specs.List.{IsDistinct}
use Rattle.std.specs.Map.{keys_of}
use Rattle.tree_ids.specs.declared.name.Name.{Name}
use Rattle.def_ids.specs.declared.ids.ModuleId.{ModuleId}
use Rattle.def_ids.specs.declared.ids.TraitId.{TraitId}
use Rattle.def_ids.specs.Ids.{is_same_module}
use Rattle.def_bindings.specs.declared.bindings.Namespace.{Namespace}
use Rattle.def_bindings.specs.declared.visibility.Visibility.{Visibility}
use Rattle.def_bindings.specs.Content.{Content, is_name, is_namespace, is_trait}
use Rattle.def_rules.specs.ProcMacros.{censored_binding, crate_only}

-- each unnamed trait of a module stands once
abbrev pub ListsOnce : Content Visibility → ModuleId → Type 0
ListsOnce c at = IsDistinct is_trait (keys_of (c.unnamed at))

-- the bindings of a module whose places pass a test are censored
abbrev pub censored_where : ModuleId → (Name → Namespace → Bool) → Content Visibility → Content Visibility
censored_where at censors c = record c { binding = λ m x n. cond (is_same_module at m && censors x n) (option_map censored_binding (c.binding m x n)) (c.binding m x n) }

-- that at one place is
abbrev pub censored_place : ModuleId → Name → Namespace → Content Visibility → Content Visibility
censored_place at name ns = censored_where at (λ x n. is_name name x && is_namespace ns n)

-- those of a name are
abbrev pub censored_name : ModuleId → Name → Content Visibility → Content Visibility
censored_name at name = censored_where at (λ x n. is_name name x)

-- all are
abbrev pub censored_names : ModuleId → Content Visibility → Content Visibility
censored_names at c = record c { binding = λ m x n. cond (is_same_module at m) (option_map censored_binding (c.binding m x n)) (c.binding m x n) }

-- a list of unnamed traits with that at an index censored
abbrev pub with_censored_at : ℕ → List (TraitId × Visibility) → List (TraitId × Visibility)
with_censored_at i [] = []
with_censored_at zero (t ∷ ts) = (t.0, crate_only t.1) ∷ ts
with_censored_at (suc i) (t ∷ ts) = t ∷ with_censored_at i ts

-- a module's list is changed
abbrev pub with_traits : ModuleId → (List (TraitId × Visibility) → List (TraitId × Visibility)) → Content Visibility → Content Visibility
with_traits at f c = record c { unnamed = λ m. cond (is_same_module at m) (f (c.unnamed m)) (c.unnamed m) }

-- the unnamed trait at an index is censored
abbrev pub censored_trait : ModuleId → ℕ → Content Visibility → Content Visibility
censored_trait at index = with_traits at (with_censored_at index)

-- all are
abbrev pub censored_traits : ModuleId → Content Visibility → Content Visibility
censored_traits at = with_traits at (map (λ t. (t.0, crate_only t.1)))
