-- Textual macros of a module that is there, or is not.
use Rattle.std.proofs.Common.{◌≡◌, ℕ, List, [], Option, Some, None, slice_get, sym, ap, ◌∙◌}
use Rattle.std.proofs.lemmas.Option.{slice_get-map}
use Rattle.std.specs.Prelude.{option_map}
use Rattle.std.specs.Option.{option_map_or}
use Rattle.tree_ids.specs.declared.name.Name.{Name}
use Rattle.def_modules.specs.declared.map.MapData.{MapData}
use Rattle.def_modules.specs.declared.module_data.ModuleData.{ModuleData}
use Rattle.def_modules.specs.Maps.{map_state, textual_at}
use Rattle.def_modules.specs.MapState.{ModuleState}
use Rattle.def_modules.specs.Scopes.{module_state}

-- what a module that may be there has
textual_of_found : (d : MapData) (i : ℕ) (modules : List ModuleData) (found : Option ModuleData) → modules ≡ d.modules.items → found ≡ slice_get modules i
    → textual_at (map_state d) i ≡ (λ (name : Name). option_map_or (λ (m : ModuleState). m.textual name) (option_map module_state found) [])
textual_of_found d i modules found same is =
    ap (λ (o : Option ModuleState). λ (name : Name). option_map_or (λ (m : ModuleState). m.textual name) o [])
    (slice_get-map module_state d.modules.items i ∙ ap (option_map module_state) (ap (λ l. slice_get l i) (sym same) ∙ sym is))

-- none, where it is not there
pub textual_missing : (d : MapData) (i : ℕ) (modules : List ModuleData) → modules ≡ d.modules.items → None ≡ slice_get modules i → textual_at (map_state d) i ≡ (λ (name : Name). [])
textual_missing d i modules same is = textual_of_found d i modules None same is

-- its own, where it is
pub textual_there : (d : MapData) (i : ℕ) (modules : List ModuleData) (m : ModuleData) → modules ≡ d.modules.items → Some m ≡ slice_get modules i → textual_at (map_state d) i ≡ (module_state m).textual
textual_there d i modules m same is = textual_of_found d i modules (Some m) same is
