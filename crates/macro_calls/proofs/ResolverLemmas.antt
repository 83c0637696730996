-- Macros around a block, one map after the other, and those of finished maps.
use Rattle.std.proofs.Common.{◌≡◌, ◌∙◌, ap, sym, refl, true, false, List, Option, Some, None}
use Rattle.std.specs.List.{list_any}
use Rattle.std.specs.Option.{option_and_then}
use Rattle.std.specs.Prelude.{if◌then◌else◌}
use Rattle.tree_ids.specs.declared.name.Name.{Name}
use Rattle.def_ids.specs.declared.ids.MacroId.{MacroId}
use Rattle.def_ids.specs.declared.ids.ModuleId.{ModuleId}
use Rattle.def_ids.specs.Ids.{is_same_map}
use Rattle.def_map.specs.OuterMaps.{first_of_each_map}
use Rattle.def_bindings.specs.declared.bindings.Binding.{Binding}
use Rattle.def_bindings.specs.declared.bindings.Namespace.TheVariants.{Macros}
use Rattle.def_bindings.specs.declared.visibility.Visibility.{Visibility}
use Rattle.def_bindings.specs.Content.{Content}
use Rattle.def_map.specs.Paths.{macro_named, scope}
use Rattle.def_map.specs.Sources.{World, finished_map}
use Rattle.def_modules.specs.MapView.{MapView}
use Rattle.def_sources.specs.Items.{macro_of_def}
use Rattle.def_rules.specs.Calls.{textual_among}
use Rattle.def_paths.proofs.AroundLemmas.{IsNext}

module _ (w : World) (name : Name) where
  -- the first textual macro in the maps of these modules, but for those of the modules before
  abbrev pub around : List ModuleId → List ModuleId → Option MacroId
  around before places = textual_among w name (first_of_each_map before places)

  -- a map that was asked adds nothing
  pub next-seen : (before : List ModuleId) (place : ModuleId) → list_any (λ b. is_same_map b.map place.map) before ≡ true → IsNext around before place None
  next-seen before place seen rest = rw seen refl

-- what a module of a finished map binds
pub bound_elsewhere : (w : World) (place : ModuleId) (name : Name) (content : Content Visibility) (map : MapView) → is_same_map place.map w.map.facts.id ≡ false → Some map ≡ finished_map w.oracle place.map → content ≡ map.content
    → option_and_then (λ (held : Binding Visibility). macro_of_def held.def) (content.binding place name Macros) ≡ macro_named (scope w place name)
bound_elsewhere w place name content map other there same =
    ap (λ (c : Content Visibility). option_and_then (λ (held : Binding Visibility). macro_of_def held.def) (c.binding place name Macros)) same
    ∙ ap in_map there
    ∙ ap (λ b. in_map (if b then Some w.map else finished_map w.oracle place.map)) (sym other)
  where
    in_map : Option MapView → Option MacroId
    in_map m = option_and_then (λ (held : Binding Visibility). macro_of_def held.def) (option_and_then (λ (x : MapView). x.content.binding place name Macros) m)
