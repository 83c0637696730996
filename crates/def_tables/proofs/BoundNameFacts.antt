-- What a name stands for that is kept small, at worked rows.
use Rattle.std.proofs.Common.{◌≡◌, Some, None, refl}
use Rattle.def_ids.specs.declared.ids.MapId.{MapId}
use Rattle.def_ids.specs.declared.ids.Def.TheVariants as def
use Rattle.def_bindings.specs.declared.bindings.Namespace.TheVariants.{Types, Values, Macros}
use Rattle.def_bindings.specs.declared.bindings.Binding.{Binding}
use Rattle.def_bindings.specs.declared.bindings.ImportOrExternCrate.TheVariants as origin
use Rattle.def_bindings.specs.declared.visibility.Visibility.{Visibility}
use Rattle.def_bindings.specs.declared.visibility.Visibility.TheVariants as visibility
use Rattle.def_tables.specs.declared.bound_name.BoundName.{BoundName}
use Rattle.def_tables.specs.declared.bound_name.BoundName.TheVariants.{One}
use Rattle.def_tables.specs.declared.short.Kind.TheVariants as kind
use Rattle.def_tables.specs.declared.short.Source.TheVariants as source
use Rattle.def_bindings.specs.NameBindings.{bound_in}
use Rattle.def_tables.specs.declared.kept.VisNumber.{VisNumber}
use Rattle.def_tables.specs.Kept.{numbered_vis}
use Rattle.def_tables.specs.BoundName.{stands_for, with_namespace}

module _ (map : MapId) where
  -- a public struct that is declared
  abbrev struct_alone : BoundName Visibility VisNumber
  struct_alone = One Types kind.Struct source.Declaration 0 7 (record { 0 = 0 }) 0

  abbrev struct_binding : Binding Visibility
  struct_binding = record { def = def.Struct (record { 0 = 7 }); vis = visibility.Public; import = None }

  alone : (stands_for numbered_vis map struct_alone Types ≡ Some struct_binding) × (stands_for numbered_vis map struct_alone Values ≡ None) × (stands_for numbered_vis map struct_alone Macros ≡ None)
  alone = (refl, refl, refl)

  -- a module that the third import of a `use` brings, seen in the module with index 4
  abbrev module_alone : BoundName Visibility VisNumber
  module_alone = One Types kind.Module source.Import 3 1 (record { 0 = 6 }) 5

  imported : stands_for numbered_vis map module_alone Types ≡ Some (record {
    def = def.Module (record { map = map; index = 1 });
    vis = visibility.Module (record { map = map; index = 4 });
    import = Some (origin.Import (record { use_id = record { 0 = 5 }; idx = 3 }));
  })
  imported = refl

  -- one namespace changed, and the others not
  changed : (b : Binding Visibility) → (with_namespace (stands_for numbered_vis map struct_alone) Values (Some b) Types ≡ Some struct_binding) × (with_namespace (stands_for numbered_vis map struct_alone) Values (Some b) Values ≡ Some b) × (with_namespace (stands_for numbered_vis map struct_alone) Types None Types ≡ None)
  changed b = (refl, refl, refl)

-- the three together, by namespace
kept : (t v : Binding Visibility) → (bound_in (record { types = Some t; values = Some v; macros = None }) Types ≡ Some t) × (bound_in (record { types = Some t; values = Some v; macros = None }) Values ≡ Some v) × (bound_in (record { types = Some t; values = Some v; macros = None }) Macros ≡ None)
kept t v = (refl, refl, refl)
