-- Globs: what one brings, what it was recorded with, and names that travel along edges.
use Rattle.std.specs.Prelude.{Bool, true, false, cond, ◌||◌, List, [], ◌∷◌, ◌++◌, Option, None, Some, unwrap_or}
use Rattle.std.specs.List.{flat_map}
use Rattle.tree_ids.specs.declared.name.Name.{Name}
use Rattle.def_ids.specs.declared.ids.Def.{Def}
use Rattle.def_ids.specs.declared.ids.Def.TheVariants as def
use Rattle.def_ids.specs.declared.ids.GlobId.{GlobId}
use Rattle.def_ids.specs.declared.ids.ModuleId.{ModuleId}
use Rattle.def_ids.specs.declared.ids.TraitId.{TraitId}
use Rattle.def_ids.specs.Equality.{def_eq, glob_eq}
use Rattle.def_bindings.specs.declared.bindings.EdgeTo.{EdgeTo}
use Rattle.def_bindings.specs.declared.bindings.Entry.{Entry}
use Rattle.def_bindings.specs.declared.bindings.ImportOrExternCrate.TheVariants.{Glob}
use Rattle.def_bindings.specs.declared.bindings.Namespace.{Namespace}
use Rattle.def_bindings.specs.declared.bindings.Namespace.TheVariants.{Types, Values, Macros}
use Rattle.def_bindings.specs.declared.visibility.Visibility.{Visibility}
use Rattle.def_bindings.specs.declared.visibility.Visibility.TheVariants.{Public}
use Rattle.def_bindings.specs.Content.{Content}
use Rattle.def_bindings.specs.Order.{Order}
use Rattle.def_bindings.specs.Puts.{lessened}
use Rattle.def_oracle.specs.declared.source_database.EnumVariant.{EnumVariant}
use Rattle.def_paths.specs.Answers.{variant_found}
use Rattle.def_modules.specs.MapView.{MapView}
use Rattle.def_sources.specs.PerNs.{Item, kept}

-- What a glob brings

-- whether something is public
abbrev pub is_public : Visibility → Bool
is_public Public = true
is_public _ = false

-- what a glob sees of a module: of its own crate what its importer sees, of another crate what is public
abbrev pub glob_sees : Order Visibility → Bool → ModuleId → Visibility → Bool
glob_sees o true importer vis = o.can_see importer vis
glob_sees o false importer vis = is_public vis

-- the entry of what a glob brings in a namespace, if there is something: it is at most as visible as the glob
abbrev pub brought : Order Visibility → EdgeTo Visibility → Name → Namespace → Option Item → List (Entry Visibility)
brought o glob name ns None = []
brought o glob name ns (Some item) =
    record { name = Some name; ns = ns; def = item.def; vis = lessened o item.vis glob.vis; origin = Some (Glob glob.glob) } ∷ []

-- what a module binds in a namespace, if the glob sees it
abbrev pub seen : Order Visibility → EdgeTo Visibility → Bool → Content Visibility → ModuleId → Name → Namespace → Option Item
seen o glob own content source name ns = kept (λ item. glob_sees o own glob.importer item.vis) (content.binding source name ns)

-- the entries of one name of a module, in types, values and macros
abbrev pub name_entries : Order Visibility → EdgeTo Visibility → Bool → Content Visibility → ModuleId → Name → List (Entry Visibility)
name_entries o glob own content source name =
    brought o glob name Types (seen o glob own content source name Types)
    ++ (brought o glob name Values (seen o glob own content source name Values)
    ++ brought o glob name Macros (seen o glob own content source name Macros))

-- the entry of an unnamed trait of a module, if the glob sees it
abbrev pub unnamed_entry : Order Visibility → EdgeTo Visibility → Bool → TraitId × Visibility → List (Entry Visibility)
unnamed_entry o glob own held =
    cond (glob_sees o own glob.importer held.1)
    (record { name = None; ns = Types; def = def.Trait held.0; vis = lessened o held.1 glob.vis; origin = Some (Glob glob.glob) } ∷ [])
    []

-- the entries of all that a module binds and the glob sees: its names in first-bound order, and then its unnamed traits
abbrev pub scope_entries : Order Visibility → EdgeTo Visibility → Bool → Content Visibility → ModuleId → List (Entry Visibility)
scope_entries o glob own content source =
    flat_map (name_entries o glob own content source) (content.names source) ++ flat_map (unnamed_entry o glob own) (content.unnamed source)

-- the entries of a module of this map; a map that is not there has none
abbrev pub module_entries : Order Visibility → EdgeTo Visibility → Bool → Option MapView → ModuleId → List (Entry Visibility)
module_entries o glob own None source = []
module_entries o glob own (Some map) source = scope_entries o glob own map.content source

-- the entries of a variant, in types, and in values where it has a constructor
abbrev pub variant_entries : Order Visibility → EdgeTo Visibility → EnumVariant → List (Entry Visibility)
variant_entries o glob variant =
    brought o glob variant.name Types (variant_found variant).types ++ brought o glob variant.name Values (variant_found variant).values

-- What a glob was recorded with

-- the definitions that each recorded glob was recorded with
abbrev pub Targets : Type 0
Targets = GlobId → Option (List Def)

-- whether a definition is in a list
abbrev pub is_among : Def → List Def → Bool
is_among d [] = false
is_among d (other ∷ rest) = def_eq other d || is_among d rest

-- a list with a definition, once
abbrev pub with_def : Def → List Def → List Def
with_def d defs = cond (is_among d defs) defs (defs ++ d ∷ [])

-- a glob was recorded with one more definition
abbrev pub with_target : GlobId → Def → Targets → Targets
with_target glob d targets g = cond (glob_eq glob g) (Some (with_def d (unwrap_or (targets glob) []))) (targets g)
