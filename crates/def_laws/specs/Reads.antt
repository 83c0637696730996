-- What a path reads of a map in work: the names that it looks up in modules of that map, bound or not.
use Rattle.std.specs.Prelude.{Bool, false, not, ◌&&◌, List, [], ◌∷◌, ◌++◌, ◌≡◌, Option, Some, None, is_some, filter, slice_get, if◌then◌else◌}
use Rattle.std.specs.Option.{option_and_then, option_map_or}
use Rattle.item_tree.specs.declared.mod_path.ModPath.{ModPath}
use Rattle.item_tree.specs.declared.mod_path.PathKind.{PathKind}
use Rattle.item_tree.specs.declared.mod_path.PathKind.TheVariants.{Plain, Super, Crate, Abs, DollarCrate}
use Rattle.tree_ids.specs.declared.name.Name.{Name}
use Rattle.def_ids.specs.declared.ids.ModuleId.{ModuleId}
use Rattle.def_ids.specs.Ids.{crate_root, is_block_root, is_same_map}
use Rattle.def_bindings.specs.declared.bindings.Namespace.{Namespace}
use Rattle.def_bindings.specs.declared.bindings.Namespace.TheVariants.{Types}
use Rattle.def_bindings.specs.declared.visibility.Visibility.{Visibility}
use Rattle.def_bindings.specs.Content.{Content}
use Rattle.def_modules.specs.MapView.{MapView}
use Rattle.def_sources.specs.Items.{is_2015, is_fitting, is_for_import, module_of_def}
use Rattle.def_paths.specs.OuterMaps.{asked_kind}
use Rattle.def_sources.specs.PerNs.{Item}
use Rattle.def_sources.specs.Sources.{Question, Source, builtin_source, extern_source, first_found, macro_use_source, plain_sources, root_sources, scope_source, textual_source, unless_block_root}

-- a name in a module
abbrev pub Place : Type 0
Place = ModuleId × Name

-- a look-up of a name reads it, where the module is of this map: what another map binds stays
abbrev pub looked_up : MapView → ModuleId → Name → List Place
looked_up own m name = if is_same_map m.map own.facts.id then (m, name) ∷ [] else []

-- the module that an item is, if there is one
abbrev pub module_in : Option Item → Option ModuleId
module_in item = option_and_then (λ i. module_of_def i.def) item

-- what the segments after a module read: each is looked up in the module that those before it lead to
unfoldable pub reads_after : Question → MapView → Option ModuleId → List Name → List Place
reads_after q own None names = []
reads_after q own (Some m) [] = []
reads_after q own (Some m) (name ∷ names) = looked_up own m name ++ reads_after q own (module_in (scope_source q own m name Types)) names

-- what a first segment and those after it read, where it is looked up from the crate's root
abbrev pub reads_from_root : Question → MapView → (Item → Bool) → List Name → List Place
reads_from_root q own keep [] = []
reads_from_root q own keep (name ∷ names) =
    looked_up own (crate_root own.facts.id.krate) name ++ reads_after q own (module_in (first_found keep (root_sources q own) name Types)) names

-- that of a first segment that is the name of a crate
abbrev pub reads_from_crate : Question → MapView → (Item → Bool) → List Name → List Place
reads_from_crate q own keep [] = []
reads_from_crate q own keep (name ∷ names) = reads_after q own (module_in (first_found keep (extern_source q ∷ []) name Types)) names

-- the sources of a first segment that come before the prelude, where others follow it
abbrev pub before_prelude : Question → MapView → ModuleId → List Source
before_prelude q own place =
    textual_source q own place ∷ scope_source q own place ∷ builtin_source q own ∷ unless_block_root place (extern_source q) ∷ macro_use_source own ∷ []

-- a first segment is looked up in the prelude's module, but from a block's root
abbrev pub reads_prelude : MapView → ModuleId → Name → List Place
reads_prelude own place name = if is_block_root place then [] else option_map_or (λ prelude. looked_up own prelude name) own.facts.prelude []

-- what a plain path reads: where others follow the first segment, only types count, and what has it there hides the prelude
abbrev pub reads_plain : Question → MapView → (Item → Bool) → ModuleId → List Name → List Place
reads_plain q own keep place [] = []
reads_plain q own keep place (name ∷ []) = looked_up own place name ++ reads_prelude own place name
reads_plain q own keep place (name ∷ next ∷ names) =
    looked_up own place name
    ++ ((if is_some (first_found keep (before_prelude q own place) name Types) then [] else reads_prelude own place name)
    ++ reads_after q own (module_in (first_found keep (plain_sources q own place false) name Types)) (next ∷ names))

-- what a path reads, by its kind
abbrev pub reads_by_kind : Question → MapView → (Item → Bool) → ModuleId → PathKind → List Name → List Place
reads_by_kind q own keep place Crate names = reads_after q own (Some (crate_root own.facts.id.krate)) names
reads_by_kind q own keep place (DollarCrate krate) names = reads_after q own (Some (crate_root krate)) names
reads_by_kind q own keep place (Super n) names = reads_after q own (slice_get (filter (λ m. not (is_block_root m)) (own.facts.chain place)) n) names
reads_by_kind q own keep place Abs names = if is_2015 own.facts.edition then reads_from_root q own keep names else reads_from_crate q own keep names
reads_by_kind q own keep place Plain names =
    if is_2015 own.facts.edition && is_for_import q.asked.mode then reads_from_root q own keep names else reads_plain q own keep place names

-- what a path reads
abbrev pub reads : Question → MapView → ModuleId → ModPath → List Place
reads q own place path = reads_by_kind q own (is_fitting q.kind_of (asked_kind q path)) place path.kind path.segments

-- two contents bind the same at a place
abbrev pub AgreesAt : Content Visibility → Content Visibility → Place → Type 0
AgreesAt a b place = (ns : Namespace) → a.binding place.0 place.1 ns ≡ b.binding place.0 place.1 ns
