-- What a path means in one map, and from a block's root also in the maps around the block.
use Rattle.std.specs.Prelude.{Bool, true, false, ◌&&◌, List, [], ◌∷◌, ◌++◌, filter_map, Option, None, if◌then◌else◌}
use Rattle.std.specs.List.{list_any}
use Rattle.std.specs.Option.{option_map}
use Rattle.item_tree.specs.declared.mod_path.ModPath.{ModPath}
use Rattle.item_tree.specs.declared.mod_path.PathKind.{PathKind}
use Rattle.item_tree.specs.declared.mod_path.PathKind.TheVariants.{Plain}
use Rattle.tree_ids.specs.declared.name.Name.{Name}
use Rattle.def_ids.specs.declared.ids.ModuleId.{ModuleId}
use Rattle.def_ids.specs.Ids.{is_same_map, is_block_root}
use Rattle.def_paths.specs.declared.path_result.ResolvePathResult.{ResolvePathResult}
use Rattle.def_sources.specs.declared.per_ns.MacroSubNs.{MacroSubNs}
use Rattle.def_paths.specs.Answers.{answer_from, joined}
use Rattle.def_sources.specs.Items.{is_fitting}
use Rattle.def_modules.specs.MapView.{MapView}
use Rattle.def_sources.specs.Sources.{Question, beginning, finished_map}

-- a path of one segment
abbrev pub is_alone : List Name → Bool
is_alone [] = false
is_alone (name ∷ []) = true
is_alone (name ∷ _ ∷ _) = false

-- whether a path has no word before it
abbrev pub is_plain : PathKind → Bool
is_plain Plain = true
is_plain _ = false

-- the macros that count in each source: a plain path of one segment may ask for some only
abbrev pub asked_kind : Question → ModPath → Option MacroSubNs
asked_kind q path = if is_plain path.kind then (if is_alone path.segments then q.asked.sub else None) else None

-- what a path means in one map
abbrev pub answer_in : Question → ModuleId → ModPath → MapView → ResolvePathResult
answer_in q place path own =
    answer_from q own (is_fitting q.kind_of (asked_kind q path)) (beginning q own place (is_alone path.segments) path.kind) path.segments

-- the first module of each map, but for the maps of those before
abbrev pub first_of_each_map : List ModuleId → List ModuleId → List ModuleId
first_of_each_map before [] = []
first_of_each_map before (m ∷ ms) =
    if list_any (λ b. is_same_map b.map m.map) before then first_of_each_map (before ++ m ∷ []) ms
    else m ∷ first_of_each_map (before ++ m ∷ []) ms

-- what a path means in the map of a module, asked from there
abbrev pub answer_outside : Question → ModPath → ModuleId → Option ResolvePathResult
answer_outside q path m = option_map (answer_in q m path) (finished_map q.oracle m.map)

-- what a path means in the maps around a block, in each from its nearest module
abbrev pub answers_outside : Question → ModPath → List ModuleId → List ModuleId → List ResolvePathResult
answers_outside q path before ms = filter_map (answer_outside q path) (first_of_each_map before ms)

-- what a path means: in its map, and from a block's root also in the maps around it
abbrev pub answer_of : Question → MapView → ModuleId → ModPath → ResolvePathResult
answer_of q own place path =
    joined (answer_in q place path own)
    (if is_plain path.kind && is_block_root place then answers_outside q path [] own.facts.containing else [])
