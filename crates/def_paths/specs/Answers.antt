-- What a path answers: a walk from its beginning, one step for each later segment; and several answers as one.
use Rattle.std.specs.Prelude.{ℕ, suc, Bool, true, false, not, ◌==◌, ◌||◌, List, [], ◌∷◌, find, Option, Some, None, unwrap_or, if◌then◌else◌}
use Rattle.std.specs.List.{list_any}
use Rattle.std.specs.Option.{option_map, option_map_or, option_or, option_and_then}
use Rattle.tree_ids.specs.declared.name.Name.{Name}
use Rattle.def_ids.specs.declared.ids.Def.{Def}
use Rattle.def_ids.specs.declared.ids.Def.TheVariants.{Module, Enum, Variant}
use Rattle.def_paths.specs.declared.path_result.ReachedFixedPoint.{ReachedFixedPoint}
use Rattle.def_paths.specs.declared.path_result.ReachedFixedPoint.TheVariants.{Yes, No}
use Rattle.def_paths.specs.declared.path_result.ResolvePathResult.{ResolvePathResult}
use Rattle.def_sources.specs.declared.per_ns.PerNs.{PerNs}
use Rattle.def_oracle.specs.declared.source_database.EnumVariant.{EnumVariant}
use Rattle.def_sources.specs.Items.{public_item, module_item}
use Rattle.def_modules.specs.MapView.{MapView}
use Rattle.def_sources.specs.PerNs.{Item, per_namespace, nothing, in_types, is_nothing}
use Rattle.def_sources.specs.Sources.{Question, found_in, scope_source, Beginning, at_module, by_sources}

-- the answer where something on the way is missing
abbrev pub missing : Bool → ResolvePathResult
missing crossed = record { resolved_def = nothing; segment_index = None; reached_fixedpoint = No; prefix_info = record { differing_crate = crossed } }

-- the answer of a path that found its way
abbrev pub reached : PerNs → Option ℕ → Bool → ResolvePathResult
reached found index crossed = record { resolved_def = found; segment_index = index; reached_fixedpoint = Yes; prefix_info = record { differing_crate = crossed } }

-- a variant in types, and in values where it has a constructor
abbrev pub variant_found : EnumVariant → PerNs
variant_found variant =
    let item = public_item (Variant variant.id) in
    record { types = Some item; values = if variant.value_ctor then Some item else None; macros = None }

-- the variants of an enum
abbrev pub variants_of : Question → ℕ → List EnumVariant
variants_of q id = option_map_or (λ variants. variants) (option_and_then q.oracle.enum_variants (q.enum_loc id)) []

-- the first variant of a name
abbrev pub variant_named : List EnumVariant → Name → Option EnumVariant
variant_named variants name = find (λ variant. variant.name.0 == name.0) variants

-- what a definition has of the next segment, where it can have names
abbrev pub step : Question → MapView → Def → Name → Option PerNs
step q own (Module m) name = Some (per_namespace (scope_source q own m name))
step q own (Enum e) name = option_map variant_found (variant_named (variants_of q e.0) name)
step q own _ name = None

-- a look-up in a module of another crate
abbrev pub is_elsewhere : MapView → Def → Bool
is_elsewhere own (Module m) = not (m.map.krate.0 == own.facts.id.krate.0)
is_elsewhere own _ = false

-- a path that ends at a definition which has no such name: its types binding alone, and the segment that is left
abbrev pub ended_at : Item → ℕ → Bool → ResolvePathResult
ended_at item i crossed = reached (in_types item) (Some i) crossed

-- the segments from number i on, after what was found
abbrev pub walk : Question → MapView → Bool → PerNs → ℕ → List Name → ResolvePathResult
walk q own crossed found i [] = reached found None crossed
walk q own crossed found i (name ∷ names) =
    elim found.types [
      | None ↦ missing crossed
      | Some item ↦ elim (step q own item.def name) [
        | None ↦ ended_at item i crossed
        | Some next ↦ walk q own (crossed || is_elsewhere own item.def) next (suc i) names
      ]
    ]

-- a path after what its first segment means
abbrev pub answer_after : Question → MapView → PerNs → List Name → ResolvePathResult
answer_after q own found names = if is_nothing found then missing false else walk q own false found 1 names

-- a path from its beginning on
abbrev pub answer_from : Question → MapView → (Item → Bool) → Beginning → List Name → ResolvePathResult
answer_from q own keep (at_module None) names = missing false
answer_from q own keep (at_module (Some m)) names = walk q own false (in_types (module_item m)) 0 names
answer_from q own keep (by_sources sources) [] = missing false
answer_from q own keep (by_sources sources) (name ∷ names) = answer_after q own (found_in keep sources name) names

-- the first answer that has something in a namespace
abbrev pub first_resolved : (PerNs → Option Item) → List ResolvePathResult → Option Item
first_resolved field [] = None
first_resolved field (answer ∷ answers) = option_or (field answer.resolved_def) (first_resolved field answers)

-- the first answer that is not empty, and else the first of all
abbrev pub leading : ResolvePathResult → List ResolvePathResult → ResolvePathResult
leading answer answers = unwrap_or (find (λ a. not (is_nothing a.resolved_def)) (answer ∷ answers)) answer

-- whether a path found its way
abbrev pub is_reached : ReachedFixedPoint → Bool
is_reached Yes = true
is_reached No = false

-- several answers as one: in each namespace the first found, the rest of the leading answer, reached where one is
abbrev pub joined : ResolvePathResult → List ResolvePathResult → ResolvePathResult
joined answer answers = record {
  resolved_def = record {
    types = first_resolved (λ p. p.types) (answer ∷ answers);
    values = first_resolved (λ p. p.values) (answer ∷ answers);
    macros = first_resolved (λ p. p.macros) (answer ∷ answers);
  };
  segment_index = (leading answer answers).segment_index;
  reached_fixedpoint = if list_any (λ a. is_reached a.reached_fixedpoint) (answer ∷ answers) then Yes else No;
  prefix_info = (leading answer answers).prefix_info;
}
