-- A path answers as before while nothing of what it reads changes.
use Rattle.std.proofs.Common.{◌≡◌, ◌∙◌, ap, refl, sym, Bool, true, false, ◌&&◌, ◌||◌, not, ℕ, suc, List, [], ◌∷◌, ◌++◌, All, Option, Some, None, is_none, is_some}
use Rattle.std.proofs.lemmas.List.Elements.{All-cons, All-head, All-nil, All-tail}
use Rattle.std.specs.Prelude.{filter, slice_get, if◌then◌else◌}
use Rattle.std.specs.Option.{option_and_then, option_map, option_map_or, option_or}
use Rattle.item_tree.specs.declared.mod_path.ModPath.{ModPath}
use Rattle.item_tree.specs.declared.mod_path.PathKind.{PathKind}
use Rattle.item_tree.specs.declared.mod_path.PathKind.TheVariants.{Plain, Super, Crate, Abs, DollarCrate}
use Rattle.tree_ids.specs.declared.name.Name.{Name}
use Rattle.def_ids.specs.declared.ids.Def.{Def}
use Rattle.def_ids.specs.declared.ids.Def.TheVariants.{Module, Function, Struct, Union, Enum, Variant, Const, Static, Trait, TypeAlias, Builtin, Macro}
use Rattle.def_ids.specs.declared.ids.ModuleId.{ModuleId}
use Rattle.def_ids.specs.Ids.{crate_root, is_block_root, is_same_map}
use Rattle.def_bindings.specs.declared.bindings.Namespace.{Namespace}
use Rattle.def_bindings.specs.declared.bindings.Namespace.TheVariants.{Types, Values, Macros}
use Rattle.def_bindings.specs.declared.visibility.Visibility.{Visibility}
use Rattle.def_bindings.specs.Content.{Content}
use Rattle.def_modules.specs.MapView.{MapView}
use Rattle.def_oracle.specs.declared.source_database.EnumVariant.{EnumVariant}
use Rattle.def_paths.specs.declared.path_result.ResolvePathResult.{ResolvePathResult}
use Rattle.def_sources.specs.declared.per_ns.PerNs.{PerNs}
use Rattle.def_paths.specs.Answers.{answer_after, answer_from, ended_at, is_elsewhere, joined, missing, step, variant_found, variant_named, variants_of, walk}
use Rattle.def_sources.specs.Items.{is_2015, is_builtin_first, is_fitting, is_for_import, is_module_item, module_item, module_of_def, public_item}
use Rattle.def_paths.specs.OuterMaps.{answer_of, answers_outside, asked_kind, is_alone, is_plain}
use Rattle.def_sources.specs.PerNs.{Item, kept, is_nothing, in_types, per_namespace}
use Rattle.def_sources.specs.Sources.{Question, Source, at_module, beginning, builtin_source, by_sources, extern_source, finished_map, first_found, found_in, macro_use_source, outer_sources, plain_sources, prelude_source, root_sources, scope_and_builtin, scope_source, textual_source, unless_block_root}
use Rattle.def_sources.proofs.SourcesLemmas.{first_found-append, per_namespace-equal}
use Rattle.def_laws.specs.Reads.{AgreesAt, Place, before_prelude, looked_up, module_in, reads, reads_after, reads_by_kind, reads_from_crate, reads_from_root, reads_plain, reads_prelude}

firsts : (P : Place → Type 0) (xs ys : List Place) → All P (xs ++ ys) → All P xs
firsts P [] ys all = All-nil P
firsts P (x ∷ xs) ys all = All-cons P x xs (All-head P x (xs ++ ys) all) (firsts P xs ys (All-tail P x (xs ++ ys) all))

others : (P : Place → Type 0) (xs ys : List Place) → All P (xs ++ ys) → All P ys
others P [] ys all = all
others P (x ∷ xs) ys all = others P xs ys (All-tail P x (xs ++ ys) all)

-- what comes first stays, whatever comes behind it
some_first : (o p : Option Item) → is_some o ≡ true → option_or o p ≡ o
some_first (Some x) p some = refl
some_first None p some = absurd (let wrong = some in cc)

-- one more source, where each source has the same
found_more : {a b x y : Option Item} (keep : Item → Bool) → a ≡ b → x ≡ y → option_or (kept keep a) x ≡ option_or (kept keep b) y
found_more {a} {b} {x} {y} keep here there = ap (λ i. option_or (kept keep i) x) here ∙ ap (option_or (kept keep b)) there

same : (o : Option Item) → o ≡ o
same o = refl

-- what is answered behind a step, and where there is none
abbrev going_on : Question → MapView → Bool → ResolvePathResult → ℕ → List Name → Option PerNs → ResolvePathResult
going_on q m crossed end i names None = end
going_on q m crossed end i names (Some next) = walk q m crossed next i names

-- an item in types alone, if there is one
abbrev only : Option Item → PerNs
only item = record { types = item; values = None; macros = None }

module _ (q : Question) (own : MapView) (c : Content Visibility) where
  abbrev other : MapView
  other = record own { content = c }

  abbrev agree : Place → Type 0
  agree = AgreesAt c own.content

  abbrev Agrees : List Place → Type 0
  Agrees = All agree

  scope_same : (m : ModuleId) (name : Name) → Agrees (looked_up own m name) → (ns : Namespace) → scope_source q other m name ns ≡ scope_source q own m name ns
  scope_same m name agrees ns = by_map (is_same_map m.map own.facts.id) agrees
    where
      by_map : (here : Bool) → Agrees (if here then (m, name) ∷ [] else [])
          → option_and_then (λ (there : MapView). there.content.binding m name ns) (if here then Some other else finished_map q.oracle m.map)
          ≡ option_and_then (λ (there : MapView). there.content.binding m name ns) (if here then Some own else finished_map q.oracle m.map)
      by_map true all = All-head (AgreesAt c own.content) (m, name) [] all ns
      by_map false all = refl

  textual_same : (m : ModuleId) (name : Name) (ns : Namespace) → textual_source q other m name ns ≡ textual_source q own m name ns
  textual_same m name Types = refl
  textual_same m name Values = refl
  textual_same m name Macros = by_map (is_same_map m.map own.facts.id)
    where
      by_map : (here : Bool)
          → option_map (λ n. public_item (Macro n)) (option_and_then (λ (there : MapView). there.facts.textual_macro m name) (if here then Some other else finished_map q.oracle m.map))
          ≡ option_map (λ n. public_item (Macro n)) (option_and_then (λ (there : MapView). there.facts.textual_macro m name) (if here then Some own else finished_map q.oracle m.map))
      by_map true = refl
      by_map false = refl

  builtin_same : (name : Name) (ns : Namespace) → builtin_source q other name ns ≡ builtin_source q own name ns
  builtin_same name Types = refl
  builtin_same name Values = refl
  builtin_same name Macros = refl

  macro_use_same : (name : Name) (ns : Namespace) → macro_use_source other name ns ≡ macro_use_source own name ns
  macro_use_same name Types = refl
  macro_use_same name Values = refl
  macro_use_same name Macros = refl

  prelude_same : (place : ModuleId) (name : Name) → Agrees (reads_prelude own place name) → (ns : Namespace) → unless_block_root place (prelude_source q other) name ns ≡ unless_block_root place (prelude_source q own) name ns
  prelude_same place name agrees ns = by_root (is_block_root place) own.facts.prelude agrees
    where
      by_root : (root : Bool) (prelude : Option ModuleId) → Agrees (if root then [] else option_map_or (λ p. looked_up own p name) prelude [])
          → (if root then None else option_and_then (λ p. scope_source q other p name ns) prelude) ≡ (if root then None else option_and_then (λ p. scope_source q own p name ns) prelude)
      by_root true prelude all = refl
      by_root false None all = refl
      by_root false (Some p) all = scope_same p name all ns

  -- the segments after what was found
  walk_same : (crossed : Bool) (found : PerNs) (i : ℕ) (names : List Name) → Agrees (reads_after q own (module_in found.types) names) → walk q other crossed found i names ≡ walk q own crossed found i names
  unfolding reads_after
  walk_same crossed found i [] agrees = refl
  walk_same crossed found i (name ∷ names) agrees = by_types (λ k n all. walk_same k n (suc i) names all) found.types agrees
    where
      by_names : (k : Bool) (v : EnumVariant) (ns : List Name) → walk q other k (variant_found v) (suc i) ns ≡ walk q own k (variant_found v) (suc i) ns
      by_names k v [] = refl
      by_names k v (n ∷ ns) = refl

      by_variant : (k : Bool) (end : ResolvePathResult) (v : Option EnumVariant)
          → going_on q other k end (suc i) names (option_map variant_found v) ≡ going_on q own k end (suc i) names (option_map variant_found v)
      by_variant k end None = refl
      by_variant k end (Some v) = by_names k v names

      by_def : ((k : Bool) (n : PerNs) → Agrees (reads_after q own (module_in n.types) names) → walk q other k n (suc i) names ≡ walk q own k n (suc i) names)
          → (end : ResolvePathResult) (d : Def) → Agrees (reads_after q own (module_of_def d) (name ∷ names))
          → going_on q other (crossed || is_elsewhere own d) end (suc i) names (step q other d name) ≡ going_on q own (crossed || is_elsewhere own d) end (suc i) names (step q own d name)
      by_def again end (Module m) all =
          let here = firsts agree (looked_up own m name) (reads_after q own (module_in (scope_source q own m name Types)) names) all in
          let next : per_namespace (scope_source q other m name) ≡ per_namespace (scope_source q own m name) =
          per_namespace-equal _ _ (scope_same m name here Types) (scope_same m name here Values) (scope_same m name here Macros) in
          ap (λ n. walk q other (crossed || is_elsewhere own (Module m)) n (suc i) names) next
          ∙ again (crossed || is_elsewhere own (Module m)) (per_namespace (scope_source q own m name)) (others agree (looked_up own m name) _ all)
      by_def again end (Enum e) all = by_variant (crossed || false) end (variant_named (variants_of q e.0) name)
      by_def again end (Function f) all = refl
      by_def again end (Struct f) all = refl
      by_def again end (Union f) all = refl
      by_def again end (Variant f) all = refl
      by_def again end (Const f) all = refl
      by_def again end (Static f) all = refl
      by_def again end (Trait f) all = refl
      by_def again end (TypeAlias f) all = refl
      by_def again end (Builtin f) all = refl
      by_def again end (Macro f) all = refl

      by_types : ((k : Bool) (n : PerNs) → Agrees (reads_after q own (module_in n.types) names) → walk q other k n (suc i) names ≡ walk q own k n (suc i) names)
          → (types : Option Item) → Agrees (reads_after q own (module_in types) (name ∷ names))
          → walk q other crossed (only types) i (name ∷ names) ≡ walk q own crossed (only types) i (name ∷ names)
      by_types again None all = refl
      by_types again (Some item) all = by_def again (ended_at item i crossed) item.def all

  nothing_after : (m : Option ModuleId) → Agrees (reads_after q own m [])
  unfolding reads_after
  nothing_after None = All-nil (AgreesAt c own.content)
  nothing_after (Some m) = All-nil (AgreesAt c own.content)

  module _ (keep : Item → Bool) where
    -- a path whose first segment means the same in each namespace
    sources_answer : (S T : List Source) (name : Name) (names : List Name) → ((ns : Namespace) → first_found keep S name ns ≡ first_found keep T name ns)
        → Agrees (reads_after q own (module_in (first_found keep T name Types)) names)
        → answer_from q other keep (by_sources S) (name ∷ names) ≡ answer_from q own keep (by_sources T) (name ∷ names)
    sources_answer S T name names all agrees =
        ap (λ found. answer_after q other found names) (per_namespace-equal (found_in keep S name) (found_in keep T name) (all Types) (all Values) (all Macros))
        ∙ ap (λ w. if is_nothing (found_in keep T name) then missing false else w) (walk_same false (found_in keep T name) 1 names agrees)

    -- with more segments behind it, types are all that counts
    by_types_alone : (m : MapView) (found : PerNs) (name : Name) (names : List Name) → answer_after q m found (name ∷ names) ≡ walk q m false (only found.types) 1 (name ∷ names)
    by_types_alone m found name names = by_types found.types (is_none found.values) (is_none found.macros)
      where
        by_types : (types : Option Item) (values macros : Bool)
            → (if (is_none types && values) && macros then missing false else walk q m false (only types) 1 (name ∷ names)) ≡ walk q m false (only types) 1 (name ∷ names)
        by_types None true true = refl
        by_types None true false = refl
        by_types None false macros = refl
        by_types (Some item) values macros = refl

    types_answer : (S T : List Source) (name next : Name) (names : List Name) → first_found keep S name Types ≡ first_found keep T name Types
        → Agrees (reads_after q own (module_in (first_found keep T name Types)) (next ∷ names))
        → answer_from q other keep (by_sources S) (name ∷ next ∷ names) ≡ answer_from q own keep (by_sources T) (name ∷ next ∷ names)
    types_answer S T name next names types agrees =
        by_types_alone other (found_in keep S name) next names
        ∙ ap (λ t. walk q other false (only t) 1 (next ∷ names)) types
        ∙ walk_same false (only (first_found keep T name Types)) 1 (next ∷ names) agrees
        ∙ sym (by_types_alone own (found_in keep T name) next names)

    root_answer : (names : List Name) → Agrees (reads_from_root q own keep names) → answer_from q other keep (by_sources (root_sources q other)) names ≡ answer_from q own keep (by_sources (root_sources q own)) names
    root_answer [] agrees = refl
    root_answer (name ∷ names) agrees =
        let root = crate_root own.facts.id.krate in
        sources_answer (root_sources q other) (root_sources q own) name names
        (λ ns. found_more keep (scope_same root name (firsts agree (looked_up own root name) _ agrees) ns) refl)
        (others agree (looked_up own root name) _ agrees)

    crate_answer : (names : List Name) → Agrees (reads_from_crate q own keep names) → answer_from q other keep (by_sources (extern_source q ∷ [])) names ≡ answer_from q own keep (by_sources (extern_source q ∷ [])) names
    crate_answer [] agrees = refl
    crate_answer (name ∷ names) agrees = sources_answer (extern_source q ∷ []) (extern_source q ∷ []) name names (λ ns. refl) agrees

    outer_same : (place : ModuleId) (name : Name) → Agrees (reads_prelude own place name) → (ns : Namespace) → first_found keep (outer_sources q other place) name ns ≡ first_found keep (outer_sources q own place) name ns
    outer_same place name agrees ns =
        found_more keep (same (unless_block_root place (extern_source q) name ns)) (found_more keep (macro_use_same name ns) (found_more keep (prelude_same place name agrees ns) (same None)))

    plain_same : (place : ModuleId) (first : Bool) (name : Name) → Agrees (looked_up own place name) → Agrees (reads_prelude own place name) → (ns : Namespace)
        → first_found keep (textual_source q other place ∷ (scope_and_builtin first q other place ++ outer_sources q other place)) name ns
        ≡ first_found keep (textual_source q own place ∷ (scope_and_builtin first q own place ++ outer_sources q own place)) name ns
    plain_same place true name here prelude ns =
        found_more keep (textual_same place name ns)
        (found_more keep (ap (kept (λ item. not (is_module_item item))) (scope_same place name here ns))
        (found_more keep (builtin_same name ns)
        (found_more keep (scope_same place name here ns) (outer_same place name prelude ns))))
    plain_same place false name here prelude ns =
        found_more keep (textual_same place name ns)
        (found_more keep (scope_same place name here ns)
        (found_more keep (builtin_same name ns) (outer_same place name prelude ns)))

    before_same : (place : ModuleId) (name : Name) → Agrees (looked_up own place name) → first_found keep (before_prelude q other place) name Types ≡ first_found keep (before_prelude q own place) name Types
    before_same place name here =
        found_more keep (textual_same place name Types)
        (found_more keep (scope_same place name here Types)
        (found_more keep (builtin_same name Types)
        (found_more keep (same (unless_block_root place (extern_source q) name Types)) (found_more keep (macro_use_same name Types) (same None)))))

    -- the prelude counts only where nothing before it has the name in types
    types_same : (place : ModuleId) (name : Name) (hidden : Bool) → is_some (first_found keep (before_prelude q own place) name Types) ≡ hidden
        → Agrees (looked_up own place name) → Agrees (if hidden then [] else reads_prelude own place name)
        → first_found keep (plain_sources q other place false) name Types ≡ first_found keep (plain_sources q own place false) name Types
    types_same place name false hidden here prelude = plain_same place false name here prelude Types
    types_same place name true hidden here prelude =
        let last : MapView → List Source = λ m. unless_block_root place (prelude_source q m) ∷ [] in
        first_found-append keep (before_prelude q other place) (last other) name Types
        ∙ ap (λ o. option_or o (first_found keep (last other) name Types)) (before_same place name here)
        ∙ some_first (first_found keep (before_prelude q own place) name Types) (first_found keep (last other) name Types) hidden
        ∙ sym (some_first (first_found keep (before_prelude q own place) name Types) (first_found keep (last own) name Types) hidden)
        ∙ sym (first_found-append keep (before_prelude q own place) (last own) name Types)

    plain_answer : (place : ModuleId) (names : List Name) → Agrees (reads_plain q own keep place names)
        → answer_from q other keep (by_sources (plain_sources q other place (is_alone names))) names ≡ answer_from q own keep (by_sources (plain_sources q own place (is_alone names))) names
    plain_answer place [] agrees = refl
    plain_answer place (name ∷ []) agrees =
        sources_answer (plain_sources q other place true) (plain_sources q own place true) name []
        (plain_same place (is_builtin_first q.asked.shadow) name (firsts agree (looked_up own place name) _ agrees) (others agree (looked_up own place name) _ agrees))
        (nothing_after (module_in (first_found keep (plain_sources q own place true) name Types)))
    plain_answer place (name ∷ next ∷ names) agrees =
        let hidden = is_some (first_found keep (before_prelude q own place) name Types) in
        let prelude : List Place = if hidden then [] else reads_prelude own place name in
        let behind = others agree (looked_up own place name) _ agrees in
        types_answer (plain_sources q other place false) (plain_sources q own place false) name next names
        (types_same place name hidden refl (firsts agree (looked_up own place name) _ agrees) (firsts agree prelude _ behind)) (others agree prelude _ behind)

    module_answer : (m : Option ModuleId) (names : List Name) → Agrees (reads_after q own m names) → answer_from q other keep (at_module m) names ≡ answer_from q own keep (at_module m) names
    module_answer None names agrees = refl
    module_answer (Some m) names agrees = walk_same false (in_types (module_item m)) 0 names agrees

    kind_answer : (place : ModuleId) (kind : PathKind) (names : List Name) → Agrees (reads_by_kind q own keep place kind names)
        → answer_from q other keep (beginning q other place (is_alone names) kind) names ≡ answer_from q own keep (beginning q own place (is_alone names) kind) names
    kind_answer place Crate names agrees = module_answer (Some (crate_root own.facts.id.krate)) names agrees
    kind_answer place (DollarCrate krate) names agrees = module_answer (Some (crate_root krate)) names agrees
    kind_answer place (Super n) names agrees = module_answer (slice_get (filter (λ m. not (is_block_root m)) (own.facts.chain place)) n) names agrees
    kind_answer place Abs names agrees = by_edition (is_2015 own.facts.edition) agrees
      where
        by_edition : (old : Bool) → Agrees (if old then reads_from_root q own keep names else reads_from_crate q own keep names)
            → answer_from q other keep (by_sources (if old then root_sources q other else extern_source q ∷ [])) names ≡ answer_from q own keep (by_sources (if old then root_sources q own else extern_source q ∷ [])) names
        by_edition true all = root_answer names all
        by_edition false all = crate_answer names all
    kind_answer place Plain names agrees = by_edition (is_2015 own.facts.edition && is_for_import q.asked.mode) agrees
      where
        by_edition : (old : Bool) → Agrees (if old then reads_from_root q own keep names else reads_plain q own keep place names)
            → answer_from q other keep (by_sources (if old then root_sources q other else plain_sources q other place (is_alone names))) names
            ≡ answer_from q own keep (by_sources (if old then root_sources q own else plain_sources q own place (is_alone names))) names
        by_edition true all = root_answer names all
        by_edition false all = plain_answer place names all

  -- what a path answers stays, whatever else of the content changes
  pub answer_same : (place : ModuleId) (path : ModPath) → All (AgreesAt c own.content) (reads q own place path) → answer_of q (record own { content = c }) place path ≡ answer_of q own place path
  answer_same place path agrees =
      ap (λ answer. joined answer (if is_plain path.kind && is_block_root place then answers_outside q path [] own.facts.containing else []))
      (kind_answer (is_fitting q.kind_of (asked_kind q path)) place path.kind path.segments agrees)
