-- What paths mean in macros: alone, and in the maps around a block.
use Rattle.std.proofs.Common.{◌≡◌, ◌∙◌, ap, sym, refl, Bool, true, false, ◌&&◌, List, [], ◌∷◌, Option, Some, None, is_none, if◌then◌else◌}
use Rattle.std.proofs.lemmas.Option.{none-some, same_Some}
use Rattle.tree_ids.specs.declared.name.Name.{Name}
use Rattle.item_tree.specs.declared.mod_path.ModPath.{ModPath}
use Rattle.item_tree.specs.declared.mod_path.PathKind.{PathKind}
use Rattle.item_tree.specs.declared.mod_path.PathKind.TheVariants.{Plain, Super, Crate, Abs, DollarCrate}
use Rattle.item_tree.specs.Paths.{as_ident, ident_of}
use Rattle.def_ids.specs.declared.ids.ModuleId.{ModuleId}
use Rattle.def_bindings.specs.declared.bindings.Namespace.TheVariants.{Macros}
use Rattle.def_modules.specs.MapView.{MapView}
use Rattle.def_sources.specs.declared.per_ns.PerNs.{PerNs}
use Rattle.def_sources.specs.Items.{is_fitting}
use Rattle.def_sources.specs.PerNs.{Item, is_nothing}
use Rattle.def_sources.specs.Sources.{Question, beginning, first_found, found_in, relative_sources}
use Rattle.def_paths.specs.declared.path_result.ResolvePathResult.{ResolvePathResult}
use Rattle.def_paths.specs.Answers.{answer_after, answer_from, first_resolved, missing, reached}
use Rattle.def_paths.specs.OuterMaps.{answer_in, answers_outside, is_alone, is_plain}

-- what an answer has in macros
abbrev macros_of : ResolvePathResult → Option Item
macros_of answer = answer.resolved_def.macros

-- a path of one segment has in macros what that has
macros-after : (q : Question) (own : MapView) (found : PerNs) → found.macros ≡ macros_of (answer_after q own found [])
macros-after q own found = by_test (is_nothing found) refl
  where
    no_macros : (x : Bool) (m : Option Item) → (x && is_none m) ≡ true → m ≡ None
    no_macros x None e = refl
    no_macros true (Some item) e = cc
    no_macros false (Some item) e = cc

    by_test : (b : Bool) → is_nothing found ≡ b → found.macros ≡ macros_of (if b then missing false else reached found None false)
    by_test true e = no_macros (is_none found.types && is_none found.values) found.macros e
    by_test false e = refl

-- what a path means in macros in one map, by its word and its segments
abbrev macros_by : Question → MapView → ModuleId → PathKind → List Name → Option Item
macros_by q own place kind names =
    macros_of (answer_from q own (is_fitting q.kind_of (if is_plain kind then (if is_alone names then q.asked.sub else None) else None)) (beginning q own place (is_alone names) kind) names)

-- a path that is a name alone
pub alone-macros : (q : Question) (own : MapView) (place : ModuleId) (path : ModPath) (name : Name) (found : Option Item) → as_ident path ≡ Some name
    → found ≡ first_found (is_fitting q.kind_of q.asked.sub) (relative_sources q own place true) name Macros → found ≡ macros_of (answer_in q place path own)
alone-macros q own place path name found is first = by_path path.kind path.segments is
  where
    by_path : (kind : PathKind) (names : List Name) → ident_of kind names ≡ Some name → found ≡ macros_by q own place kind names
    by_path Plain [] e = absurd (none-some name e)
    by_path Plain (only ∷ []) e =
        let sources = relative_sources q own place true in
        let keep = is_fitting q.kind_of q.asked.sub in
        first ∙ ap (λ x. first_found keep sources x Macros) (sym (same_Some only name e)) ∙ macros-after q own (found_in keep sources only)
    by_path Plain (only ∷ other ∷ rest) e = absurd (none-some name e)
    by_path (Super n) names e = absurd (none-some name e)
    by_path Crate names e = absurd (none-some name e)
    by_path Abs names e = absurd (none-some name e)
    by_path (DollarCrate krate) names e = absurd (none-some name e)

-- what the maps of these modules have in macros, but for those of the modules before
abbrev pub macro_around : Question → ModPath → List ModuleId → List ModuleId → Option Item
macro_around q path before places = first_resolved (λ p. p.macros) (answers_outside q path before places)
