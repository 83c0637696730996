-- Helpers that are read one after the other, and deferred derives that are expanded so.
use Rattle.std.proofs.Common.{◌≡◌, ◌+◌, ◌<◌, ◌≤◌, ℕ, true, false, ◌||◌, List, [], ◌∷◌, ◌++◌, append_assoc, length, map, take, drop, get_or, Option, ap, sym, subst, ◌∙◌}
use Rattle.std.proofs.lemmas.List.{at_drop_all, at_drop_more, map-append, take_all, take_more}
use Rattle.tree_ids.specs.declared.ids.ModItemId.{ModItemId}
use Rattle.tree_ids.specs.declared.ids.TreeId.{TreeId}
use Rattle.tree_ids.specs.declared.name.Name.{Name}
use Rattle.item_tree.specs.declared.items.ItemNode.{ItemNode}
use Rattle.item_tree.specs.KnownNames.{name_eq}
use Rattle.def_calls.specs.declared.directives.Expansion.{Expansion}
use Rattle.def_calls.specs.Shown.{expansion_shown}
use Rattle.def_map.specs.Oracle.{Oracle}
use Rattle.def_modules.specs.Maps.{with_helper}
use Rattle.def_modules.specs.MapState.{MapState, Position, ShownHelper}
use Rattle.def_rules.specs.declared.deferred.DeferredDerive.{DeferredDerive}
use Rattle.def_rules.specs.Attributes.{helps}
use Rattle.def_rules.specs.Calls.{each_helped, helped, with_helpers}
use Rattle.def_rules.specs.Deferred.{deferred_expansion}
use Rattle.def_rules.specs.Items.{node_at}
use Rattle.def_rules.specs.Waiting as waits

module _ {X : Type 0} (shown : X → ShownHelper) where
  -- one helper more is read at a position
  pub helpers_more : (m n k : MapState) (position : Position) (xs : List X) (i : ℕ) (d : X) → i < length xs → k ≡ with_helper n position (shown (get_or xs i d))
      → with_helpers n position (map shown (drop i xs)) ≡ with_helpers m position (map shown xs) → with_helpers k position (map shown (drop (i + 1) xs)) ≡ with_helpers m position (map shown xs)
  helpers_more m n k position xs i d within added rest =
      ap (λ x. with_helpers x position (map shown (drop (i + 1) xs))) added ∙ sym (at_drop_more (λ l. with_helpers n position (map shown l)) xs i d within) ∙ rest

  -- all of them are
  pub helpers_all : (m n : MapState) (position : Position) (xs : List X) (i : ℕ) → length xs ≤ i → with_helpers n position (map shown (drop i xs)) ≡ with_helpers m position (map shown xs)
      → n ≡ with_helpers m position (map shown xs)
  helpers_all m n position xs i end rest = sym (at_drop_all (λ l. with_helpers n position (map shown l)) xs i end) ∙ rest

  -- a helper has the name
  pub helps_here : (name : Name) (xs : List X) (i : ℕ) (d : X) → i < length xs → name_eq (shown (get_or xs i d)).name name ≡ true → helps (map shown (drop i xs)) name ≡ helps (map shown xs) name → true ≡ helps (map shown xs) name
  helps_here name xs i d within is rest = sym (ap (λ b. b || helps (map shown (drop (i + 1) xs)) name) is) ∙ sym (at_drop_more (λ l. helps (map shown l) name) xs i d within) ∙ rest

  -- it has another
  pub helps_later : (name : Name) (xs : List X) (i : ℕ) (d : X) → i < length xs → name_eq (shown (get_or xs i d)).name name ≡ false → helps (map shown (drop i xs)) name ≡ helps (map shown xs) name
      → helps (map shown (drop (i + 1) xs)) name ≡ helps (map shown xs) name
  helps_later name xs i d within other rest = sym (ap (λ b. b || helps (map shown (drop (i + 1) xs)) name) other) ∙ sym (at_drop_more (λ l. helps (map shown l) name) xs i d within) ∙ rest

  -- none has it
  pub helps_none : (name : Name) (xs : List X) (i : ℕ) → length xs ≤ i → helps (map shown (drop i xs)) name ≡ helps (map shown xs) name → false ≡ helps (map shown xs) name
  helps_none name xs i end rest = sym (at_drop_all (λ l. helps (map shown l) name) xs i end) ∙ rest

module _ (oracle : Oracle) (tree : TreeId) where
  -- one item more is helped
  pub items_more : (helpers given : List ShownHelper) (m n k : MapState) (top known : List ModItemId) (i : ℕ) (d : ModItemId) (item : Option ItemNode) → i < length known → known ≡ top → given ≡ helpers
      → item ≡ node_at oracle tree (get_or known i d) → k ≡ helped n tree given item → each_helped oracle n tree helpers (drop i top) ≡ each_helped oracle m tree helpers top
      → each_helped oracle k tree helpers (drop (i + 1) top) ≡ each_helped oracle m tree helpers top
  items_more helpers given m n k top known i d item within same are is made rest =
      ap (λ x. each_helped oracle x tree helpers (drop (i + 1) top))
      (made ∙ (λ j. helped n tree (are j) (is j)) ∙ ap (λ l. helped n tree helpers (node_at oracle tree (get_or l i d))) same)
      ∙ sym (at_drop_more (each_helped oracle n tree helpers) top i d (subst (λ l. i < length l) same within))
      ∙ rest

  -- all of them are
  pub items_all : (helpers shown : List ShownHelper) (m n : MapState) (top known items : List ModItemId) (i : ℕ) → length known ≤ i → known ≡ top → helpers ≡ shown → top ≡ items
      → each_helped oracle n tree helpers (drop i top) ≡ each_helped oracle m tree helpers top → n ≡ each_helped oracle m tree shown items
  items_all helpers shown m n top known items i end same are is rest =
      sym (at_drop_all (each_helped oracle n tree helpers) top i (subst (λ l. length l ≤ i) same end)) ∙ rest ∙ (λ j. each_helped oracle m tree (are j) (is j))

-- one derive more is expanded
pub expanded_more : (start : List waits.Expansion) (es new : List Expansion) (xs : List DeferredDerive) (i : ℕ) (d : DeferredDerive) (e : Expansion) → i < length xs → new ≡ es ++ e ∷ []
    → expansion_shown e ≡ deferred_expansion (get_or xs i d) → map expansion_shown es ≡ start ++ map deferred_expansion (take i xs) → map expansion_shown new ≡ start ++ map deferred_expansion (take (i + 1) xs)
expanded_more start es new xs i d e within pushed is before =
    ap (map expansion_shown) pushed
    ∙ map-append expansion_shown es (e ∷ [])
    ∙ (λ j. before j ++ is j ∷ [])
    ∙ append_assoc start (map deferred_expansion (take i xs)) (deferred_expansion (get_or xs i d) ∷ [])
    ∙ ap (λ l. start ++ l) (sym (map-append deferred_expansion (take i xs) (get_or xs i d ∷ [])))
    ∙ ap (λ l. start ++ map deferred_expansion l) (sym (take_more xs i d within))

-- all of them are
pub expanded_all : (start : List waits.Expansion) (es : List Expansion) (xs known : List DeferredDerive) (i : ℕ) → length xs ≤ i → xs ≡ known → map expansion_shown es ≡ start ++ map deferred_expansion (take i xs)
    → map expansion_shown es ≡ start ++ map deferred_expansion known
expanded_all start es xs known i end same before = before ∙ ap (λ l. start ++ map deferred_expansion l) (take_all i xs end ∙ same)
