-- The derives of an attribute's list, one after the other.
use Rattle.std.proofs.Common.{◌≡◌, ◌<◌, ◌+◌, ℕ, suc, List, [], ◌∷◌, ◌++◌, length, get_or, slice_get, take, Option, Some, None, Bor, ap, refl, sym, subst, ◌∙◌, arith}
use Rattle.std.proofs.lemmas.List.{length-take-le, take_more}
use Rattle.std.specs.Option.{option_and_then, option_copied}
use Rattle.tree_ids.specs.declared.ids.AttrId.{AttrId}
use Rattle.tree_ids.specs.declared.ids.MacroCallId.{MacroCallId}
use Rattle.tree_ids.specs.declared.ids.SyntaxContext.{SyntaxContext}
use Rattle.tree_ids.specs.declared.ids.ModItemId.{ModItemId}
use Rattle.tree_ids.specs.declared.ids.TreeId.{TreeId}
use Rattle.item_tree.specs.declared.items.ItemNode.{ItemNode}
use Rattle.item_tree.specs.declared.mod_path.ModPath.{ModPath}
use Rattle.item_tree.specs.declared.tree.ItemTree.{ItemTree}
use Rattle.item_tree.specs.Trees.{item_at}
use Rattle.def_calls.specs.declared.directives.WrittenAttr.{WrittenAttr}
use Rattle.def_attrs.specs.declared.derives.DeriveList.{DeriveList}
use Rattle.def_attrs.specs.Shown.{derives_in}
use Rattle.def_calls.specs.Shown.{written_attr_of}
use Rattle.def_collector.specs.Passes.{IsWalked}
use Rattle.def_map.specs.Oracle.{Oracle}
use Rattle.def_rules.specs.Derives.{derives_from}
use Rattle.def_rules.specs.Items.{node_at}
use Rattle.def_rules.specs.State.{State}
use Rattle.def_rules.specs.Waiting.{MacroDirective, WrittenDerive}

-- a path of a list as a derive
abbrev pub derive_at : AttrId → MacroCallId → ℕ → ModPath × SyntaxContext → WrittenDerive
derive_at id call pos path = record { id = id; pos = pos; path = path.0; ctxt = path.1; call = call }

-- there are as many as paths
pub derives_long : (id : AttrId) (call : MacroCallId) (pos : ℕ) (paths : List (ModPath × SyntaxContext)) → length (derives_from id call pos paths) ≡ length paths
derives_long id call pos [] = refl
derives_long id call pos (path ∷ paths) = ap suc (derives_long id call (suc pos) paths)

derives_push : (id : AttrId) (call : MacroCallId) (pos : ℕ) (paths : List (ModPath × SyntaxContext)) (path : ModPath × SyntaxContext)
    → derives_from id call pos (paths ++ path ∷ []) ≡ derives_from id call pos paths ++ derive_at id call (pos + length paths) path ∷ []
derives_push id call pos [] path = let same : pos ≡ pos + 0 = omega arith in ap (λ n. derive_at id call n path ∷ []) same
derives_push id call pos (first ∷ paths) path =
    let same : suc pos + length paths ≡ pos + suc (length paths) = omega arith in
    ap (λ ds. derive_at id call pos first ∷ ds) (derives_push id call (suc pos) paths path ∙ ap (λ n. derives_from id call (suc pos) paths ++ derive_at id call n path ∷ []) same)

-- one more of a list
pub derives_more : (id : AttrId) (call : MacroCallId) (paths : List (ModPath × SyntaxContext)) (i : ℕ) (path : ModPath × SyntaxContext) → i < length paths
    → derives_from id call 0 (take (i + 1) paths) ≡ derives_from id call 0 (take i paths) ++ derive_at id call i (get_or paths i path) ∷ []
derives_more id call paths i path within =
    let part : length (take i paths) ≡ i = length-take-le i paths (omega (arith, within)) in
    let long : 0 + length (take i paths) ≡ i = omega (arith, part) in
    ap (derives_from id call 0) (take_more paths i path within)
    ∙ derives_push id call 0 (take i paths) (get_or paths i path)
    ∙ ap (λ n. derives_from id call 0 (take i paths) ++ derive_at id call n (get_or paths i path) ∷ []) long

-- what the oracle has at a number is what its tree has there
pub node_there : (oracle : Oracle) (tree : TreeId) (id : ModItemId) (given : Option (Bor ItemTree)) (found : Option ItemNode) → option_copied given ≡ oracle.item_tree tree
    → found ≡ option_and_then (λ (t : Bor ItemTree). item_at t.now.items id) given → node_at oracle tree id ≡ found
node_there oracle tree id given found known is = ap (λ o. option_and_then (λ t. slice_get t.items id.0) o) (sym known) ∙ below given ∙ sym is
  where
    below : (given : Option (Bor ItemTree)) → option_and_then (λ (t : ItemTree). slice_get t.items id.0) (option_copied given) ≡ option_and_then (λ (t : Bor ItemTree). item_at t.now.items id) given
    below None = refl
    below (Some t) = refl

-- An item that is walked without an attribute that was read as a list

module _ (oracle : Oracle) (s t : State) (d : MacroDirective) (written : WrittenAttr) (list : DeriveList) (is : list.written ≡ written) (walked : IsWalked oracle s d (derives_in list) (written_attr_of list.written) t) where
  pub listed : IsWalked oracle s d (derives_in list) (written_attr_of written) t
  listed = subst (λ w. IsWalked oracle s d (derives_in list) (written_attr_of w) t) is walked

  -- of no derives
  pub unlisted : derives_in list ≡ [] → IsWalked oracle s d [] (written_attr_of written) t
  unlisted none = subst (λ ds. IsWalked oracle s d ds (written_attr_of written) t) none listed
