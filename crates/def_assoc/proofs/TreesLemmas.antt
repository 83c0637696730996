-- The walk of a tree: an item, all below it, and then what was to be read before.
use Rattle.std.proofs.Common.{◌≡◌, ◌<◌, ◌-◌, ◌^◌, ℕ, suc, Bool, true, false, cond, List, [], ◌∷◌, ◌++◌, Option, None, Some, refl, sym, ap, ◌∙◌, append_assoc, append-nil, arith}
use Rattle.std.proofs.lemmas.Grind.{flat_map-append}
use Rattle.std.specs.List.{flat_map}
use Rattle.tree_ids.specs.declared.ids.HirFileId.{HirFileId}
use Rattle.tree_ids.specs.declared.ids.HirFileId.TheVariants as file_of
use Rattle.tree_ids.specs.declared.ids.MacroCallId.{MacroCallId}
use Rattle.def_oracle.specs.declared.source_database.AssocItem.{AssocItem}
use Rattle.def_oracle.specs.declared.source_database.AssocItemsOwner.TheVariants as owner
use Rattle.def_modules.specs.Maps.{limit_of}
use Rattle.def_rules.specs.Calls.{deeper, is_too_deep}
use Rattle.def_assoc.specs.declared.collector.ItemList.{ItemList}
use Rattle.def_assoc.specs.ExpansionTrees.{Lists, Node, Reading, children, expansion_of, gives, items_of, joined, levels_from, lists_in, lists_of, nodes_in, subtree, tree, whole_subtree}
use Rattle.def_assoc.specs.Shown.{nodes_of, unread}
use Rattle.def_assoc.proofs.WorkLemmas.{level_below, not_deepest}

-- Stacks

-- the list that is put on a stack is read first
pub unread_pushed : (lists : List ItemList) (list : ItemList) → unread (lists ++ list ∷ []) ≡ nodes_of list ++ unread lists
unread_pushed [] list = sym (append-nil (nodes_of list))
unread_pushed (first ∷ lists) list = ap (λ nodes. nodes ++ nodes_of first) (unread_pushed lists list) ∙ append_assoc (nodes_of list) (unread lists) (nodes_of first)

-- Lists

pub joined_assoc : (a b c : Lists) → joined (joined a b) c ≡ joined a (joined b c)
joined_assoc a b c i = record {
  named = append_assoc a.named b.named c.named i;
  calls = append_assoc a.calls b.calls c.calls i;
  diagnostics = append_assoc a.diagnostics b.diagnostics c.diagnostics i;
}

-- Trees

-- items of one depth, with as many levels below as that depth has
same_levels : (r : Reading) (levels : ℕ) (file : HirFileId) (depth : ℕ) (items : List AssocItem) → levels_from depth ≡ levels → flat_map (subtree r levels) (nodes_in file depth items) ≡ tree r (nodes_in file depth items)
same_levels r levels file depth [] same = refl
same_levels r levels file depth (item ∷ items) same =
    let node : Node = record { file = file; depth = depth; item = item } in
    ap (λ n. subtree r n node ++ flat_map (subtree r levels) (nodes_in file depth items)) (sym same)
    ∙ ap (λ nodes. whole_subtree r node ++ nodes) (same_levels r levels file depth items same)

-- the items below an item have one level less
below_levels : (r : Reading) (node : Node) (levels : ℕ) → node.depth < 2 ^ 32 → levels_from node.depth ≡ suc levels → flat_map (subtree r levels) (children r node) ≡ tree r (children r node)
below_levels r node levels fits level = by (gives r node).expands
  where
    at : (call : MacroCallId) (deep : Bool) → is_too_deep r.map node.depth ≡ deep
        → flat_map (subtree r levels) (cond deep [] (nodes_in (file_of.Macro call) (deeper node.depth) (items_of r.world.oracle (owner.Expansion call))))
        ≡ tree r (cond deep [] (nodes_in (file_of.Macro call) (deeper node.depth) (items_of r.world.oracle (owner.Expansion call))))
    at call true deep = refl
    at call false deep =
        let less = not_deepest (limit_of r.map.krate) node.depth fits deep in
        let next = level_below node.depth less in
        same_levels r levels (file_of.Macro call) (deeper node.depth) (items_of r.world.oracle (owner.Expansion call)) (omega (arith, next, level))

    by : (call : Option MacroCallId) → flat_map (subtree r levels) (expansion_of r.world.oracle r.map node.depth call) ≡ tree r (expansion_of r.world.oracle r.map node.depth call)
    by None = refl
    by (Some call) = at call (is_too_deep r.map node.depth) refl

subtree_is : (r : Reading) (node : Node) (levels : ℕ) → subtree r (suc levels) node ≡ node ∷ flat_map (subtree r levels) (children r node)
unfolding subtree
subtree_is r node levels = refl

-- an item comes before those below it, and these before the others
pub tree_cons : (r : Reading) (node : Node) (nodes : List Node) → node.depth < 2 ^ 32 → tree r (node ∷ nodes) ≡ node ∷ tree r (children r node ++ nodes)
tree_cons r node nodes fits =
    let levels : ℕ = 2 ^ 32 - suc node.depth in
    let level : levels_from node.depth ≡ suc levels = omega (arith, fits) in
    ap (λ below. below ++ tree r nodes) (ap (λ n. subtree r n node) level ∙ subtree_is r node levels ∙ ap (λ below. node ∷ below) (below_levels r node levels fits level))
    ∙ ap (λ below. node ∷ below) (sym (flat_map-append (whole_subtree r) (children r node) nodes))

-- The walk

-- what is found and what is still to be found are all
abbrev pub IsFound : Reading → Lists → Lists → List Node → Type 0
IsFound r all found nodes = joined found (lists_of r (tree r nodes)) ≡ all

-- so they are once one more item is read
pub found_more : (r : Reading) (all found more : Lists) (old new rest below : List Node) (node : Node) → node.depth < 2 ^ 32
    → IsFound r all found old → old ≡ node ∷ rest → more ≡ joined found (lists_in (gives r node)) → below ≡ children r node → new ≡ below ++ rest → IsFound r all more new
found_more r all found more old new rest below node fits is before recorded opened after =
    ap (λ x. joined x (lists_of r (tree r new))) recorded
    ∙ ap (λ x. joined (joined found (lists_in (gives r node))) (lists_of r (tree r x))) (after ∙ ap (λ x. x ++ rest) opened)
    ∙ joined_assoc found (lists_in (gives r node)) (lists_of r (tree r (children r node ++ rest)))
    ∙ ap (λ x. joined found (lists_of r x)) (sym (tree_cons r node rest fits))
    ∙ ap (λ x. joined found (lists_of r (tree r x))) (sym before)
    ∙ is
