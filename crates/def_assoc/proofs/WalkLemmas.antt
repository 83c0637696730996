-- The walk, step by step: the lists that wait on the stack, and a call that finds no macro.
use Rattle.std.proofs.Common.{◌≡◌, ◌<◌, ◌^◌, ℕ, true, false, cond, length, subst, Result, Err, List, [], ◌∷◌, ◌++◌, Option, None, Some, refl, sym, ap, ◌∙◌, append-nil}
use Rattle.tree_ids.specs.declared.ids.HirFileId.TheVariants as file_of
use Rattle.tree_ids.specs.declared.ids.MacroCallId.{MacroCallId}
use Rattle.item_tree.specs.declared.mod_path.ModPath.{ModPath}
use Rattle.def_modules.specs.MapState.{MapState}
use Rattle.def_modules.specs.Maps.{limit_of}
use Rattle.def_oracle.specs.declared.source_database.AssocItem.{AssocItem}
use Rattle.def_oracle.specs.declared.source_database.AssocItemsOwner.TheVariants as owner
use Rattle.def_oracle.specs.declared.source_database.CallAnswer.{CallAnswer}
use Rattle.def_oracle.specs.declared.source_database.UnresolvedMacro.{UnresolvedMacro}
use Rattle.def_oracle.specs.Oracle.{Oracle}
use Rattle.def_rules.specs.declared.diagnostics.DefDiagnostic.{DefDiagnostic}
use Rattle.def_rules.specs.declared.diagnostics.DefDiagnosticKind.TheVariants.{UnresolvedMacroCall}
use Rattle.def_rules.specs.declared.outcome.LeftMacroKind.TheVariants.{Fn}
use Rattle.def_rules.specs.Calls.{deeper, is_too_deep}
use Rattle.def_assoc.specs.declared.collector.ItemList.{ItemList}
use Rattle.def_assoc.specs.ExpansionTrees.{Gives, Lists, Node, Reading, answered, expansion_of, items_of, joined, levels_from, lists_in, nodes_in, reported_of}
use Rattle.def_assoc.specs.Shown.{nodes_of, unread}
use Rattle.def_assoc.specs.Work.{weight, work}
use Rattle.def_assoc.proofs.TreesLemmas.{unread_pushed}
use Rattle.def_assoc.proofs.WorkLemmas.{none_below, not_deepest, work_below}

-- Stacks

-- the items of a list that is put on the stack are read first
pub pushed : (old new : List ItemList) (list : ItemList) (nodes : List Node) → new ≡ old ++ list ∷ [] → nodes ≡ nodes_of list → unread new ≡ nodes ++ unread old
pushed old new list nodes is same = ap unread is ∙ unread_pushed old list ∙ ap (λ l. l ++ unread old) (sym same)

-- the first item of the list at the top is taken
pub taken : (before lists after : List ItemList) (list left : ItemList) (node : Node) → before ≡ lists ++ list ∷ [] → nodes_of list ≡ node ∷ nodes_of left → after ≡ lists ++ left ∷ [] → unread before ≡ node ∷ unread after
taken before lists after list left node was first is =
    ap unread was ∙ unread_pushed lists list ∙ ap (λ l. l ++ unread lists) first
    ∙ sym (ap (λ l. node ∷ l) (ap unread is ∙ unread_pushed lists left))

-- a list without items is left
pub dropped : (before lists : List ItemList) (list : ItemList) → before ≡ lists ++ list ∷ [] → length list.rest.now ≡ 0 → unread lists ≡ unread before
dropped before lists list was empty = sym (ap unread was ∙ unread_pushed lists list ∙ ap (λ items. nodes_in list.file list.depth items ++ unread lists) (none list.rest.now empty))
  where
    none : (items : List AssocItem) → length items ≡ 0 → items ≡ []
    none [] h = refl
    none (item ∷ items) h = cc

-- an expansion that does not lie too deep is read
pub opened : (oracle : Oracle) (map : MapState) (depth : ℕ) (call : MacroCallId) → is_too_deep map depth ≡ false → expansion_of oracle map depth (Some call) ≡ nodes_in (file_of.Macro call) (deeper depth) (items_of oracle (owner.Expansion call))
opened oracle map depth call shallow = ap (λ b. cond b [] (nodes_in (file_of.Macro call) (deeper depth) (items_of oracle (owner.Expansion call)))) shallow

module _ (oracle : Oracle) (map : MapState) (depth : ℕ) where
  -- what an expansion opens is less work than the item of its call: where there is no call,
  pub less_none : (call : Option MacroCallId) → call ≡ None → work (expansion_of oracle map depth call) < weight (levels_from depth)
  less_none call is = subst (λ o. work (expansion_of oracle map depth o) < weight (levels_from depth)) (sym is) (none_below depth)

  -- where the expansion lies too deep,
  pub less_deep : (found : Option MacroCallId) (call : MacroCallId) → found ≡ Some call → is_too_deep map depth ≡ true → work (expansion_of oracle map depth found) < weight (levels_from depth)
  less_deep found call is deep =
      subst (λ nodes. work nodes < weight (levels_from depth))
      (sym (ap (expansion_of oracle map depth) is ∙ ap (λ b. cond b [] (nodes_in (file_of.Macro call) (deeper depth) (items_of oracle (owner.Expansion call)))) deep)) (none_below depth)

  -- and where it is read
  pub less_opened : (found : Option MacroCallId) (call : MacroCallId) (items : List AssocItem) → found ≡ Some call → is_too_deep map depth ≡ false → depth < 2 ^ 32 → items ≡ items_of oracle (owner.Expansion call) → length items < 2 ^ 64
      → work (expansion_of oracle map depth found) < weight (levels_from depth)
  less_opened found call items is shallow fits same few =
      subst (λ nodes. work nodes < weight (levels_from depth))
      (ap (nodes_in (file_of.Macro call) (deeper depth)) same ∙ sym (ap (expansion_of oracle map depth) is ∙ opened oracle map depth call shallow))
      (work_below (file_of.Macro call) depth items (not_deepest (limit_of map.krate) depth fits shallow) few)

  -- what is put on the stack is the expansion, or nothing where that has no items
  pub is_opened : (found : Option MacroCallId) (call : MacroCallId) (items : List AssocItem) → found ≡ Some call → is_too_deep map depth ≡ false → items ≡ items_of oracle (owner.Expansion call)
      → expansion_of oracle map depth found ≡ nodes_in (file_of.Macro call) (deeper depth) items
  is_opened found call items is shallow same =
      ap (expansion_of oracle map depth) is ∙ opened oracle map depth call shallow ∙ ap (nodes_in (file_of.Macro call) (deeper depth)) (sym same)

-- Calls

-- a call that finds no macro is reported alone
pub failed : (r : Reading) (node : Node) (path : ModPath) (answer : Result CallAnswer UnresolvedMacro) (unresolved : UnresolvedMacro) → answer ≡ Err unresolved
    → answered r node path answer ≡ record { named = []; calls = []; diagnostics = reported_of r node (UnresolvedMacroCall Fn path) ∷ []; expands = None }
failed r node path answer unresolved is = ap (answered r node path) is

-- a diagnostic joins what is found
pub reported_only : (found : Lists) (given : Gives) (old more : List DefDiagnostic) → given ≡ record { named = []; calls = []; diagnostics = more; expands = None } → old ≡ found.diagnostics ++ more → record found { diagnostics = old } ≡ joined found (lists_in given)
reported_only found given old more only is =
    (λ i. record { named = sym (append-nil found.named) i; calls = sym (append-nil found.calls) i; diagnostics = is i })
    ∙ sym (ap (λ g. joined found (lists_in g)) only)
