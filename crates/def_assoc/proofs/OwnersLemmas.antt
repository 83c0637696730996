-- The lists of a trait or an impl, by what is known of its module.
use Rattle.std.proofs.Common.{◌≡◌, ℕ, List, Option, None, Some, ap, ◌∙◌}
use Rattle.tree_ids.specs.declared.ids.HirFileId.{HirFileId}
use Rattle.def_ids.specs.declared.ids.ModuleId.{ModuleId}
use Rattle.def_interner.specs.Session.{Session}
use Rattle.def_modules.specs.MapState.{MapState}
use Rattle.def_modules.specs.MapView.{LocalView, MapView}
use Rattle.def_oracle.specs.declared.source_database.AssocItem.{AssocItem}
use Rattle.def_oracle.specs.declared.source_database.AssocItemsOwner.{AssocItemsOwner}
use Rattle.def_oracle.specs.Oracle.{Oracle}
use Rattle.def_assoc.specs.ExpansionTrees.{Lists, Reading, items_of, lists_of, no_lists, nodes_in, tree}
use Rattle.def_assoc.specs.Owners.{lists_by, reading_at}

module _ (oracle : Oracle) (session : Session) (owner : AssocItemsOwner) (lists : Lists) (at : ModuleId) (file : HirFileId) (found : Option MapView) (shown : Option MapState) (known : Option LocalView) where
  -- without a map there are none,
  pub without_map : None ≡ found → lists ≡ no_lists → lists ≡ lists_by oracle session at file owner found shown known
  without_map is here = here ∙ ap (λ f. lists_by oracle session at file owner f shown known) is

  -- nor without a local map
  pub without_local : (map : MapView) (state : MapState) → Some map ≡ found → Some state ≡ shown → None ≡ known → lists ≡ no_lists → lists ≡ lists_by oracle session at file owner found shown known
  without_local map state is too none here = here ∙ (λ i. lists_by oracle session at file owner (is i) (too i) (none i))

  -- with both they are what is collected
  pub with_both : (map : MapView) (state : MapState) (local : LocalView) (r : Reading) (depth : ℕ) (items : List AssocItem) → Some map ≡ found → Some state ≡ shown → Some local ≡ known → r ≡ reading_at oracle session at map state local
      → depth ≡ oracle.expansion_depth file → items ≡ items_of oracle owner → lists ≡ lists_of r (tree r (nodes_in file depth items)) → lists ≡ lists_by oracle session at file owner found shown known
  with_both map state local r depth items is too there same deep all collected =
      collected
      ∙ (λ i. lists_of (same i) (tree (same i) (nodes_in file (deep i) (all i))))
      ∙ (λ i. lists_by oracle session at file owner (is i) (too i) (there i))
