use Rattle.std.proofs.Common.{◌≡◌, Some, drop}
use Rattle.def_assoc.specs.AssocItems.{first_named}
use Rattle.def_assoc.proofs.assoc.TraitItems.assoc_item_by_name.Given as goal

-- none of the items so far is it
abbrev pub invariant-items : goal.invariant-items
invariant-items l = first_named (λ id. Some id) l.name l.self.items.items ≡ first_named (λ id. Some id) l.name (drop l.item-index l.item-items)
