use Rattle.std.proofs.Common.{◌≡◌, drop}
use Rattle.def_assoc.specs.AssocItems.{first_named, type_alias_in}
use Rattle.def_assoc.proofs.assoc.TraitItems.associated_type_by_name.Given as goal

-- none of the items so far is it
abbrev pub invariant-items : goal.invariant-items
invariant-items l = first_named type_alias_in l.name l.self.items.items ≡ first_named type_alias_in l.name (drop l.item-index l.item-items)
