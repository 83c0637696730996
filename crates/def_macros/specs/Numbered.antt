-- Macros that items define, once they have numbers.
use Rattle.std.specs.Prelude.{◌≡◌, ℕ, Option, Some}
use Rattle.item_tree.specs.declared.items.ItemNode.{ItemNode}
use Rattle.tree_ids.specs.declared.name.Name.{Name}
use Rattle.item_tree.specs.Attrs.{attrs_of}
use Rattle.def_ids.specs.declared.ids.MacroId.TheVariants.{MacroRules, Macro2}
use Rattle.def_interner.specs.Session.{Session}
use Rattle.def_parts.specs.Sites.{site_of}
use Rattle.def_macros.specs.declared.numbered.MacroItem.{MacroItem}
use Rattle.def_modules.specs.MapState.{MapState}
use Rattle.def_map.specs.Oracle.{Oracle}
use Rattle.def_rules.specs.Macros.{IsBuiltinName, item_expander, item_flags, macro_loc, rules_expander, rules_flags}
use Rattle.def_rules.specs.State.{Site}

-- a macro that this item defines under this name
pub record IsOf (site : Site) (node : ItemNode) (name : Name) (item : MacroItem) : Type 0 where
  pub stands : site_of item.site.now ≡ site
  pub is : item.node.now ≡ node
  pub called : item.name ≡ name

-- a macro by rules, whose number the session has
pub record IsRules (oracle : Oracle) (m : MapState) (session : Session) (site : Site) (node : ItemNode) (name : Name) (item : MacroItem) : Type 0 where
  pub of : IsOf site node name item
  pub n : ℕ
  pub found : Option Name
  pub looked_up : IsBuiltinName session.text (attrs_of node.attrs) name found
  pub id : item.id ≡ MacroRules (record { 0 = n })
  pub expander : item.expander ≡ rules_expander oracle m.id.krate site node found
  pub numbered : session.macro_at item.id ≡ Some (macro_loc m.krate.edition site node item.expander (rules_flags node))

-- a `macro` item, whose number the session has
pub record IsItem (oracle : Oracle) (m : MapState) (session : Session) (site : Site) (node : ItemNode) (name : Name) (item : MacroItem) : Type 0 where
  pub of : IsOf site node name item
  pub n : ℕ
  pub id : item.id ≡ Macro2 (record { 0 = n })
  pub expander : item.expander ≡ item_expander oracle m.id.krate site node name
  pub numbered : session.macro_at item.id ≡ Some (macro_loc m.krate.edition site node item.expander (item_flags node))
