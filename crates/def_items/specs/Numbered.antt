-- What items declare that declare one name, once they have numbers.
use Rattle.std.specs.Prelude.{◌≡◌, ℕ, Bool, false, true, Some}
use Rattle.item_tree.specs.declared.items.ItemNode.{ItemNode}
use Rattle.item_tree.specs.declared.items.ModItemKind.{ModItemKind}
use Rattle.def_ids.specs.declared.ids.Def.{Def}
use Rattle.def_interner.specs.Session.{ConstItem, ItemKind, Session}
use Rattle.def_items.specs.declared.numbered.Declared.{Declared}
use Rattle.def_items.specs.declared.numbered.Declared.TheVariants.{Name, UnnamedConst, Nothing}
use Rattle.def_rules.specs.Imports.{is_types}
use Rattle.def_rules.specs.Items.{loc_of}
use Rattle.def_rules.specs.Rules.{Rule, declares, notes_const, rule_of}
use Rattle.def_rules.specs.State.{Site}

-- a rule declares at most one name, in one namespace
abbrev pub declares_one : Rule → Bool
declares_one (declares kind d ns name raw) = true
declares_one notes_const = true
declares_one _ = false

-- an item of this kind declares at most one name, in one namespace
abbrev pub is_declaring : ModItemKind → Bool
is_declaring kind = declares_one (rule_of kind)

-- a rule declares a name in types
abbrev pub declares_type : Rule → Bool
declares_type (declares kind d ns name raw) = is_types ns
declares_type _ = false

-- an item of this kind declares one name, in types
abbrev pub is_type : ModItemKind → Bool
is_type kind = declares_type (rule_of kind)

-- this is what an item declares, whose number the session has
abbrev pub IsDeclared : Session → Site → ItemNode → Declared → Type 0
IsDeclared session site item (Name d) =
    (kind : ItemKind) × (of : ℕ → Def) × (n : ℕ) × (d.def ≡ of n) × (session.item kind n ≡ Some (loc_of site kind item)) × (rule_of item.kind ≡ declares kind of d.ns d.name d.vis.now)
IsDeclared session site item (UnnamedConst id) = (session.item ConstItem id.0 ≡ Some (loc_of site ConstItem item)) × (rule_of item.kind ≡ notes_const)
IsDeclared session site item Nothing = is_declaring item.kind ≡ false
