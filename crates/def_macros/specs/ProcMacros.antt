-- Procedural macros that functions declare, once they have numbers.
use Rattle.std.specs.Prelude.{◌≡◌, Option, Some, option_map, IfSome}
use Rattle.item_tree.specs.declared.items.ItemNode.{ItemNode}
use Rattle.tree_ids.specs.declared.name.Name.{Name}
use Rattle.item_tree.specs.Attrs.{attrs_of}
use Rattle.def_ids.specs.declared.ids.MacroId.TheVariants.{ProcMacro}
use Rattle.def_interner.specs.Session.{Session}
use Rattle.def_macros.specs.declared.proc_macros.ExportedMacro.{ExportedMacro}
use Rattle.def_modules.specs.MapState.{MapState}
use Rattle.def_map.specs.Oracle.{Oracle}
use Rattle.def_parts.specs.ProcMacros.{decl_of}
use Rattle.def_readings.specs.ProcMacros.{proc_macro_of}
use Rattle.def_rules.specs.ProcMacros.{proc_loc}
use Rattle.def_rules.specs.State.{Site}

-- the macro that a function of this name declares, whose number the session has; none, where it declares none
pub record IsNumbered (oracle : Oracle) (m : MapState) (session : Session) (site : Site) (node : ItemNode) (name : Name) (found : Option ExportedMacro) : Type 0 where
  pub declared : option_map (λ (e : ExportedMacro). decl_of e.def) found ≡ proc_macro_of (attrs_of node.attrs) name
  pub numbered : IfSome found (λ (e : ExportedMacro). session.macro_at (ProcMacro e.id) ≡ Some (proc_loc oracle m site node (decl_of e.def)))
