-- What a database is asked, with the values that the code lends in the place of its references.
use Rattle.std.specs.Prelude.{ℕ, List, Option, option_map}
use Rattle.item_tree.specs.declared.attrs.AttrInput.{AttrInput}
use Rattle.tree_ids.specs.declared.ids.AttrId.{AttrId}
use Rattle.tree_ids.specs.declared.ids.Crate.{Crate}
use Rattle.tree_ids.specs.declared.ids.SyntaxContext.{SyntaxContext}
use Rattle.item_tree.specs.declared.items.ExpandTo.{ExpandTo}
use Rattle.item_tree.specs.declared.mod_path.ModPath.{ModPath}
use Rattle.def_interner.specs.declared.macro_def.MacroDefId.{MacroDefId}
use Rattle.def_oracle.specs.declared.source_database.AttrCallQuery.{AttrCallQuery}
use Rattle.def_oracle.specs.declared.source_database.CallQuery.{CallQuery}
use Rattle.def_modules.specs.MapState.{Position}

-- a macro call that is asked for
pub record PlainCall : Type 0 where
  pub position : Position
  pub path : ModPath
  pub ctxt : SyntaxContext
  pub kind : ExpandTo
  pub krate : Crate
  pub depth : ℕ
  pub recursion_limit : ℕ

-- an attribute macro's call that is asked for
pub record PlainAttrCall : Type 0 where
  pub krate : Crate
  pub macro_def : MacroDefId
  pub position : Position
  pub attr_id : AttrId
  pub input : Option AttrInput
  pub ctxt : SyntaxContext
  pub censored : List AttrId
  pub depth : ℕ

-- the macro call that a query asks for
abbrev pub plain_call : CallQuery → PlainCall
plain_call q = record {
  position = q.position;
  path = q.path.now;
  ctxt = q.ctxt;
  kind = q.kind;
  krate = q.krate;
  depth = q.depth;
  recursion_limit = q.recursion_limit;
}

-- the attribute macro's call that a query asks for
abbrev pub plain_attr_call : AttrCallQuery → PlainAttrCall
plain_attr_call q = record {
  krate = q.krate;
  macro_def = q.macro_def;
  position = q.position;
  attr_id = q.attr_id;
  input = option_map (λ input. input.now) q.input;
  ctxt = q.ctxt;
  censored = q.censored.now;
  depth = q.depth;
}
