-- What an attribute of an item is that may have no derives.
use Rattle.std.specs.Prelude.{ℕ, cond, List, [], ◌∷◌, Option, None, Some, Result, Ok, Err}
use Rattle.item_tree.specs.declared.attrs.Attr.{Attr}
use Rattle.tree_ids.specs.declared.ids.AttrId.{AttrId}
use Rattle.tree_ids.specs.declared.ids.Crate.{Crate}
use Rattle.tree_ids.specs.declared.name.Name.{Name}
use Rattle.def_ids.specs.declared.ids.ModuleId.{ModuleId}
use Rattle.def_interner.specs.declared.macro_def.MacroDefId.{MacroDefId}
use Rattle.def_interner.specs.MacroKinds.{is_attribute}
use Rattle.def_modules.specs.MapState.{Position}
use Rattle.def_oracle.specs.declared.source_database.UnresolvedMacro.{UnresolvedMacro}
use Rattle.def_oracle.specs.Queries.{PlainAttrCall}
use Rattle.def_paths.specs.Paths.{resolver}
use Rattle.def_rules.specs.Attributes.{is_builtin_or_registered_attr}
use Rattle.def_sources.specs.Sources.{World}
use Rattle.def_sources.specs.declared.asked.BuiltinShadowMode.TheVariants as shadow
use Rattle.def_sources.specs.declared.per_ns.MacroSubNs.TheVariants as sub
use Rattle.macro_calls.specs.declared.attr_resolution.AttrMeaning.{AttrMeaning}
use Rattle.macro_calls.specs.declared.attr_resolution.AttrMeaning.TheVariants.{Other, Unresolved, Macro}
use Rattle.macro_calls.specs.declared.attr_resolution.ResolvedAttr.{ResolvedAttr}
use Rattle.macro_calls.specs.declared.attr_resolution.ResolvedAttr.TheVariants as resolves

-- what the macro of an attribute is asked with, where expansions are not to see this attribute alone
abbrev pub lone_attr_query : Crate → Position → AttrId → Attr → ℕ → MacroDefId → PlainAttrCall
lone_attr_query krate position id attr depth found =
    record {
      krate = krate;
      macro_def = found;
      position = position;
      attr_id = id;
      input = attr.input;
      ctxt = attr.ctxt;
      censored = id ∷ [];
      depth = depth;
    }

-- what the macro makes of an attribute that its path names
abbrev pub meaning_by : World → Position → AttrId → Attr → ℕ → Option MacroDefId → AttrMeaning
meaning_by w position id attr depth None = Unresolved
meaning_by w position id attr depth (Some found) =
    cond (is_attribute found.kind) (Macro found (w.oracle.make_attr_call (lone_attr_query w.map.facts.id.krate position id attr depth found))) Other

-- what an attribute is: one that is builtin or a tool's names no macro
abbrev pub attr_meaning : World → List Name → ModuleId → Position → AttrId → Attr → ℕ → AttrMeaning
attr_meaning w tools at position id attr depth =
    cond (is_builtin_or_registered_attr w.oracle tools attr.path) Other (meaning_by w position id attr depth (resolver w shadow.Module sub.Attr at attr.path))

-- what is answered of it
abbrev pub resolved : Attr → AttrMeaning → Result ResolvedAttr UnresolvedMacro
resolved attr Other = Ok resolves.Other
resolved attr Unresolved = Err (record { path = attr.path })
resolved attr (Macro found call) = Ok (resolves.Macro call)
