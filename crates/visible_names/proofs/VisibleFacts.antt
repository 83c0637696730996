-- Worked rows of what each source brings into a module.
use Rattle.std.proofs.Common.{◌≡◌, [], ◌∷◌, Some, None, refl}
use Rattle.std.specs.Prelude.{if◌then◌else◌}
use Rattle.def_ids.specs.declared.ids.Def.TheVariants.{Builtin, Macro}
use Rattle.def_ids.specs.declared.ids.MacroId.{MacroId}
use Rattle.def_ids.specs.declared.ids.MacroId.TheVariants.{MacroRules}
use Rattle.def_ids.specs.declared.ids.ModuleId.{ModuleId}
use Rattle.def_ids.specs.declared.edition.Edition.TheVariants.{Edition2021}
use Rattle.def_ids.specs.Ids.{crate_root}
use Rattle.def_bindings.specs.Content.{empty, is_name, with_binding}
use Rattle.def_bindings.specs.declared.bindings.Namespace.TheVariants.{Types, Macros}
use Rattle.def_modules.specs.MapView.{MapView, LocalView}
use Rattle.def_oracle.specs.Oracle.{Oracle}
use Rattle.def_sources.specs.Items.{module_item, public_item}
use Rattle.visible_names.specs.declared.brought.BroughtBy.TheVariants.{TextualMacro, Scope, ExternPrelude, MacroUsePrelude, Prelude}
use Rattle.visible_names.specs.Visible.{asking, brings}

abbrev root : ModuleId
root = crate_root (record { 0 = 0 })

abbrev named : MacroId
named = MacroRules (record { 0 = 1 })

abbrev brought_macro : MacroId
brought_macro = MacroRules (record { 0 = 2 })

-- name 5 is a type of the module, name 7 a textual macro, each name a macro of an extern crate, and the module is its own prelude
abbrev own : MapView
own = record {
  facts = record {
    id = root.map;
    edition = Edition2021;
    chain = λ m. m ∷ [];
    containing = [];
    prelude = Some root;
    textual_macro = λ m name. if is_name name (record { 0 = 7 }) then Some named else None;
    macro_use = λ name. Some brought_macro;
    exported_helpers = λ id. None;
  };
  content = with_binding empty root (record { 0 = 5 }) Types (public_item (Builtin 1));
}

-- each name is that of a crate
abbrev local : LocalView
local = record { extern_prelude = λ name. Some (record { root = crate_root (record { 0 = 1 }); by = None }) }

module _ (oracle : Oracle) where
  -- the scope brings its binding, before a crate of the name and before the prelude
  of_scope : brings (asking oracle local) own root Scope (record { 0 = 5 }) Types ≡ Some (public_item (Builtin 1))
  of_scope = refl

  no_crate : brings (asking oracle local) own root ExternPrelude (record { 0 = 5 }) Types ≡ None
  no_crate = refl

  no_prelude : brings (asking oracle local) own root Prelude (record { 0 = 5 }) Types ≡ None
  no_prelude = refl

  -- a crate is brought where its name is no builtin type's
  a_crate : oracle.builtin_type (record { 0 = 6 }) ≡ None → brings (asking oracle local) own root ExternPrelude (record { 0 = 6 }) Types ≡ Some (module_item (crate_root (record { 0 = 1 })))
  a_crate none = rw none refl

  hidden_by_builtin : oracle.builtin_type (record { 0 = 6 }) ≡ Some 3 → brings (asking oracle local) own root ExternPrelude (record { 0 = 6 }) Types ≡ None
  hidden_by_builtin there = rw there refl

  -- a textual macro goes before one of an extern crate
  a_textual : brings (asking oracle local) own root TextualMacro (record { 0 = 7 }) Macros ≡ Some (public_item (Macro named))
  a_textual = refl

  hidden_by_textual : brings (asking oracle local) own root MacroUsePrelude (record { 0 = 7 }) Macros ≡ None
  hidden_by_textual = refl

  of_extern_crate : brings (asking oracle local) own root MacroUsePrelude (record { 0 = 8 }) Macros ≡ Some (public_item (Macro brought_macro))
  of_extern_crate = refl
