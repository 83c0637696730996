use Rattle.std.proofs.Common.{◌≡◌, [], true, false, Bool, subst, sym}
use Rattle.item_tree.specs.Attrs.{attrs_of, has_attr}
use Rattle.item_tree.specs.KnownNames.{macro_export_name}
use Rattle.def_bindings.specs.declared.bindings.Namespace.TheVariants.{Macros}
use Rattle.def_bindings.specs.declared.visibility.Visibility.TheVariants.{Public}
use Rattle.def_ids.specs.declared.ids.Def.TheVariants.{Macro}
use Rattle.def_items.specs.Parts.{with_parts}
use Rattle.def_parts.specs.Sites.{site_of}
use Rattle.def_laws.specs.Performs.{Performs}
use Rattle.def_laws.proofs.StepsLaws.{performs_none}
use Rattle.def_rules.specs.Items.{declared_effect}
use Rattle.def_rules.specs.Macros.{export_effect, textual_state}
use Rattle.def_rules.specs.State.{State, Effect, root}
use Rattle.def_macros.proofs.definitions.define_macro_rules.Goals as goal

pub returns-then-not-exists : goal.returns-then-not-exists
returns-then-not-exists c = λ oracle s.
    let item = c.args.item in
    let before : State = with_parts s c.args.def_map.now c.args.table.now in
    let textual : State = textual_state before (site_of item.site.now) item.node.now item.name item.id in
    let after : State = with_parts s c.define_textual.new.def_map c.args.table.now in
    let became = c.in_ok-define_textual.ensures before in
    let effect : Bool → Effect = λ exported. export_effect textual exported item.name item.id in
    let off : false ≡ has_attr macro_export_name (attrs_of item.node.now.attrs) = cc in
    subst (λ exported. Performs oracle (effect exported).tasks (effect exported).state after) off
    (subst (λ u. Performs oracle [] textual u) (sym became) (performs_none textual))

pub returns : goal.returns
returns c = λ oracle s.
    let item = c.args.item in
    let before : State = with_parts s c.args.def_map.now c.args.table.now in
    let textual : State = textual_state before (site_of item.site.now) item.node.now item.name item.id in
    let between : State = with_parts s c.define_textual.new.def_map c.args.table.now in
    let after : State = with_parts s c.define.new.def_map c.define.new.table in
    let became = c.in_ok-define_textual.ensures before in
    let effect : Bool → Effect = λ exported. export_effect textual exported item.name item.id in
    let declared : State → Effect = λ u. declared_effect u (root u.map) item.name Macros (Macro item.id) Public in
    let on : true ≡ has_attr macro_export_name (attrs_of item.node.now.attrs) = cc in
    subst (λ exported. Performs oracle (effect exported).tasks (effect exported).state after) on
    (subst (λ u. Performs oracle (declared u).tasks (declared u).state after) became (c.in_ok-define.ensures oracle s))
