use Rattle.std.proofs.Common.{subst, sym, Option}
use Rattle.std.specs.Prelude.{OnOk}
use Rattle.def_bindings.specs.declared.visibility.Visibility.{Visibility}
use Rattle.def_items.specs.Parts.{with_parts}
use Rattle.def_laws.specs.Performs.{Performs}
use Rattle.def_map.specs.Oracle.{Oracle}
use Rattle.def_rules.specs.Items.{struct_effect}
use Rattle.def_rules.specs.State.{State}
use Rattle.def_items.proofs.declarations.define_struct.Goals as goal

pub returns-in-Some : goal.returns-in-Some
returns-in-Some c =
    let d = c.args.defined in
    subst (λ (ctor : Option Visibility). OnOk c.define_with_ctor.result ((oracle : Oracle) (s : State) →
    let effect = struct_effect (with_parts s c.args.def_map.now c.args.table.now) c.args.module_id d.name d.def d.vis ctor in
    Performs oracle effect.tasks effect.state (with_parts s c.define_with_ctor.new.def_map c.define_with_ctor.new.table)))
    (sym c.in-Some.is) c.define_with_ctor.ensures

pub returns-in-None : goal.returns-in-None
returns-in-None c =
    let d = c.args.defined in
    subst (λ (ctor : Option Visibility). OnOk c.define.result ((oracle : Oracle) (s : State) →
    let effect = struct_effect (with_parts s c.args.def_map.now c.args.table.now) c.args.module_id d.name d.def d.vis ctor in
    Performs oracle effect.tasks effect.state (with_parts s c.define.new.def_map c.define.new.table)))
    (sym c.in-None.is) c.define.ensures
