use Rattle.std.proofs.Common.{◌∷◌, [], ap, subst}
use Rattle.def_items.specs.Parts.{with_parts}
use Rattle.def_items.proofs.ItemsLemmas.{declared_put}
use Rattle.def_items.proofs.declarations.define.Goals as goal
use Rattle.def_laws.specs.Performs.{Updated}
use Rattle.def_rules.specs.State.{State, with_map}

pub returns : goal.returns
returns c = λ oracle s.
    let d = c.args.defined in
    let after : State = with_parts s c.declare.new.self c.put.new.table in
    declared_put oracle (with_parts s c.args.def_map.now c.args.table.now) (with_parts s c.declare.new.self c.args.table.now) after c.args.module_id d.name c.args.ns d.def d.vis
    (ap (with_map (with_parts s c.args.def_map.now c.args.table.now)) c.in_ok-declare.ensures)
    (subst (λ e. Updated c.args.module_id (e ∷ []) (with_parts s c.declare.new.self c.args.table.now) after) c.entry.ensures (c.in_ok-put.ensures s))
