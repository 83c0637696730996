use Rattle.std.proofs.Common.{ap, refl, Some}
use Rattle.def_items.specs.Parts.{with_parts}
use Rattle.def_items.proofs.ItemsLemmas.{struct_put_both}
use Rattle.def_items.proofs.declarations.define_with_ctor.Goals as goal
use Rattle.def_rules.specs.State.{with_map}

pub returns : goal.returns
returns c = λ oracle s.
    let before = with_parts s c.args.def_map.now c.args.table.now in
    let d = c.args.defined in
    struct_put_both oracle before (with_parts s c.declare.new.self c.args.table.now) (with_parts s c.declare.new.self c.put.new.table) c.args.module_id d.name d.def d.vis (Some c.args.ctor_vis)
    c.args.ctor_vis c.lesser_or_import-vis.result c.entry-types.result c.entry-values.result refl
    (ap (with_map before) c.in_ok-declare.ensures) c.lesser_or_import-vis.ensures c.entry-types.ensures c.entry-values.ensures
    (c.in_ok-put.ensures s)
