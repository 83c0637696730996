use Rattle.std.proofs.Common.{◌<◌, ◌^◌, arith, refl, length}
use Rattle.def_rules.specs.Macros.{macro_in}
use Rattle.def_steps.proofs.GatherLemmas.{gathered_all, gathered_more, within_index}
use Rattle.def_macros.proofs.macro_use.push_all.Goals as goal

pub names-init : goal.names-init
names-init g c = refl

pub overflow_add-index : goal.overflow_add-index
overflow_add-index g c =
    let names = (g.T.BindingTable.content c.args.table.now).names c.args.at in
    let h : c.names.index < length names = within_index names c.names.index c.in-Some.name c.in-Some.ensures.name in
    let few : length names < 2 ^ 64 = c.in-Some.ensures.few in
    omega arith

pub names-smaller : goal.names-smaller
names-smaller g c =
    let names = (g.T.BindingTable.content c.args.table.now).names c.args.at in
    let h : c.names.index < length names = within_index names c.names.index c.in-Some.name c.in-Some.ensures.name in
    omega arith

pub names-preserved : goal.names-preserved
names-preserved g c =
    let content = g.T.BindingTable.content c.args.table.now in
    gathered_more (macro_in content c.args.at) (content.names c.args.at) c.names.index c.in-Some.name
    c.names.taken.items c.push_macro.new.taken.items _ c.in-Some.ensures.name c.in_ok-push_macro.ensures c.names.invariant

pub returns : goal.returns
returns g c =
    let content = g.T.BindingTable.content c.args.table.now in
    gathered_all (macro_in content c.args.at) (content.names c.args.at) c.names.index
    c.names.taken.items _ c.in_default.ensures.name c.names.invariant
