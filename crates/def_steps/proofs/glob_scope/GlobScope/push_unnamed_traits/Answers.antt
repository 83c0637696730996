use Rattle.std.proofs.Common.{◌<◌, ◌^◌, arith, refl, length}
use Rattle.def_bindings.specs.ModuleTree.{chain_in}
use Rattle.def_bindings.specs.Visibility.{order_over}
use Rattle.def_sources.specs.Tables.{bound_by}
use Rattle.def_rules.specs.Globs.{unnamed_entry}
use Rattle.def_steps.proofs.GatherLemmas.{gathered_all, gathered_more, within_index}
use Rattle.def_steps.proofs.glob_scope.GlobScope.push_unnamed_traits.Goals as goal

pub unnamed-init : goal.unnamed-init
unnamed-init c = refl

pub overflow_add-index : goal.overflow_add-index
overflow_add-index c =
    let traits = (bound_by c.args.self.now.table.now).unnamed c.args.self.now.source in
    let h : c.unnamed.index < length traits = within_index traits c.unnamed.index (c.in-Some.item, c.in-Some.vis) c.in-Some.ensures.item in
    let few : length traits < 2 ^ 64 = c.in-Some.ensures.few in
    omega arith

pub unnamed-smaller : goal.unnamed-smaller
unnamed-smaller c =
    let traits = (bound_by c.args.self.now.table.now).unnamed c.args.self.now.source in
    let h : c.unnamed.index < length traits = within_index traits c.unnamed.index (c.in-Some.item, c.in-Some.vis) c.in-Some.ensures.item in
    omega arith

pub unnamed-preserved : goal.unnamed-preserved
unnamed-preserved c =
    let self = c.args.self.now in
    let content = bound_by self.table.now in
    gathered_more (unnamed_entry (order_over (chain_in self.order.now)) self.glob self.own) (content.unnamed self.source) c.unnamed.index (c.in-Some.item, c.in-Some.vis)
    c.unnamed.entries.items c.push_unnamed.new.entries.items _ c.in-Some.ensures.item c.in_ok-push_unnamed.ensures c.unnamed.invariant

pub returns : goal.returns
returns c =
    let self = c.args.self.now in
    let content = bound_by self.table.now in
    gathered_all (unnamed_entry (order_over (chain_in self.order.now)) self.glob self.own) (content.unnamed self.source) c.unnamed.index
    c.unnamed.entries.items _ c.in_default.ensures.item c.unnamed.invariant
