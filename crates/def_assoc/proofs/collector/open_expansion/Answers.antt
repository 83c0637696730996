use Rattle.std.proofs.Common.{ap, sym, arith, ◌∙◌}
use Rattle.tree_ids.specs.declared.ids.HirFileId.TheVariants as file_of
use Rattle.def_modules.specs.Maps.{map_state}
use Rattle.def_assoc.specs.ExpansionTrees.{nodes_in}
use Rattle.def_assoc.proofs.WalkLemmas.{is_opened, less_deep, less_none, less_opened, pushed}
use Rattle.def_assoc.proofs.collector.open_expansion.Goals as goal

pub returns-in_default-clause-less : goal.returns-in_default-clause-less
returns-in_default-clause-less g c = less_none (g.D.SourceDatabase.oracle c.args.world.now.db.now) (map_state c.args.world.now.map.now) c.args.depth c.args.call c.in_default.is

pub returns-then-is_too_deep-clause-less : goal.returns-then-is_too_deep-clause-less
returns-then-is_too_deep-clause-less g c =
    less_deep (g.D.SourceDatabase.oracle c.args.world.now.db.now) (map_state c.args.world.now.map.now) c.args.depth c.args.call c.in-Some.call c.in-Some.is (sym c.is_too_deep.ensures ∙ c.if-is_too_deep.true)

pub returns-then-rest-eq0-clause-less : goal.returns-then-rest-eq0-clause-less
returns-then-rest-eq0-clause-less g c =
    less_opened (g.D.SourceDatabase.oracle c.args.world.now.db.now) (map_state c.args.world.now.map.now) c.args.depth c.args.call c.in-Some.call c.items_of-rest.result.now c.in-Some.is (sym c.is_too_deep.ensures ∙ c.if-is_too_deep.false) c.ranges.depth.fits c.items_of-rest.ensures (omega arith)

pub returns-clause-opened : goal.returns-clause-opened
returns-clause-opened g c =
    let oracle = g.D.SourceDatabase.oracle c.args.world.now.db.now in
    let map = map_state c.args.world.now.map.now in
    pushed c.args.lists.now.items c.push.new.self.items _ _ c.in_ok-push.ensures.items
    (is_opened oracle map c.args.depth c.args.call c.in-Some.call c.items_of-rest.result.now c.in-Some.is (sym c.is_too_deep.ensures ∙ c.if-is_too_deep.false) c.items_of-rest.ensures
    ∙ ap (λ d. nodes_in (file_of.Macro c.in-Some.call) d c.items_of-rest.result.now) (sym c.deeper.ensures))

pub returns-clause-less : goal.returns-clause-less
returns-clause-less g c =
    less_opened (g.D.SourceDatabase.oracle c.args.world.now.db.now) (map_state c.args.world.now.map.now) c.args.depth c.args.call c.in-Some.call c.items_of-rest.result.now c.in-Some.is (sym c.is_too_deep.ensures ∙ c.if-is_too_deep.false) c.ranges.depth.fits c.items_of-rest.ensures (omega arith)
