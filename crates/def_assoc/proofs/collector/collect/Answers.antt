use Rattle.std.proofs.Common.{◌≡◌, ◌∷◌, [], ap, subst}
use Rattle.std.specs.Prelude.{MatchOption}
use Rattle.def_modules.specs.Maps.{map_state}
use Rattle.def_assoc.specs.ExpansionTrees.{expansion_of}
use Rattle.def_assoc.specs.Shown.{found_of, node_of, reading_of, unread}
use Rattle.def_assoc.proofs.TreesLemmas.{found_more}
use Rattle.def_assoc.proofs.collector.collect.Goals as goal

pub items-preserved : goal.items-preserved
items-preserved g c =
    let oracle = g.D.SourceDatabase.oracle c.args.world.now.db.now in
    let map = map_state c.args.world.now.map.now in
    let before = subst (λ next. MatchOption next (unread c.items.lists.items ≡ []) (λ node. unread c.items.lists.items ≡ node_of node ∷ unread c.next_node.new.lists.items)) c.in-Some.is c.in_ok-node.ensures in
    found_more (reading_of g.D.SourceDatabase.oracle c.args.world.now c.args.module_id) _ (found_of c.items.found) (found_of c.collect_item.new.found)
    (unread c.items.lists.items) (unread c.open_expansion.new.lists.items) (unread c.next_node.new.lists.items) (expansion_of oracle map c.in-Some.node.depth c.in_ok-expands.expands) (node_of c.in-Some.node) c.open_expansion.ensures.fits
    c.items.invariant before c.in_ok-expands.ensures.1 (ap (expansion_of oracle map c.in-Some.node.depth) c.in_ok-expands.ensures.0) c.in_ok-open_expansion.ensures.opened
