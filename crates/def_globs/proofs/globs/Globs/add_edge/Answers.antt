use Rattle.def_globs.proofs.AddingLaws.{adding_closed, adding_begins, adding_coherent, adding_raised, adding_edge, added}
use Rattle.def_globs.proofs.globs.Globs.add_edge.Goals as goal

pub returns-clause-edge : goal.returns-clause-edge
returns-clause-edge g c =
    rw (← c.self.view_is) (added (g.O.VisOrder.order c.args.order.now) (g.T.BindingTable.content c.self.inside.table) (g.T.BindingTable.content c.set_edge.new.self) c.args.source
    (record { importer = c.args.importer; vis = c.args.vis; glob = c.args.glob }) c.edge_to-there.result c.join-edge.result c.edge_to-there.ensures c.join-edge.ensures c.in_ok-set_edge.ensures.done)

pub returns-clause-closed : goal.returns-clause-closed
returns-clause-closed g c =
    rw (← c.self.view_is) (adding_closed (g.O.VisOrder.order c.args.order.now) (g.T.BindingTable.content c.self.inside.table) (g.T.BindingTable.content c.set_edge.new.self) c.args.source
    (record { importer = c.args.importer; vis = c.args.vis; glob = c.args.glob })
    (added (g.O.VisOrder.order c.args.order.now) (g.T.BindingTable.content c.self.inside.table) (g.T.BindingTable.content c.set_edge.new.self) c.args.source
    (record { importer = c.args.importer; vis = c.args.vis; glob = c.args.glob }) c.edge_to-there.result c.join-edge.result c.edge_to-there.ensures c.join-edge.ensures c.in_ok-set_edge.ensures.done))

pub returns-clause-begins : goal.returns-clause-begins
returns-clause-begins g c =
    rw (← c.self.view_is) (adding_begins (g.O.VisOrder.order c.args.order.now) (g.T.BindingTable.content c.self.inside.table) (g.T.BindingTable.content c.set_edge.new.self) c.args.source
    (record { importer = c.args.importer; vis = c.args.vis; glob = c.args.glob })
    (added (g.O.VisOrder.order c.args.order.now) (g.T.BindingTable.content c.self.inside.table) (g.T.BindingTable.content c.set_edge.new.self) c.args.source
    (record { importer = c.args.importer; vis = c.args.vis; glob = c.args.glob }) c.edge_to-there.result c.join-edge.result c.edge_to-there.ensures c.join-edge.ensures c.in_ok-set_edge.ensures.done))

pub returns-clause-coherent : goal.returns-clause-coherent
returns-clause-coherent g c =
    rw (← c.self.view_is) (adding_coherent (g.O.VisOrder.order c.args.order.now) (g.T.BindingTable.content c.self.inside.table) (g.T.BindingTable.content c.set_edge.new.self) c.args.source
    (record { importer = c.args.importer; vis = c.args.vis; glob = c.args.glob })
    (added (g.O.VisOrder.order c.args.order.now) (g.T.BindingTable.content c.self.inside.table) (g.T.BindingTable.content c.set_edge.new.self) c.args.source
    (record { importer = c.args.importer; vis = c.args.vis; glob = c.args.glob }) c.edge_to-there.result c.join-edge.result c.edge_to-there.ensures c.join-edge.ensures c.in_ok-set_edge.ensures.done))

pub returns-clause-led : goal.returns-clause-led
returns-clause-led g c =
    rw (← c.self.view_is) (adding_edge (g.O.VisOrder.order c.args.order.now) (g.T.BindingTable.content c.self.inside.table) (g.T.BindingTable.content c.set_edge.new.self) c.args.source
    (record { importer = c.args.importer; vis = c.args.vis; glob = c.args.glob })
    (added (g.O.VisOrder.order c.args.order.now) (g.T.BindingTable.content c.self.inside.table) (g.T.BindingTable.content c.set_edge.new.self) c.args.source
    (record { importer = c.args.importer; vis = c.args.vis; glob = c.args.glob }) c.edge_to-there.result c.join-edge.result c.edge_to-there.ensures c.join-edge.ensures c.in_ok-set_edge.ensures.done))

pub returns-clause-raised : goal.returns-clause-raised
returns-clause-raised g c =
    rw (← c.self.view_is) (adding_raised (g.O.VisOrder.order c.args.order.now) (g.T.BindingTable.content c.self.inside.table) (g.T.BindingTable.content c.set_edge.new.self) c.args.source
    (record { importer = c.args.importer; vis = c.args.vis; glob = c.args.glob })
    (added (g.O.VisOrder.order c.args.order.now) (g.T.BindingTable.content c.self.inside.table) (g.T.BindingTable.content c.set_edge.new.self) c.args.source
    (record { importer = c.args.importer; vis = c.args.vis; glob = c.args.glob }) c.edge_to-there.result c.join-edge.result c.edge_to-there.ensures c.join-edge.ensures c.in_ok-set_edge.ensures.done))
