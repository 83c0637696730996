use Rattle.std.proofs.Common.{refl}
use Rattle.def_map.specs.DefMaps.{view_of}
use Rattle.def_modules.specs.Locals.{local_view}
use Rattle.visible_names.specs.Visible.{asking, brought}
use Rattle.visible_names.proofs.ListsLemmas.{gathers_all, gathers_read}
use Rattle.visible_names.proofs.seen.Seen.add_names.Goals as goal

pub names-init : goal.names-init
names-init g c = refl

pub names-preserved : goal.names-preserved
names-preserved g c =
    let self = c.args.self.now in
    gathers_read (brought (asking (g.D.SourceDatabase.oracle self.db.now) (local_view self.local.now)) (view_of self.map.now) self.place c.args.by) c.args.names.now c.names.name-index _
    c.names.list.items c.add.new.list.items _ c.names-test.true c.in_ok-add.ensures c.names.invariant

pub returns : goal.returns
returns g c =
    let self = c.args.self.now in
    gathers_all (brought (asking (g.D.SourceDatabase.oracle self.db.now) (local_view self.local.now)) (view_of self.map.now) self.place c.args.by) c.args.names.now c.names.name-index
    c.names.list.items _ c.names-test.false c.names.invariant
