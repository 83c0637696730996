use Rattle.def_map.specs.DefMaps.{view_of}
use Rattle.def_modules.specs.Locals.{local_view}
use Rattle.visible_names.specs.Visible.{asking}
use Rattle.visible_names.proofs.VisibleLemmas.{added_name}
use Rattle.visible_names.proofs.seen.Seen.add.Goals as goal

pub returns : goal.returns
returns g c =
    let self = c.args.self.now in
    added_name (asking (g.D.SourceDatabase.oracle self.db.now) (local_view self.local.now)) (view_of self.map.now) self.place c.args.by c.args.name
    c.has-found.result c.before-before.result c.args.list.now.items c.add_in.new.list.items c.add_in-2.new.list.items c.add_in-3.new.list.items
    c.has-found.ensures c.before-before.ensures c.in_ok-add_in.ensures c.in_ok-add_in-2.ensures c.in_ok-add_in-3.ensures
