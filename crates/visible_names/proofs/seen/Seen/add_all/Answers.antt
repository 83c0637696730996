use Rattle.def_map.specs.DefMaps.{view_of}
use Rattle.def_modules.specs.Locals.{local_view}
use Rattle.visible_names.specs.Visible.{asking}
use Rattle.visible_names.proofs.VisibleLemmas.{added_all}
use Rattle.visible_names.proofs.seen.Seen.add_all.Goals as goal

pub returns : goal.returns
returns g c =
    let self = c.args.self.now in
    added_all (asking (g.D.SourceDatabase.oracle self.db.now) (local_view self.local.now)) (view_of self.map.now) self.place c.args.by
    c.args.list.now.items c.add_names.new.list.items c.names-names.result.now c.names-names.ensures.all c.names-names.ensures.once c.in_ok-add_names.ensures
