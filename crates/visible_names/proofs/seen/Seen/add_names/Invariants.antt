use Rattle.std.proofs.Common.{◌≡◌, ◌++◌, drop}
use Rattle.def_map.specs.DefMaps.{view_of}
use Rattle.def_modules.specs.Locals.{local_view}
use Rattle.visible_names.specs.Visible.{asking, all_brought}
use Rattle.visible_names.proofs.seen.Seen.add_names.Given as goal

-- the entries so far and those to come are those of all names
abbrev pub invariant-names : goal.invariant-names
invariant-names g l =
    let all = all_brought (asking (g.D.SourceDatabase.oracle l.self.db.now) (local_view l.self.local.now)) (view_of l.self.map.now) l.self.place l.by in
    l.list.items ++ all (drop l.name-index l.names) ≡ l.initial.list.items ++ all l.names
