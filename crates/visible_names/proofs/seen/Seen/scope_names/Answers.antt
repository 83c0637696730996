use Rattle.std.proofs.Common.{List, Contains, sym, subst}
use Rattle.tree_ids.specs.declared.name.Name.{Name}
use Rattle.def_tables.specs.Kept.{numbered_vis}
use Rattle.def_tables.specs.Lists.{AreDistinct}
use Rattle.def_tables.specs.NumberedTableLaws.{are_once}
use Rattle.def_map.specs.DefMaps.{view_of}
use Rattle.def_sources.specs.Sources.{map_of_id}
use Rattle.def_sources.specs.Tables.{bound_by}
use Rattle.visible_names.proofs.NamesLemmas.{lists_in, none_once}
use Rattle.visible_names.proofs.seen.Seen.scope_names.Goals as goal

pub returns-in-Some-clause-all : goal.returns-in-Some-clause-all
returns-in-Some-clause-all g c =
    let self = c.args.self.now in
    λ name ns item e. subst (λ (l : List Name). Contains l name) (sym c.names.ensures)
    (lists_in (map_of_id (g.D.SourceDatabase.oracle self.db.now) (view_of self.map.now) c.args.place.map) (bound_by c.in-Some.table.now) c.args.place c.in-Some.ensures c.know_tied.ensures name ns item e)

pub returns-in-Some-clause-once : goal.returns-in-Some-clause-once
returns-in-Some-clause-once g c = subst AreDistinct (sym c.names.ensures) (are_once numbered_vis c.in-Some.table.now c.args.place)

pub returns-in-None-clause-once : goal.returns-in-None-clause-once
returns-in-None-clause-once g c = none_once
