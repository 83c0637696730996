use Rattle.std.proofs.Common.{List, subst}
use Rattle.def_ids.specs.declared.ids.MapId.{MapId}
use Rattle.def_bindings.specs.Tree.{module_of}
use Rattle.def_map.specs.DefMaps.{view_of}
use Rattle.def_modules.specs.Locals.{local_view}
use Rattle.visible_names.specs.declared.brought.BroughtBy.TheVariants.{TextualMacro}
use Rattle.visible_names.specs.declared.brought.VisibleName.{VisibleName}
use Rattle.visible_names.specs.Visible.{asking, AddsAll, ShowsAll}
use Rattle.visible_names.proofs.VisibleLemmas.{shows_all}
use Rattle.visible_names.proofs.listed.visible_names.Goals as goal

pub returns : goal.returns
returns g c =
    let oracle = g.D.SourceDatabase.oracle c.args.db.now in
    let own = view_of c.args.map.now in
    let local = local_view c.args.local.now in
    let place = module_of c.id.result c.args.module in
    subst (λ (id : MapId). ShowsAll oracle own local (module_of id c.args.module) c.add_all-5.new.list.items) c.id.ensures (
    shows_all oracle own local place c.add_all.new.list.items c.add_all-2.new.list.items c.add_all-3.new.list.items c.add_all-4.new.list.items c.add_all-5.new.list.items
    (subst (λ (l : List VisibleName). AddsAll (asking oracle local) own place TextualMacro l c.add_all.new.list.items) c.new-list.ensures.items c.in_ok-add_all.ensures)
    c.in_ok-add_all-2.ensures c.in_ok-add_all-3.ensures c.in_ok-add_all-4.ensures c.in_ok-add_all-5.ensures
    )
