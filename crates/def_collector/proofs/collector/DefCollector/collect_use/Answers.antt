use Rattle.std.proofs.Common.{◌++◌, IsPermutation, List, ap, refl, subst, sym, ◌∙◌}
use Rattle.std.proofs.lemmas.List.Sorted.{IsPermutation-refl}
use Rattle.def_interner.specs.Session.{in_module, session_of}
use Rattle.def_parts.specs.Sites.{site_of}
use Rattle.def_collector.specs.Collector.{state_of}
use Rattle.def_rules.specs.Locations.{number_kind}
use Rattle.def_laws.proofs.LocationsLaws.{own_use}
use Rattle.def_rules.specs.State.{ImportDirective, State}
use Rattle.def_items.proofs.ItemsLemmas.{handled_use, imports_at}
use Rattle.def_steps.specs.ImportLists.{pending}
use Rattle.def_laws.proofs.RecordLaws.{on_ok}
use Rattle.def_collector.proofs.collector.DefCollector.collect_use.Goals as goal

pub returns-clause-handled : goal.returns-clause-handled
returns-clause-handled c = on_ok c.queue.result c.queue.ensures (λ queues oracle kind.
    let before : State = state_of c.args.self.now c.args.session.now in
    let old : List ImportDirective = pending c.args.self.now.imports in
    let new : List ImportDirective = imports_at c.args.site.now.module_id c.position-position.result c.in_ok-use_id.use_id.0 c.args.visibility.now c.is_prelude_import.result c.args.imports.now in
    let queued = queues ∙ ap (λ l. old ++ imports_at c.args.site.now.module_id c.position-position.result c.in_ok-use_id.use_id.0 c.args.visibility.now c.is_prelude_import.result l) c.as_slice.ensures in
    handled_use oracle before _ (session_of c.intern.new.session) (site_of c.args.site.now) c.args.node.now _ _ c.in_ok-use_id.use_id.0 c.position-position.result c.is_prelude_import.result
    kind (own_use (site_of c.args.site.now) c.args.node.now c.args.session.now c.intern.new.session (record { container = c.args.site.now.module_id; position = c.position-position.result }) (ap number_kind kind)
    (ap (in_module c.args.site.now.module_id) c.position-position.ensures) c.in_ok-use_id.ensures.grown c.in_ok-use_id.ensures.others c.in_ok-use_id.ensures.adds) c.position-position.ensures c.is_prelude_import.ensures c.in_ok-use_id.ensures.shown
    (record { imports = subst (IsPermutation (old ++ new)) (sym queued) (IsPermutation-refl (old ++ new)); rest = refl }))
