use Rattle.def_interner.specs.Session.{session_of}
use Rattle.def_map.specs.MapStates.{finished_state}
use Rattle.def_sources.specs.Sources.{finished_map}
use Rattle.def_assoc.specs.Shown.{found_of, reading_of}
use Rattle.def_assoc.proofs.OwnersLemmas.{with_both, without_local, without_map}
use Rattle.def_assoc.proofs.owners.collect_owner.Goals as goal

pub returns-in_default : goal.returns-in_default
returns-in_default g c =
    let oracle = g.D.SourceDatabase.oracle c.args.db.now in
    let states = g.D.SourceDatabase.states c.args.db.now in
    without_map oracle (session_of c.args.session.now) c.args.owner (found_of c.new.result) c.args.module_id c.args.file
    (finished_map oracle c.args.module_id.map) (finished_state states c.args.module_id.map) (oracle.local_def_map c.args.module_id.map.krate)
    c.in_default.ensures.view c.new.ensures

pub returns-in_default-local_def_map : goal.returns-in_default-local_def_map
returns-in_default-local_def_map g c =
    let oracle = g.D.SourceDatabase.oracle c.args.db.now in
    let states = g.D.SourceDatabase.states c.args.db.now in
    without_local oracle (session_of c.args.session.now) c.args.owner (found_of c.new-in_default-local_def_map.result) c.args.module_id c.args.file
    (finished_map oracle c.args.module_id.map) (finished_state states c.args.module_id.map) (oracle.local_def_map c.args.module_id.map.krate)
    _ _ c.in-Some.ensures.view c.in-Some.ensures.state c.in_default-local_def_map.ensures c.new-in_default-local_def_map.ensures

pub returns : goal.returns
returns g c =
    let oracle = g.D.SourceDatabase.oracle c.args.db.now in
    let states = g.D.SourceDatabase.states c.args.db.now in
    with_both oracle (session_of c.args.session.now) c.args.owner (found_of c.in_ok-found.found) c.args.module_id c.args.file
    (finished_map oracle c.args.module_id.map) (finished_state states c.args.module_id.map) (oracle.local_def_map c.args.module_id.map.krate)
    _ _ _ (reading_of g.D.SourceDatabase.oracle c.world-world.result c.args.module_id) c.expansion_depth.result c.items_of.result.now c.in-Some.ensures.view c.in-Some.ensures.state c.in-Some-local_def_map.ensures
    (λ i. record { world = c.world-world.ensures.world i; map = c.world-world.ensures.state i; scope = c.args.module_id }) c.expansion_depth.ensures c.items_of.ensures c.in_ok-found.ensures
