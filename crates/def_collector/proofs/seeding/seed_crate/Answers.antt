use Rattle.def_collector.specs.Collector.{state_of}
use Rattle.def_laws.proofs.StartLaws.{crate_seeded}
use Rattle.def_collector.proofs.seeding.seed_crate.Goals as goal

pub returns : goal.returns
returns g c =
    let session = c.args.session.now in
    crate_seeded (g.D.SourceDatabase.oracle c.args.db.now) c.args.attrs.now (state_of c.args.collector.now session) (state_of c.read_root.new.collector session) (state_of c.inject_prelude.new.collector session)
    (c.in_ok-read_root.ensures session) c.in_ok-inject_prelude.ensures
