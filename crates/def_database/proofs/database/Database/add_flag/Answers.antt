use Rattle.std.proofs.Common.{ap}
use Rattle.def_database.specs.Database.{answers_of}
use Rattle.def_database.proofs.database.Database.add_flag.Goals as goal

pub returns-clause-ok : goal.returns-clause-ok
returns-clause-ok c =
    ap (λ f. record (answers_of c.args.self.now) { cfg_flag = f }) (λ i krate name. c.in_ok-insert.ensures.updates.0 (record { krate = krate; name = name }) i)
