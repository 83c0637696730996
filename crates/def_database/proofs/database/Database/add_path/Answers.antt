use Rattle.std.proofs.Common.{ap}
use Rattle.def_database.specs.Database.{answers_of}
use Rattle.def_database.proofs.database.Database.add_path.Goals as goal

pub returns-clause-ok : goal.returns-clause-ok
returns-clause-ok c = ap (λ f. record (answers_of c.args.self.now) { resolve_path = f }) c.in_ok-lead_from.ensures.ok
