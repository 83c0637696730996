use Rattle.std.proofs.Common.{ap, []}
use Rattle.std.specs.Option.{option_map_or}
use Rattle.def_database.specs.Database.{answers_of, crate_eq}
use Rattle.def_database.proofs.FillingLemmas.{read-set}
use Rattle.def_database.proofs.database.Database.add_proc_macros.Goals as goal

pub returns-clause-ok : goal.returns-clause-ok
returns-clause-ok c =
    let e = read-set crate_eq (λ o. option_map_or (λ v. v.items) o []) c.args.self.now.crates.proc_macros c.insert.new.self c.args.krate c.args.macros c.in_ok-insert.ensures.updates.0 in
    ap (λ f. record (answers_of c.args.self.now) { proc_macros = f }) e
