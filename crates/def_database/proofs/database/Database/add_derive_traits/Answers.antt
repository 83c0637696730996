use Rattle.std.proofs.Common.{[]}
use Rattle.std.specs.Prelude.{is_some, nat_eq}
use Rattle.std.specs.Option.{option_map_or}
use Rattle.def_database.specs.Database.{answers_of}
use Rattle.def_database.proofs.FillingLemmas.{read-set}
use Rattle.def_database.proofs.database.Database.add_derive_traits.Goals as goal

pub returns-clause-ok : goal.returns-clause-ok
returns-clause-ok c =
    let old = c.args.self.now.builtins.derive_traits in
    let written = c.in_ok-insert.ensures.updates.0 in
    let has = read-set nat_eq is_some old c.insert.new.self c.args.number c.args.traits written in
    let traits = read-set nat_eq (λ o. option_map_or (λ v. v.items) o []) old c.insert.new.self c.args.number c.args.traits written in
    λ i. record (answers_of c.args.self.now) { has_builtin_derive_impl = has i; derive_traits = traits i }
