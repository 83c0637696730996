use Rattle.std.proofs.Common.{ap, ◌∙◌}
use Rattle.def_database.specs.contracts.database.DerivePlacePartialEq.TheImpl as derive_places
use Rattle.def_database.specs.ByMacro.{said_at}
use Rattle.def_database.specs.Calls.{derive_call, derive_place, derive_place_eq}
use Rattle.def_database.specs.Database.{answers_of}
use Rattle.def_database.proofs.CallsLemmas.{any-rekeyed, derive_places_same, made-set, still-rekeyed}
use Rattle.def_database.proofs.FillingLemmas.{refused}
use Rattle.def_database.proofs.database.Database.add_derive_call_at.Goals as goal

pub returns-clause-ok : goal.returns-clause-ok
returns-clause-ok c =
    let old = c.args.self.now.calls.derives in
    let e = any-rekeyed derive_places.ghosts.eq derive_place_eq derive_places_same old c.write_for_any.new.written c.args.place c.args.call c.in_ok-write_for_any.ensures.ok in
    let set = made-set derive_place (λ query. query.macro_def.id) (λ p m. derive_place_eq c.args.place p) c.args.call (said_at derive_place_eq old) in
    ap (λ f. record (answers_of c.args.self.now) { make_derive_call = f }) (ap derive_call e ∙ set)

pub returns-in_err-write_for_any-clause-err : goal.returns-in_err-write_for_any-clause-err
returns-in_err-write_for_any-clause-err c =
    let still = still-rekeyed derive_places.ghosts.eq derive_place_eq derive_places_same c.args.self.now.calls.derives c.write_for_any.new.written c.in_err-write_for_any.ensures.err in
    refused c.from_residual.result (ap (λ f. record (answers_of c.args.self.now) { make_derive_call = derive_call f }) still)
