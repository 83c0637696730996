use Rattle.std.proofs.Common.{ap, ◌∙◌, ◌&&◌}
use Rattle.def_ids.specs.Equality.{macro_eq}
use Rattle.def_database.specs.contracts.database.DerivePlacePartialEq.TheImpl as derive_places
use Rattle.def_database.specs.ByMacro.{said_at}
use Rattle.def_database.specs.Calls.{derive_call, derive_place, derive_place_eq, place_of}
use Rattle.def_database.specs.Database.{answers_of}
use Rattle.def_database.proofs.CallsLemmas.{derive_places_same, for-rekeyed, made-set, still-rekeyed}
use Rattle.def_database.proofs.FillingLemmas.{refused}
use Rattle.def_database.proofs.database.Database.add_derive_call.Goals as goal

pub returns-clause-ok : goal.returns-clause-ok
returns-clause-ok c =
    let old = c.args.self.now.calls.derives in
    let place = place_of c.args.key in
    let macro_id = c.args.key.macro_id in
    let e = for-rekeyed derive_places.ghosts.eq derive_place_eq derive_places_same old c.write_for.new.written place macro_id c.args.call c.in_ok-write_for.ensures.ok in
    let set = made-set derive_place (λ query. query.macro_def.id) (λ p m. derive_place_eq place p && macro_eq macro_id m) c.args.call (said_at derive_place_eq old) in
    ap (λ f. record (answers_of c.args.self.now) { make_derive_call = f }) (ap derive_call e ∙ set)

pub returns-in_err-write_for-clause-err : goal.returns-in_err-write_for-clause-err
returns-in_err-write_for-clause-err c =
    let still = still-rekeyed derive_places.ghosts.eq derive_place_eq derive_places_same c.args.self.now.calls.derives c.write_for.new.written c.in_err-write_for.ensures.err in
    refused c.from_residual.result (ap (λ f. record (answers_of c.args.self.now) { make_derive_call = derive_call f }) still)
