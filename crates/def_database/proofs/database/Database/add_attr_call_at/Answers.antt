use Rattle.std.proofs.Common.{ap, ◌∙◌}
use Rattle.def_modules.specs.Equality.{position_eq}
use Rattle.def_modules.specs.EqualityLaws.{derived_position_eq, positions_same}
use Rattle.def_database.specs.ByMacro.{said_at}
use Rattle.def_oracle.specs.Queries.{PlainAttrCall}
use Rattle.def_database.specs.Calls.{attr_call}
use Rattle.def_database.specs.Database.{answers_of}
use Rattle.def_database.proofs.CallsLemmas.{any-rekeyed, made-set, still-rekeyed}
use Rattle.def_database.proofs.FillingLemmas.{refused}
use Rattle.def_database.proofs.database.Database.add_attr_call_at.Goals as goal

pub returns-clause-ok : goal.returns-clause-ok
returns-clause-ok c =
    let old = c.args.self.now.calls.attrs in
    let e = any-rekeyed derived_position_eq position_eq positions_same old c.write_for_any.new.written c.args.position c.args.call c.in_ok-write_for_any.ensures.ok in
    let set = made-set (λ (query : PlainAttrCall). query.position) (λ query. query.macro_def.id) (λ p m. position_eq c.args.position p) c.args.call (said_at position_eq old) in
    ap (λ f. record (answers_of c.args.self.now) { make_attr_call = f }) (ap attr_call e ∙ set)

pub returns-in_err-write_for_any-clause-err : goal.returns-in_err-write_for_any-clause-err
returns-in_err-write_for_any-clause-err c =
    let still = still-rekeyed derived_position_eq position_eq positions_same c.args.self.now.calls.attrs c.write_for_any.new.written c.in_err-write_for_any.ensures.err in
    refused c.from_residual.result (ap (λ f. record (answers_of c.args.self.now) { make_attr_call = attr_call f }) still)
