use Rattle.std.proofs.Common.{ap, Some}
use Rattle.def_modules.specs.Equality.{position_eq}
use Rattle.def_modules.specs.EqualityLaws.{derived_position_eq, positions_same}
use Rattle.def_modules.proofs.CrateLemmas.{rekeyed}
use Rattle.def_database.specs.Database.{answers_of}
use Rattle.def_database.proofs.CallsLemmas.{styles-set}
use Rattle.def_database.proofs.database.Database.add_styles.Goals as goal

pub returns-clause-ok : goal.returns-clause-ok
returns-clause-ok c =
    let e = rekeyed derived_position_eq position_eq positions_same c.args.self.now.calls.styles c.insert.new.self c.args.position (Some c.args.styles) c.in_ok-insert.ensures.updates.0 in
    ap (λ f. record (answers_of c.args.self.now) { rule_styles = f }) (styles-set c.args.position c.args.styles _ _ e)
