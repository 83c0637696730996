use Rattle.std.proofs.Common.{ap, Some}
use Rattle.def_modules.specs.Equality.{position_eq}
use Rattle.def_modules.specs.EqualityLaws.{derived_position_eq, positions_same}
use Rattle.def_modules.proofs.CrateLemmas.{rekeyed}
use Rattle.def_database.specs.Database.{answers_of}
use Rattle.def_database.proofs.FillingLemmas.{shown-set}
use Rattle.def_database.proofs.database.Database.add_variants.Goals as goal

pub returns-clause-ok : goal.returns-clause-ok
returns-clause-ok c =
    let old = c.args.self.now.types.variants in
    let keyed = rekeyed derived_position_eq position_eq positions_same old c.insert.new.self c.args.position (Some c.args.variants) c.in_ok-insert.ensures.updates.0 in
    let e = shown-set position_eq (λ v. v.items) old c.insert.new.self c.args.position c.args.variants (λ q. ap (λ f. f q) keyed) in
    ap (λ f. record (answers_of c.args.self.now) { enum_variants = λ loc. f loc.position }) e
