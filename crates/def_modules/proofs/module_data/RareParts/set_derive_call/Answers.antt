use Rattle.std.proofs.Common.{◌∷◌, ap, map, sym}
use Rattle.def_modules.specs.declared.module_data.DeriveRecords.{DeriveRecords}
use Rattle.def_modules.specs.RareParts.{rare_state}
use Rattle.def_modules.specs.ScopeMaps.{derive_state}
use Rattle.def_modules.specs.EqualityLaws.{derive_keys_same}
use Rattle.def_modules.proofs.ScopesLemmas.{derives-called, some_there}
use Rattle.def_modules.proofs.module_data.RareParts.set_derive_call.Goals as goal

pub returns-in-Some : goal.returns-in-Some
returns-in-Some c =
    let was : DeriveRecords = c.in-Some.records.now in
    let now : DeriveRecords = record was { first = c.set_call.new.self } in
    let there = sym c.in-Some.ensures.value in
    let after = ((c.get_mut.follows.holds now).3 (some_there there)).0 in
    let called = ap (λ first. first ∷ map derive_state was.later) c.set_call.ensures in
    let r = c.args.self.now in
    let e = derives-called r.derives (c.get_mut.follows.lender now) c.args.position c.args.attr c.args.pos c.args.call was now _ derive_keys_same there called after in
    ap (λ f. record (rare_state r) { derives = f }) e
