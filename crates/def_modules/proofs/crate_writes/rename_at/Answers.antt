use Rattle.std.proofs.Common.{◌<◌, ◌≤◌, vec_len, refl, sym, map, arith, rules}
use Rattle.std.proofs.lemmas.List.{length-map}
use Rattle.def_modules.specs.Maps.{given_by, helper_state}
use Rattle.def_modules.proofs.MapsLemmas.{shown-set, missing}
use Rattle.def_modules.proofs.crate_writes.rename_at.Goals as goal

pub returns-in-Some : goal.returns-in-Some
returns-in-Some c =
    let helpers = c.args.helpers.now in
    let within : c.args.place < vec_len helpers = search rules in
    shown-set helper_state helpers.items c.args.place c.in-Some.helper.now _ (given_by c.args.id) (omega (arith, within, helpers.ok.0)) c.in-Some.ensures.value refl

pub returns-in_default : goal.returns-in_default
returns-in_default c =
    let helpers = c.args.helpers.now in
    let beyond : vec_len helpers ≤ c.args.place = search rules in
    sym (missing (map helper_state helpers.items) c.args.place (given_by c.args.id) (omega (arith, beyond, helpers.ok.0, length-map helpers.items helper_state)))
