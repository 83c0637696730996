use Rattle.std.proofs.Common.{◌≡◌, ◌+◌, ◌-◌, suc, ap, sym, ◌∙◌, map, arith}
use Rattle.def_modules.specs.Maps.{given_by, helper_state, renamed_from}
use Rattle.def_modules.specs.Updates.{update_at}
use Rattle.def_modules.proofs.HelpersLemmas.{one_more_renamed, renamed_nowhere}
use Rattle.def_modules.proofs.crate_writes.rename_within.Goals as goal

pub places-init : goal.places-init
places-init c =
    let start = c.args.range.start in
    let helpers = map helper_state c.args.helpers.now in
    let none : start - start ≡ 0 = omega arith in (
      omega arith,
      omega arith,
      ap (map helper_state) (c.into_vec-items.ensures ∙ c.replace.ensures.value) ∙ sym (ap (λ n. renamed_from start n c.args.id helpers) none ∙ renamed_nowhere start c.args.id helpers),
    )

pub places-preserved : goal.places-preserved
places-preserved c =
    let start = c.args.range.start in
    let place = c.places.place in
    let helpers = map helper_state c.args.helpers.now in
    let held = c.places.invariant in
    let here : place ≡ start + (place - start) = omega (arith, held.0) in
    let next : suc (place - start) ≡ (place + 1) - start = omega (arith, held.0) in (
      omega (arith, held.0),
      omega (arith, held.0, held.1, c.places-test.true),
      c.rename_at.ensures ∙ ap (λ hs. update_at hs place (given_by c.args.id)) held.2
          ∙ one_more_renamed start (place - start) place c.args.id helpers here ∙ ap (λ n. renamed_from start n c.args.id helpers) next,
    )

pub returns : goal.returns
returns c =
    let start = c.args.range.start in
    let place = c.places.place in
    let held = c.places.invariant in
    let all : place - start ≡ c.args.range.end - start = omega (arith, held.0, held.1, c.places-test.false) in
    ap (map helper_state) c.from_vec.ensures ∙ held.2 ∙ ap (λ n. renamed_from start n c.args.id (map helper_state c.args.helpers.now)) all
