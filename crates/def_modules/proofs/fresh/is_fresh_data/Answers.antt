use Rattle.std.proofs.Common.{◌≡◌, Option, rules, sym, subst}
use Rattle.std.specs.Prelude.{IsTrue}
use Rattle.tree_ids.specs.declared.ids.BlockId.{BlockId}
use Rattle.def_modules.specs.Maps.{map_state}
use Rattle.def_modules.specs.Fresh.{fresh_by}
use Rattle.def_modules.proofs.EmptiedLemmas.{crate_fresh, fresh_crate_parts, emptied_from_fresh}
use Rattle.def_modules.proofs.fresh.is_fresh_data.Goals as goal

pub returns-then-not-is_emptied : goal.returns-then-not-is_emptied
returns-then-not-is_emptied c =
    let s = map_state c.args.map.now in
    (search rules, λ h. let there = c.is_emptied.ensures.1 (emptied_from_fresh s s.id.block h) in cc)

pub returns-in-None : goal.returns-in-None
returns-in-None c =
    let s = map_state c.args.map.now in
    let holds : IsTrue c.is_emptied.result = cc in
    let P : Option BlockId → Type 0 = λ b. s ≡ fresh_by b s in (
      λ h. subst P (sym c.in-None.is) (crate_fresh s (c.is_emptied.ensures.0 holds) (c.is_of_fresh_crate.ensures.0 h)),
      λ h. c.is_of_fresh_crate.ensures.1 (fresh_crate_parts s (subst P c.in-None.is h)).1,
    )

pub returns-in-Some : goal.returns-in-Some
returns-in-Some c =
    let s = map_state c.args.map.now in
    let holds : IsTrue c.is_emptied.result = cc in
    let P : Option BlockId → Type 0 = λ b. s ≡ fresh_by b s in (
      λ h. subst P (sym c.in-Some.is) (c.is_emptied.ensures.0 holds),
      λ h. search rules,
    )
