use Rattle.std.proofs.Common.{◌≡◌, ◌<◌, [], length, sym, ◌∙◌, below_more, rules, arith}
use Rattle.std.proofs.lemmas.Bool.{eqb-true}
use Rattle.std.proofs.lemmas.List.{nil_from_length}
use Rattle.std.proofs.lemmas.Option.{slice_get_within}
use Rattle.def_modules.proofs.FreshLemmas.{none_under, value_met}
use Rattle.def_modules.proofs.fresh.are_lists_empty.Goals as goal
use Rattle.def_modules.proofs.fresh.are_lists_empty.Goals.{in-Some+else-not-is_empty, in_default}

pub loop-i-init : goal.loop-i-init
loop-i-init g c = λ j below e at. absurd (omega arith)

pub loop-i-preserved : goal.loop-i-preserved
loop-i-preserved g c =
    below_more _ _ c.loop-i.invariant
    (λ e at. elim c.match-get_index.branch [
      | in-Some+else-not-is_empty w ↦
          let none : w.in-Some.list.now ≡ [] = nil_from_length w.in-Some.list.now (eqb-true (length w.in-Some.list.now) 0 (sym w.is_empty.ensures ∙ w.if-not-is_empty.false)) in
          value_met w.in-Some.field-0-0.now w.in-Some.list.now e _ w.in-Some.ensures.entry at ∙ none
      | in_default w ↦ let none = w.in_default.ensures.entry in cc
    ])

pub returns : goal.returns
returns g c = (
  λ h k. none_under c.args.lists.now.entries (g.K.PartialEq.eq k)
      (λ j e at.
      let within : j < length c.args.lists.now.entries = slice_get_within c.args.lists.now.entries j e at in
      c.loop-i.invariant j (omega (arith, c.len-i-end.ensures.len)) e at),
  λ h. search rules,
)
