-- Where a state is stuck, and what giving an item up does.
use Rattle.std.proofs.Common.{◌≡◌, ◌<◌, ◌≤◌, ◌^◌, List, [], ◌∷◌, ◌++◌, length, ap, subst, ◌∙◌, arith}
use Rattle.std.specs.Prelude.{IsPermutation}
use Rattle.def_map.specs.Oracle.{Oracle}
use Rattle.def_rules.specs.Attributes.{item_site}
use Rattle.def_rules.specs.Calls.{deepest}
use Rattle.def_rules.specs.Fallback.{IsStuck, attr_reported}
use Rattle.def_rules.specs.State.{IsBare, State, Visit}
use Rattle.def_rules.specs.Waiting.{Attr, MacroDirective, WrittenAttr}
use Rattle.def_laws.specs.Runs.{CollectsCalmly, Leads}
use Rattle.def_laws.proofs.InTurnLaws.{turn_empty}
use Rattle.def_laws.proofs.PassLaws.{collects_given_up, collects_ordered, given_up_lighter, given_up_state, ordered_work, tried_none}
use Rattle.def_laws.proofs.StepsLaws.{calmly_trans}
use Rattle.def_rounds.specs.Rounds.{GivesUp}

-- An item is given up

module _ (oracle : Oracle) (s s' t : State) (before : List MacroDirective) (d : MacroDirective) (behind : List MacroDirective) (written : WrittenAttr) (stands : s.macros ≡ before ++ d ∷ behind) (is_attr : d.kind ≡ Attr written)
    (passed : s' ≡ given_up_state oracle s before d behind written stands is_attr) (leads : Leads oracle (Visit (item_site s' d written) written.item ∷ []) s' [] t) (macros : List MacroDirective) (same : IsPermutation t.macros macros) where
  abbrev given_up : State
  given_up = given_up_state oracle s before d behind written stands is_attr

  walked : Leads oracle (Visit (item_site (attr_reported s d written) d written) written.item ∷ []) given_up [] t
  walked = subst (λ x. Leads oracle (Visit (item_site x d written) written.item ∷ []) x [] t) passed leads

  gave_up_run : IsStuck oracle s → CollectsCalmly oracle [] s [] (record t { macros = macros })
  gave_up_run stuck = calmly_trans (collects_given_up oracle s before d behind written stands is_attr given_up t (tried_none oracle d given_up) walked stuck) (collects_ordered oracle t macros same)

  pub gave_up : IsStuck oracle s → d.depth ≤ deepest → length t.macros < 2 ^ 64 → GivesUp oracle s (record t { macros = macros })
  gave_up stuck most few = record {
    run = (gave_up_run stuck).collects;
    in_turn = turn_empty (gave_up_run stuck);
    fewer =
        let less = given_up_lighter oracle s before d behind written stands is_attr given_up t (tried_none oracle d given_up) walked most few in
        let as_much = ordered_work t macros same in
        omega (arith, less, as_much);
  }

  -- no call is left to be recorded, and no expansion to be walked
  pub gave_up_bare : IsBare s → IsBare (record t { macros = macros })
  gave_up_bare bare =
      record { inner_calls = leads.inner_calls ∙ ap (λ (x : State). x.inner_calls) passed ∙ bare.inner_calls; expansions = leads.expansions ∙ ap (λ (x : State). x.expansions) passed ∙ bare.expansions }
