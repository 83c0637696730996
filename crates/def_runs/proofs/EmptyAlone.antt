-- A crate without items has no other answer: whatever run is taken, one module is answered in which nothing is bound, and nothing is reported.
use Rattle.std.proofs.Common.{◌≡◌, ◌⊎◌, true, inl, inr, flat_map, [], ◌∷◌, ◌++◌, None, slice_get, refl, sym, subst, ap, ◌∙◌}
use Rattle.def_interner.specs.Session.{Session}
use Rattle.def_bindings.specs.declared.visibility.Visibility.{Visibility}
use Rattle.def_bindings.specs.declared.visibility.Visibility.TheVariants.{Public}
use Rattle.def_bindings.specs.Content.{Content, empty}
use Rattle.def_modules.specs.declared.module_data.ModuleOrigin.TheVariants.{CrateRoot}
use Rattle.def_modules.specs.MapState.{MapState}
use Rattle.def_modules.specs.Scopes.{empty_module}
use Rattle.def_laws.proofs.RunsLaws.{kept_along}
use Rattle.def_rules.specs.Headline.{Answers}
use Rattle.def_rules.specs.Imports.{unresolved_imports}
use Rattle.def_rules.specs.Report.{Answer, import_report, macro_report, marked, with_censored}
use Rattle.def_laws.proofs.CensoredLaws.{uncensored_along}
use Rattle.def_rules.specs.Start.{first_site, start}
use Rattle.def_rules.specs.State.{Site, State, Effect, Enter, Moment, after, entered, only}
use Rattle.def_rules.specs.Steps.{Does, Step, performs, asks, copies, notes, expands, rearranges, records, falls_back, reorders}
use Rattle.def_runs.proofs.Empty.{setting}
use Rattle.def_runs.proofs.NoRounds.{not_over_the_limit}
use Rattle.def_runs.proofs.RowLemmas.{NoneWaits, none_asked, none_given_up, none_noted, none_recorded, none_taken, none_waits_rearranged, none_waits_reordered}
use Rattle.def_runs.proofs.Sessions.{no_session}

-- where the items of the root stand
abbrev root : Site
root = first_site setting.oracle setting.seeded setting.tree

-- what each moment of each run has: the walk of the root is still to begin, or nothing is left to do; nothing is bound, waits or was reported
record IsBare (s : State) : Type 0 where
  map : s.map ≡ setting.seeded
  content : s.content ≡ empty
  waits : NoneWaits s
  diagnostics : s.diagnostics ≡ []

record IsBareAt (m : Moment) : Type 0 where
  tasks : (m.tasks ≡ Enter root.scope root.directory ∷ []) ⊎ (m.tasks ≡ [])
  state : IsBare m.state

-- the state changes in its directories alone
bare_entered : (s : State) → IsBare s → IsBare (entered s root.scope root.directory)
bare_entered s bare = record { map = bare.map; content = bare.content; waits = bare.waits; diagnostics = bare.diagnostics }

bare_step : (a b : Moment) → Step setting.oracle a b → IsBareAt a → IsBareAt b
bare_step a b (performs task rest effect first does is) bare = subst IsBareAt (sym is) (by bare.tasks)
  where
    by : (a.tasks ≡ Enter root.scope root.directory ∷ []) ⊎ (a.tasks ≡ []) → IsBareAt (after a rest effect)
    by (inr none) = absurd cc
    by (inl one) =
        let same : task ≡ Enter root.scope root.directory = cc in
        let alone : rest ≡ [] = cc in
        let done : effect ≡ only (entered a.state root.scope root.directory) = subst (λ t. Does setting.oracle a.state t effect) same does in
        subst (λ (e : Effect). IsBareAt (after a rest e)) (sym done) (record { tasks = inr alone; state = bare_entered a.state bare.state })
bare_step a b (copies content copy is) bare =
    let none = ap (λ (c : Content Visibility). slice_get (c.edges copy.source) copy.index) bare.state.content in
    let stands = copy.stands in
    absurd cc
bare_step a b (rearranges s same is) bare = subst IsBareAt (sym is) (record {
  tasks = bare.tasks;
  state = subst IsBare (sym same.rest) (record {
    map = bare.state.map;
    content = bare.state.content;
    waits = subst NoneWaits same.rest (none_waits_rearranged a.state s bare.state.waits same);
    diagnostics = bare.state.diagnostics;
  });
})
bare_step a b (reorders macros same is) bare = subst IsBareAt (sym is) (record {
  tasks = bare.tasks;
  state = record { map = bare.state.map; content = bare.state.content; waits = none_waits_reordered a.state macros bare.state.waits same; diagnostics = bare.state.diagnostics };
})
bare_step a b (falls_back effect idle step is) bare = absurd (none_given_up setting.oracle a.state effect bare.state.waits.1 step)
bare_step a b (records effect idle step is) bare = absurd (none_recorded setting.oracle a.state effect bare.state.waits.0 step)
bare_step a b (asks effect idle step is) bare = absurd (none_asked setting.oracle a.state effect bare.state.waits.1 step)
bare_step a b (notes idle is) bare = subst IsBareAt (sym (is ∙ none_noted a idle bare.state.waits.4)) bare
bare_step a b (expands effect idle step is) bare = absurd (none_taken setting.oracle a.state effect bare.state.waits.2 step)

begins : IsBareAt (start setting no_session)
begins = record { tasks = inl refl; state = record { map = refl; content = refl; waits = (refl, refl, refl, refl, refl); diagnostics = refl } }

module _ (after : Session) (answer : Answer) (answers : Answers setting no_session after answer) where
  ends : IsBare answers.run.end.state
  ends = (kept_along {oracle = setting.oracle} IsBareAt bare_step answers.run.runs begins).state

  nothing_is_bound : answer.content ≡ empty
  nothing_is_bound = answers.answered.content ∙ (uncensored_along answers.run.runs refl ∙ ends.content)

  nothing_is_reported : answer.diagnostics ≡ []
  nothing_is_reported =
      let end = answers.run.end.state in
      answers.reported
      ∙ (ap (λ ps. (end.diagnostics ++ flat_map (macro_report setting.oracle (with_censored end)) end.macros) ++ flat_map (import_report end.missing_crates) (unresolved_imports ps)) ends.waits.0
      ∙ (ap (λ ms. (end.diagnostics ++ flat_map (macro_report setting.oracle (with_censored end)) ms) ++ []) ends.waits.1 ∙ ap (λ ds. (ds ++ []) ++ []) ends.diagnostics))

  it_is_one_module : answer.map.modules ≡ empty_module None CrateRoot Public ∷ []
  it_is_one_module =
      ap (λ (m : MapState). m.modules) (answers.answered.map ∙ (ap (λ ps. marked answers.run.end.state.map (unresolved_imports ps)) ends.waits.0 ∙ ap (λ m. marked m []) ends.map))

  -- nor does it meet the limit of rounds
  the_limit_is_not_met : answer.outcome.limit_met ≡ true → ⊥
  the_limit_is_not_met met = not_over_the_limit {oracle = setting.oracle} IsBareAt (λ m bare. bare.state.waits.1) bare_step begins (answers.limit met)
