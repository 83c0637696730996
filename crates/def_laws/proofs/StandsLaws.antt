-- Along any run a state and what is to be done in it are of its map alone.
use Rattle.std.proofs.Common.{◌≡◌, ◌∙◌, ◌⊎◌, ℕ, List, ◌∷◌, ◌++◌, Contains, Option, Some, None, sym, ap, subst, inl, inr, append-nil}
use Rattle.std.proofs.lemmas.List.Elements.{Contains-append_cases}
use Rattle.std.proofs.lemmas.List.Sorted.{Contains-permutation, IsPermutation-sym}
use Rattle.def_ids.specs.declared.ids.ModuleId.{ModuleId}
use Rattle.def_bindings.specs.declared.bindings.Namespace.TheVariants.{Values}
use Rattle.def_modules.specs.MapState.{MapState}
use Rattle.def_paths.specs.declared.path_result.ResolvePathResult.{ResolvePathResult}
use Rattle.def_oracle.specs.Oracle.{Oracle}
use Rattle.def_globs.proofs.ListLaws.{first_in, later_in, none_in, only_in}
use Rattle.def_laws.specs.Own.{AreOwn, IsOwn, IsRecorded, Stands}
use Rattle.def_laws.specs.Sound.{IsSound}
use Rattle.def_rules.specs.Calls.{recording_inner}
use Rattle.def_rules.specs.Imports.{answer_now}
use Rattle.def_rules.specs.Recording.{ImportStep, after_import, kept_list, new_prelude, record_effect, record_state, record_tasks, with_new_prelude}
use Rattle.def_rules.specs.State.{State, Effect, Moment, NsSet, ImportDirective, Import, Task, order}
use Rattle.def_rules.specs.Steps.{Reaches, Step}
use Rattle.def_laws.proofs.LargerLaws.{larger_inner, larger_prelude, larger_refl, own_larger}
use Rattle.def_laws.specs.Depths.{DefersIn, WaitsIn}
use Rattle.def_laws.proofs.FootprintLaws.{Footprint}
use Rattle.def_laws.proofs.MovesLaws.{Move, putting, linking, taking, doing, calling, copying, ordering, sorting, recording, move_of}
use Rattle.def_laws.proofs.OwnLaws.{own_both, own_copied, own_edge, own_first, own_last, own_put, own_stays, tasks_stay}
use Rattle.def_laws.proofs.TurnsLaws.{waiting_with}
use Rattle.def_laws.proofs.RunsLaws.{kept_along}
use Rattle.def_laws.proofs.SoundLaws.{IsLarger, sound_larger}
use Rattle.def_laws.proofs.TakenLaws.{own_taken}
use Rattle.def_laws.proofs.TasksLaws.{record_own, record_sound, record_stays}

-- the first of what is to be done stands alone
pub stands_first : {xs : List Task} {s : State} (ys : List Task) → Stands (xs ++ ys) s → Stands xs s
stands_first {xs = xs} {s = s} ys st = record { state = st.state; tasks = own_first s.map s.targets xs ys st.tasks; waiting = st.waiting }

-- what waits after something was done in a module waited before, or waits in that module
queued_in : (s : State) (scope : ModuleId) (depth : ℕ) (effect : Effect) → Footprint s scope depth effect → (at : ModuleId) → WaitsIn effect.state at → WaitsIn s at ⊎ (at ≡ scope)
queued_in s scope depth effect foot at (inl macro) =
    elim (Contains-append_cases s.macros foot.queued.more macro.0 (subst (λ ds. Contains ds macro.0) foot.queued.macros macro.1)) [
      | inl old ↦ inl (inl (macro.0, old, macro.2))
      | inr new ↦ inr (sym macro.2 ∙ (foot.queued.at macro.0 new).0)
    ]
queued_in s scope depth effect foot at (inr (inl expansion)) = inl (inr (inl (expansion.0, subst (λ es. Contains es expansion.0) foot.queued.expansions expansion.1, expansion.2)))
queued_in s scope depth effect foot at (inr (inr deferred)) = inl (inr (inr (subst (λ es. DefersIn es at) foot.queued.deferred deferred)))

-- what is done beside puts and edges leads to what is of the map
pub footprint_stands : (s : State) (rest : List Task) (scope : ModuleId) (depth : ℕ) (effect : Effect) → Footprint s scope depth effect → IsOwn s.map scope → Stands rest s → Stands (effect.tasks ++ rest) effect.state
footprint_stands s rest scope depth effect foot at st =
    let stay : (g : _) → IsRecorded s.targets g → IsRecorded effect.state.targets g = λ g h. subst (λ t. IsRecorded t g) (sym foot.targets) h in
    let own : IsOwn effect.state.map scope = own_larger s.map effect.state.map scope foot.larger at in
    let state : AreOwn effect.state.map effect.state.targets s.content effect.state.imports =
    own_stays s.map effect.state.map s.targets effect.state.targets foot.larger stay s.content s.imports effect.state.imports
    (λ d h. elim (foot.at d h) [ inl old ↦ inl old | inr new ↦ inr (subst (λ x. IsOwn s.map x) (sym new) at) ]) st.state in
    record {
      state = subst (λ c. AreOwn effect.state.map effect.state.targets c effect.state.imports) (sym foot.content) state;
      tasks = own_both effect.state.map effect.state.targets effect.tasks rest (foot.tasks effect.state.targets st.state.even own)
          (tasks_stay s.map effect.state.map s.targets effect.state.targets foot.larger stay rest st.tasks);
      waiting = λ place waits. elim (queued_in s scope depth effect foot place waits) [
        | inl old ↦ own_larger s.map effect.state.map place foot.larger (st.waiting place old)
        | inr new ↦ subst (IsOwn effect.state.map) (sym new) own
      ];
    }

-- the state in which an import was recorded, and its tasks
pub recorded_stands : (oracle : Oracle) (u : State) (p : Import) (answer : ResolvePathResult) → AreOwn u.map u.targets u.content u.imports → IsOwn u.map p.scope → ((place : ModuleId) → WaitsIn u place → IsOwn u.map place)
    → (let effect = record_effect oracle u p answer in Stands effect.tasks effect.state)
recorded_stands oracle u p answer own at waiting =
    let now : State = record_state u p answer in
    let larger : IsLarger u.map now.map = larger_prelude (new_prelude p answer) u.map in
    record {
      state = own_stays u.map now.map u.targets now.targets larger (record_stays oracle u p answer p.written.kind) u.content u.imports u.imports (λ d h. inl h) own;
      tasks = tasks_stay u.map now.map now.targets now.targets larger (λ g h. h) (record_tasks oracle u p answer p.written.kind) (record_own oracle u p answer p.written.kind at);
      waiting = λ place waits. own_larger u.map now.map place larger (waiting place waits);
    }

-- names stay sound in it
recorded_sound : (oracle : Oracle) (u : State) (p : Import) (answer : ResolvePathResult) {q : List ImportDirective} → AreOwn u.map u.targets u.content q → IsSound u
    → IsSound (record_effect oracle u p answer).state
recorded_sound oracle u p answer {q} own sound =
    let m : MapState = with_new_prelude (new_prelude p answer) u.map in
    let larger : IsLarger u.map m = larger_prelude (new_prelude p answer) u.map in
    record_sound oracle (record u { map = m }) p answer
    (own_stays u.map m u.targets u.targets larger (λ g h. h) u.content q q (λ d h. inl h) own)
    (sound_larger own sound larger) p.written.kind

kept_in : (p : Import) (kept : Option NsSet) (x : ImportDirective) → Contains (kept_list p kept) x → x.import ≡ p
kept_in p None x h = absurd (none_in x h)
kept_in p (Some recorded) x h = ap (λ (y : ImportDirective). y.import) (only_in (record { import = p; recorded = recorded }) x h)

-- the state without an import that is recorded, or with it
pub import_own : (s : State) (d : ImportDirective) (rest : List ImportDirective) (answer : ResolvePathResult) → IsOwn s.map d.import.scope → ((x : ImportDirective) → Contains rest x → Contains s.imports x)
    → AreOwn s.map s.targets s.content s.imports → (let u = after_import s d rest answer in AreOwn u.map u.targets u.content u.imports)
import_own s d rest answer at left own =
    own_stays s.map s.map s.targets s.targets (larger_refl s.map) (λ g h. h) s.content s.imports _
    (λ x h. elim (Contains-append_cases rest (kept_list d.import _) x h) [ inl old ↦ inl (left x old) | inr new ↦ inr (subst (λ y. IsOwn s.map y.scope) (sym (kept_in d.import _ x new)) at) ]) own

-- an import is recorded
pub import_stands : (oracle : Oracle) (s : State) (effect : Effect) → ImportStep oracle s effect → AreOwn s.map s.targets s.content s.imports → ((place : ModuleId) → WaitsIn s place → IsOwn s.map place) → Stands effect.tasks effect.state
import_stands oracle s effect step own waiting =
    let d : ImportDirective = step.directive in
    let answer : ResolvePathResult = answer_now oracle s d.import in
    let back = IsPermutation-sym s.imports (d ∷ step.rest) step.stands in
    let at : IsOwn s.map d.import.scope = own.imports d (Contains-permutation (d ∷ step.rest) s.imports d back (first_in d step.rest)) in
    let st = recorded_stands oracle (after_import s d step.rest answer) d.import answer (import_own s d step.rest answer at (λ x h. Contains-permutation (d ∷ step.rest) s.imports x back (later_in d step.rest x h)) own) at waiting in
    subst (λ (e : Effect). Stands e.tasks e.state) (sym step.is) st

-- names stay sound where an import is recorded
pub import_sound : (oracle : Oracle) (s : State) (effect : Effect) → ImportStep oracle s effect → AreOwn s.map s.targets s.content s.imports → IsSound s → IsSound effect.state
import_sound oracle s effect step own sound =
    let answer : ResolvePathResult = answer_now oracle s step.directive.import in
    subst (λ (e : Effect). IsSound e.state) (sym step.is) (recorded_sound oracle (after_import s step.directive step.rest answer) step.directive.import answer own sound)

-- a moment stands
abbrev StandsAt : Moment → Type 0
StandsAt a = Stands a.tasks a.state

-- at a moment with these tasks
stands_with : (a : Moment) (tasks : List Task) → a.tasks ≡ tasks → StandsAt a → Stands tasks a.state
stands_with a tasks same st = subst (λ l. Stands l a.state) same st

move_stands : {oracle : Oracle} (a b : Moment) → Move oracle a b → StandsAt a → StandsAt b
move_stands a b (putting at entry rest first is) st =
    let s : State = a.state in
    let own = stands_with a _ first st in
    subst StandsAt (sym is) (record { state = own_put s.map s.targets (order s) s.content s.imports own.state at entry own.tasks.0; tasks = own.tasks.1; waiting = own.waiting })
move_stands a b (linking source edge rest first is) st =
    let s : State = a.state in
    let own = stands_with a _ first st in
    subst StandsAt (sym is) (record { state = own_edge s.map s.targets (order s) s.content s.imports own.state source edge own.tasks.0; tasks = own.tasks.1; waiting = own.waiting })
move_stands a b (taking place name function rest held first out there of is) st =
    let own = stands_with a _ first st in
    subst StandsAt (sym is) (record { state = own_taken a.state.content place name Values own.state; tasks = own.tasks.1; waiting = own.waiting })
move_stands a b (doing gone rest scope depth macros expansions deferred inner effect first still at fewer foot is) st =
    subst StandsAt (sym is)
    (footprint_stands (waiting_with a.state macros expansions deferred inner) rest scope depth effect foot (at st)
    (record { state = st.state; tasks = own_last a.state.map a.state.targets gone rest (stands_with a _ first st).tasks; waiting = λ place waits. elim (fewer place waits) [ inl old ↦ st.waiting place old | inr here ↦ subst (IsOwn a.state.map) (sym here) (at st) ] }))
move_stands a b (calling idle is) st =
    let s : State = a.state in
    let m : MapState = recording_inner s.inner_calls s.map in
    let larger : IsLarger s.map m = larger_inner s.inner_calls s.map in
    subst StandsAt (sym is) (record {
      state = own_stays s.map m s.targets s.targets larger (λ g h. h) s.content s.imports s.imports (λ d h. inl h) st.state;
      tasks = tt;
      waiting = λ place waits. own_larger s.map m place larger (st.waiting place waits);
    })
move_stands a b (copying content copy is) st =
    let s : State = a.state in
    let own : AreOwn s.map s.targets content s.imports =
    subst (λ c. AreOwn s.map s.targets c s.imports) (sym copy.after) (own_copied s.map s.targets (order s) s.content s.imports st.state copy.source copy.index copy.edge copy.slot copy.stands) in
    subst StandsAt (sym is) (record { state = own; tasks = st.tasks; waiting = st.waiting })
move_stands a b (ordering macros same is) st =
    subst StandsAt (sym is) (record { state = st.state; tasks = st.tasks; waiting = λ place waits. st.waiting place (elim waits [ inl macro ↦ inl (macro.0, Contains-permutation macros a.state.macros macro.0 (IsPermutation-sym a.state.macros macros same) macro.1, macro.2) | inr later ↦ inr later ]) })
move_stands a b (sorting state same is) st =
    let s : State = a.state in
    let own : AreOwn s.map s.targets s.content state.imports =
    own_stays s.map s.map s.targets s.targets (larger_refl s.map) (λ g h. h) s.content s.imports state.imports
    (λ d h. inl (Contains-permutation state.imports s.imports d (IsPermutation-sym s.imports state.imports same.imports) h)) st.state in
    subst StandsAt (sym is) (subst (Stands a.tasks) (sym same.rest) (record { state = own; tasks = st.tasks; waiting = st.waiting }))
move_stands {oracle} a b (recording effect idle step is) st =
    subst StandsAt (sym is) (subst (λ tasks. Stands tasks effect.state) (sym (append-nil effect.tasks)) (import_stands oracle a.state effect step st.state st.waiting))

step_stands : {oracle : Oracle} (a b : Moment) → Step oracle a b → StandsAt a → StandsAt b
step_stands a b step st = move_stands a b (move_of a b step) st

-- what stands at the beginning of a run stands at its end
pub stands_along : {oracle : Oracle} {a b : Moment} → Reaches oracle a b → Stands a.tasks a.state → Stands b.tasks b.state
stands_along {oracle} r st = kept_along {oracle = oracle} StandsAt (step_stands {oracle = oracle}) r st
