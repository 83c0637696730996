-- From the seeded map to the headline.
use Rattle.tree_ids.specs.declared.ids.AttrId.{AttrId}
use Rattle.tree_ids.specs.declared.ids.FileAstId.{FileAstId}
use Rattle.tree_ids.specs.declared.ids.HirFileId.{HirFileId}
use Rattle.tree_ids.specs.declared.ids.InFile.{InFile}
use Rattle.tree_ids.specs.declared.ids.ModItemId.{ModItemId}
use Rattle.std.proofs.Common.{◌≡◌, Bool, false, List, [], ◌∷◌, ◌++◌, map, Option, None, Some, All, refl, sym, ap, subst, ◌∙◌}
use Rattle.std.proofs.lemmas.List.Elements.{All-cons, All-nil}
use Rattle.tree_ids.specs.declared.ids.BlockId.{BlockId}
use Rattle.tree_ids.specs.declared.name.Name.{Name}
use Rattle.def_ids.specs.declared.ids.ModuleId.{ModuleId}
use Rattle.def_interner.specs.Session.{Session}
use Rattle.def_bindings.specs.declared.visibility.Visibility.{Visibility}
use Rattle.def_bindings.specs.Content.{Content, empty}
use Rattle.def_map.specs.Fresh.{IsFresh, fresh_by}
use Rattle.def_modules.specs.MapState.{MapState, ModuleState}
use Rattle.def_modules.specs.MapView.{LocalView, empty_local}
use Rattle.def_steps.specs.declared.directive.ImportDirective.{ImportDirective}
use Rattle.def_rules.specs.declared.diagnostics.DefDiagnostic.{DefDiagnostic}
use Rattle.def_parts.specs.Directories.{Directory}
use Rattle.def_steps.specs.ImportLists.{directives_in}
use Rattle.def_steps.specs.Shown.{directive_of}
use Rattle.def_rules.specs.Crates.{deps_by_name, is_proc_macro_crate}
use Rattle.def_rules.specs.Globs.{Targets}
use Rattle.def_rules.specs.Headline.{Answers}
use Rattle.def_rules.specs.Report.{Answer, with_macro_reports}
use Rattle.def_laws.specs.Finished.{NoneFailed, IsFinished}
use Rattle.def_rules.specs.Start.{first_tasks, seeded_state, started}
use Rattle.def_rules.specs.declared.inner_calls.InnerCall.{InnerCall}
use Rattle.def_rules.specs.State as rules
use Rattle.def_rules.specs.Waiting as waits
use Rattle.def_rules.specs.State.{IsBare, Setting, State}
use Rattle.def_rounds.specs.Rounds.{Ends}
use Rattle.def_interner.specs.declared.interner.Interner.{Interner}
use Rattle.def_map.specs.Oracle.{Oracle}
use Rattle.def_collector.specs.Collector.{state_of}
use Rattle.def_collector.specs.declared.collector.DefCollector.{DefCollector}
use Rattle.def_laws.specs.Runs.{Leads}
use Rattle.def_laws.specs.Sound.{IsSoundWith}
use Rattle.def_collector.proofs.DistinctLemmas.{distinct_along}
use Rattle.def_macros.specs.Censored.{ListsOnce}
use Rattle.def_laws.proofs.BegunLaws.{begins_sound}
use Rattle.def_laws.proofs.HeadlineLaws.{answers}
use Rattle.def_steps.proofs.ImportListsLaws.{present-nil}

unmarked : (d : ModuleState) → ((name : Name) → d.failed name ≡ false) → All (λ (e : ModuleState). (name : Name) → e.failed name ≡ false) (d ∷ [])
unmarked d none = All-cons (λ (e : ModuleState). (name : Name) → e.failed name ≡ false) d [] none (All-nil (λ (e : ModuleState). (name : Name) → e.failed name ≡ false))

none_fresh : (block : Option BlockId) (s : MapState) → NoneFailed (fresh_by block s)
none_fresh None s = unmarked _ (λ name. refl)
none_fresh (Some block) s = unmarked _ (λ name. refl)

-- a fresh map has no name marked
none_seeded : (s : MapState) (content : Content Visibility) → IsFresh s content → NoneFailed s
none_seeded s content fresh = subst NoneFailed (sym fresh.state) (none_fresh s.id.block s)

module _ (w : Setting) (before : Session) (m : MapState) (content : Content Visibility) (targets : Targets) (local : LocalView) (procs : Bool) (deps : LocalView) (missing : Name → Bool) (directories : ModuleId → Option Directory) (imports : List rules.ImportDirective) (skipped : HirFileId → ModItemId → Option AttrId) (active : InFile FileAstId → List AttrId) (deferred : waits.Deferrals) (macros : List waits.MacroDirective) (inner : List InnerCall) (expansions : List waits.Expansion) (diagnostics : List DefDiagnostic) where
  -- the state that the code begins with
  abbrev begun : State
  begun = record { session = before; map = m; content = content; targets = targets; local = local; outer = w.crate_local; is_proc_macro = procs; deps = deps; missing_crates = missing; directories = directories; imports = imports; skipped = skipped; active = active; deferred = deferred; macros = macros; inner_calls = inner; expansions = expansions; diagnostics = diagnostics }

  pub begins : m ≡ w.seeded → content ≡ empty → targets ≡ (λ glob. None) → local ≡ empty_local → procs ≡ is_proc_macro_crate w.oracle w.seeded.id.krate → deps ≡ deps_by_name w.oracle w.seeded.id.krate
      → missing ≡ (λ name. false) → directories ≡ (λ at. None) → imports ≡ [] → skipped ≡ (λ file id. None) → active ≡ (λ at. []) → deferred ≡ [] → macros ≡ [] → inner ≡ [] → expansions ≡ [] → diagnostics ≡ [] → begun ≡ seeded_state w before
  begins same bound none known marked by_name found bare unresolved none_skipped none_active none_deferred none_waits none_inner none_expands said =
      λ i. record { session = before; map = same i; content = bound i; targets = none i; local = known i; outer = w.crate_local; is_proc_macro = marked i; deps = by_name i; missing_crates = found i; directories = bare i; imports = unresolved i; skipped = none_skipped i; active = none_active i; deferred = none_deferred i; macros = none_waits i; inner_calls = none_inner i; expansions = none_expands i; diagnostics = said i }

module _ (w : Setting) (before : Session) (s : State) (same : s ≡ seeded_state w before) (given : Content Visibility) (fresh : IsFresh w.seeded given) where
  -- what a run begins with is sound
  pub begun_sound : IsSoundWith (first_tasks w.oracle s.map w.tree) (started w.oracle w.tree s)
  begun_sound = subst (λ x. IsSoundWith (first_tasks w.oracle x.map w.tree) (started w.oracle w.tree x)) (sym same) (begins_sound w before given fresh)

  -- in it neither a call is to be recorded nor an expansion to be walked
  pub begun_bare : IsBare s
  begun_bare = subst IsBare (sym same) (record { inner_calls = refl; expansions = refl })

  -- where the run ended, each unnamed trait stands once
  pub ended_distinct : (t : State) (limit_met : Bool) → Ends w.oracle (first_tasks w.oracle s.map w.tree) (started w.oracle w.tree s) limit_met t → (m : ModuleId) → ListsOnce t.content m
  ended_distinct t limit_met ended = distinct_along {oracle = w.oracle} (ended.run.runs []).1 (ap (λ (x : State). x.content) same)

  -- what was collected and finished answers, once its macros were reported
  pub collected_answers : (after : Session) (t u : State) (answer : Answer) (limit_met : Bool) → Ends w.oracle (first_tasks w.oracle s.map w.tree) (started w.oracle w.tree s) limit_met t → IsSoundWith [] t → IsBare t → t.session ≡ after
      → u ≡ with_macro_reports w.oracle t → IsFinished u limit_met answer → Answers w before after answer
  collected_answers after t u answer limit_met ended sound bare session reported finished =
      let ends : Ends w.oracle (first_tasks w.oracle w.seeded w.tree) (started w.oracle w.tree (seeded_state w before)) limit_met t = subst (λ x. Ends w.oracle (first_tasks w.oracle x.map w.tree) (started w.oracle w.tree x) limit_met t) same ended in
      answers w before after answer t limit_met ends.run ends.in_turn ends.rounds ends.holds ends.limit ends.rest
      bare session (none_seeded w.seeded given fresh) (begins_sound w before given fresh) sound (subst (λ x. IsFinished x limit_met answer) reported finished)

-- a run that begins with a session begins with one that is the same
pub led_from : {oracle : Oracle} {tasks : List rules.Task} {after : State} (collector : DefCollector) (before at : Interner) → at ≡ before
    → Leads oracle tasks (state_of collector at) [] after → Leads oracle tasks (state_of collector before) [] after
led_from {oracle = oracle} {tasks = tasks} {after = after} collector before at same led = subst (λ k. Leads oracle tasks (state_of collector k) [] after) same led
