-- What a glob brings, and what it was recorded with.
use Rattle.std.proofs.Common.{◌≡◌, ◌⊎◌, inl, inr, true, false, List, [], ◌∷◌, ◌++◌, Option, Some, None, refl, sym, ap, ◌∙◌, subst, inl, inr, append-nil}
use Rattle.def_ids.specs.declared.ids.Def.{Def}
use Rattle.def_ids.specs.declared.ids.GlobId.{GlobId}
use Rattle.def_ids.specs.Equality.{glob_eq}
use Rattle.indexmap.specs.IndexMap.{IndexMap, get}
use Rattle.item_tree.specs.declared.items.ImportKind.{ImportKind}
use Rattle.item_tree.specs.declared.items.ImportKind.TheVariants as kind
use Rattle.def_ids.specs.declared.ids.Def.TheVariants as def
use Rattle.def_ids.specs.declared.ids.ModuleId.{ModuleId}
use Rattle.def_bindings.specs.declared.bindings.EdgeTo.{EdgeTo}
use Rattle.def_bindings.specs.declared.bindings.Entry.{Entry}
use Rattle.def_bindings.specs.declared.visibility.Visibility.{Visibility}
use Rattle.def_paths.specs.declared.path_result.ResolvePathResult.{ResolvePathResult}
use Rattle.def_oracle.specs.Oracle.{Oracle}
use Rattle.def_paths.specs.Paths.{map_of}
use Rattle.def_globs.specs.Globs.{with_recorded}
use Rattle.def_laws.specs.Performs.{Performs, Updated, target_state}
use Rattle.def_rules.specs.Globs.{module_entries, with_target}
use Rattle.def_rules.specs.Imports.{import_vis}
use Rattle.def_rules.specs.Recording.{edge_tasks, glob_def, glob_edge, glob_id, glob_tasks, is_own_crate, made_prelude, new_prelude, record_effect, record_tasks, targets_after, types_def, unless_prelude, with_new_prelude}
use Rattle.def_rules.specs.State.{State, AddEdge, Import, only, order, put_each, with_content, world}
use Rattle.def_laws.proofs.EdgeLaws.{glob_raised, glob_sound}
use Rattle.def_laws.proofs.StepsLaws.{performs_listed, performs_none}
use Rattle.def_laws.proofs.WaveLaws.{calm_wave, runs_task, runs_trans, runs_wave}

-- no glob was recorded yet
pub no_targets : {S : Type 0} (m : IndexMap GlobId (List Def) S) → m.entries ≡ [] → get glob_eq m ≡ (λ glob. None)
no_targets m none = rw none refl

-- What a recorded import leads to

module _ (oracle : Oracle) (s t u : State) (glob : EdgeTo Visibility) (source : ModuleId) (list : List (Entry Visibility)) where
  -- the entries that a glob of a module brings
  abbrev Brought : List (Entry Visibility)
  Brought = module_entries (order s) glob (is_own_crate s.map.id source) (map_of (world oracle s) source.map) source

  -- a glob of a module of another crate was put
  pub performs_foreign : is_own_crate s.map.id source ≡ false → list ≡ Brought → Updated glob.importer list s t → Performs oracle (glob_tasks (world oracle s) glob (Some (def.Module source))) s t
  performs_foreign foreign same updated =
      subst (λ tasks. Performs oracle tasks s t) (sym (append-nil (put_each glob.importer Brought)) ∙ ap (λ own. put_each glob.importer Brought ++ edge_tasks own source glob) (sym foreign))
      (performs_listed glob.importer list Brought s t same updated)

  -- one of this crate was put, and its edge was added
  pub performs_own : is_own_crate s.map.id source ≡ true → list ≡ Brought → Updated glob.importer list s t → u ≡ with_content t (with_recorded (order t) t.content source glob)
      → Performs oracle (glob_tasks (world oracle s) glob (Some (def.Module source))) s u
  performs_own own same updated added =
      subst (λ b. Performs oracle (put_each glob.importer Brought ++ edge_tasks b source glob) s u) (sym own)
      (subst (λ x. Performs oracle (put_each glob.importer Brought ++ AddEdge source glob ∷ []) s x) (sym (added ∙ ap (λ x. with_content x (with_recorded (order x) x.content source glob)) updated.rest)) with_edge)
    where
      brought : Updated glob.importer Brought s t
      brought = subst (λ l. Updated glob.importer l s t) same updated

      wave : State
      wave = with_content s t.content

      now : Updated glob.importer Brought s wave
      now = record { travels = brought.travels; rest = refl }

      with_edge : Performs oracle (put_each glob.importer Brought ++ AddEdge source glob ∷ []) s (with_content wave (with_recorded (order wave) wave.content source glob))
      with_edge = record {
        runs = λ rest. runs_trans (runs_wave glob.importer Brought s t.content brought.travels (AddEdge source glob ∷ []) rest) (runs_task (AddEdge source glob) rest wave (only (with_content wave (with_recorded (order wave) wave.content source glob))) refl);
        calm = λ rest before. (calm_wave oracle glob.importer Brought s t.content brought.travels (AddEdge source glob ∷ []) rest before, tt);
        keeps = λ followed stands sound. glob_sound oracle s wave glob source Brought now own refl stands sound followed;
        raised = λ rest stands sound before importer slot left kept. glob_raised oracle s wave glob source Brought now own refl stands sound rest before importer slot kept.0 left;
        waits = record { macros = refl; inner_calls = refl; expansions = refl; deferred = refl; is_proc_macro = refl };
      }

module _ (oracle : Oracle) (s t : State) (p : Import) (answer : ResolvePathResult) where
  -- a glob was recorded with a definition
  abbrev GlobRecorded : Option Def → Type 0
  GlobRecorded given = Performs oracle (glob_tasks (world oracle s) (glob_edge p (import_vis oracle s p)) given) (target_state s (glob_id p) given) t

  -- its target was added, and then what it brings was put
  pub glob_recorded : (mid : State) (d : Def) (glob : EdgeTo Visibility) → mid ≡ record s { targets = with_target glob.glob d s.targets } → types_def answer ≡ Some d → glob ≡ glob_edge p (import_vis oracle s p)
      → Performs oracle (glob_tasks (world oracle mid) glob (Some d)) mid t → GlobRecorded (types_def answer)
  glob_recorded mid d glob added given same performs =
      subst GlobRecorded (sym given)
      (subst (λ g. Performs oracle (glob_tasks (world oracle s) g (Some d)) (record s { targets = with_target g.glob d s.targets }) t) same
      (subst (λ m. Performs oracle (glob_tasks (world oracle m) glob (Some d)) m t) added performs))

  -- an import was recorded
  abbrev IsRecordedNow : Type 0
  IsRecordedNow = let effect = record_effect oracle s p answer in Performs oracle effect.tasks effect.state t

  -- by its kind
  recorded_as : (k : ImportKind) → p.written.kind ≡ k
      → Performs oracle (record_tasks oracle s p answer k) (record s { targets = targets_after k (glob_id p) (glob_def p answer) s.targets; map = with_new_prelude (new_prelude p answer) s.map }) t
      → IsRecordedNow
  recorded_as k is performs =
      subst (λ k. Performs oracle (record_tasks oracle s p answer k) (record s { targets = targets_after k (glob_id p) (glob_def p answer) s.targets; map = with_new_prelude (new_prelude p answer) s.map }) t) (sym is) performs

  -- an import that makes no module the prelude
  recorded_without : (k : ImportKind) → new_prelude p answer ≡ None → Performs oracle (record_tasks oracle s p answer k) (record s { targets = targets_after k (glob_id p) (glob_def p answer) s.targets }) t
      → Performs oracle (record_tasks oracle s p answer k) (record s { targets = targets_after k (glob_id p) (glob_def p answer) s.targets; map = with_new_prelude (new_prelude p answer) s.map }) t
  recorded_without k none performs =
      subst (λ made. Performs oracle (record_tasks oracle s p answer k) (record s { targets = targets_after k (glob_id p) (glob_def p answer) s.targets; map = with_new_prelude made s.map }) t) (sym none) performs

  named_by : (k : ImportKind) → p.written.kind ≡ k → made_prelude k p.is_prelude (types_def answer) ≡ None → new_prelude p answer ≡ None
  named_by k is none = ap (λ k. made_prelude k p.is_prelude (types_def answer)) is ∙ none

  -- an import that binds names was recorded
  pub recorded_named : (p.written.kind ≡ kind.Plain) ⊎ (p.written.kind ≡ kind.TypeOnly) → Performs oracle (record_tasks oracle s p answer kind.Plain) s t → IsRecordedNow
  recorded_named (inl plain) performs = recorded_as kind.Plain plain (recorded_without kind.Plain (named_by kind.Plain plain refl) performs)
  recorded_named (inr types) performs = recorded_as kind.TypeOnly types (recorded_without kind.TypeOnly (named_by kind.TypeOnly types refl) performs)

  -- a glob that makes no module the prelude was recorded
  pub recorded_glob : p.written.kind ≡ kind.Glob → new_prelude p answer ≡ None → GlobRecorded (types_def answer) → IsRecordedNow
  recorded_glob glob none performs = recorded_as kind.Glob glob (recorded_without kind.Glob none (subst GlobRecorded (ap (λ made. unless_prelude made (types_def answer)) (sym none)) performs))

  -- a glob that makes a module the prelude was recorded
  pub recorded_prelude : (source : ModuleId) → p.written.kind ≡ kind.Glob → new_prelude p answer ≡ Some source → t ≡ record s { map = with_new_prelude (Some source) s.map } → IsRecordedNow
  recorded_prelude source glob made after =
      recorded_as kind.Glob glob
      (subst (λ o. Performs oracle (glob_tasks (world oracle s) (glob_edge p (import_vis oracle s p)) (unless_prelude o (types_def answer))) (record (target_state s (glob_id p) (unless_prelude o (types_def answer))) { map = with_new_prelude o s.map }) t) (sym made)
      (subst (λ u. Performs oracle [] (record s { map = with_new_prelude (Some source) s.map }) u) (sym after) (performs_none (record s { map = with_new_prelude (Some source) s.map }))))

-- a glob of nothing
pub glob_nothing : (oracle : Oracle) (s : State) (p : Import) (answer : ResolvePathResult) → types_def answer ≡ None → GlobRecorded oracle s s p answer (types_def answer)
glob_nothing oracle s p answer none = subst (GlobRecorded oracle s s p answer) (sym none) (performs_none s)
