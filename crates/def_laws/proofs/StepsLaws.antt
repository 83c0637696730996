-- Runs: how each rule is taken, and how runs follow one another.
use Rattle.std.proofs.Common.{◌≡◌, ◌≤◌, inl, inr, List, [], ◌∷◌, ◌++◌, ℕ, None, Option, Some, refl, sym, ap, ◌∙◌, subst, append_assoc, append-nil, arith}
use Rattle.item_tree.specs.declared.attrs.Attr.{Attr}
use Rattle.tree_ids.specs.declared.ids.AttrId.{AttrId}
use Rattle.tree_ids.specs.declared.ids.CfgExpr.{CfgExpr}
use Rattle.tree_ids.specs.declared.ids.ModItemId.{ModItemId}
use Rattle.item_tree.specs.declared.items.ItemNode.{ItemNode}
use Rattle.item_tree.specs.Attrs.{disabled_by}
use Rattle.def_ids.specs.declared.ids.ModuleId.{ModuleId}
use Rattle.def_bindings.specs.declared.bindings.Entry.{Entry}
use Rattle.def_bindings.specs.declared.bindings.Slot.{Slot}
use Rattle.def_bindings.specs.declared.visibility.Visibility.{Visibility}
use Rattle.def_bindings.specs.Content.{Content}
use Rattle.def_modules.specs.Maps.{textual_at}
use Rattle.def_modules.specs.Scopes.{brought}
use Rattle.def_oracle.specs.Oracle.{Oracle}
use Rattle.def_readings.specs.Directories.{Directory}
use Rattle.def_globs.specs.Raised.{IsRaisedAt}
use Rattle.def_rules.specs.declared.diagnostics.DefDiagnosticKind.TheVariants.{UnconfiguredCode}
use Rattle.def_laws.specs.Depths.{AreVisitsBelow, DefersIn, WaitsAlike, deferred_work}
use Rattle.def_laws.specs.Followed.{AreFollowed}
use Rattle.def_laws.specs.Own.{Stands}
use Rattle.def_laws.specs.Sound.{AreSound, IsRaisedIn, IsSound, IsSoundWith, KeepsSound}
use Rattle.def_rules.specs.Targets.{leaves_out, target_of}
use Rattle.def_laws.specs.Travels.{Travels}
use Rattle.def_laws.specs.Performs.{IsDone, IsHandled, Performs, Updated}
use Rattle.def_rules.specs.Attributes.{awaited_attr, awaiting}
use Rattle.def_rules.specs.Calls.{queued}
use Rattle.def_rules.specs.Imports.{answer_now}
use Rattle.def_rules.specs.Recording.{ImportStep, after_import}
use Rattle.def_rules.specs.Items.{diagnostic, node_at, noted_in}
use Rattle.def_rules.specs.Rules.{VisitsAt, VisitsEnabled, VisitsNode}
use Rattle.def_rules.specs.State.{State, Effect, IsBare, Site, Task, Bring, Enter, Visit, Rearranges, entered, only, order, put_each, reported, with_content}
use Rattle.def_rules.specs.Steps.{Does, StandsNear, one, rearranges, records}
use Rattle.def_rules.specs.Waiting.{Deferrals, MacroDirective}
use Rattle.def_laws.specs.Runs.{Collects, CollectsCalmly, Leads, LeaveOf}
use Rattle.def_laws.proofs.DepthsLaws.{lie_both, lie_last, queues_alike, queues_trans, recorded_lies}
use Rattle.def_laws.proofs.FootprintLaws.{Footprint, VisitFootprint, deferred_with, visits_footprint, waits_alike}
use Rattle.def_laws.proofs.LargerLaws.{larger_with_module}
use Rattle.def_laws.proofs.LeftOutLaws.{footprint_alike, leaves_alike, leaves_same, left_out_along}
use Rattle.def_laws.proofs.PlainLaws.{ArePlain, plain_first, plain_followed}
use Rattle.def_laws.proofs.RaisedLaws.{raised_larger}
use Rattle.def_laws.proofs.SoundLaws.{sound_larger, sound_wave}
use Rattle.def_laws.proofs.StandsLaws.{import_sound, stands_along, stands_first}
use Rattle.def_laws.proofs.TargetsLaws.{puts_nowhere}
use Rattle.def_laws.proofs.WaveLaws.{calm_wave, runs_refl, runs_task, runs_trans, runs_wave, wave_raised}

-- names stay sound where something is done in a module of the map, and places stay raised that the step keeps
pub footprint_sound : (tasks : List Task) (s : State) (scope : ModuleId) (depth : ℕ) (effect : Effect) → Footprint s scope depth effect → KeepsSound tasks s effect.state
footprint_sound tasks s scope depth effect foot stands sound =
    subst (λ left_out. AreSound left_out effect.state.map effect.state.targets effect.state.content) (sym (leaves_same (footprint_alike s scope depth effect foot)))
    (subst (λ t. AreSound (leaves_out s) effect.state.map t effect.state.content) (sym foot.targets)
    (subst (λ c. AreSound (leaves_out s) effect.state.map s.targets c) (sym foot.content) (sound_larger stands.state sound foot.larger)))

pub footprint_raised : (tasks : List Task) (s : State) (scope : ModuleId) (depth : ℕ) (effect : Effect) → Footprint s scope depth effect → Stands tasks s → (importer : ModuleId) (slot : Slot)
    → ((v w : Visibility) → StandsNear s.content importer slot v → StandsNear s.content importer slot w → (order effect.state).at_most v w ≡ (order s).at_most v w)
    → IsRaisedIn s importer slot → IsRaisedIn effect.state importer slot
footprint_raised tasks s scope depth effect foot stands importer slot same raised =
    subst (λ c. IsRaisedAt (order effect.state) c importer slot) (sym foot.content) (raised_larger stands.state foot.larger importer slot same raised)

-- what is deferred weighs no more where it is the same
same_lighter : (s t : State) → t.deferred ≡ s.deferred → deferred_work t.deferred ≤ deferred_work s.deferred
same_lighter s t is = let same = ap deferred_work is in omega (arith, same)

-- a state of its map alone is so where less is deferred
stands_visit : (tasks : List Task) (s : State) (deferred : Deferrals) → ((at : ModuleId) → DefersIn deferred at → DefersIn s.deferred at) → Stands tasks s → Stands tasks (deferred_with s deferred)
stands_visit tasks s deferred fewer stands = record {
  state = stands.state;
  tasks = stands.tasks;
  waiting = λ at waits. stands.waiting at (elim waits [ inl macro ↦ inl macro | inr later ↦ elim later [ inl expansion ↦ inr (inl expansion) | inr deferred ↦ inr (inr (fewer at deferred)) ] ]);
}

-- what waits stays where the imports are put into another order
rearranged_alike : (s t : State) → Rearranges s t → WaitsAlike s t
rearranged_alike s t same = subst (WaitsAlike s) (sym same.rest) (waits_alike refl refl refl refl refl)

-- an item that is there, and that cfg does not disable
does_enabled : (oracle : Oracle) (s : State) (site : Site) (id : ModItemId) (item : ItemNode) → node_at oracle site.tree id ≡ Some item → disabled_by item.attrs ≡ None
    → (awaited : Option (AttrId × Attr)) → awaited_attr oracle s site id item ≡ awaited → (effect : Effect) → VisitsEnabled oracle s site id item awaited effect → Does oracle s (Visit site id) effect
does_enabled oracle s site id item found on awaited is effect does =
    let enabled : VisitsEnabled oracle s site id item (awaited_attr oracle s site id item) effect = subst (λ o. VisitsEnabled oracle s site id item o effect) (sym is) does in
    let node : VisitsNode oracle s site id item (disabled_by item.attrs) effect = subst (λ c. VisitsNode oracle s site id item c effect) (sym on) enabled in
    subst (λ o. VisitsAt oracle s site id o effect) (sym found) node

module _ {oracle : Oracle} where
  -- a place stays raised where an import is recorded
  import_raised : (s : State) (effect : Effect) → ImportStep oracle s effect → (importer : ModuleId) (slot : Slot) → IsRaisedIn s importer slot → IsRaisedIn effect.state importer slot
  import_raised s effect step importer slot raised = subst (λ (e : Effect). IsRaisedIn e.state importer slot) (sym step.is) raised

  -- a run that takes no step
  unfoldable pub collects_refl : (tasks : List Task) (s : State) → Collects oracle tasks s tasks s
  collects_refl tasks s = record { runs = runs_refl tasks s; keeps = λ stands sound. sound; raised = λ stands sound before importer slot left kept raised. raised }

-- no macro leaves in it
pub leave_refl : (oracle : Oracle) (waited : List MacroDirective) (tasks : List Task) (s : State) → LeaveOf waited (collects_refl {oracle = oracle} tasks s).runs
unfolding collects_refl
leave_refl oracle waited tasks s = λ before. tt

module _ {oracle : Oracle} where
  abbrev pub calmly_refl : (tasks : List Task) (s : State) → CollectsCalmly oracle tasks s tasks s
  calmly_refl tasks s = record { collects = collects_refl tasks s; calm = leave_refl oracle [] tasks s }

  pub leads_refl : (tasks : List Task) (s : State) → Leads oracle tasks s tasks s
  leads_refl tasks s = record { collects = collects_refl tasks s; calm = leave_refl oracle [] tasks s; inner_calls = refl; expansions = refl; deferred = omega arith; queues = λ rank lie. (lie, queues_alike rank s s (waits_alike refl refl refl refl refl)) }

  -- a run goes on with another
  unfoldable pub collects_trans : {ts us vs : List Task} {s t u : State} → Collects oracle ts s us t → Collects oracle us t vs u → Collects oracle ts s vs u
  collects_trans p q = record {
    runs = runs_trans p.runs q.runs;
    keeps = λ stands sound. q.keeps (stands_along (p.runs []).1 stands) (p.keeps stands sound);
    raised = λ stands sound before importer slot left kept raised.
        q.raised (stands_along (p.runs before).1 stands) (p.keeps stands sound) (p.runs before).0 importer slot (leaves_alike (left_out_along (p.runs before).1) importer ∙ left) kept.1
        (p.raised stands sound before importer slot left kept.0 raised);
  }

  -- and macros leave in it as in both
  pub leave_trans : (waited : List MacroDirective) {ts us vs : List Task} {s t u : State} (p : Collects oracle ts s us t) (q : Collects oracle us t vs u) → LeaveOf waited p.runs → LeaveOf waited q.runs → LeaveOf waited (collects_trans p q).runs
  unfolding collects_trans
  leave_trans waited p q first second = λ before. (first before, second (p.runs before).0)

  pub calmly_trans : {ts us vs : List Task} {s t u : State} → CollectsCalmly oracle ts s us t → CollectsCalmly oracle us t vs u → CollectsCalmly oracle ts s vs u
  calmly_trans p q = record { collects = collects_trans p.collects q.collects; calm = leave_trans [] p.collects q.collects p.calm q.calm }

  -- one in which no macro has its turn
  abbrev pub calmly_led : {tasks tasks' : List Task} {s t : State} → Leads oracle tasks s tasks' t → CollectsCalmly oracle tasks s tasks' t
  calmly_led leads = record { collects = leads.collects; calm = leads.calm }

  pub leads_trans : {ts us vs : List Task} {s t u : State} → Leads oracle ts s us t → Leads oracle us t vs u → Leads oracle ts s vs u
  leads_trans {s = s} {t = t} {u = u} p q = record {
    collects = collects_trans p.collects q.collects;
    calm = leave_trans [] p.collects q.collects p.calm q.calm;
    inner_calls = q.inner_calls ∙ p.inner_calls;
    expansions = q.expansions ∙ p.expansions;
    deferred = let first = p.deferred in let second = q.deferred in omega (arith, first, second);
    queues = λ rank lie. let first = p.queues rank lie in let second = q.queues rank first.0 in (second.0, queues_trans rank s t u first.1 second.1);
  }

  -- what is bare stays so
  pub leads_bare : {tasks tasks' : List Task} {s t : State} → Leads oracle tasks s tasks' t → IsBare s → IsBare t
  leads_bare leads bare = record { inner_calls = leads.inner_calls ∙ bare.inner_calls; expansions = leads.expansions ∙ bare.expansions }

  -- what is sound stays so along a run of whole waves
  pub collects_sound : {tasks tasks' : List Task} {s t : State} → Collects oracle tasks s tasks' t → IsSoundWith tasks s → IsSoundWith tasks' t
  collects_sound collects before = record { stands = stands_along (collects.runs []).1 before.stands; sound = collects.keeps before.stands before.sound }

  -- tasks are performed, the edges of globs among them
  pub leads_performed : (tasks rest : List Task) (s t : State) → AreFollowed (target_of s.map.id s.targets) tasks → Performs oracle tasks s t → Leads oracle (tasks ++ rest) s rest t
  leads_performed tasks rest s t followed done = record {
    collects = record {
      runs = done.runs rest;
      keeps = λ stands sound. done.keeps followed (stands_first rest stands) sound;
      raised = λ stands sound. done.raised rest (stands_first rest stands) sound;
    };
    calm = done.calm rest;
    inner_calls = done.waits.inner_calls;
    expansions = done.waits.expansions;
    deferred = same_lighter s t done.waits.deferred;
    queues = λ rank lie. (lie_last rank tasks rest lie, queues_alike rank s t done.waits);
  }

  -- an item is visited
  leads_visit : (site : Site) (id : ModItemId) (rest : List Task) (s : State) (effect : Effect) → Does oracle s (Visit site id) effect → Leads oracle (Visit site id ∷ rest) s (effect.tasks ++ rest) effect.state
  leads_visit site id rest s effect does =
      let visit : VisitFootprint s site effect = visits_footprint oracle s site id effect does in
      let foot = visit.foot in
      let u : State = deferred_with s visit.deferred in
      let stands_then : Stands (Visit site id ∷ rest) s → Stands (Visit site id ∷ rest) u = stands_visit (Visit site id ∷ rest) s visit.deferred visit.fewer in
      record {
        collects = record {
          runs = runs_task (Visit site id) rest s effect does;
          keeps = λ stands sound. footprint_sound (Visit site id ∷ rest) u site.scope site.depth effect foot (stands_then stands) sound;
          raised = λ stands sound before importer slot left kept raised. footprint_raised (Visit site id ∷ rest) u site.scope site.depth effect foot (stands_then stands) importer slot kept.order raised;
        };
        calm = λ before. tt;
        inner_calls = foot.queued.inner_calls;
        expansions = foot.queued.expansions;
        deferred = let lighter = visit.lighter in let same = ap deferred_work foot.queued.deferred in omega (arith, lighter, same);
        queues = λ rank lie. (
          lie_both rank effect.tasks rest (foot.deep rank lie.0) lie.1,
          record { more = foot.queued.more; macros = foot.queued.macros; lower = λ d h. let low = lie.0 in let ranks = (foot.queued.at d h).1 in omega (arith, low, ranks) },
        );
      }

  -- an import is recorded
  pub leads_import : (s : State) (effect : Effect) → ImportStep oracle s effect → Leads oracle [] s (effect.tasks ++ []) effect.state
  leads_import s effect step = record {
    collects = record {
      runs = λ before. (before ++ effect.events, one (records effect refl step refl));
      keeps = λ stands sound. import_sound oracle s effect step stands.state sound;
      raised = λ stands sound before importer slot left kept raised. import_raised s effect step importer slot raised;
    };
    calm = λ before. tt;
    inner_calls = ap (λ (e : Effect). e.state.inner_calls) step.is;
    expansions = ap (λ (e : Effect). e.state.expansions) step.is;
    deferred = same_lighter s effect.state (ap (λ (e : Effect). e.state.deferred) step.is);
    queues = λ rank lie. (
      subst (λ (e : Effect). AreVisitsBelow rank (e.tasks ++ [])) (sym step.is) (recorded_lies oracle rank (after_import s step.directive step.rest (answer_now oracle s step.directive.import)) step.directive.import (answer_now oracle s step.directive.import) step.directive.import.written.kind),
      queues_alike rank s effect.state (subst (λ (e : Effect). WaitsAlike s e.state) (sym step.is) (waits_alike refl refl refl refl refl)),
    );
  }

  -- the imports are put into another order
  pub leads_rearranged : (tasks : List Task) (s t : State) → Rearranges s t → Leads oracle tasks s tasks t
  leads_rearranged tasks s t same = record {
    collects = record {
      runs = λ before. (before, one (rearranges t same refl));
      keeps = λ stands sound. subst IsSound (sym same.rest) sound;
      raised = λ stands sound before importer slot left kept raised. subst (λ x. IsRaisedIn x importer slot) (sym same.rest) raised;
    };
    calm = λ before. tt;
    inner_calls = (rearranged_alike s t same).inner_calls;
    expansions = (rearranged_alike s t same).expansions;
    deferred = same_lighter s t (rearranged_alike s t same).deferred;
    queues = λ rank lie. (lie, queues_alike rank s t (rearranged_alike s t same));
  }

  -- a list is put and travels, and nothing else changes
  performs_wave : (place : ModuleId) (list : List (Entry Visibility)) (s : State) (c : Content Visibility) → Travels (order s) place list s.content c → Performs oracle (put_each place list ++ []) s (with_content s c)
  performs_wave place list s c travels = record {
    runs = runs_wave place list s c travels [];
    calm = calm_wave oracle place list s c travels [];
    keeps = λ followed stands sound.
        sound_wave s.map s.targets place list s.content c travels sound (puts_nowhere (target_of s.map.id s.targets) place list (subst (AreFollowed (target_of s.map.id s.targets)) (append-nil (put_each place list)) followed));
    raised = λ rest stands sound before importer slot left kept. wave_raised importer slot oracle place list s c travels [] rest before kept left sound;
    waits = waits_alike refl refl refl refl refl;
  }

  -- a list was put, and what changed has travelled
  pub performs_updated : (place : ModuleId) (list : List (Entry Visibility)) (s t : State) → Updated place list s t → Performs oracle (put_each place list) s t
  performs_updated place list s t updated =
      subst (λ tasks. Performs oracle tasks s t) (append-nil (put_each place list)) (subst (λ u. Performs oracle (put_each place list ++ []) s u) (sym updated.rest) (performs_wave place list s t.content updated.travels))

  -- the same, of a list that is known otherwise
  pub performs_listed : (place : ModuleId) (list known : List (Entry Visibility)) (s t : State) → list ≡ known → Updated place list s t → Performs oracle (put_each place known) s t
  performs_listed place list known s t same updated = performs_updated place known s t (subst (λ l. Updated place l s t) same updated)

  -- nothing is performed
  pub performs_none : (s : State) → Performs oracle [] s s
  performs_none s = record { runs = λ rest. runs_refl rest s; calm = λ rest before. tt; keeps = λ followed stands sound. sound; raised = λ rest stands sound before importer slot left kept raised. raised; waits = waits_alike refl refl refl refl refl }

  -- the imports are put into another order
  pub performs_rearranged : (s t : State) → Rearranges s t → Performs oracle [] s t
  performs_rearranged s t same = record {
    runs = λ rest before. (before, one (rearranges t same refl));
    calm = λ rest before. tt;
    keeps = λ followed stands sound. subst IsSound (sym same.rest) sound;
    raised = λ rest stands sound before importer slot left kept raised. subst (λ x. IsRaisedIn x importer slot) (sym same.rest) raised;
    waits = rearranged_alike s t same;
  }

  -- the directory of a walk is stored
  pub leads_enter : (at : ModuleId) (directory : Directory) (rest : List Task) (s : State) → Leads oracle (Enter at directory ∷ rest) s rest (entered s at directory)
  leads_enter at directory rest s = record {
    collects = record {
      runs = runs_task (Enter at directory) rest s (only (entered s at directory)) refl;
      keeps = λ stands sound. sound;
      raised = λ stands sound before importer slot left kept raised. raised;
    };
    calm = λ before. tt;
    inner_calls = refl;
    expansions = refl;
    deferred = omega arith;
    queues = λ rank lie. (lie.1, queues_alike rank s (entered s at directory) (waits_alike refl refl refl refl refl));
  }

  -- textual macros are brought into another module
  pub leads_bring : (from into : ModuleId) (rest : List Task) (s : State) → Leads oracle (Bring from into ∷ rest) s rest (noted_in s into (brought (textual_at s.map from.index)))
  leads_bring from into rest s =
      let t : State = noted_in s into (brought (textual_at s.map from.index)) in
      record {
        collects = record {
          runs = runs_task (Bring from into) rest s (only t) refl;
          keeps = λ stands sound. sound_larger stands.state sound (larger_with_module s.map into.index (brought (textual_at s.map from.index)));
          raised = λ stands sound before importer slot left kept raised. raised;
        };
        calm = λ before. tt;
        inner_calls = refl;
        expansions = refl;
        deferred = omega arith;
        queues = λ rank lie. (lie.1, queues_alike rank s t (waits_alike refl refl refl refl refl));
      }

  -- a visit is followed by its puts, down to the inner tasks
  leads_done : (site : Site) (id : ModItemId) (rest : List Task) (s t : State) (effect : Effect) (inner : List Task) → Does oracle s (Visit site id) effect → IsDone oracle effect t inner → Leads oracle (Visit site id ∷ rest) s (inner ++ rest) t
  leads_done site id rest s t effect inner does done =
      let visited : Leads oracle (Visit site id ∷ rest) s (done.puts ++ (inner ++ rest)) effect.state =
      subst (λ tasks. Leads oracle (Visit site id ∷ rest) s tasks effect.state) (ap (λ tasks. tasks ++ rest) done.tasks ∙ append_assoc done.puts inner rest) (leads_visit site id rest s effect does) in
      let plain = plain_first done.puts inner (subst ArePlain done.tasks (visits_footprint oracle s site id effect does).foot.plain) in
      leads_trans visited (leads_performed done.puts (inner ++ rest) effect.state t (plain_followed (target_of effect.state.map.id effect.state.targets) done.puts plain) done.performs)

  -- an item that is there is handled, and what it puts is put
  pub leads_handled : (s t : State) (site : Site) (id : ModItemId) (item : ItemNode) (inner : List Task) → node_at oracle site.tree id ≡ Some item → disabled_by item.attrs ≡ None → awaited_attr oracle s site id item ≡ None
      → IsHandled oracle s t site item inner → (rest : List Task) → Leads oracle (Visit site id ∷ rest) s (inner ++ rest) t
  leads_handled s t site id item inner found on none handled rest =
      let gave = handled.gave in
      let then = handled.handled in
      leads_done site id rest s t then.effect inner (does_enabled oracle s site id item found on None none then.effect (gave.session, gave.own, handled.given, gave.impls, then.handled)) then.done

  -- or it waits for the macro of an attribute
  pub leads_waits : (s t : State) (site : Site) (id : ModItemId) (item : ItemNode) (attr : AttrId × Attr) → node_at oracle site.tree id ≡ Some item → disabled_by item.attrs ≡ None → awaited_attr oracle s site id item ≡ Some attr
      → t ≡ queued s site item (awaiting site id attr) → (rest : List Task) → Leads oracle (Visit site id ∷ rest) s rest t
  leads_waits s t site id item attr found on some after rest = leads_visit site id rest s (only t) (does_enabled oracle s site id item found on (Some attr) some (only t) (ap only after))

  -- an item that cfg disables is reported
  pub leads_disabled : (s t : State) (site : Site) (id : ModItemId) (item : ItemNode) (cfg : CfgExpr) → node_at oracle site.tree id ≡ Some item → disabled_by item.attrs ≡ Some cfg
      → t ≡ reported s (diagnostic site item (UnconfiguredCode cfg)) → (rest : List Task) → Leads oracle (Visit site id ∷ rest) s rest t
  leads_disabled s t site id item cfg found off after rest =
      let effect : Effect = only t in
      let node : VisitsNode oracle s site id item (disabled_by item.attrs) effect = subst (λ c. VisitsNode oracle s site id item c effect) (sym off) (ap only after) in
      leads_visit site id rest s effect (subst (λ o. VisitsAt oracle s site id o effect) (sym found) node)

  -- an item that the tree does not have is nothing
  pub leads_nothing : (s : State) (site : Site) (id : ModItemId) → node_at oracle site.tree id ≡ None → (rest : List Task) → Leads oracle (Visit site id ∷ rest) s rest s
  leads_nothing s site id missing rest = leads_visit site id rest s (only s) (subst (λ o. VisitsAt oracle s site id o (only s)) (sym missing) refl)
