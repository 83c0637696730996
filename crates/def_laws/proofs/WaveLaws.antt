-- A list that is put and travels, as a run: what such a run keeps, and that places stay raised along it.
use Rattle.std.proofs.Common.{◌≡◌, ℕ, false, List, [], ◌∷◌, ◌++◌, Contains, Some, slice_get, refl, sym, ap, ◌∙◌, subst}
use Rattle.def_ids.specs.declared.ids.Def.{Def}
use Rattle.def_ids.specs.declared.ids.ModuleId.{ModuleId}
use Rattle.def_bindings.specs.declared.bindings.Binding.{Binding}
use Rattle.def_bindings.specs.declared.bindings.EdgeTo.{EdgeTo}
use Rattle.def_bindings.specs.declared.bindings.Entry.{Entry}
use Rattle.def_bindings.specs.declared.bindings.Slot.{Slot}
use Rattle.def_bindings.specs.declared.visibility.Visibility.{Visibility}
use Rattle.def_bindings.specs.Closure.{IsBound}
use Rattle.def_bindings.specs.Content.{Content}
use Rattle.def_bindings.specs.Puts.{copied, held, puts}
use Rattle.def_bindings.specs.PutsLaws.{bound_stays-put_entry, bound_stays-puts}
use Rattle.def_oracle.specs.Oracle.{Oracle}
use Rattle.def_globs.proofs.ListLaws.{later_in}
use Rattle.def_globs.specs.Raised.{KeepsDef, KeepsDefs}
use Rattle.def_globs.proofs.RecordingLaws.{bound_copies}
use Rattle.def_globs.specs.Waves as Waves
use Rattle.def_laws.specs.Sound.{IsRaisedIn, IsSound}
use Rattle.def_rules.specs.Targets.{leaves_out}
use Rattle.def_laws.specs.Travels.{Travels}
use Rattle.def_rules.specs.State.{State, Effect, Event, Task, Put, AddEdge, order, put_each, with_content}
use Rattle.def_rules.specs.Steps.{Does, IsKeptAlong, KeepsPlace, here, one, join, copies, performs, put_effect}
use Rattle.def_laws.specs.Runs.{LeaveOf, Runs}

module _ {oracle : Oracle} where
  abbrev pub runs_refl : (tasks : List Task) (s : State) → Runs oracle tasks s tasks s
  runs_refl tasks s = λ before. (before, here)

  abbrev pub runs_trans : {ts us vs : List Task} {s t u : State} → Runs oracle ts s us t → Runs oracle us t vs u → Runs oracle ts s vs u
  runs_trans p q = λ before. let first = p before in let second = q first.0 in (second.0, join first.1 second.1)

  -- the first task is performed
  abbrev pub runs_task : (task : Task) (rest : List Task) (s : State) (effect : Effect) → Does oracle s task effect → Runs oracle (task ∷ rest) s (effect.tasks ++ rest) effect.state
  runs_task task rest s effect does = λ before. (before ++ effect.events, one (performs task rest effect refl does refl))

  -- something is copied along an edge
  abbrev runs_copy : (tasks : List Task) (s : State) (source : ModuleId) (index : ℕ) (edge : EdgeTo Visibility) (slot : Slot) → slice_get (s.content.edges source) index ≡ Some edge
      → Runs oracle tasks s tasks (with_content s (copied (order s) source edge slot s.content))
  runs_copy tasks s source index edge slot there = λ before. (before, one (copies _ (record { source = source; index = index; edge = edge; slot = slot; stands = there; after = refl }) refl))

  -- each entry of a list is put, with more to be done behind
  abbrev runs_put_each : (place : ModuleId) (list : List (Entry Visibility)) (more rest : List Task) (s : State) → Runs oracle ((put_each place list ++ more) ++ rest) s (more ++ rest) (with_content s (puts (order s) place list s.content))
  runs_put_each place [] more rest s = runs_refl (more ++ rest) s
  runs_put_each place (entry ∷ list) more rest s =
      runs_trans (runs_task (Put place entry) ((put_each place list ++ more) ++ rest) s (put_effect s place entry) refl) (runs_put_each place list more rest (put_effect s place entry).state)

  -- copies stand anywhere
  abbrev runs_copies : (s : State) (slots : List Slot) (def_of : Slot → Def) (tasks : List Task) {c d : Content Visibility} → Waves.Copies (order s) slots def_of c d → Runs oracle tasks (with_content s c) tasks (with_content s d)
  runs_copies s slots def_of tasks (Waves.none {c = c}) = runs_refl tasks (with_content s c)
  runs_copies s slots def_of tasks (Waves.more {c = c} {d = d} source edge slot index before there within def) =
      runs_trans (runs_copies s slots def_of tasks before) (runs_copy tasks (with_content s d) source index edge slot there)

  -- a list is put, and what changes travels
  abbrev pub runs_wave : (place : ModuleId) (list : List (Entry Visibility)) (s : State) (c : Content Visibility) → Travels (order s) place list s.content c → (more rest : List Task)
      → Runs oracle ((put_each place list ++ more) ++ rest) s (more ++ rest) (with_content s c)
  runs_wave place list s c travels more rest = runs_trans (runs_put_each place list more rest s) (runs_copies s _ _ (more ++ rest) travels.updates)

-- No macro leaves in it

module _ (oracle : Oracle) where
  calm_put_each : (place : ModuleId) (list : List (Entry Visibility)) (more rest : List Task) (s : State) → LeaveOf [] (runs_put_each {oracle = oracle} place list more rest s)
  calm_put_each place [] more rest s before = tt
  calm_put_each place (entry ∷ list) more rest s before = (tt, calm_put_each place list more rest (put_effect s place entry).state _)

  calm_copies : (s : State) (slots : List Slot) (def_of : Slot → Def) (tasks : List Task) {c d : Content Visibility} (copies : Waves.Copies (order s) slots def_of c d) → LeaveOf [] (runs_copies {oracle = oracle} s slots def_of tasks copies)
  calm_copies s slots def_of tasks (Waves.none {c = c}) before = tt
  calm_copies s slots def_of tasks (Waves.more {c = c} {d = d} source edge slot index earlier there within def) before = (calm_copies s slots def_of tasks earlier before, tt)

  pub calm_wave : (place : ModuleId) (list : List (Entry Visibility)) (s : State) (c : Content Visibility) (travels : Travels (order s) place list s.content c) (more rest : List Task) → LeaveOf [] (runs_wave {oracle = oracle} place list s c travels more rest)
  calm_wave place list s c travels more rest before = (calm_put_each place list more rest s before, calm_copies s _ _ (more ++ rest) travels.updates _)

-- What a run keeps of a place

module _ (importer : ModuleId) (slot : Slot) where
  -- a definition that was kept and kept again was kept
  keeps_trans : (a b c : Content Visibility) → (IsBound a importer slot → IsBound b importer slot) → KeepsDef a b importer slot → KeepsDef b c importer slot → KeepsDef a c importer slot
  keeps_trans a b c bound first second x z was is = let mid = bound (x, was) in first x mid.0 was mid.1 ∙ second mid.0 z mid.1 is

  keeps_itself : (c : Content Visibility) → KeepsDef c c importer slot
  keeps_itself c x y was is = let same : Some x ≡ Some y = sym was ∙ is in let one : x ≡ y = cc in ap (λ (b : Binding _). b.def) one

  -- the sources of edges that are to be added keep what they bind at the slot
  abbrev pub KeepSources : List Task → Content Visibility → Content Visibility → Type 0
  KeepSources tasks c d = (source : ModuleId) (edge : EdgeTo Visibility) → Contains tasks (AddEdge source edge) → edge.importer ≡ importer → held d source slot ≡ held c source slot

  -- what a run of a list's puts keeps
  record KeptByPuts (place : ModuleId) (list : List (Entry Visibility)) (tasks : List Task) (s : State) : Type 0 where
    pub def : KeepsDef s.content (puts (order s) place list s.content) importer slot
    pub defs : importer ≡ place → KeepsDefs (order s) place list s.content slot
    pub sources : KeepSources tasks s.content (puts (order s) place list s.content)

  module _ (oracle : Oracle) where
    kept_put_each : (place : ModuleId) (list : List (Entry Visibility)) (more rest : List Task) (s : State) (before : List Event) → IsKeptAlong (runs_put_each {oracle = oracle} place list more rest s before).1 importer slot
        → KeptByPuts place list (more ++ rest) s
    kept_put_each place [] more rest s before kept = record { def = keeps_itself s.content; defs = λ at. tt; sources = λ source edge ahead to. refl }
    kept_put_each place (entry ∷ list) more rest s before kept =
        let next : State = (put_effect s place entry).state in
        let first : KeepsPlace _ _ importer slot = kept.0 in
        let behind = kept_put_each place list more rest next _ kept.1 in
        let there : (source : ModuleId) (edge : EdgeTo Visibility) → Contains (more ++ rest) (AddEdge source edge) → Contains ((put_each place list ++ more) ++ rest) (AddEdge source edge) =
        λ source edge ahead. ahead_of_puts place list more rest source edge ahead in
        record {
          def = keeps_trans s.content next.content (puts (order s) place list next.content) (bound_stays-put_entry (order s) place entry s.content importer slot) first.def behind.def;
          defs = λ at. (subst (λ m. KeepsDef s.content next.content m slot) at first.def, behind.defs at);
          sources = λ source edge ahead to. behind.sources source edge ahead to ∙ first.sources source edge (later_in _ _ _ (there source edge ahead)) (there source edge ahead) to;
        }
      where
        ahead_of_puts : (place : ModuleId) (list : List (Entry Visibility)) (more rest : List Task) (source : ModuleId) (edge : EdgeTo Visibility) → Contains (more ++ rest) (AddEdge source edge) → Contains ((put_each place list ++ more) ++ rest) (AddEdge source edge)
        ahead_of_puts place [] more rest source edge ahead = ahead
        ahead_of_puts place (e ∷ es) more rest source edge ahead = later_in _ _ _ (ahead_of_puts place es more rest source edge ahead)

    kept_copies : (s : State) (slots : List Slot) (def_of : Slot → Def) (tasks : List Task) (before : List Event) {c d : Content Visibility} (copies : Waves.Copies (order s) slots def_of c d)
        → IsKeptAlong (runs_copies {oracle = oracle} s slots def_of tasks copies before).1 importer slot → KeepsDef c d importer slot × KeepSources tasks c d
    kept_copies s slots def_of tasks before (Waves.none {c = c}) kept = (keeps_itself c, λ source edge ahead to. refl)
    kept_copies s slots def_of tasks before (Waves.more {c = c} {d = d} source edge x index earlier there within def) kept =
        let first = kept_copies s slots def_of tasks before earlier kept.0 in
        let last : KeepsPlace _ _ importer slot = kept.1 in (
          keeps_trans c d (copied (order s) source edge x d) (bound_copies (order s) slots def_of earlier importer slot) first.0 last.def,
          λ source' edge' ahead to. last.sources source' edge' ahead ahead to ∙ first.1 source' edge' ahead to,
        )

    module _ (place : ModuleId) (list : List (Entry Visibility)) (s : State) (c : Content Visibility) (travels : Travels (order s) place list s.content c) (more rest : List Task) (before : List Event)
        (kept : IsKeptAlong (runs_wave {oracle = oracle} place list s c travels more rest before).1 importer slot) where
      of_puts : KeptByPuts place list (more ++ rest) s
      of_puts = kept_put_each place list more rest s before kept.0

      of_copies : KeepsDef (puts (order s) place list s.content) c importer slot × KeepSources (more ++ rest) (puts (order s) place list s.content) c
      of_copies = kept_copies s _ _ (more ++ rest) _ travels.updates kept.1

      -- a place keeps its definition along a wave
      pub wave_keeps : KeepsDef s.content c importer slot
      wave_keeps = keeps_trans s.content (puts (order s) place list s.content) c (bound_stays-puts (order s) place list s.content importer slot) of_puts.def of_copies.0

      -- so do the sources of edges that are to be added to its module
      pub wave_sources : KeepSources (more ++ rest) s.content c
      wave_sources source edge ahead to = of_copies.1 source edge ahead to ∙ of_puts.sources source edge ahead to

      -- and it stays raised
      pub wave_raised : leaves_out s importer ≡ false → IsSound s → IsRaisedIn s importer slot → IsRaisedIn (with_content s c) importer slot
      wave_raised left sound raised = travels.raised (leaves_out s) sound.closed importer slot left wave_keeps of_puts.defs raised
