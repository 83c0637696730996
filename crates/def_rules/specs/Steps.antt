-- The machine of a run: one step from a moment to the next, and runs of them.
use Rattle.std.specs.Prelude.{◌≡◌, List, [], ◌∷◌, Option, None, Some, ℕ, slice_get, Contains, IsPermutation}
use Rattle.tree_ids.specs.declared.name.Name.{Name}
use Rattle.def_ids.specs.declared.ids.GlobId.{GlobId}
use Rattle.def_ids.specs.declared.ids.ModuleId.{ModuleId}
use Rattle.def_bindings.specs.declared.bindings.Binding.{Binding}
use Rattle.def_bindings.specs.declared.bindings.EdgeTo.{EdgeTo}
use Rattle.def_bindings.specs.declared.bindings.Entry.{Entry}
use Rattle.def_bindings.specs.declared.bindings.Slot.{Slot}
use Rattle.def_bindings.specs.declared.visibility.Visibility.{Visibility}
use Rattle.def_bindings.specs.Content.{Content}
use Rattle.def_bindings.specs.Puts.{copied, glob_of, held, offered, put_entry}
use Rattle.def_modules.specs.Maps.{textual_at}
use Rattle.def_modules.specs.Scopes.{brought}
use Rattle.def_oracle.specs.Oracle.{Oracle}
use Rattle.def_globs.specs.Globs.{with_recorded}
use Rattle.def_globs.specs.Raised.{KeepsDef}
use Rattle.def_rules.specs.ProcMacros.{taken_out, takes_out}
use Rattle.def_rules.specs.State.{State, Effect, Task, Enter, Visit, TryDerive, Put, AddEdge, Bring, TakeOut, Event, PutExplicit, Moment, after, entered, only, with_state, with_content, order, Rearranges, world}
use Rattle.def_rules.specs.Calls.{inner_recorded}
use Rattle.def_rules.specs.Derives.{derive_macro}
use Rattle.def_rules.specs.Directives.{ExpansionStep, MacroStep, tried_effect}
use Rattle.def_rules.specs.Fallback.{FallbackStep}
use Rattle.def_rules.specs.Items.{noted_in}
use Rattle.def_rules.specs.Recording.{ImportStep}
use Rattle.def_rules.specs.Rules.{Visits}
use Rattle.def_rules.specs.Waiting.{MacroDirective}

-- a put of a name that no glob brought
abbrev pub event_of : ModuleId → Entry Visibility → Option GlobId → Option Name → List Event
event_of at entry None (Some name) = PutExplicit at name entry.ns (offered entry) ∷ []
event_of at entry _ _ = []

-- an explicit binding of a name that is put
abbrev pub put_event : ModuleId → Entry Visibility → List Event
put_event at entry = event_of at entry (glob_of entry.origin) entry.name

-- an entry is put into a module, and noted if it is explicit
abbrev pub put_effect : State → ModuleId → Entry Visibility → Effect
put_effect s at entry = record { state = with_content s (put_entry (order s) at entry s.content); tasks = []; events = put_event at entry }

-- a task is performed
abbrev pub Does : Oracle → State → Task → Effect → Type 0
Does oracle s (Enter at directory) effect = effect ≡ only (entered s at directory)
Does oracle s (Visit site id) effect = Visits oracle s site id effect
Does oracle s (TryDerive directive written) effect = effect ≡ tried_effect oracle s directive written (derive_macro (world oracle s) directive.scope written)
Does oracle s (Put at entry) effect = effect ≡ put_effect s at entry
Does oracle s (Bring from into) effect = effect ≡ only (noted_in s into (brought (textual_at s.map from.index)))
Does oracle s (AddEdge source edge) effect = effect ≡ only (with_content s (with_recorded (order s) s.content source edge))
Does oracle s (TakeOut at name function) effect = effect ≡ taken_out s at name function (takes_out s at name function)

-- one slot is copied along an edge of a glob: what its source binds now, if the importer sees it
pub record Copies (s : State) (content : Content Visibility) : Type 0 where
  pub source : ModuleId
  pub index : ℕ
  pub edge : EdgeTo Visibility
  pub slot : Slot
  pub stands : slice_get (s.content.edges source) index ≡ Some edge
  pub after : content ≡ copied (order s) source edge slot s.content

-- one step. What a rule leads to goes before the rest; no import, macro or expansion has its turn, and no call that was made for arguments is recorded, before all that is to be done is done.
pub data Step (oracle : Oracle) (a b : Moment) : Type 0 where
  -- the first task is performed, and its own tasks come before the rest
  performs : (task : Task) (rest : List Task) (effect : Effect) → a.tasks ≡ task ∷ rest → Does oracle a.state task effect → b ≡ after a rest effect → Step oracle a b
  -- something is copied along an edge
  copies : (content : Content Visibility) → Copies a.state content → b ≡ with_state a (with_content a.state content) → Step oracle a b
  -- the macros that wait are put into another order
  reorders : (macros : List MacroDirective) → IsPermutation a.state.macros macros → b ≡ with_state a (record a.state { macros = macros }) → Step oracle a b
  -- so are the imports that are not resolved
  rearranges : (state : State) → Rearranges a.state state → b ≡ with_state a state → Step oracle a b
  -- where nothing is left to do, no call to be recorded and no expansion to be walked, an import that is ready is recorded
  records : (effect : Effect) → a.tasks ≡ [] → ImportStep oracle a.state effect → b ≡ after a [] effect → Step oracle a b
  -- a macro that waits is asked
  asks : (effect : Effect) → a.tasks ≡ [] → MacroStep oracle a.state effect → b ≡ after a [] effect → Step oracle a b
  -- the calls are recorded that were made for the arguments of those that were asked
  notes : a.tasks ≡ [] → b ≡ after a [] (only (inner_recorded a.state)) → Step oracle a b
  -- behind them the expansion of one that waited is walked
  expands : (effect : Effect) → a.tasks ≡ [] → ExpansionStep oracle a.state effect → b ≡ after a [] effect → Step oracle a b
  -- or, where the run is stuck, an attribute is given up
  falls_back : (effect : Effect) → a.tasks ≡ [] → FallbackStep oracle a.state effect → b ≡ after a [] effect → Step oracle a b

-- steps in any order and number
pub data Reaches (oracle : Oracle) : Moment → Moment → Type 0 where
  here : {a : Moment} → Reaches oracle a a
  one : {a b : Moment} → Step oracle a b → Reaches oracle a b
  join : {a b c : Moment} → Reaches oracle a b → Reaches oracle b c → Reaches oracle a c

-- a visibility that stands near a place: of what is bound there, of an edge to it, or of what such an edge carries to it
pub data StandsNear (c : Content Visibility) (importer : ModuleId) (slot : Slot) (vis : Visibility) : Type 0 where
  bound : (b : Binding Visibility) → held c importer slot ≡ Some b → b.vis ≡ vis → StandsNear c importer slot vis
  linked : (source : ModuleId) (index : ℕ) (edge : EdgeTo Visibility) → slice_get (c.edges source) index ≡ Some edge → edge.importer ≡ importer → edge.vis ≡ vis → StandsNear c importer slot vis
  carried : (source : ModuleId) (index : ℕ) (edge : EdgeTo Visibility) (b : Binding Visibility) → slice_get (c.edges source) index ≡ Some edge → edge.importer ≡ importer
      → held c source slot ≡ Some b → b.vis ≡ vis → StandsNear c importer slot vis

-- what a step keeps of a place: its definition, how the visibilities that stand near it compare, and what the source of an edge that is still to be added to its module binds at its slot
pub record KeepsPlace (a b : Moment) (importer : ModuleId) (slot : Slot) : Type 0 where
  pub def : KeepsDef a.state.content b.state.content importer slot
  pub order : (v w : Visibility) → StandsNear a.state.content importer slot v → StandsNear a.state.content importer slot w → (order b.state).at_most v w ≡ (order a.state).at_most v w
  pub sources : (source : ModuleId) (edge : EdgeTo Visibility) → Contains a.tasks (AddEdge source edge) → Contains b.tasks (AddEdge source edge) → edge.importer ≡ importer
      → held b.state.content source slot ≡ held a.state.content source slot

-- each step of a run keeps a place
abbrev pub IsKeptAlong : {oracle : Oracle} {a b : Moment} → Reaches oracle a b → ModuleId → Slot → Type 0
IsKeptAlong here importer slot = Unit {0}
IsKeptAlong (one {a = a} {b = b} step) importer slot = KeepsPlace a b importer slot
IsKeptAlong (join first second) importer slot = IsKeptAlong first importer slot × IsKeptAlong second importer slot
