-- Tasks that are performed together, and what an item leaves to be done.
use Rattle.std.specs.Prelude.{◌≡◌, ◌≤◌, ◌+◌, ◌*◌, List, [], ◌++◌, length, Option}
use Rattle.item_tree.specs.declared.items.ItemNode.{ItemNode}
use Rattle.def_ids.specs.declared.ids.ModuleId.{ModuleId}
use Rattle.def_interner.specs.Session.{Session}
use Rattle.def_bindings.specs.declared.bindings.Entry.{Entry}
use Rattle.def_bindings.specs.declared.visibility.Visibility.{Visibility}
use Rattle.def_oracle.specs.Oracle.{Oracle}
use Rattle.def_laws.specs.Travels.{Travels}
use Rattle.def_rules.specs.Calls.{expansion_effect}
use Rattle.def_rules.specs.Deferred.{ImplsAreGiven}
use Rattle.def_rules.specs.Locations.{AddsOwn}
use Rattle.def_rules.specs.Rules.{HandlesByKind}
use Rattle.def_rules.specs.Directives.{tries}
use Rattle.def_rules.specs.State.{State, Site, Task, Effect, followed_by, order, with_content}
use Rattle.def_rules.specs.Waiting.{Expansion, MacroDirective, WrittenDerive}
use Rattle.def_laws.specs.Depths.{WaitsAlike, depth_rank, waiting_work}
use Rattle.def_laws.specs.Followed.{AreFollowed}
use Rattle.def_laws.specs.Sound.{IsSound, KeepsSound}
use Rattle.def_laws.specs.Own.{Stands}
use Rattle.def_rules.specs.Targets.{target_of}
use Rattle.def_laws.specs.Runs.{CollectsCalmly, Leads, LeaveOf, Runs, StaysRaised}
use Rattle.def_laws.specs.Work.{weight}
use Rattle.item_tree.specs.declared.items.ImportKind.TheVariants as kind
use Rattle.def_ids.specs.declared.ids.Def.{Def}
use Rattle.def_ids.specs.declared.ids.GlobId.{GlobId}
use Rattle.def_rules.specs.Recording.{targets_after}

-- the state in which a glob was recorded with this definition
abbrev pub target_state : State → GlobId → Option Def → State
target_state s glob given = record s { targets = targets_after kind.Glob glob given s.targets }

-- these tasks are performed, whatever is to be done behind them; names stay sound where the edges of globs are among the tasks, and nothing is queued
pub record Performs (oracle : Oracle) (tasks : List Task) (s t : State) : Type 0 where
  pub runs : (rest : List Task) → Runs oracle (tasks ++ rest) s rest t
  pub calm : (rest : List Task) → LeaveOf [] (runs rest)
  pub keeps : AreFollowed (target_of s.map.id s.targets) tasks → KeepsSound tasks s t
  pub raised : (rest : List Task) → Stands tasks s → IsSound s → StaysRaised (runs rest)
  pub waits : WaitsAlike s t

-- a list was put in a module, what changed has travelled along the edges, and nothing else changed
pub record Updated (at : ModuleId) (list : List (Entry Visibility)) (s t : State) : Type 0 where
  pub travels : Travels (order s) at list s.content t.content
  pub rest : t ≡ with_content s t.content

-- what a rule leads to was done up to these inner tasks: the others are puts, and were performed
pub record IsDone (oracle : Oracle) (effect : Effect) (t : State) (inner : List Task) : Type 0 where
  pub puts : List Task
  pub tasks : effect.tasks ≡ puts ++ inner
  pub performs : Performs oracle puts effect.state t

-- an item was handled by its kind, and what it puts was put: its own items are left
pub record Handled (oracle : Oracle) (s t : State) (site : Site) (item : ItemNode) (inner : List Task) : Type 0 where
  pub effect : Effect
  pub handled : HandlesByKind oracle s site item effect
  pub done : IsDone oracle effect t inner

-- the derives that are deferred for an item gave their impls, in a session that may have more locations of it
pub record GaveImpls (oracle : Oracle) (s : State) (site : Site) (item : ItemNode) (given : State) : Type 0 where
  pub session : Session
  pub own : AddsOwn site item s.session session
  pub impls : ImplsAreGiven oracle (record s { session = session }) site item given

-- so they did, and then the item was handled by its kind
pub record IsHandled (oracle : Oracle) (s t : State) (site : Site) (item : ItemNode) (inner : List Task) : Type 0 where
  pub given : State
  pub gave : GaveImpls oracle s site item given
  pub handled : Handled oracle given t site item inner

-- derives of an attribute were tried: each waits, or its expansion does
pub record Tried (oracle : Oracle) (d : MacroDirective) (derives : List WrittenDerive) (s t : State) : Type 0 where
  pub collects : (rest : List Task) → CollectsCalmly oracle (tries d derives ++ rest) s rest t
  pub more : List MacroDirective
  pub macros : t.macros ≡ s.macros ++ more
  pub work : waiting_work t ≤ waiting_work s + length derives * (2 * weight (depth_rank d.depth))

-- an expansion was walked, or dropped
pub record IsExpanded (oracle : Oracle) (expansion : Expansion) (s t : State) : Type 0 where
  pub inner : List Task
  pub begun : State
  pub opened : expansion_effect oracle s expansion ≡ followed_by begun inner
  pub leads : Leads oracle inner begun [] t
