-- What waits for macros, by how deep it lies: it ranks lower than the items that queue it.
use Rattle.std.specs.Prelude.{◌≡◌, ◌⊎◌, ◌<◌, ◌≤◌, ℕ, ◌+◌, ◌-◌, ◌*◌, ◌^◌, cond, nat_lt, List, [], ◌∷◌, ◌++◌, Contains, IsPermutation, sum_by}
use Rattle.tree_ids.specs.declared.ids.FileAstId.{FileAstId}
use Rattle.tree_ids.specs.declared.ids.InFile.{InFile}
use Rattle.def_ids.specs.declared.ids.ModuleId.{ModuleId}
use Rattle.def_rules.specs.declared.deferred.DeferredDerive.{DeferredDerive}
use Rattle.def_rules.specs.declared.inner_calls.InnerCall.{InnerCall}
use Rattle.def_rules.specs.Calls.{deepest}
use Rattle.def_modules.specs.Maps.{facts_in}
use Rattle.def_modules.specs.MapState.{MapState}
use Rattle.def_rules.specs.State.{State, Task, Visit}
use Rattle.def_rules.specs.Waiting.{Deferrals, Expansion, MacroDirective, MacroDirectiveKind, FnLike, Attr, Derive}
use Rattle.def_laws.specs.Work.{weight}

-- how far what waits is from the deepest, as a rank that falls along a run: of one depth, an item that waits for an attribute ranks above calls and derives
abbrev pub kind_rank : MacroDirectiveKind → ℕ
kind_rank (FnLike written) = 0
kind_rank (Attr written) = 1
kind_rank (Derive written) = 0

abbrev pub depth_rank : ℕ → ℕ
depth_rank depth = 2 * (2 ^ 32 - depth)

abbrev pub macro_rank : MacroDirective → ℕ
macro_rank d = depth_rank d.depth + kind_rank d.kind

-- a visit at a depth queues only what ranks lower than this: at the greatest depth that are calls alone, which lie no deeper
abbrev pub visit_rank : ℕ → ℕ
visit_rank depth = cond (nat_lt depth deepest) (depth_rank depth) 3

-- a visit queues only what ranks lower than this
abbrev pub IsVisitBelow : ℕ → Task → Type 0
IsVisitBelow rank (Visit site id) = visit_rank site.depth ≤ rank
IsVisitBelow rank _ = Unit {0}

-- so does each of a list
abbrev pub AreVisitsBelow : ℕ → List Task → Type 0
AreVisitsBelow rank [] = Unit {0}
AreVisitsBelow rank (task ∷ tasks) = IsVisitBelow rank task × AreVisitsBelow rank tasks

-- all that was queued from one state to another ranks lower than this
pub record Queues (rank : ℕ) (s t : State) : Type 0 where
  pub more : List MacroDirective
  pub macros : t.macros ≡ s.macros ++ more
  pub lower : (d : MacroDirective) → Contains more d → macro_rank d < rank

-- the same waits in two states, of crates of one kind
pub record WaitsAlike (s t : State) : Type 0 where
  pub macros : t.macros ≡ s.macros
  pub inner_calls : t.inner_calls ≡ s.inner_calls
  pub expansions : t.expansions ≡ s.expansions
  pub deferred : t.deferred ≡ s.deferred
  pub is_proc_macro : t.is_proc_macro ≡ s.is_proc_macro

-- a derive is deferred in a module
abbrev pub DefersIn : Deferrals → ModuleId → Type 0
DefersIn deferred at = (e : InFile FileAstId × List DeferredDerive) × (d : DeferredDerive) × Contains deferred e × Contains e.1 d × (d.module_id ≡ at)

-- something waits in a module: a macro, an expansion that is to be walked, or a derive that is deferred
abbrev pub WaitsIn : State → ModuleId → Type 0
WaitsIn s at = ((d : MacroDirective) × Contains s.macros d × (d.scope ≡ at)) ⊎ (((e : Expansion) × Contains s.expansions e × (e.scope ≡ at)) ⊎ DefersIn s.deferred at)

-- what an expansion of this depth weighs: more than 2^64 macros that wait and rank lower
abbrev pub expansion_work : ℕ → ℕ
expansion_work depth = weight (depth_rank depth)

-- what a macro that waits weighs: twice as much as an expansion of its rank
abbrev pub macro_work : MacroDirective → ℕ
macro_work d = 2 * weight (macro_rank d)

-- what derives weigh that are deferred for an item: each as much as its expansion
abbrev pub derives_work : List DeferredDerive → ℕ
derives_work derives = sum_by (λ (d : DeferredDerive). expansion_work d.depth) derives

-- those of all items
abbrev pub deferred_work : Deferrals → ℕ
deferred_work deferred = sum_by (λ (e : InFile FileAstId × List DeferredDerive). derives_work e.1) deferred

-- what waits
abbrev pub waiting_work : State → ℕ
waiting_work s = sum_by macro_work s.macros + sum_by (λ (e : Expansion). expansion_work e.depth) s.expansions + deferred_work s.deferred

-- only calls were recorded, which no path reads, or are to be, and what waits may stand in another order
pub record OnlyInvokes (s t : State) : Type 0 where
  pub map : MapState
  pub macros : List MacroDirective
  pub inner_calls : List InnerCall
  pub is : t ≡ record s { map = map; macros = macros; inner_calls = inner_calls }
  pub order : IsPermutation s.macros macros
  pub facts : facts_in map ≡ facts_in s.map
  pub krate : map.krate ≡ s.map.krate
  pub helpers : map.helpers ≡ s.map.helpers
