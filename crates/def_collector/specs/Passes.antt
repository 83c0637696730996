-- What the items of a walk wait for, and what turns of imports and macros leave.
use Rattle.std.specs.Prelude.{◌≡◌, ◌≢◌, ◌<◌, Bool, true, false, All, List, [], ◌∷◌, ◌++◌, Contains, Option, Some}
use Rattle.item_tree.specs.declared.attrs.Attr.{Attr}
use Rattle.tree_ids.specs.declared.ids.AttrId.{AttrId}
use Rattle.tree_ids.specs.declared.ids.ModItemId.{ModItemId}
use Rattle.item_tree.specs.declared.items.ItemNode.{ItemNode}
use Rattle.def_interner.specs.declared.interner.Interner.{Interner}
use Rattle.def_map.specs.Oracle.{Oracle}
use Rattle.def_rules.specs.Attributes.{awaited_attr, awaiting, item_site}
use Rattle.def_rules.specs.Calls.{queued}
use Rattle.def_rules.specs.Directives.{Stays, told, turn_effect, walked_state}
use Rattle.def_rules.specs.Imports.{answer_now, is_ready}
use Rattle.def_rules.specs.State.{State, Effect, Site, Visit}
use Rattle.def_rules.specs.Waiting.{MacroDirective, WrittenAttr, WrittenDerive}
use Rattle.def_laws.specs.Depths.{OnlyInvokes, waiting_work}
use Rattle.def_laws.specs.Performs.{Tried}
use Rattle.def_laws.specs.Runs.{Collects, CollectsCalmly, InTurns, Leads, LeaveOf}
use Rattle.def_collector.specs.declared.collector.DefCollector.{DefCollector}
use Rattle.def_collector.specs.Collector.{state_of}
use Rattle.def_steps.specs.declared.directive.ImportDirective.{ImportDirective}
use Rattle.def_steps.specs.declared.import_lists.ImportAt.{ImportAt}
use Rattle.def_steps.specs.ImportLists.{import_at}
use Rattle.def_steps.specs.Shown.{import_of, ns_set}

-- the import at a place of a list, if one stands there, is not ready
abbrev pub IsUnready : Oracle → Interner → DefCollector → ImportAt → Type 0
IsUnready oracle session c at =
    (d : ImportDirective) → import_at c.imports at ≡ Some d → is_ready (ns_set d.recorded) (answer_now oracle (state_of c session) (import_of d.import)) ≡ false

-- an item waits for the macro of an attribute
pub record Awaits (oracle : Oracle) (s : State) (site : Site) (id : ModItemId) (item : ItemNode) (t : State) : Type 0 where
  pub attr : AttrId × Attr
  pub awaited : awaited_attr oracle s site id item ≡ Some attr
  pub waits : t ≡ queued s site item (awaiting site id attr)

-- one that waits first was asked, and stays: only calls were recorded
pub record OnlyAsked (oracle : Oracle) (s : State) (d : MacroDirective) (t : State) : Type 0 where
  pub turn : (told oracle s d).turn ≡ Stays
  pub run : CollectsCalmly oracle [] s [] t
  pub only : OnlyInvokes s t

-- what the turn of one that waits first leads to
abbrev pub asked_effect : Oracle → State → MacroDirective → List MacroDirective → Effect
asked_effect oracle s d others = turn_effect (told oracle s d).state [] d others (told oracle s d).turn

-- the one that waited first left: what its turn leads to was done, what was queued stands behind the others, and less waits
pub record HasLeft (oracle : Oracle) (s t : State) : Type 0 where
  pub first : MacroDirective
  pub others : List MacroDirective
  pub stands : s.macros ≡ first ∷ others
  pub turn : (told oracle s first).turn ≢ Stays
  pub rest : CollectsCalmly oracle ((asked_effect oracle s first others).tasks ++ []) (asked_effect oracle s first others).state [] t
  pub more : List MacroDirective
  pub macros : t.macros ≡ others ++ more
  pub fewer : waiting_work t < waiting_work s

-- or it stays, and stands behind the others
pub record HasStayed (oracle : Oracle) (s t : State) : Type 0 where
  pub first : MacroDirective
  pub others : List MacroDirective
  pub stands : s.macros ≡ first ∷ others
  pub asked : OnlyAsked oracle s first t
  pub macros : t.macros ≡ others ++ first ∷ []

-- one that waits first was asked
pub record IsAsked (oracle : Oracle) (s : State) (d : MacroDirective) (moved : Bool) (t : State) : Type 0 where
  pub stayed : moved ≡ false → OnlyAsked oracle s d t
  pub left : moved ≡ true → HasLeft oracle s t

-- the one that waited first had its turn
pub record HadTurn (oracle : Oracle) (s : State) (moved : Bool) (t : State) : Type 0 where
  pub stayed : moved ≡ false → HasStayed oracle s t
  pub left : moved ≡ true → HasLeft oracle s t

-- macros that wait had turns in a row, but for these, and no other macro left: one left, and less waits, or all stay, and only calls were recorded
pub record HadTurns (oracle : Oracle) (s : State) (left : List MacroDirective) (moved : Bool) (t : State) : Type 0 where
  pub run : Collects oracle [] s [] t
  pub turns : InTurns run.runs left moved
  pub waited : (d : MacroDirective) → Contains left d → Contains s.macros d
  pub leave : LeaveOf s.macros run.runs
  pub rest : List MacroDirective
  pub macros : t.macros ≡ left ++ rest
  pub fewer : moved ≡ true → waiting_work t < waiting_work s
  pub still : moved ≡ false → OnlyInvokes s t
  pub stay : moved ≡ false → All (λ d. (told oracle s d).turn ≡ Stays) rest

-- an item that waited first left, these derives of its attribute were tried, and it was walked without the attribute
pub record IsWalked (oracle : Oracle) (s : State) (d : MacroDirective) (derives : List WrittenDerive) (written : WrittenAttr) (t : State) : Type 0 where
  pub others : List MacroDirective
  pub stands : s.macros ≡ d ∷ others
  pub tried : State
  pub tries : Tried oracle d derives (walked_state s [] d others written) tried
  pub leads : Leads oracle (Visit (item_site s d written) written.item ∷ []) tried [] t
