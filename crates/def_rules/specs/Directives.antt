-- Macros that wait: what one is told each time that it has its turn, what it does then, and expansions that are to be walked.
use Rattle.std.specs.Prelude.{◌≡◌, ℕ, Bool, true, false, List, [], ◌∷◌, ◌++◌, map, Option, None, Some, Result, Ok, Err, Contains}
use Rattle.tree_ids.specs.declared.ids.FileAstId.{FileAstId}
use Rattle.tree_ids.specs.declared.ids.InFile.{InFile}
use Rattle.tree_ids.specs.declared.ids.MacroCallId.{MacroCallId}
use Rattle.tree_ids.specs.declared.ids.SyntaxContext.{SyntaxContext}
use Rattle.item_tree.specs.declared.mod_path.ModPath.{ModPath}
use Rattle.def_interner.specs.declared.macro_def.MacroDefId.{MacroDefId}
use Rattle.def_modules.specs.MapState.{MapState}
use Rattle.def_oracle.specs.declared.source_database.CallAnswer.{CallAnswer}
use Rattle.def_oracle.specs.declared.source_database.UnresolvedMacro.{UnresolvedMacro}
use Rattle.def_oracle.specs.Oracle.{Oracle}
use Rattle.def_sources.specs.declared.asked.BuiltinShadowMode.TheVariants as shadow
use Rattle.def_sources.specs.declared.per_ns.MacroSubNs.TheVariants as sub
use Rattle.def_paths.specs.Paths.{resolver}
use Rattle.def_sources.specs.Sources.{World}
use Rattle.def_rules.specs.Attributes.{AttrUse, HasNoExpander, PassesOver, ReadsDerives, ReplacesItem, activated, attr_macro, attr_query, attr_use, directive_reported, is_helper, item_site, passed_over}
use Rattle.def_rules.specs.Calls.{answer_by, call_query, expansion_effect, with_inner_calls, with_invocations}
use Rattle.def_rules.specs.declared.diagnostics.DefDiagnosticKind.{DefDiagnosticKind}
use Rattle.def_rules.specs.declared.diagnostics.DefDiagnosticKind.TheVariants.{MacroError}
use Rattle.def_rules.specs.Deferred.{added_helpers, deferral, deferred_derive, deferring, expanding_deferred}
use Rattle.def_rules.specs.Derives.{derive_call, derive_directive, derive_macro, derive_paths, derived, derives_from, may_derive, with_list, with_shown_helpers}
use Rattle.def_rules.specs.Items.{node_at}
use Rattle.def_rules.specs.State.{State, Effect, Task, TryDerive, Visit, followed_by, only, with_map, world}
use Rattle.def_rules.specs.Waiting.{Expansion, MacroDirective, MacroDirectiveKind, FnLike, Attr, Derive, WrittenAttr, WrittenCall, WrittenDerive}

-- What is told

-- what becomes of a macro that waits, once it has its turn
pub data Turn : Type 0 where
  -- it stays where it stands
  Stays : Turn
  -- it leaves: it is given a call, whose expansion is to be walked
  GivesCall : MacroCallId → Turn
  -- it leaves: it is a derive that has its call, whose expansion is to be walked
  GivesDerive : MacroCallId → Turn
  -- it leaves: its attribute is given a call, whose expansion is to stand in the item's place
  Replaces : MacroCallId → Turn
  -- it leaves: these derives are tried, and its item is walked without this attribute
  WalksItem : List WrittenDerive → WrittenAttr → Turn

-- what was told: the state after it, and what becomes of the macro
pub record Told : Type 0 where
  pub state : State
  pub turn : Turn

-- what a call is answered, by the macros that paths name once imports are resolved
abbrev pub answer_in : World → MapState → MacroDirective → WrittenCall → Result CallAnswer UnresolvedMacro
answer_in w m directive written =
    answer_by w.oracle (resolver w shadow.Module sub.Bang directive.scope) (call_query m directive.position directive.depth written)

-- what it is answered now
abbrev pub call_answer : Oracle → State → MacroDirective → WrittenCall → Result CallAnswer UnresolvedMacro
call_answer oracle s directive written = answer_in (world oracle s) s.map directive written

-- a call that is given; an error beside it does not count
abbrev pub given_turn : Option MacroCallId → Turn
given_turn None = Stays
given_turn (Some call) = GivesCall call

-- the calls that were made for a call's arguments are to be recorded, also where it stays
abbrev pub call_told : State → MacroDirective → Result CallAnswer UnresolvedMacro → Told
call_told s directive (Ok answer) = record { state = with_inner_calls s directive.scope answer.inner; turn = given_turn answer.value }
call_told s directive (Err unresolved) = record { state = s; turn = Stays }

-- a list of derives is recorded with the attribute's call, and its paths are to be tried
abbrev pub recorded_told : State → MacroDirective → WrittenAttr → MacroCallId → List (ModPath × SyntaxContext) → Told
recorded_told s directive written call paths =
    record { state = with_map s (with_list s.map directive written.id call paths); turn = WalksItem (derives_from written.id call 0 paths) written }

-- the paths of a derive attribute are to be tried, and one whose paths can't be read is reported
abbrev pub list_told : Oracle → State → MacroDirective → WrittenAttr → MacroDefId → Result (List (ModPath × SyntaxContext)) DefDiagnosticKind → Told
list_told oracle s directive written found (Ok paths) = recorded_told (activated s directive.position written.id) directive written (oracle.make_attr_call (attr_query s directive written found)) paths
list_told oracle s directive written found (Err kind) = record { state = directive_reported s directive kind; turn = WalksItem [] written }

-- an attribute is told by what its macro does
abbrev pub use_told : Oracle → State → MacroDirective → WrittenAttr → MacroDefId → AttrUse → Told
use_told oracle s directive written found PassesOver = record { state = s; turn = WalksItem [] written }
use_told oracle s directive written found ReadsDerives = list_told oracle s directive written found (derive_paths written (may_derive (node_at oracle written.tree written.item)))
use_told oracle s directive written found ReplacesItem =
    record { state = activated s directive.position written.id; turn = Replaces (oracle.make_attr_call (attr_query s directive written found)) }
use_told oracle s directive written found (HasNoExpander err) = record { state = directive_reported s directive (MacroError written.attr.path err); turn = WalksItem [] written }

-- an attribute whose macro is not found stays
abbrev pub attr_told : Oracle → State → MacroDirective → WrittenAttr → Option MacroDefId → Told
attr_told oracle s directive written None = record { state = s; turn = Stays }
attr_told oracle s directive written (Some found) = use_told oracle s directive written found (attr_use oracle s.map.id.krate found.kind)

-- a helper of a derive is no macro
abbrev pub item_told : Oracle → State → MacroDirective → WrittenAttr → Bool → Told
item_told oracle s directive written true = record { state = s; turn = WalksItem [] written }
item_told oracle s directive written false = attr_told oracle s directive written (attr_macro (world oracle s) directive.scope written.attr)

-- a derive whose macro is found is given its call
abbrev pub given_told : Oracle → State → MacroDirective → WrittenDerive → MacroDefId → MacroCallId → Told
given_told oracle s directive written found call = record { state = derived oracle s directive written found call; turn = GivesDerive call }

-- one whose macro is not found stays
abbrev pub derive_told : Oracle → State → MacroDirective → WrittenDerive → Option MacroDefId → Told
derive_told oracle s directive written None = record { state = s; turn = Stays }
derive_told oracle s directive written (Some found) = given_told oracle s directive written found (derive_call oracle s directive written found)

-- what a macro that waits is told, by its kind
abbrev pub told_by : Oracle → State → MacroDirective → MacroDirectiveKind → Told
told_by oracle s directive (FnLike written) = call_told s directive (call_answer oracle s directive written)
told_by oracle s directive (Attr written) = item_told oracle s directive written (is_helper s directive.position written.attr)
told_by oracle s directive (Derive written) = derive_told oracle s directive written (derive_macro (world oracle s) directive.scope written)

-- what it is told now
abbrev pub told : Oracle → State → MacroDirective → Told
told oracle s directive = told_by oracle s directive directive.kind

-- What it does

-- the item in whose place the expansion of what waited stands: one whose attribute is called
abbrev pub replaced_item : MacroDirective → MacroDirectiveKind → Option (InFile FileAstId)
replaced_item directive (FnLike written) = None
replaced_item directive (Attr written) = Some directive.position
replaced_item directive (Derive written) = None

-- the expansion of what waited
abbrev pub expansion_of : MacroDirective → MacroCallId → Expansion
expansion_of directive call =
    record { scope = directive.scope; container = directive.container; depth = directive.depth; call = call; replaces = replaced_item directive directive.kind }

-- these wait on, and the expansion of what was given a call is to be walked
abbrev pub expanding : State → List MacroDirective → MacroDirective → MacroCallId → State
expanding s others directive call = record s { macros = others; expansions = s.expansions ++ expansion_of directive call ∷ [] }

-- those before and behind what was given a call wait on: the call is recorded, and its expansion is to be walked
abbrev pub given_state : State → List MacroDirective → MacroDirective → List MacroDirective → MacroCallId → State
given_state s before directive behind call = expanding (with_invocations s directive.scope ((directive.position, call) ∷ [])) (before ++ behind) directive call

-- those before and behind what leaves wait on, and the attribute counts no longer
abbrev pub walked_state : State → List MacroDirective → MacroDirective → List MacroDirective → WrittenAttr → State
walked_state s before directive behind written = record (passed_over s directive.position.file written) { macros = before ++ behind }

-- where its attribute is called, the derives that are deferred for its item are expanded too
abbrev pub replaced_state : State → List MacroDirective → MacroDirective → List MacroDirective → MacroCallId → State
replaced_state s before directive behind call = given_state (expanding_deferred s directive.position) before directive behind call

-- each of these derives of an attribute is tried
abbrev pub tries : MacroDirective → List WrittenDerive → List Task
tries directive derives = map (λ written. TryDerive directive written) derives

-- what a turn does in the state that was told
abbrev pub turn_effect : State → List MacroDirective → MacroDirective → List MacroDirective → Turn → Effect
turn_effect s before directive behind Stays = only s
turn_effect s before directive behind (GivesCall call) = only (given_state s before directive behind call)
turn_effect s before directive behind (GivesDerive call) = only (expanding s (before ++ behind) directive call)
turn_effect s before directive behind (Replaces call) = only (replaced_state s before directive behind call)
turn_effect s before directive behind (WalksItem derives written) =
    followed_by (walked_state s before directive behind written) (tries directive derives ++ Visit (item_site s directive written) written.item ∷ [])

-- with the helpers of its macro a derive is deferred
abbrev pub deferred_state : State → MapState → MacroDirective → WrittenDerive → MacroCallId → ℕ → State
deferred_state s helped directive written call n =
    deferring (with_map s helped) directive.position (deferral directive written call n (added_helpers s.map helped directive.position))

-- a derive that was given a call at once is deferred, or the call is recorded and its expansion is to be walked
abbrev pub called_state : Oracle → State → MacroDirective → WrittenDerive → MacroDefId → MacroCallId → Option ℕ → State
called_state oracle s directive written found call (Some n) = deferred_state s (with_shown_helpers oracle s.map directive found call) directive written call n
called_state oracle s directive written found call None = expanding (derived oracle s directive written found call) s.macros (derive_directive directive written) call

-- a derive of an attribute is tried: where its macro is found it is called, else it waits
abbrev pub tried_effect : Oracle → State → MacroDirective → WrittenDerive → Option MacroDefId → Effect
tried_effect oracle s directive written None = only (record s { macros = s.macros ++ derive_directive directive written ∷ [] })
tried_effect oracle s directive written (Some found) =
    only (called_state oracle s directive written found (derive_call oracle s directive written found) (deferred_derive oracle found))

-- a macro that waits has its turn
pub record MacroStep (oracle : Oracle) (s : State) (effect : Effect) : Type 0 where
  pub before : List MacroDirective
  pub directive : MacroDirective
  pub behind : List MacroDirective
  pub stands : s.macros ≡ before ++ directive ∷ behind
  pub is : effect ≡ turn_effect (told oracle s directive).state before directive behind (told oracle s directive).turn

-- where no call is left to be recorded, an expansion has its turn: it is walked, or dropped
pub record ExpansionStep (oracle : Oracle) (s : State) (effect : Effect) : Type 0 where
  pub recorded : s.inner_calls ≡ []
  pub before : List Expansion
  pub expansion : Expansion
  pub behind : List Expansion
  pub stands : s.expansions ≡ before ++ expansion ∷ behind
  pub is : effect ≡ expansion_effect oracle (record s { expansions = before ++ behind }) expansion

-- no macro that waits is given a call, and no item is walked without an attribute: each stays
pub record AllStay (oracle : Oracle) (s : State) : Type 0 where
  pub stay : (directive : MacroDirective) → Contains s.macros directive → (told oracle s directive).turn ≡ Stays
