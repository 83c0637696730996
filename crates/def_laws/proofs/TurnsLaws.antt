-- What the turn of a macro that waits does, and that of an expansion.
use Rattle.std.proofs.Common.{◌≡◌, ◌⊎◌, ℕ, Bool, true, false, List, [], ◌∷◌, ◌++◌, map, Option, Some, None, arith, Result, Ok, Err, Contains, refl, sym, ap, subst, ◌∙◌, inl, inr}
use Rattle.std.specs.Map.{lookup}
use Rattle.std.specs.Prelude.{unwrap_or}
use Rattle.indexmap.specs.IndexMap.{swap_remove_entry}
use Rattle.std.proofs.lemmas.List.Elements.{Contains-append_cases, Contains-append_left, Contains-append_right}
use Rattle.tree_ids.specs.declared.ids.AttrId.{AttrId}
use Rattle.tree_ids.specs.declared.ids.FileAstId.{FileAstId}
use Rattle.tree_ids.specs.declared.ids.InFile.{InFile}
use Rattle.tree_ids.specs.declared.ids.MacroCallId.{MacroCallId}
use Rattle.tree_ids.specs.declared.ids.SyntaxContext.{SyntaxContext}
use Rattle.item_tree.specs.declared.mod_path.ModPath.{ModPath}
use Rattle.def_ids.specs.declared.ids.ModuleId.{ModuleId}
use Rattle.def_interner.specs.declared.macro_def.MacroDefId.{MacroDefId}
use Rattle.def_modules.specs.Equality.{position_eq}
use Rattle.def_modules.specs.MapState.{MapState, ModuleState}
use Rattle.def_modules.specs.Scopes.{with_derive}
use Rattle.def_oracle.specs.declared.source_database.CallAnswer.{CallAnswer}
use Rattle.def_oracle.specs.declared.source_database.UnresolvedMacro.{UnresolvedMacro}
use Rattle.def_oracle.specs.Oracle.{Oracle}
use Rattle.def_globs.proofs.ListLaws.{first_in, later_in, only_in}
use Rattle.def_rules.specs.declared.deferred.DeferredDerive.{DeferredDerive}
use Rattle.def_rules.specs.declared.diagnostics.DefDiagnostic.{DefDiagnostic}
use Rattle.def_rules.specs.declared.diagnostics.DefDiagnosticKind.{DefDiagnosticKind}
use Rattle.def_rules.specs.declared.diagnostics.DefDiagnosticKind.TheVariants.{MacroError}
use Rattle.def_rules.specs.Attributes.{AttrUse, HasNoExpander, PassesOver, ReadsDerives, ReplacesItem, activated, attr_macro, attr_query, attr_use, directive_reported, is_helper, item_site}
use Rattle.def_rules.specs.Calls.{inner_recorded}
use Rattle.def_rules.specs.Deferred.{added_helpers, deferral, deferred_at, deferred_derive, deferred_expansion, expanding_deferred}
use Rattle.def_rules.specs.Derives.{derive_call, derive_directive, derive_macro, derive_paths, derived, may_derive, with_shown_helpers}
use Rattle.def_rules.specs.Directives.{ExpansionStep, GivesCall, GivesDerive, MacroStep, Replaces, Stays, Turn, WalksItem, attr_told, call_answer, call_told, called_state, derive_told, expanding, expansion_of, given_state, item_told, list_told, replaced_state, told, told_by, tried_effect, tries, turn_effect, use_told, walked_state}
use Rattle.def_rules.specs.declared.inner_calls.InnerCall.{InnerCall}
use Rattle.def_rules.specs.Fallback.{FallbackStep, attr_reported}
use Rattle.def_rules.specs.Items.{node_at}
use Rattle.def_rules.specs.Globs.{Targets}
use Rattle.def_rules.specs.State.{State, Effect, Site, Visit, only, world}
use Rattle.def_rules.specs.Waiting.{Attr, Deferrals, Derive, Expansion, FnLike, MacroDirective, MacroDirectiveKind, WrittenAttr, WrittenDerive}
use Rattle.def_laws.specs.Depths.{AreVisitsBelow, DefersIn, WaitsAlike, WaitsIn}
use Rattle.def_laws.specs.Finished.{NoneFailed}
use Rattle.def_laws.specs.Own.{AreOwnTasks, IsOwn}
use Rattle.def_laws.proofs.CleanLaws.{none_failed-derived, none_failed-inner, none_failed-invoking, none_failed-shown, none_failed-with_module}
use Rattle.def_laws.proofs.DeferredLaws.{deferring_in, expanded_defers, none_in_more}
use Rattle.def_laws.proofs.DepthsLaws.{lie_both}
use Rattle.def_laws.proofs.FootprintLaws.{Footprint, expanded_footprint, map_footprint, still_footprint, waits_alike}
use Rattle.def_laws.proofs.LargerLaws.{larger_derived, larger_inner, larger_invoking, larger_refl, larger_shown, larger_trans, larger_with_module}
use Rattle.def_laws.proofs.OwnLaws.{own_both}
use Rattle.def_laws.proofs.PlainLaws.{ArePlain, plain_both}
use Rattle.def_laws.proofs.SoundLaws.{IsLarger}

-- the state in which these wait, and these calls are to be recorded
abbrev pub waiting_with : State → List MacroDirective → List Expansion → Deferrals → List InnerCall → State
waiting_with s macros expansions deferred inner = record s { macros = macros; inner_calls = inner; expansions = expansions; deferred = deferred }

-- a turn is one of something that waits: of what waits then each waits where something waited, and then something is done in a module
pub record TurnFootprint (s : State) (effect : Effect) : Type 0 where
  pub scope : ModuleId
  pub depth : ℕ
  pub macros : List MacroDirective
  pub expansions : List Expansion
  pub deferred : Deferrals
  pub inner : List InnerCall
  pub waits : WaitsIn s scope
  pub fewer : (at : ModuleId) → WaitsIn (waiting_with s macros expansions deferred inner) at → WaitsIn s at
  pub foot : Footprint (waiting_with s macros expansions deferred inner) scope depth effect

-- calls are recorded that were made for arguments
pub notes_footprint : (s : State) (scope : ModuleId) (depth : ℕ) → Footprint (record s { inner_calls = [] }) scope depth (only (inner_recorded s))
notes_footprint s scope depth =
    map_footprint (record s { inner_calls = [] }) scope depth (inner_recorded s) [] refl refl refl (waits_alike refl refl refl refl refl) (larger_inner s.inner_calls s.map) (none_failed-inner s.inner_calls s.map) (λ targets own. tt) tt (λ rank low. tt)

-- what waits behind and before something waits in a list
beside : {X : Type 0} (before behind : List X) (x y : X) → Contains (before ++ behind) y → Contains (before ++ x ∷ behind) y
beside before behind x y h = elim (Contains-append_cases before behind y h) [
  | inl first ↦ Contains-append_left before (x ∷ behind) y first
  | inr last ↦ Contains-append_right before (x ∷ behind) y (later_in x behind y last)
]

among : {X : Type 0} (before behind : List X) (x : X) → Contains (before ++ x ∷ behind) x
among before behind x = Contains-append_right before (x ∷ behind) x (first_in x behind)

-- what was told leaves all as it is but the map, in which derives may join, the calls that are to be recorded, the active attributes and the diagnostics
pub record IsToldOf (s t : State) : Type 0 where
  pub content : t.content ≡ s.content
  pub targets : t.targets ≡ s.targets
  pub imports : t.imports ≡ s.imports
  pub waits : WaitsAlike (record s { inner_calls = t.inner_calls }) t
  pub larger : IsLarger s.map t.map
  pub clean : NoneFailed s.map → NoneFailed t.map

told_still : (s : State) → IsToldOf s s
told_still s = record { content = refl; targets = refl; imports = refl; waits = waits_alike refl refl refl refl refl; larger = larger_refl s.map; clean = λ none. none }

-- what may differ of an attribute that was told
told_noted : (s : State) (active : InFile FileAstId → List AttrId) (diagnostics : List DefDiagnostic) → IsToldOf s (record s { active = active; diagnostics = diagnostics })
told_noted s active diagnostics = record { content = refl; targets = refl; imports = refl; waits = waits_alike refl refl refl refl refl; larger = larger_refl s.map; clean = λ none. none }

module _ (oracle : Oracle) (s : State) (d : MacroDirective) where
  call_same : (answer : Result CallAnswer UnresolvedMacro) → IsToldOf s (call_told s d answer).state
  call_same (Ok answer) =
      record { content = refl; targets = refl; imports = refl; waits = waits_alike refl refl refl refl refl; larger = larger_refl s.map; clean = λ none. none }
  call_same (Err unresolved) = told_still s

  module _ (written : WrittenAttr) where
    list_same : (found : MacroDefId) (paths : Result (List (ModPath × SyntaxContext)) DefDiagnosticKind) → IsToldOf s (list_told oracle s d written found paths).state
    list_same found (Ok paths) =
        let call : MacroCallId = oracle.make_attr_call (attr_query s d written found) in
        let recorded : ModuleState → ModuleState = with_derive d.position written.id (record { call = call; calls = map (λ path. None) paths }) in
        record {
          content = refl;
          targets = refl;
          imports = refl;
          waits = waits_alike refl refl refl refl refl;
          larger = larger_with_module s.map d.scope.index recorded;
          clean = none_failed-with_module s.map d.scope.index recorded (λ e h. h);
        }
    list_same found (Err kind) = told_noted s s.active (directive_reported s d kind).diagnostics

    use_same : (found : MacroDefId) (role : AttrUse) → IsToldOf s (use_told oracle s d written found role).state
    use_same found PassesOver = told_still s
    use_same found ReadsDerives = list_same found (derive_paths written (may_derive (node_at oracle written.tree written.item)))
    use_same found ReplacesItem = told_noted s (activated s d.position written.id).active s.diagnostics
    use_same found (HasNoExpander err) = told_noted s s.active (directive_reported s d (MacroError written.attr.path err)).diagnostics

    attr_same : (found : Option MacroDefId) → IsToldOf s (attr_told oracle s d written found).state
    attr_same None = told_still s
    attr_same (Some found) = use_same found (attr_use oracle s.map.id.krate found.kind)

    item_same : (helper : Bool) → IsToldOf s (item_told oracle s d written helper).state
    item_same true = told_still s
    item_same false = attr_same (attr_macro (world oracle s) d.scope written.attr)

  derive_same : (written : WrittenDerive) (found : Option MacroDefId) → IsToldOf s (derive_told oracle s d written found).state
  derive_same written None = told_still s
  derive_same written (Some found) =
      let call : MacroCallId = derive_call oracle s d written found in
      record { content = refl; targets = refl; imports = refl; waits = waits_alike refl refl refl refl refl; larger = larger_derived oracle s.map d written found call; clean = none_failed-derived oracle s.map d written found call }

  told_by_same : (kind : MacroDirectiveKind) → IsToldOf s (told_by oracle s d kind).state
  told_by_same (FnLike written) = call_same (call_answer oracle s d written)
  told_by_same (Attr written) = item_same written (is_helper s d.position written.attr)
  told_by_same (Derive written) = derive_same written (derive_macro (world oracle s) d.scope written)

  pub told_same : IsToldOf s (told oracle s d).state
  told_same = told_by_same d.kind

-- Derives that are tried

tries_own : (m : MapState) (targets : Targets) (d : MacroDirective) → IsOwn m d.scope → (derives : List WrittenDerive) → AreOwnTasks m targets (tries d derives)
tries_own m targets d own [] = tt
tries_own m targets d own (written ∷ derives) = ((own, tt), tries_own m targets d own derives)

tries_plain : (d : MacroDirective) (derives : List WrittenDerive) → ArePlain (tries d derives)
tries_plain d [] = tt
tries_plain d (written ∷ derives) = (tt, tries_plain d derives)

tries_lie : (rank : ℕ) (d : MacroDirective) (derives : List WrittenDerive) → AreVisitsBelow rank (tries d derives)
tries_lie rank d [] = tt
tries_lie rank d (written ∷ derives) = (tt, tries_lie rank d derives)

-- one that is tried waits, or its expansion does, or it is deferred, in its module, and nothing else does
pub record TryFootprint (s : State) (scope : ModuleId) (effect : Effect) : Type 0 where
  pub macros : List MacroDirective
  pub expansions : List Expansion
  pub deferred : Deferrals
  pub fewer : (at : ModuleId) → WaitsIn (waiting_with s macros expansions deferred s.inner_calls) at → WaitsIn s at ⊎ (at ≡ scope)
  pub foot : (depth : ℕ) → Footprint (waiting_with s macros expansions deferred s.inner_calls) scope depth effect
  pub ends : effect.tasks ≡ []

module _ (oracle : Oracle) (s : State) (d : MacroDirective) (written : WrittenDerive) where
  -- by what its call becomes
  called_footprint : (found : MacroDefId) (call : MacroCallId) (deferred : Option ℕ) → TryFootprint s d.scope (only (called_state oracle s d written found call deferred))
  called_footprint found call None =
      let e : Expansion = expansion_of (derive_directive d written) call in
      let t : State = expanding (derived oracle s d written found call) s.macros (derive_directive d written) call in
      record {
        macros = s.macros;
        expansions = s.expansions ++ e ∷ [];
        deferred = s.deferred;
        fewer = λ at still. elim still [
          | inl macro ↦ inl (inl macro)
          | inr later ↦ elim later [
            | inl expansion ↦ elim (Contains-append_cases s.expansions (e ∷ []) expansion.0 expansion.1) [
              | inl old ↦ inl (inr (inl (expansion.0, old, expansion.2)))
              | inr new ↦ inr (sym expansion.2 ∙ ap (λ (x : Expansion). x.scope) (only_in e expansion.0 new))
            ]
            | inr deferred ↦ inl (inr (inr deferred))
          ]
        ];
        foot = λ depth. map_footprint (waiting_with s s.macros (s.expansions ++ e ∷ []) s.deferred s.inner_calls) d.scope depth t [] refl refl refl (waits_alike refl refl refl refl refl)
            (larger_derived oracle s.map d written found call) (none_failed-derived oracle s.map d written found call) (λ targets own. tt) tt (λ rank low. tt);
        ends = refl;
      }
  called_footprint found call (Some n) =
      let x : DeferredDerive = deferral d written call n (added_helpers s.map (with_shown_helpers oracle s.map d found call) d.position) in
      let t : State = called_state oracle s d written found call (Some n) in
      record {
        macros = s.macros;
        expansions = s.expansions;
        deferred = t.deferred;
        fewer = λ at still. elim still [
          | inl macro ↦ inl (inl macro)
          | inr later ↦ elim later [
            | inl expansion ↦ inl (inr (inl expansion))
            | inr deferred ↦ elim (deferring_in s d.position x at deferred) [ inl old ↦ inl (inr (inr old)) | inr new ↦ inr new ]
          ]
        ];
        foot = λ depth. map_footprint (waiting_with s s.macros s.expansions t.deferred s.inner_calls) d.scope depth t [] refl refl refl (waits_alike refl refl refl refl refl)
            (larger_shown oracle s.map d found call) (none_failed-shown oracle s.map d found call) (λ targets own. tt) tt (λ rank low. tt);
        ends = refl;
      }

  -- by the macro that is found
  try_footprint : (found : Option MacroDefId) → TryFootprint s d.scope (tried_effect oracle s d written found)
  try_footprint None =
      let waits : MacroDirective = derive_directive d written in
      record {
        macros = s.macros ++ waits ∷ [];
        expansions = s.expansions;
        deferred = s.deferred;
        fewer = λ at still. elim still [
          | inl macro ↦ elim (Contains-append_cases s.macros (waits ∷ []) macro.0 macro.1) [
            | inl old ↦ inl (inl (macro.0, old, macro.2))
            | inr new ↦ inr (sym macro.2 ∙ ap (λ (x : MacroDirective). x.scope) (only_in waits macro.0 new))
          ]
          | inr later ↦ inl (inr later)
        ];
        foot = λ depth. still_footprint (waiting_with s (s.macros ++ waits ∷ []) s.expansions s.deferred s.inner_calls) d.scope depth;
        ends = refl;
      }
  try_footprint (Some found) = called_footprint found (derive_call oracle s d written found) (deferred_derive oracle found)

  pub tries_footprint : (effect : Effect) → effect ≡ tried_effect oracle s d written (derive_macro (world oracle s) d.scope written) → TryFootprint s d.scope effect
  tries_footprint effect does = subst (λ e. TryFootprint s d.scope e) (sym does) (try_footprint (derive_macro (world oracle s) d.scope written))

module _ (oracle : Oracle) (s : State) (effect : Effect) where
  -- an expansion is walked
  pub expands_footprint : ExpansionStep oracle s effect → TurnFootprint s effect
  expands_footprint step =
      let left : List Expansion = step.before ++ step.behind in
      let u : State = waiting_with s s.macros left s.deferred s.inner_calls in
      record {
        scope = step.expansion.scope;
        depth = step.expansion.depth;
        macros = s.macros;
        expansions = left;
        deferred = s.deferred;
        inner = s.inner_calls;
        waits = inr (inl (step.expansion, subst (λ es. Contains es step.expansion) (sym step.stands) (among step.before step.behind step.expansion), refl));
        fewer = λ at waits. elim waits [
          | inl macro ↦ inl macro
          | inr later ↦ elim later [
            | inl expansion ↦ inr (inl (expansion.0, subst (λ es. Contains es expansion.0) (sym step.stands) (beside step.before step.behind step.expansion expansion.0 expansion.1), expansion.2))
            | inr deferred ↦ inr (inr deferred)
          ]
        ];
        foot = subst (λ e. Footprint u step.expansion.scope step.expansion.depth e) (sym step.is)
            (expanded_footprint oracle u step.expansion.scope step.expansion.depth u step.expansion refl refl refl refl (waits_alike refl refl refl refl refl) (larger_refl u.map) (λ none. none) (omega arith));
      }

  -- what waits leaves or stays, in a state that was told of it
  module _ (before : List MacroDirective) (d : MacroDirective) (behind : List MacroDirective) (stands : s.macros ≡ before ++ d ∷ behind) (now : State) (same : IsToldOf s now) where
    abbrev left : List MacroDirective
    left = before ++ behind

    among_macros : Contains s.macros d
    among_macros = subst (λ ds. Contains ds d) (sym stands) (among before behind d)

    here : WaitsIn s d.scope
    here = inl (d, among_macros, refl)

    -- one of those before and behind it waited
    waited : (x : MacroDirective) → Contains left x → Contains s.macros x
    waited x h = subst (λ ds. Contains ds x) (sym stands) (beside before behind d x h)

    -- what waits once it was given a call
    given_waits : (call : MacroCallId) (at : ModuleId) → WaitsIn (waiting_with s left (s.expansions ++ expansion_of d call ∷ []) s.deferred now.inner_calls) at → WaitsIn s at
    given_waits call at waits = elim waits [
      | inl macro ↦ inl (macro.0, waited macro.0 macro.1, macro.2)
      | inr later ↦ elim later [
        | inl expansion ↦ elim (Contains-append_cases s.expansions (expansion_of d call ∷ []) expansion.0 expansion.1) [
          | inl old ↦ inr (inl (expansion.0, old, expansion.2))
          | inr new ↦ inl (d, among_macros, ap (λ (x : Expansion). x.scope) (sym (only_in (expansion_of d call) expansion.0 new)) ∙ expansion.2)
        ]
        | inr deferred ↦ inr (inr deferred)
      ]
    ]

    -- the derives that are deferred for its item, as expansions
    abbrev freed : List Expansion
    freed = map deferred_expansion (deferred_at s d.position)

    -- the state in which they are
    abbrev freeing : State
    freeing = expanding_deferred s d.position

    -- what waits once they are expansions, and it was given a call
    replaced_waits : (call : MacroCallId) (at : ModuleId) → WaitsIn (waiting_with s left (freeing.expansions ++ expansion_of d call ∷ []) freeing.deferred now.inner_calls) at → WaitsIn s at
    replaced_waits call at waits = elim waits [
      | inl macro ↦ inl (macro.0, waited macro.0 macro.1, macro.2)
      | inr later ↦ elim later [
        | inl expansion ↦ elim (Contains-append_cases freeing.expansions (expansion_of d call ∷ []) expansion.0 expansion.1) [
          | inl old ↦ elim (Contains-append_cases s.expansions freed expansion.0 old) [
            | inl first ↦ inr (inl (expansion.0, first, expansion.2))
            | inr deferred ↦ inr (inr (subst (DefersIn s.deferred) expansion.2 (expanded_defers s d.position expansion.0 deferred)))
          ]
          | inr new ↦ inl (d, among_macros, ap (λ (x : Expansion). x.scope) (sym (only_in (expansion_of d call) expansion.0 new)) ∙ expansion.2)
        ]
        | inr deferred ↦ inr (inr (none_in_more s d.position at deferred))
      ]
    ]

    turn : (turn : Turn) → effect ≡ turn_effect now before d behind turn → TurnFootprint s effect
    turn Stays does = record {
      scope = d.scope;
      depth = d.depth;
      macros = s.macros;
      expansions = s.expansions;
      deferred = s.deferred;
      inner = now.inner_calls;
      waits = here;
      fewer = λ at waits. waits;
      foot = subst (λ e. Footprint (record s { inner_calls = now.inner_calls }) d.scope d.depth e) (sym does)
          (map_footprint (record s { inner_calls = now.inner_calls }) d.scope d.depth now [] same.content same.targets same.imports same.waits same.larger same.clean (λ targets own. tt) tt (λ rank low. tt));
    }
    turn (GivesCall call) does =
        let more : List Expansion = s.expansions ++ expansion_of d call ∷ [] in
        let u : State = waiting_with s left more s.deferred now.inner_calls in
        let t : State = given_state now before d behind call in
        let made : List (InFile FileAstId × MacroCallId) = (d.position, call) ∷ [] in
        record {
          scope = d.scope;
          depth = d.depth;
          macros = left;
          expansions = more;
          deferred = s.deferred;
          inner = now.inner_calls;
          waits = here;
          fewer = given_waits call;
          foot = subst (λ e. Footprint u d.scope d.depth e) (sym does)
              (map_footprint u d.scope d.depth t [] same.content same.targets same.imports (waits_alike refl (ap (λ es. es ++ expansion_of d call ∷ []) same.waits.expansions) same.waits.deferred same.waits.is_proc_macro refl)
              (larger_trans s.map now.map t.map same.larger (larger_invoking d.scope.index made now.map))
              (λ none. none_failed-invoking d.scope.index made now.map (same.clean none)) (λ targets own. tt) tt (λ rank low. tt));
        }
    turn (GivesDerive call) does =
        let more : List Expansion = s.expansions ++ expansion_of d call ∷ [] in
        let u : State = waiting_with s left more s.deferred now.inner_calls in
        let t : State = expanding now left d call in
        record {
          scope = d.scope;
          depth = d.depth;
          macros = left;
          expansions = more;
          deferred = s.deferred;
          inner = now.inner_calls;
          waits = here;
          fewer = given_waits call;
          foot = subst (λ e. Footprint u d.scope d.depth e) (sym does)
              (map_footprint u d.scope d.depth t [] same.content same.targets same.imports (waits_alike refl (ap (λ es. es ++ expansion_of d call ∷ []) same.waits.expansions) same.waits.deferred same.waits.is_proc_macro refl)
              same.larger same.clean (λ targets own. tt) tt (λ rank low. tt));
        }
    turn (Replaces call) does =
        let more : List Expansion = freeing.expansions ++ expansion_of d call ∷ [] in
        let u : State = waiting_with s left more freeing.deferred now.inner_calls in
        let t : State = replaced_state now before d behind call in
        let made : List (InFile FileAstId × MacroCallId) = (d.position, call) ∷ [] in
        let told_freed : (expanding_deferred now d.position).expansions ≡ freeing.expansions =
        λ i. same.waits.expansions i ++ map deferred_expansion (unwrap_or (lookup (position_eq d.position) (same.waits.deferred i)) []) in
        record {
          scope = d.scope;
          depth = d.depth;
          macros = left;
          expansions = more;
          deferred = freeing.deferred;
          inner = now.inner_calls;
          waits = here;
          fewer = replaced_waits call;
          foot = subst (λ e. Footprint u d.scope d.depth e) (sym does)
              (map_footprint u d.scope d.depth t [] same.content same.targets same.imports
              (waits_alike refl (ap (λ es. es ++ expansion_of d call ∷ []) told_freed) (ap (λ es. swap_remove_entry (position_eq d.position) es) same.waits.deferred) same.waits.is_proc_macro refl)
              (larger_trans s.map now.map t.map same.larger (larger_invoking d.scope.index made now.map))
              (λ none. none_failed-invoking d.scope.index made now.map (same.clean none)) (λ targets own. tt) tt (λ rank low. tt));
        }
    turn (WalksItem derives written) does =
        let u : State = waiting_with s left s.expansions s.deferred now.inner_calls in
        let t : State = walked_state now before d behind written in
        let site : Site = item_site now d written in
        record {
          scope = d.scope;
          depth = d.depth;
          macros = left;
          expansions = s.expansions;
          deferred = s.deferred;
          inner = now.inner_calls;
          waits = here;
          fewer = λ at waits. elim waits [ inl macro ↦ inl (macro.0, waited macro.0 macro.1, macro.2) | inr later ↦ inr later ];
          foot = subst (λ e. Footprint u d.scope d.depth e) (sym does)
              (map_footprint u d.scope d.depth t (tries d derives ++ Visit site written.item ∷ []) same.content same.targets same.imports (waits_alike refl same.waits.expansions same.waits.deferred same.waits.is_proc_macro refl) same.larger same.clean
              (λ targets own. own_both t.map targets (tries d derives) (Visit site written.item ∷ []) (tries_own t.map targets d own derives) ((own, tt), tt))
              (plain_both (tries d derives) (Visit site written.item ∷ []) (tries_plain d derives) (tt, tt))
              (λ rank low. lie_both rank (tries d derives) (Visit site written.item ∷ []) (tries_lie rank d derives) (low, tt)));
        }

  -- a macro that waits has its turn
  pub asks_footprint : MacroStep oracle s effect → TurnFootprint s effect
  asks_footprint step = turn step.before step.directive step.behind step.stands (told oracle s step.directive).state (told_same oracle s step.directive) (told oracle s step.directive).turn step.is

  -- an item is given up
  pub falls_footprint : FallbackStep oracle s effect → TurnFootprint s effect
  falls_footprint step =
      let reported : State = attr_reported s step.directive step.written in
      turn step.before step.directive step.behind step.stands reported (told_noted s s.active reported.diagnostics) (WalksItem [] step.written) step.is
