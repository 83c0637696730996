-- No derive is left deferred at the end of a run: each is deferred for an item that waits for an attribute, or that is to be visited.
use Rattle.std.proofs.Common.{◌≡◌, ◌⊎◌, ◌∙◌, append-nil, inl, inr, ℕ, Bool, true, false, List, [], ◌∷◌, ◌++◌, Option, Some, None, Result, Ok, Err, Contains, refl, sym, ap, subst, true≢false}
use Rattle.std.specs.Prelude.{IsPermutation}
use Rattle.std.specs.List.{IsDistinct}
use Rattle.std.specs.Map.{keys_of}
use Rattle.std.proofs.lemmas.List.Elements.{Contains-append_cases, Contains-append_left, Contains-append_right}
use Rattle.std.proofs.lemmas.List.Sorted.{Contains-permutation, IsPermutation-sym}
use Rattle.item_tree.specs.declared.attrs.Attr.{Attr as WrittenAs}
use Rattle.tree_ids.specs.declared.ids.AttrId.{AttrId}
use Rattle.tree_ids.specs.declared.ids.CfgExpr.{CfgExpr}
use Rattle.tree_ids.specs.declared.ids.FileAstId.{FileAstId}
use Rattle.tree_ids.specs.declared.ids.InFile.{InFile}
use Rattle.tree_ids.specs.declared.ids.MacroCallId.{MacroCallId}
use Rattle.tree_ids.specs.declared.ids.ModItemId.{ModItemId}
use Rattle.tree_ids.specs.declared.ids.SyntaxContext.{SyntaxContext}
use Rattle.tree_ids.specs.declared.ids.TreeId.{TreeId}
use Rattle.item_tree.specs.declared.items.ItemNode.{ItemNode}
use Rattle.item_tree.specs.declared.mod_path.ModPath.{ModPath}
use Rattle.item_tree.specs.Attrs.{disabled_by}
use Rattle.def_interner.specs.Session.{Session}
use Rattle.def_interner.specs.declared.macro_def.MacroDefId.{MacroDefId}
use Rattle.def_modules.specs.Equality.{position_eq}
use Rattle.def_oracle.specs.declared.source_database.CallAnswer.{CallAnswer}
use Rattle.def_oracle.specs.declared.source_database.UnresolvedMacro.{UnresolvedMacro}
use Rattle.def_oracle.specs.Oracle.{Oracle}
use Rattle.def_paths.specs.declared.path_result.ResolvePathResult.{ResolvePathResult}
use Rattle.def_globs.proofs.ListLaws.{first_in, in_cases, later_in, none_in, only_in}
use Rattle.def_rules.specs.declared.deferred.DeferredDerive.{DeferredDerive}
use Rattle.def_rules.specs.declared.diagnostics.DefDiagnosticKind.{DefDiagnosticKind}
use Rattle.def_rules.specs.Attributes.{AttrUse, HasNoExpander, PassesOver, ReadsDerives, ReplacesItem, attr_macro, attr_use, awaited_attr, awaiting, is_helper, item_site}
use Rattle.def_rules.specs.Calls.{expansion_effect, waiting}
use Rattle.tree_ids.specs.declared.name.Name.{Name}
use Rattle.def_ids.specs.declared.ids.FunctionId.{FunctionId}
use Rattle.def_ids.specs.declared.ids.ModuleId.{ModuleId}
use Rattle.def_rules.specs.ProcMacros.{taken_out, takes_out}
use Rattle.def_rules.specs.Deferred.{GiveImpls, added_helpers, deferral, deferred_at, deferred_derive, deferred_in, with_deferred, without_deferred}
use Rattle.def_rules.specs.Derives.{derive_call, derive_directive, derive_macro, derive_paths, derives_kind, may_derive, with_shown_helpers}
use Rattle.def_rules.specs.Directives.{ExpansionStep, GivesCall, GivesDerive, MacroStep, Replaces, Stays, Told, Turn, WalksItem, attr_told, call_answer, call_told, called_state, derive_told, given_turn, item_told, list_told, told, told_by, tried_effect, tries, turn_effect, use_told}
use Rattle.def_rules.specs.Fallback.{FallbackStep, attr_reported}
use Rattle.def_rules.specs.Imports.{answer_now}
use Rattle.def_rules.specs.Items.{node_at, position_of, top_items, tree_cfg}
use Rattle.def_rules.specs.Recording.{ImportStep, after_import}
use Rattle.def_rules.specs.Rules.{Visits, VisitsAt, VisitsEnabled, VisitsNode}
use Rattle.def_rules.specs.Settled.{IsNoAttribute}
use Rattle.def_rules.specs.Start.{first_site, first_tasks, first_tree, first_walk, start}
use Rattle.def_rules.specs.State.{Setting, State, Effect, Moment, Site, Task, Enter, Visit, TryDerive, Put, Bring, AddEdge, TakeOut, world}
use Rattle.def_rules.specs.Steps.{Does, Reaches, Step, performs, copies, reorders, rearranges, records, asks, notes, expands, falls_back}
use Rattle.def_rules.specs.Waiting.{Attr, Deferrals, Derive, FnLike, MacroDirective, MacroDirectiveKind, WrittenAttr, WrittenCall, WrittenDerive}
use Rattle.def_laws.specs.Depths.{WaitsAlike}
use Rattle.def_laws.proofs.DeferredKeysLaws.{inserted_distinct, inserted_key, position_laws, removed_without}
use Rattle.def_laws.proofs.QueuedLaws.{AreNoTries, JoinsCalls, expansion_joins, kind_joins, record_no_tries, walk_no_tries}
use Rattle.def_laws.proofs.RunsLaws.{kept_along}
use Rattle.def_laws.proofs.TurnsLaws.{told_same}

module _ (oracle : Oracle) where
  -- Items at positions

  -- an item is there, cfg does not disable it, and it stands at a position
  pub record StandsAt (position : InFile FileAstId) (tree : TreeId) (id : ModItemId) : Type 0 where
    pub item : ItemNode
    pub there : node_at oracle tree id ≡ Some item
    pub on : disabled_by item.attrs ≡ None
    pub stands : position ≡ record { file = tree.file; value = item.ast_id }

  -- and it may have derives
  pub record DerivesAt (position : InFile FileAstId) (tree : TreeId) (id : ModItemId) : Type 0 where
    pub at : StandsAt position tree id
    pub may : derives_kind at.item.kind ≡ true

  -- such an item is to be visited first
  abbrev pub IsVisitAt : InFile FileAstId → Task → Type 0
  IsVisitAt position (Visit site id) = DerivesAt position site.tree id
  IsVisitAt position _ = ⊥

  -- or later
  abbrev pub IsVisitedAt : InFile FileAstId → List Task → Type 0
  IsVisitedAt position [] = ⊥
  IsVisitedAt position (task ∷ tasks) = IsVisitAt position task ⊎ IsVisitedAt position tasks

  -- what waits at a position is such an item, by its kind
  abbrev pub IsItemAt : InFile FileAstId → MacroDirective → MacroDirectiveKind → Type 0
  IsItemAt position d (FnLike written) = ⊥
  IsItemAt position d (Attr written) = (d.position ≡ position) × DerivesAt position written.tree written.item
  IsItemAt position d (Derive written) = ⊥

  -- one of these does
  abbrev pub WaitsAt : InFile FileAstId → List MacroDirective → Type 0
  WaitsAt position macros = (d : MacroDirective) × Contains macros d × IsItemAt position d d.kind

  -- the item that waits for an attribute stands where what waits does
  abbrev pub IsPlaced : MacroDirective → MacroDirectiveKind → Type 0
  IsPlaced d (FnLike written) = Unit {0}
  IsPlaced d (Attr written) = StandsAt d.position written.tree written.item
  IsPlaced d (Derive written) = Unit {0}

  -- the item of a derive that is to be tried is visited behind it
  abbrev pub IsBefore : Task → List Task → Type 0
  IsBefore (TryDerive d written) tasks = IsVisitedAt d.position tasks
  IsBefore _ tasks = Unit {0}

  -- so it is with each of these
  abbrev pub AreBefore : List Task → Type 0
  AreBefore [] = Unit {0}
  AreBefore (task ∷ tasks) = IsBefore task tasks × AreBefore tasks

  -- each position at which derives are deferred stands once, and is that of an item that is to be visited or waits for an attribute
  pub record AreAwaited (tasks : List Task) (macros : List MacroDirective) (deferred : Deferrals) : Type 0 where
    pub distinct : IsDistinct position_eq (keys_of deferred)
    pub placed : (d : MacroDirective) → Contains macros d → IsPlaced d d.kind
    pub awaited : (position : InFile FileAstId) → Contains (keys_of deferred) position → IsVisitedAt position tasks ⊎ WaitsAt position macros
    pub before : AreBefore tasks

  -- Tasks

  -- what is visited among the first tasks is visited
  visited_left : (position : InFile FileAstId) (xs ys : List Task) → IsVisitedAt position xs → IsVisitedAt position (xs ++ ys)
  visited_left position [] ys h = absurd h
  visited_left position (task ∷ xs) ys h = elim h [ inl here ↦ inl here | inr later ↦ inr (visited_left position xs ys later) ]

  -- so is what is visited behind them
  visited_right : (position : InFile FileAstId) (xs ys : List Task) → IsVisitedAt position ys → IsVisitedAt position (xs ++ ys)
  visited_right position [] ys h = h
  visited_right position (task ∷ xs) ys h = inr (visited_right position xs ys h)

  -- a task that tries nothing needs no visit
  before_one : (task : Task) (tasks : List Task) → AreNoTries (task ∷ []) → IsBefore task tasks
  before_one (Enter at directory) tasks none = tt
  before_one (Visit site id) tasks none = tt
  before_one (TryDerive d written) tasks none = absurd none.0
  before_one (Put at entry) tasks none = tt
  before_one (Bring from into) tasks none = tt
  before_one (AddEdge source edge) tasks none = tt
  before_one (TakeOut at name function) tasks none = tt

  -- nor do these
  before_more : (xs ys : List Task) → AreNoTries xs → AreBefore ys → AreBefore (xs ++ ys)
  before_more [] ys none h = h
  before_more (task ∷ xs) ys none h = (before_one task (xs ++ ys) (none.0, tt), before_more xs ys none.1 h)

  -- tasks that try nothing may go before
  awaited_behind : (xs ys : List Task) (macros : List MacroDirective) (deferred : Deferrals) → AreNoTries xs → AreAwaited ys macros deferred → AreAwaited (xs ++ ys) macros deferred
  awaited_behind xs ys macros deferred none a = record {
    distinct = a.distinct;
    placed = a.placed;
    awaited = λ p h. elim (a.awaited p h) [ inl visited ↦ inl (visited_right p xs ys visited) | inr waits ↦ inr waits ];
    before = before_more xs ys none a.before;
  }

  -- the first task may go where no position needs its visit
  awaited_gone : (task : Task) (rest : List Task) (macros : List MacroDirective) (deferred : Deferrals)
      → ((p : InFile FileAstId) → Contains (keys_of deferred) p → IsVisitAt p task → IsVisitedAt p rest ⊎ WaitsAt p macros) → AreAwaited (task ∷ rest) macros deferred → AreAwaited rest macros deferred
  awaited_gone task rest macros deferred needless a = record {
    distinct = a.distinct;
    placed = a.placed;
    awaited = λ p h. elim (a.awaited p h) [ inl visited ↦ elim visited [ inl here ↦ needless p h here | inr later ↦ inl later ] | inr waits ↦ inr waits ];
    before = a.before.1;
  }

  -- derives may be tried before a visit of their item
  tried_before : (d : MacroDirective) (derives : List WrittenDerive) (tasks : List Task) → IsVisitedAt d.position tasks → AreBefore tasks → AreBefore (tries d derives ++ tasks)
  tried_before d [] tasks visited h = h
  tried_before d (written ∷ derives) tasks visited h = (visited_right d.position (tries d derives) tasks visited, tried_before d derives tasks visited h)

  -- so the derives of an attribute go before the visit of their item
  awaited_tries : (d : MacroDirective) (derives : List WrittenDerive) (tasks : List Task) (macros : List MacroDirective) (deferred : Deferrals) → IsVisitedAt d.position tasks → AreAwaited tasks macros deferred
      → AreAwaited (tries d derives ++ tasks) macros deferred
  awaited_tries d derives tasks macros deferred visited a = record {
    distinct = a.distinct;
    placed = a.placed;
    awaited = λ p h. elim (a.awaited p h) [ inl seen ↦ inl (visited_right p (tries d derives) tasks seen) | inr waits ↦ inr waits ];
    before = tried_before d derives tasks visited a.before;
  }

  -- What waits

  -- more may wait, each where its item stands
  awaited_more : (tasks : List Task) (macros more : List MacroDirective) (deferred : Deferrals) → ((d : MacroDirective) → Contains more d → IsPlaced d d.kind) → AreAwaited tasks macros deferred
      → AreAwaited tasks (macros ++ more) deferred
  awaited_more tasks macros more deferred placed a = record {
    distinct = a.distinct;
    placed = λ d h. elim (Contains-append_cases macros more d h) [ inl old ↦ a.placed d old | inr new ↦ placed d new ];
    awaited = λ p h. elim (a.awaited p h) [ inl visited ↦ inl visited | inr waits ↦ inr (waits.0, Contains-append_left macros more waits.0 waits.1, waits.2) ];
    before = a.before;
  }

  -- what waits for no attribute has no item to stand by
  unplaced : (d : MacroDirective) (kind : MacroDirectiveKind) → IsNoAttribute kind → IsPlaced d kind
  unplaced d (FnLike written) none = tt
  unplaced d (Attr written) none = absurd none
  unplaced d (Derive written) none = tt

  -- what waits may be put into another order
  awaited_ordered : (tasks : List Task) (macros now : List MacroDirective) (deferred : Deferrals) → IsPermutation macros now → AreAwaited tasks macros deferred → AreAwaited tasks now deferred
  awaited_ordered tasks macros now deferred same a = record {
    distinct = a.distinct;
    placed = λ d h. a.placed d (Contains-permutation now macros d (IsPermutation-sym macros now same) h);
    awaited = λ p h. elim (a.awaited p h) [ inl visited ↦ inl visited | inr waits ↦ inr (waits.0, Contains-permutation macros now waits.0 same waits.1, waits.2) ];
    before = a.before;
  }

  -- what waits in a list is one thing, or is before or behind it
  beside_or : (ds es : List MacroDirective) (d x : MacroDirective) → Contains (ds ++ d ∷ es) x → (x ≡ d) ⊎ Contains (ds ++ es) x
  beside_or ds es d x h = elim (Contains-append_cases ds (d ∷ es) x h) [
    | inl first ↦ inr (Contains-append_left ds es x first)
    | inr rest ↦ elim (in_cases d es x rest) [ inl here ↦ inl here | inr later ↦ inr (Contains-append_right ds es x later) ]
  ]

  -- what is before or behind one thing waits with it
  others_in : (ds es : List MacroDirective) (d x : MacroDirective) → Contains (ds ++ es) x → Contains (ds ++ d ∷ es) x
  others_in ds es d x h = elim (Contains-append_cases ds es x h) [
    | inl first ↦ Contains-append_left ds (d ∷ es) x first
    | inr last ↦ Contains-append_right ds (d ∷ es) x (later_in d es x last)
  ]

  -- one thing may leave where each position that needs it has another
  awaited_left : (tasks tasks' : List Task) (ds es : List MacroDirective) (d : MacroDirective) (deferred : Deferrals) → ((p : InFile FileAstId) → IsVisitedAt p tasks → IsVisitedAt p tasks') → AreBefore tasks'
      → ((p : InFile FileAstId) → Contains (keys_of deferred) p → IsItemAt p d d.kind → IsVisitedAt p tasks') → AreAwaited tasks (ds ++ d ∷ es) deferred → AreAwaited tasks' (ds ++ es) deferred
  awaited_left tasks tasks' ds es d deferred visits before needless a = record {
    distinct = a.distinct;
    placed = λ x h. a.placed x (others_in ds es d x h);
    awaited = λ p h. elim (a.awaited p h) [
      | inl visited ↦ inl (visits p visited)
      | inr waits ↦ elim (beside_or ds es d waits.0 waits.1) [
        | inl same ↦ inl (needless p h (subst (λ (x : MacroDirective). IsItemAt p x x.kind) same waits.2))
        | inr other ↦ inr (waits.0, other, waits.2)
      ]
    ];
    before = before;
  }

  -- What is deferred

  -- a derive may be deferred where its item is visited
  awaited_deferring : (tasks : List Task) (macros : List MacroDirective) (deferred : Deferrals) (key : InFile FileAstId) (derive : DeferredDerive) → IsVisitedAt key tasks → AreAwaited tasks macros deferred
      → AreAwaited tasks macros (with_deferred deferred key derive)
  awaited_deferring tasks macros deferred key derive visited a = record {
    distinct = inserted_distinct position_eq position_laws key deferred (deferred_in deferred key ++ derive ∷ []) a.distinct;
    placed = a.placed;
    awaited = λ p h. elim (inserted_key position_eq position_laws key deferred (deferred_in deferred key ++ derive ∷ []) p h) [ inl old ↦ a.awaited p old | inr new ↦ inl (subst (λ x. IsVisitedAt x tasks) (sym new) visited) ];
    before = a.before;
  }

  -- those of a position may go
  awaited_without : (tasks : List Task) (macros : List MacroDirective) (deferred : Deferrals) (key : InFile FileAstId) → AreAwaited tasks macros deferred → AreAwaited tasks macros (without_deferred deferred key)
  awaited_without tasks macros deferred key a =
      let left = removed_without position_eq position_laws key deferred a.distinct in
      record { distinct = left.distinct; placed = a.placed; awaited = λ p h. a.awaited p (left.before p h); before = a.before }

  -- they are gone then
  none_without : (deferred : Deferrals) (key p : InFile FileAstId) → IsDistinct position_eq (keys_of deferred) → Contains (keys_of (without_deferred deferred key)) p → p ≡ key → ⊥
  none_without deferred key p once h same =
      let apart : position_eq key p ≡ false = (removed_without position_eq position_laws key deferred once).gone p h in
      true≢false (sym (position_laws.refl key) ∙ ap (position_eq key) (sym same) ∙ apart)

  -- Visits

  -- an item is there once
  same_item : (tree : TreeId) (id : ModItemId) (item other : ItemNode) → node_at oracle tree id ≡ Some item → node_at oracle tree id ≡ Some other → other ≡ item
  same_item tree id item other there also = let both : Some other ≡ Some item = sym also ∙ there in cc

  module _ (s : State) (site : Site) (id : ModItemId) (rest : List Task) where
    -- an item that the tree does not have, or that cfg disables, is none that a position needs
    awaited_missing : node_at oracle site.tree id ≡ None → AreAwaited (Visit site id ∷ rest) s.macros s.deferred → AreAwaited rest s.macros s.deferred
    awaited_missing missing a = awaited_gone (Visit site id) rest s.macros s.deferred (λ p h here. let wrong : Some here.at.item ≡ None = sym here.at.there ∙ missing in absurd (cc wrong)) a

    module _ (item : ItemNode) (there : node_at oracle site.tree id ≡ Some item) where
      -- nor is one that cfg disables
      awaited_disabled : (cfg : CfgExpr) → disabled_by item.attrs ≡ Some cfg → AreAwaited (Visit site id ∷ rest) s.macros s.deferred → AreAwaited rest s.macros s.deferred
      awaited_disabled cfg off a = awaited_gone (Visit site id) rest s.macros s.deferred (λ p h here.
          let same : here.at.item ≡ item = same_item site.tree id item here.at.item there here.at.there in
          let wrong : Some cfg ≡ None = sym off ∙ ap (λ (x : ItemNode). disabled_by x.attrs) (sym same) ∙ here.at.on in
          absurd (cc wrong)) a

      -- an item that waits for an attribute stands where what waits does
      awaited_queued : disabled_by item.attrs ≡ None → (attr : AttrId × WrittenAs) → AreAwaited (Visit site id ∷ rest) s.macros s.deferred
          → AreAwaited rest (s.macros ++ waiting site item (awaiting site id attr) ∷ []) s.deferred
      awaited_queued on attr a =
          let d : MacroDirective = waiting site item (awaiting site id attr) in
          let here : StandsAt (position_of site item) site.tree id = record { item = item; there = there; on = on; stands = refl } in
          let more : AreAwaited (Visit site id ∷ rest) (s.macros ++ d ∷ []) s.deferred =
          awaited_more (Visit site id ∷ rest) s.macros (d ∷ []) s.deferred (λ x h. subst (λ (y : MacroDirective). IsPlaced y y.kind) (sym (only_in d x h)) here) a in
          awaited_gone (Visit site id) rest (s.macros ++ d ∷ []) s.deferred (λ p h found.
          let same : found.at.item ≡ item = same_item site.tree id item found.at.item there found.at.there in
          let place : position_of site item ≡ p = sym (found.at.stands ∙ ap (λ (x : ItemNode). position_of site x) same) in
          inr (d, Contains-append_right s.macros (d ∷ []) d (first_in d []), (place, found))) more

      -- where the derives that are deferred for the item go, no position needs its visit
      awaited_free : AreAwaited (Visit site id ∷ rest) s.macros s.deferred → AreAwaited rest s.macros (without_deferred s.deferred (position_of site item))
      awaited_free a =
          let key : InFile FileAstId = position_of site item in
          awaited_gone (Visit site id) rest s.macros (without_deferred s.deferred key) (λ p h found.
          let same : found.at.item ≡ item = same_item site.tree id item found.at.item there found.at.there in
          absurd (none_without s.deferred key p a.distinct h (found.at.stands ∙ ap (λ (x : ItemNode). position_of site x) same)))
          (awaited_without (Visit site id ∷ rest) s.macros s.deferred key a)

      -- so it is where the item is handled
      awaited_given : (may : Bool) → derives_kind item.kind ≡ may → (derives : List DeferredDerive) (given : State) → GiveImpls oracle s site item may derives given → AreAwaited (Visit site id ∷ rest) s.macros s.deferred
          → AreAwaited rest given.macros given.deferred
      awaited_given false is derives given gives a =
          subst (λ (x : State). AreAwaited rest x.macros x.deferred) (sym gives)
          (awaited_gone (Visit site id) rest s.macros s.deferred (λ p h found.
          let same : found.at.item ≡ item = same_item site.tree id item found.at.item there found.at.there in
          absurd (true≢false (sym found.may ∙ ap (λ (x : ItemNode). derives_kind x.kind) same ∙ is))) a)
      awaited_given true is [] given gives a = subst (λ (x : State). AreAwaited rest x.macros x.deferred) (sym gives) (awaited_free a)
      awaited_given true is (derive ∷ derives) given gives a = subst (λ (x : State). AreAwaited rest x.macros x.deferred) (sym gives.4) (awaited_free a)

  -- calls may join, and what is to be done then tries nothing
  awaited_joins : (s : State) (effect : Effect) (rest : List Task) → JoinsCalls s effect → AreAwaited rest s.macros s.deferred → AreAwaited (effect.tasks ++ rest) effect.state.macros effect.state.deferred
  awaited_joins s effect rest joins a =
      let more : AreAwaited rest (s.macros ++ joins.more) s.deferred = awaited_more rest s.macros joins.more s.deferred (λ d h. unplaced d d.kind (joins.none d h)) a in
      let both : AreAwaited (effect.tasks ++ rest) (s.macros ++ joins.more) s.deferred = awaited_behind effect.tasks rest (s.macros ++ joins.more) s.deferred joins.tasks more in
      subst (λ ds. AreAwaited (effect.tasks ++ rest) effect.state.macros ds) (sym joins.deferred) (subst (λ ms. AreAwaited (effect.tasks ++ rest) ms s.deferred) (sym joins.macros) both)

  -- so it is in a state with these tasks
  abbrev pub IsAwaited : List Task → State → Type 0
  IsAwaited tasks s = AreAwaited tasks s.macros s.deferred

  module _ (s : State) (site : Site) (id : ModItemId) (rest : List Task) (effect : Effect) (a : IsAwaited (Visit site id ∷ rest) s) where
    -- an item that cfg does not disable waits, or is handled
    enabled_awaited : (item : ItemNode) → node_at oracle site.tree id ≡ Some item → disabled_by item.attrs ≡ None → (attr : Option (AttrId × WrittenAs)) → VisitsEnabled oracle s site id item attr effect
        → IsAwaited (effect.tasks ++ rest) effect.state
    enabled_awaited item there on (Some attr) does = subst (λ (e : Effect). IsAwaited (e.tasks ++ rest) e.state) (sym does) (awaited_queued s site id rest item there on attr a)
    enabled_awaited item there on None (session, adds, given, gives, handles) =
        let in_session : State = record s { session = session } in
        let gone : IsAwaited rest given = awaited_given in_session site id rest item there (derives_kind item.kind) refl (deferred_at in_session (position_of site item)) given gives a in
        awaited_joins given effect rest (kind_joins oracle given site item effect handles) gone

    -- one that it disables is left out
    node_awaited : (item : ItemNode) → node_at oracle site.tree id ≡ Some item → (cfg : Option CfgExpr) → disabled_by item.attrs ≡ cfg → VisitsNode oracle s site id item cfg effect → IsAwaited (effect.tasks ++ rest) effect.state
    node_awaited item there (Some cfg) off does = subst (λ (e : Effect). IsAwaited (e.tasks ++ rest) e.state) (sym does) (awaited_disabled s site id rest item there cfg off a)
    node_awaited item there None on does = enabled_awaited item there on (awaited_attr oracle s site id item) does

    -- and so is one that is not there
    at_awaited : (item : Option ItemNode) → node_at oracle site.tree id ≡ item → VisitsAt oracle s site id item effect → IsAwaited (effect.tasks ++ rest) effect.state
    at_awaited None there does = subst (λ (e : Effect). IsAwaited (e.tasks ++ rest) e.state) (sym does) (awaited_missing s site id rest there a)
    at_awaited (Some item) there does = node_awaited item there (disabled_by item.attrs) refl does

    -- a visit keeps it
    visit_awaited : Visits oracle s site id effect → IsAwaited (effect.tasks ++ rest) effect.state
    visit_awaited does = at_awaited (node_at oracle site.tree id) refl does

  -- Derives that are tried

  module _ (s : State) (d : MacroDirective) (written : WrittenDerive) (rest : List Task) (a : IsAwaited (TryDerive d written ∷ rest) s) where
    -- no position needs what is tried
    tried_gone : IsAwaited rest s
    tried_gone = awaited_gone (TryDerive d written) rest s.macros s.deferred (λ p h here. absurd here) a

    -- a derive that is called is deferred for an item that is visited behind it, or its expansion waits
    called_awaited : (found : MacroDefId) (call : MacroCallId) (n : Option ℕ) → IsAwaited rest (called_state oracle s d written found call n)
    called_awaited found call (Some n) = awaited_deferring rest s.macros s.deferred d.position (deferral d written call n (added_helpers s.map (with_shown_helpers oracle s.map d found call) d.position)) a.before.0 tried_gone
    called_awaited found call None = tried_gone

    -- one whose macro is not found waits
    try_awaited : (found : Option MacroDefId) → IsAwaited rest (tried_effect oracle s d written found).state
    try_awaited None =
        let x : MacroDirective = derive_directive d written in
        awaited_more rest s.macros (x ∷ []) s.deferred (λ y h. subst (λ (z : MacroDirective). IsPlaced z z.kind) (sym (only_in x y h)) tt) tried_gone
    try_awaited (Some found) = called_awaited found (derive_call oracle s d written found) (deferred_derive oracle found)

    -- nothing follows
    tries_ends : (found : Option MacroDefId) → (tried_effect oracle s d written found).tasks ≡ []
    tries_ends None = refl
    tries_ends (Some found) = refl

    -- a derive that is tried keeps it
    tries_awaited : (effect : Effect) → effect ≡ tried_effect oracle s d written (derive_macro (world oracle s) d.scope written) → IsAwaited (effect.tasks ++ rest) effect.state
    tries_awaited effect does =
        let found : Option MacroDefId = derive_macro (world oracle s) d.scope written in
        subst (λ (e : Effect). IsAwaited (e.tasks ++ rest) e.state) (sym does) (subst (λ tasks. IsAwaited (tasks ++ rest) (tried_effect oracle s d written found).state) (sym (tries_ends found)) (try_awaited found))

  -- Macros that wait

  -- what becomes of a macro that waits, by its kind: only an item leaves by its attribute, and its derives are tried only where it may have some
  abbrev Fits : MacroDirectiveKind → Turn → Type 0
  Fits kind Stays = Unit {0}
  Fits kind (GivesCall call) = IsNoAttribute kind
  Fits kind (GivesDerive call) = IsNoAttribute kind
  Fits kind (Replaces call) = Unit {0}
  Fits kind (WalksItem derives written) = (kind ≡ Attr written) × ((derives ≡ []) ⊎ (may_derive (node_at oracle written.tree written.item) ≡ true))

  module _ (s : State) (d : MacroDirective) where
    -- a call that is given is for no attribute
    given_fits : (call : WrittenCall) (value : Option MacroCallId) → Fits (FnLike call) (given_turn value)
    given_fits call None = tt
    given_fits call (Some made) = tt

    -- so it is with what is answered to a call
    call_fits : (call : WrittenCall) (answer : Result CallAnswer UnresolvedMacro) → Fits (FnLike call) (call_told s d answer).turn
    call_fits call (Ok answer) = given_fits call answer.value
    call_fits call (Err unresolved) = tt

    module _ (written : WrittenAttr) (found : MacroDefId) where
      -- derives are tried where the item may have some
      list_fits : may_derive (node_at oracle written.tree written.item) ≡ true → (paths : Result (List (ModPath × SyntaxContext)) DefDiagnosticKind) → Fits (Attr written) (list_told oracle s d written found paths).turn
      list_fits may (Ok paths) = (refl, inr may)
      list_fits may (Err kind) = (refl, inl refl)

      -- where it may not, none is tried
      reads_fits : (may : Bool) → may_derive (node_at oracle written.tree written.item) ≡ may → Fits (Attr written) (list_told oracle s d written found (derive_paths written may)).turn
      reads_fits true is = list_fits is (derive_paths written true)
      reads_fits false is = (refl, inl refl)

      -- so it is with what a macro does
      use_fits : (role : AttrUse) → Fits (Attr written) (use_told oracle s d written found role).turn
      use_fits PassesOver = (refl, inl refl)
      use_fits ReadsDerives = reads_fits (may_derive (node_at oracle written.tree written.item)) refl
      use_fits ReplacesItem = tt
      use_fits (HasNoExpander err) = (refl, inl refl)

    -- and with what is found of an attribute
    attr_fits : (written : WrittenAttr) (found : Option MacroDefId) → Fits (Attr written) (attr_told oracle s d written found).turn
    attr_fits written None = tt
    attr_fits written (Some found) = use_fits written found (attr_use oracle s.map.id.krate found.kind)

    -- and with a helper
    item_fits : (written : WrittenAttr) (helper : Bool) → Fits (Attr written) (item_told oracle s d written helper).turn
    item_fits written true = (refl, inl refl)
    item_fits written false = attr_fits written (attr_macro (world oracle s) d.scope written.attr)

    -- a derive leaves with its call
    derive_fits : (written : WrittenDerive) (found : Option MacroDefId) → Fits (Derive written) (derive_told oracle s d written found).turn
    derive_fits written None = tt
    derive_fits written (Some found) = tt

    -- so it is with each kind
    kind_fits : (kind : MacroDirectiveKind) → Fits kind (told_by oracle s d kind).turn
    kind_fits (FnLike call) = call_fits call (call_answer oracle s d call)
    kind_fits (Attr written) = item_fits written (is_helper s d.position written.attr)
    kind_fits (Derive written) = derive_fits written (derive_macro (world oracle s) d.scope written)

    -- what is told becomes of a macro by its kind
    told_fits : Fits d.kind (told oracle s d).turn
    told_fits = kind_fits d.kind

  -- what waits for no attribute is no item that a position needs
  no_item : (p : InFile FileAstId) (d : MacroDirective) (kind : MacroDirectiveKind) → IsNoAttribute kind → IsItemAt p d kind → ⊥
  no_item p d (FnLike written) none h = h
  no_item p d (Attr written) none h = none
  no_item p d (Derive written) none h = h

  -- an item that a position needs stands there
  item_place : (p : InFile FileAstId) (d : MacroDirective) (kind : MacroDirectiveKind) → IsItemAt p d kind → d.position ≡ p
  item_place p d (FnLike written) h = absurd h
  item_place p d (Attr written) h = h.0
  item_place p d (Derive written) h = absurd h

  -- an item that may have derives is one of those that may
  may_is : (found : Option ItemNode) (item : ItemNode) → found ≡ Some item → may_derive found ≡ true → derives_kind item.kind ≡ true
  may_is found item is may = ap may_derive (sym is) ∙ may

  module _ (s now : State) (same : WaitsAlike s now) (ds : List MacroDirective) (d : MacroDirective) (es : List MacroDirective) (stands : s.macros ≡ ds ++ d ∷ es) (a : IsAwaited [] s) where
    -- the same is awaited in the state that was told
    stood : AreAwaited [] (ds ++ d ∷ es) now.deferred
    stood = subst (λ xs. AreAwaited [] (ds ++ d ∷ es) xs) (sym same.deferred) (subst (λ ms. AreAwaited [] ms s.deferred) stands a)

    -- what is no item leaves
    awaited_leaves : IsNoAttribute d.kind → AreAwaited [] (ds ++ es) now.deferred
    awaited_leaves none = awaited_left [] [] ds es d now.deferred (λ p h. h) tt (λ p h item. absurd (no_item p d d.kind none item)) stood

    -- an item is replaced, and its derives are expansions
    awaited_replaced : AreAwaited [] (ds ++ es) (without_deferred now.deferred d.position)
    awaited_replaced =
        awaited_left [] [] ds es d (without_deferred now.deferred d.position) (λ p h. h) tt
        (λ p h item. absurd (none_without now.deferred d.position p stood.distinct h (sym (item_place p d d.kind item))))
        (awaited_without [] (ds ++ d ∷ es) now.deferred d.position stood)

    module _ (derives : List WrittenDerive) (written : WrittenAttr) (kind : d.kind ≡ Attr written) where
      -- the visit of the item without its attribute
      abbrev again : List Task
      again = Visit (item_site now d written) written.item ∷ []

      -- an item is walked without its attribute
      awaited_walked : AreAwaited again (ds ++ es) now.deferred
      awaited_walked =
          awaited_left [] again ds es d now.deferred (λ p h. absurd h) (tt, tt)
          (λ p h item. let of_attr : IsItemAt p d (Attr written) = subst (IsItemAt p d) kind item in inl of_attr.1) stood

      -- an item that may have derives is visited where it waited
      visited_again : may_derive (node_at oracle written.tree written.item) ≡ true → IsVisitedAt d.position again
      visited_again may =
          let at : StandsAt d.position written.tree written.item = subst (IsPlaced d) kind (stood.placed d (Contains-append_right ds (d ∷ es) d (first_in d es))) in
          inl (record { at = at; may = may_is (node_at oracle written.tree written.item) at.item at.there may })

      -- its derives are tried before
      awaited_tried : (derives ≡ []) ⊎ (may_derive (node_at oracle written.tree written.item) ≡ true) → AreAwaited (tries d derives ++ again) (ds ++ es) now.deferred
      awaited_tried (inl none) = subst (λ l. AreAwaited (tries d l ++ again) (ds ++ es) now.deferred) (sym none) awaited_walked
      awaited_tried (inr may) = awaited_tries d derives again (ds ++ es) now.deferred (visited_again may) awaited_walked

    -- a turn keeps it
    turn_awaited : (turn : Turn) → Fits d.kind turn → IsAwaited ((turn_effect now ds d es turn).tasks ++ []) (turn_effect now ds d es turn).state
    turn_awaited Stays fits = subst (λ ms. AreAwaited [] ms now.deferred) (sym same.macros) (subst (λ xs. AreAwaited [] s.macros xs) (sym same.deferred) a)
    turn_awaited (GivesCall call) fits = awaited_leaves fits
    turn_awaited (GivesDerive call) fits = awaited_leaves fits
    turn_awaited (Replaces call) fits = awaited_replaced
    turn_awaited (WalksItem derives written) fits =
        subst (λ tasks. AreAwaited tasks (ds ++ es) now.deferred) (sym (append-nil (tries d derives ++ Visit (item_site now d written) written.item ∷ []))) (awaited_tried derives written fits.0 fits.1)

  -- Steps

  module _ (s : State) (effect : Effect) (a : IsAwaited [] s) where
    -- what a turn is to keep
    abbrev Kept : Effect → Type 0
    Kept e = IsAwaited (e.tasks ++ []) e.state

    -- a macro that is asked keeps it
    asks_awaited : MacroStep oracle s effect → Kept effect
    asks_awaited step =
        let t : Told = told oracle s step.directive in
        subst Kept (sym step.is) (turn_awaited (record s { inner_calls = t.state.inner_calls }) t.state (told_same oracle s step.directive).waits step.before step.directive step.behind step.stands a t.turn (told_fits s step.directive))

    -- an item that is given up keeps it
    falls_awaited : FallbackStep oracle s effect → Kept effect
    falls_awaited step =
        let alike : WaitsAlike s (attr_reported s step.directive step.written) = record { macros = refl; inner_calls = refl; expansions = refl; deferred = refl; is_proc_macro = refl } in
        subst Kept (sym step.is) (turn_awaited s (attr_reported s step.directive step.written) alike step.before step.directive step.behind step.stands a (WalksItem [] step.written) (step.is_attr, inl refl))

    -- an expansion that is walked keeps it
    expands_awaited : ExpansionStep oracle s effect → Kept effect
    expands_awaited step =
        let left : State = record s { expansions = step.before ++ step.behind } in
        subst Kept (sym step.is) (awaited_joins s (expansion_effect oracle left step.expansion) [] (expansion_joins oracle s left step.expansion refl refl) a)

    -- an import that is recorded keeps it
    records_awaited : ImportStep oracle s effect → Kept effect
    records_awaited step =
        let answer : ResolvePathResult = answer_now oracle s step.directive.import in
        subst Kept (sym step.is)
        (awaited_behind _ [] s.macros s.deferred (record_no_tries oracle (after_import s step.directive step.rest answer) step.directive.import answer step.directive.import.written.kind) a)

  -- a function that is taken out keeps it, and one that is not there
  take_awaited : (s : State) (at : ModuleId) (name : Name) (function : FunctionId) (rest : List Task) (effect : Effect) (takes : Bool) → effect ≡ taken_out s at name function takes
      → IsAwaited (TakeOut at name function ∷ rest) s → IsAwaited (effect.tasks ++ rest) effect.state
  take_awaited s at name function rest effect true does a = subst (λ (e : Effect). IsAwaited (e.tasks ++ rest) e.state) (sym does) (awaited_gone (TakeOut at name function) rest s.macros s.deferred (λ p h here. absurd here) a)
  take_awaited s at name function rest effect false does a = subst (λ (e : Effect). IsAwaited (e.tasks ++ rest) e.state) (sym does) (awaited_gone (TakeOut at name function) rest s.macros s.deferred (λ p h here. absurd here) a)

  -- a task that is performed keeps it
  does_awaited : (s : State) (task : Task) (rest : List Task) (effect : Effect) → Does oracle s task effect → IsAwaited (task ∷ rest) s → IsAwaited (effect.tasks ++ rest) effect.state
  does_awaited s (Enter at directory) rest effect does a = subst (λ (e : Effect). IsAwaited (e.tasks ++ rest) e.state) (sym does) (awaited_gone (Enter at directory) rest s.macros s.deferred (λ p h here. absurd here) a)
  does_awaited s (Put at entry) rest effect does a = subst (λ (e : Effect). IsAwaited (e.tasks ++ rest) e.state) (sym does) (awaited_gone (Put at entry) rest s.macros s.deferred (λ p h here. absurd here) a)
  does_awaited s (Bring from into) rest effect does a = subst (λ (e : Effect). IsAwaited (e.tasks ++ rest) e.state) (sym does) (awaited_gone (Bring from into) rest s.macros s.deferred (λ p h here. absurd here) a)
  does_awaited s (TakeOut at name function) rest effect does a = take_awaited s at name function rest effect (takes_out s at name function) does a
  does_awaited s (AddEdge source edge) rest effect does a = subst (λ (e : Effect). IsAwaited (e.tasks ++ rest) e.state) (sym does) (awaited_gone (AddEdge source edge) rest s.macros s.deferred (λ p h here. absurd here) a)
  does_awaited s (Visit site id) rest effect does a = visit_awaited s site id rest effect a does
  does_awaited s (TryDerive d written) rest effect does a = tries_awaited s d written rest a effect does

  -- a moment at which each position of deferred derives is awaited
  abbrev IsAwaitedAt : Moment → Type 0
  IsAwaitedAt m = IsAwaited m.tasks m.state

  -- each step keeps it
  step_awaited : (a b : Moment) → Step oracle a b → IsAwaitedAt a → IsAwaitedAt b
  step_awaited a b (performs task rest effect first does is) h = subst IsAwaitedAt (sym is) (does_awaited a.state task rest effect does (subst (λ tasks. IsAwaited tasks a.state) first h))
  step_awaited a b (copies content copy is) h = subst IsAwaitedAt (sym is) h
  step_awaited a b (reorders macros same is) h = subst IsAwaitedAt (sym is) (awaited_ordered a.tasks a.state.macros macros a.state.deferred same h)
  step_awaited a b (rearranges state same is) h = subst IsAwaitedAt (sym is) (subst (λ x. IsAwaited a.tasks x) (sym same.rest) h)
  step_awaited a b (records effect idle step is) h = subst IsAwaitedAt (sym is) (records_awaited a.state effect (subst (λ tasks. IsAwaited tasks a.state) idle h) step)
  step_awaited a b (asks effect idle step is) h = subst IsAwaitedAt (sym is) (asks_awaited a.state effect (subst (λ tasks. IsAwaited tasks a.state) idle h) step)
  step_awaited a b (notes idle is) h = subst IsAwaitedAt (sym is) (subst (λ tasks. IsAwaited tasks a.state) idle h)
  step_awaited a b (expands effect idle step is) h = subst IsAwaitedAt (sym is) (expands_awaited a.state effect (subst (λ tasks. IsAwaited tasks a.state) idle h) step)
  step_awaited a b (falls_back effect idle step is) h = subst IsAwaitedAt (sym is) (falls_awaited a.state effect (subst (λ tasks. IsAwaited tasks a.state) idle h) step)

  -- Runs

  -- where nothing is left to be done and nothing waits for an attribute, no position is awaited
  none_awaited : (macros : List MacroDirective) (deferred : Deferrals) → ((d : MacroDirective) → Contains macros d → IsNoAttribute d.kind) → AreAwaited [] macros deferred → deferred ≡ []
  none_awaited macros [] none a = refl
  none_awaited macros (e ∷ deferred) none a = elim (a.awaited e.0 (first_in e.0 (keys_of deferred))) [
    | inl visited ↦ absurd visited
    | inr waits ↦ absurd (no_item e.0 waits.0 waits.0.kind (none waits.0 waits.1) waits.2)
  ]

  -- with nothing deferred, none is
  awaited_empty : (tasks : List Task) → AreNoTries tasks → AreAwaited tasks [] []
  unfolding IsDistinct
  awaited_empty tasks none = subst (λ l. AreAwaited l [] []) (append-nil tasks) (awaited_behind tasks [] [] [] none (record { distinct = tt; placed = λ d h. absurd (none_in d h); awaited = λ p h. absurd (none_in p h); before = tt }))

-- what a run begins with tries no derive
first_no_tries : (w : Setting) → AreNoTries (first_tasks w.oracle w.seeded w.tree)
first_no_tries w = by (tree_cfg w.oracle (first_tree w.oracle w.seeded.id w.tree))
  where
    site : Site
    site = first_site w.oracle w.seeded w.tree

    ids : List ModItemId
    ids = top_items w.oracle (first_tree w.oracle w.seeded.id w.tree)

    by : (cfg : Option CfgExpr) → AreNoTries (first_walk w.oracle site ids cfg)
    by None = walk_no_tries w.oracle site ids
    by (Some cfg) = tt

-- along a run each position at which derives are deferred is that of an item that is to be visited, or that waits for an attribute
pub awaited_along : (w : Setting) (before : Session) (end : Moment) → Reaches w.oracle (start w before) end → IsAwaited w.oracle end.tasks end.state
awaited_along w before end run =
    let first : IsAwaited w.oracle (start w before).tasks (start w before).state = awaited_empty w.oracle (first_tasks w.oracle w.seeded w.tree) (first_no_tries w) in
    kept_along {oracle = w.oracle} (IsAwaitedAt w.oracle) (step_awaited w.oracle) run first

-- where a run has nothing left to do, and nothing that waits for an attribute, no derive is deferred
pub none_deferred_along : (w : Setting) (before : Session) (end : Moment) → Reaches w.oracle (start w before) end → end.tasks ≡ [] → ((d : MacroDirective) → Contains end.state.macros d → IsNoAttribute d.kind) → end.state.deferred ≡ []
none_deferred_along w before end run done none =
    let last : IsAwaited w.oracle end.tasks end.state = awaited_along w before end run in
    none_awaited w.oracle end.state.macros end.state.deferred none (subst (λ tasks. IsAwaited w.oracle tasks end.state) done last)
