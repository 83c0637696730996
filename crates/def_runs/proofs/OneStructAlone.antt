-- Each answer of `pub struct S;` binds S, whatever run is taken: so the map as it was seeded, with nothing bound, is no answer.
use Rattle.std.proofs.Common.{◌≡◌, inl, inr, ℕ, true, ◌+◌, Option, Some, None, List, [], ◌∷◌, ◌++◌, refl, sym, subst, ap, ◌∙◌, append-nil}
use Rattle.std.proofs.Math.Seq.{drop-nil}
use Rattle.tree_ids.specs.declared.ids.AttrId.{AttrId}
use Rattle.item_tree.specs.declared.items.ItemNode.{ItemNode}
use Rattle.tree_ids.specs.declared.name.Name.{Name}
use Rattle.item_tree.specs.Attrs.{iter_after, numbered_from}
use Rattle.def_ids.specs.declared.ids.Def.TheVariants.{Struct}
use Rattle.def_interner.specs.Session.{Session}
use Rattle.def_bindings.specs.declared.bindings.Binding.{Binding}
use Rattle.def_bindings.specs.declared.bindings.Namespace.{Namespace}
use Rattle.def_bindings.specs.declared.bindings.Namespace.TheVariants.{Types, Values}
use Rattle.def_bindings.specs.declared.visibility.Visibility.{Visibility}
use Rattle.def_bindings.specs.declared.visibility.Visibility.TheVariants.{Public}
use Rattle.def_bindings.specs.Content.{Content, empty}
use Rattle.def_globs.proofs.ListLaws.{none_in, only_in}
use Rattle.def_laws.proofs.RunsLaws.{kept_along}
use Rattle.def_rules.specs.Attributes.{first_unknown}
use Rattle.def_rules.specs.Deferred.{GiveImpls, ImplsAreGiven, deferred_in, without_deferred}
use Rattle.def_rules.specs.Headline.{Answers}
use Rattle.def_rules.specs.Items.{position_of, put_declared}
use Rattle.def_rules.specs.Report.{Answer}
use Rattle.def_rules.specs.Rules.{HandlesByKind, HandlesInSession, VisitsEnabled}
use Rattle.def_rules.specs.Settled.{IsDeclared}
use Rattle.def_rules.specs.Start.{first_site, start}
use Rattle.def_laws.proofs.CensoredLaws.{uncensored_along}
use Rattle.def_rules.specs.State.{Site, State, Effect, Task, Enter, Visit, Event, PutExplicit, Moment, after, with_content, with_state}
use Rattle.def_rules.specs.Steps.{Does, Step, performs, asks, copies, notes, expands, rearranges, records, falls_back, reorders}
use Rattle.def_runs.proofs.OneStruct.{S, setting}
use Rattle.def_runs.proofs.RowLemmas.{NoneWaits, none_asked, none_given_up, none_noted, none_recorded, none_taken, none_waits_rearranged, none_waits_reordered}
use Rattle.def_runs.proofs.Rows.{module_at}
use Rattle.def_runs.proofs.Sessions.{no_session}
use Rattle.def_runs.proofs.Trees.{node, unit_struct}

-- where the items of the root stand
abbrev root : Site
root = first_site setting.oracle setting.seeded setting.tree

-- S, by some number
abbrev held : ℕ → Binding Visibility
held n = record { def = Struct (record { 0 = n }); vis = Public; import = None }

-- it is put in a namespace, and that is an event
abbrev put_in : Namespace → ℕ → Task
put_in ns n = put_declared (module_at 0) S ns (Struct (record { 0 = n })) Public

abbrev was_put_in : Namespace → ℕ → Event
was_put_in ns n = PutExplicit (module_at 0) S ns (held n)

-- how far a run has come
data Stage (m : Moment) : Type 0 where
  begins : m.tasks ≡ Enter root.scope root.directory ∷ Visit root (record { 0 = 0 }) ∷ [] → m.events ≡ [] → Stage m
  visits : m.tasks ≡ Visit root (record { 0 = 0 }) ∷ [] → m.events ≡ [] → Stage m
  puts_types : (n : ℕ) → m.tasks ≡ put_in Types n ∷ put_in Values n ∷ [] → m.events ≡ [] → Stage m
  puts_values : (n : ℕ) → m.tasks ≡ put_in Values n ∷ [] → m.events ≡ was_put_in Types n ∷ [] → Stage m
  ends : (n : ℕ) → m.tasks ≡ [] → m.events ≡ was_put_in Types n ∷ was_put_in Values n ∷ [] → Stage m

-- and nothing ever waits for its turn
record IsOnWay (m : Moment) : Type 0 where
  stage : Stage m
  waits : NoneWaits m.state

-- a run goes on where a task's effect is known
record Moves (a : Moment) (rest : List Task) (effect : Effect) : Type 0 where
  stage : Stage (after a rest effect)
  waits : NoneWaits effect.state

-- the directory of the root is stored
enters : (a : Moment) (rest : List Task) (effect : Effect) → IsOnWay a → a.events ≡ [] → rest ≡ Visit root (record { 0 = 0 }) ∷ [] → Does setting.oracle a.state (Enter root.scope root.directory) effect → Moves a rest effect
enters a rest effect way none left does =
    subst (Moves a rest) (sym does) (record { stage = visits left (append-nil a.events ∙ none); waits = way.waits })

-- an item without attributes waits for none, whatever was passed over
none_awaited : (tools : List Name) (passed : Option AttrId) → first_unknown setting.oracle tools (iter_after passed []) ≡ None
none_awaited tools None = refl
none_awaited tools (Some id) = ap (λ attrs. first_unknown setting.oracle tools (numbered_from (id.0 + 1) attrs)) (drop-nil (id.0 + 1))

-- so the struct is handled
is_handled : (a : Moment) (effect : Effect) → Does setting.oracle a.state (Visit root (record { 0 = 0 })) effect → HandlesInSession setting.oracle a.state root (node 0 (unit_struct S)) effect
is_handled a effect does =
    subst (λ o. VisitsEnabled setting.oracle a.state root (record { 0 = 0 }) (node 0 (unit_struct S)) o effect) (none_awaited a.state.map.krate.tools (a.state.skipped root.tree.file (record { 0 = 0 }))) does

-- no derive is deferred for it, so it gives no impls
gives_nothing : (s given : State) → s.deferred ≡ [] → ImplsAreGiven setting.oracle s root (node 0 (unit_struct S)) given → given ≡ s
gives_nothing s given none gives =
    let item : ItemNode = node 0 (unit_struct S) in
    subst (λ ds. GiveImpls setting.oracle s root item true ds given) (ap (λ ds. deferred_in ds (position_of root item)) none) gives
    ∙ (λ i. record s { deferred = (ap (λ ds. without_deferred ds (position_of root item)) none ∙ sym none) i })

-- it is visited, in a session that may have more, and gets some number
visited : (a : Moment) (rest : List Task) (effect : Effect) → IsOnWay a → a.events ≡ [] → rest ≡ [] → Does setting.oracle a.state (Visit root (record { 0 = 0 })) effect → Moves a rest effect
visited a rest effect way none left visiting =
    let handled = is_handled a effect visiting in
    let in_session : State = record a.state { session = handled.0 } in
    let does = subst (λ s. HandlesByKind setting.oracle s root (node 0 (unit_struct S)) effect) (gives_nothing in_session handled.2 way.waits.3 handled.3) handled.4 in
    let n = does.2.0 in
    subst (Moves a rest) (sym does.2.2) (record {
      stage = puts_types n (ap (λ l. put_in Types n ∷ put_in Values n ∷ l) left) (append-nil a.events ∙ none);
      waits = way.waits;
    })

-- its entries are put
types_put : (a : Moment) (rest : List Task) (effect : Effect) (n : ℕ) → IsOnWay a → a.events ≡ [] → rest ≡ put_in Values n ∷ [] → Does setting.oracle a.state (put_in Types n) effect → Moves a rest effect
types_put a rest effect n way none left does =
    subst (Moves a rest) (sym does) (record { stage = puts_values n left (ap (λ es. es ++ was_put_in Types n ∷ []) none); waits = way.waits })

values_put : (a : Moment) (rest : List Task) (effect : Effect) (n : ℕ) → IsOnWay a → a.events ≡ was_put_in Types n ∷ [] → rest ≡ [] → Does setting.oracle a.state (put_in Values n) effect → Moves a rest effect
values_put a rest effect n way before left does =
    subst (Moves a rest) (sym does) (record { stage = ends n left (ap (λ es. es ++ was_put_in Values n ∷ []) before); waits = way.waits })

-- a task is performed
performed : (a : Moment) (task : Task) (rest : List Task) (effect : Effect) → a.tasks ≡ task ∷ rest → Does setting.oracle a.state task effect → IsOnWay a → Moves a rest effect
performed a task rest effect first does way = by way.stage
  where
    by : Stage a → Moves a rest effect
    by (begins todo none) =
        let same : task ≡ Enter root.scope root.directory = cc in
        let left : rest ≡ Visit root (record { 0 = 0 }) ∷ [] = cc in
        enters a rest effect way none left (subst (λ t. Does setting.oracle a.state t effect) same does)
    by (visits todo none) =
        let same : task ≡ Visit root (record { 0 = 0 }) = cc in
        let left : rest ≡ [] = cc in
        visited a rest effect way none left (subst (λ t. Does setting.oracle a.state t effect) same does)
    by (puts_types n todo none) =
        let same : task ≡ put_in Types n = cc in
        let left : rest ≡ put_in Values n ∷ [] = cc in
        types_put a rest effect n way none left (subst (λ t. Does setting.oracle a.state t effect) same does)
    by (puts_values n todo before) =
        let same : task ≡ put_in Values n = cc in
        let left : rest ≡ [] = cc in
        values_put a rest effect n way before left (subst (λ t. Does setting.oracle a.state t effect) same does)
    by (ends n todo happened) = absurd cc

-- what changes neither what is to be done nor what happened
stays : (a : Moment) (s : State) → NoneWaits s → IsOnWay a → IsOnWay (with_state a s)
stays a s none_waits way = record { stage = by way.stage; waits = none_waits }
  where
    by : Stage a → Stage (with_state a s)
    by (begins todo none) = begins todo none
    by (visits todo none) = visits todo none
    by (puts_types n todo none) = puts_types n todo none
    by (puts_values n todo before) = puts_values n todo before
    by (ends n todo happened) = ends n todo happened

goes_on : (a b : Moment) → Step setting.oracle a b → IsOnWay a → IsOnWay b
goes_on a b (performs task rest effect first does is) way =
    let moves = performed a task rest effect first does way in
    subst IsOnWay (sym is) (record { stage = moves.stage; waits = moves.waits })
goes_on a b (copies content copy is) way = subst IsOnWay (sym is) (stays a (with_content a.state content) way.waits way)
goes_on a b (rearranges s same is) way = subst IsOnWay (sym is) (stays a s (none_waits_rearranged a.state s way.waits same) way)
goes_on a b (reorders macros same is) way = subst IsOnWay (sym is) (stays a (record a.state { macros = macros }) (none_waits_reordered a.state macros way.waits same) way)
goes_on a b (falls_back effect idle step is) way = absurd (none_given_up setting.oracle a.state effect way.waits.1 step)
goes_on a b (records effect idle step is) way = absurd (none_recorded setting.oracle a.state effect way.waits.0 step)
goes_on a b (asks effect idle step is) way = absurd (none_asked setting.oracle a.state effect way.waits.1 step)
goes_on a b (notes idle is) way = subst IsOnWay (sym (is ∙ none_noted a idle way.waits.4)) way
goes_on a b (expands effect idle step is) way = absurd (none_taken setting.oracle a.state effect way.waits.2 step)

sets_out : IsOnWay (start setting no_session)
sets_out = record { stage = begins refl refl; waits = (refl, refl, refl, refl, refl) }

-- S is bound in types and in values, to one struct, public, by declaration
record Binds (c : Content Visibility) : Type 0 where
  number : ℕ
  types : c.binding (module_at 0) S Types ≡ Some (held number)
  values : c.binding (module_at 0) S Values ≡ Some (held number)

-- where nothing is left to do, both puts happened, and what was put stands
arrived : (m : Moment) → m.tasks ≡ [] → IsDeclared m.events m.state.content → IsOnWay m → Binds m.state.content
arrived m done declared way = by way.stage
  where
    by : Stage m → Binds m.state.content
    by (begins todo none) = absurd cc
    by (visits todo none) = absurd cc
    by (puts_types n todo none) = absurd cc
    by (puts_values n todo before) = absurd cc
    by (ends n todo happened) = record { number = n; types = in_types; values = in_values }
      where
        in_types : m.state.content.binding (module_at 0) S Types ≡ Some (held n)
        in_types =
            let stands = declared [] (was_put_in Values n ∷ []) (module_at 0) S Types (held n) happened (λ values function taken. cc) in
            elim stands.2 [
              | inl same ↦ stands.1 ∙ ap Some same
              | inr before ↦ absurd (none_in _ before)
            ]

        in_values : m.state.content.binding (module_at 0) S Values ≡ Some (held n)
        in_values =
            let stands = declared (was_put_in Types n ∷ []) [] (module_at 0) S Values (held n) happened (λ values function taken. none_in _ taken) in
            elim stands.2 [
              | inl same ↦ stands.1 ∙ ap Some same
              | inr before ↦ absurd (let wrong = only_in (was_put_in Types n) _ before in cc)
            ]

module _ (after : Session) (answer : Answer) (answers : Answers setting no_session after answer) where
  s_is_bound : Binds answer.content
  s_is_bound =
      subst Binds (sym (answers.answered.content ∙ uncensored_along answers.run.runs refl))
      (arrived answers.run.end answers.run.done answers.declared (kept_along {oracle = setting.oracle} IsOnWay goes_on answers.run.runs sets_out))

  -- so an answer in which nothing is bound is none
  nothing_bound_is_no_answer : answer.content ≡ empty → ⊥
  nothing_bound_is_no_answer nothing =
      let bound = s_is_bound.types in
      let unbound = ap (λ (c : Content Visibility). c.binding (module_at 0) S Types) nothing in
      cc
