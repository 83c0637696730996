-- The turn of a macro that waits.
use Rattle.std.proofs.Common.{◌≡◌, ◌<◌, ◌≤◌, ◌^◌, Bool, true, false, true≢false, List, [], ◌∷◌, length, Option, Some, None, Result, Ok, Err, append-nil, refl, sym, ap, subst, ◌∙◌}
use Rattle.std.specs.Prelude.{IfOk, OnOk}
use Rattle.def_ids.specs.declared.ids.ModuleId.{ModuleId}
use Rattle.def_interner.specs.declared.macro_def.MacroDefId.{MacroDefId}
use Rattle.tree_ids.specs.declared.ids.MacroCallId.{MacroCallId}
use Rattle.def_calls.specs.Shown.{IsTurned, leaves}
use Rattle.def_collector.specs.Passes.{HasLeft, IsAsked, IsWalked, OnlyAsked}
use Rattle.def_oracle.specs.declared.source_database.CallAnswer.{CallAnswer}
use Rattle.def_oracle.specs.declared.source_database.UnresolvedMacro.{UnresolvedMacro}
use Rattle.def_map.specs.Oracle.{Oracle}
use Rattle.def_sources.specs.Sources.{World}
use Rattle.def_rules.specs.Attributes.{AttrUse, attr_macro, attr_use, is_helper, item_site}
use Rattle.def_rules.specs.Calls.{deepest}
use Rattle.def_rules.specs.Derives.{derive_call, derive_macro, derived}
use Rattle.def_rules.specs.Directives.{GivesCall, GivesDerive, Replaces, Stays, Told, Turn, WalksItem, answer_in, attr_told, call_told, derive_told, expanding, given_told, given_turn, item_told, told, told_by, turn_effect, use_told, walked_state}
use Rattle.def_rules.specs.State.{State, Task, Visit, world}
use Rattle.def_rules.specs.Waiting.{Attr, Derive, FnLike, MacroDirective, WrittenAttr, WrittenCall, WrittenDerive}
use Rattle.def_laws.specs.Depths.{OnlyInvokes, waiting_work}
use Rattle.def_laws.specs.Performs.{Tried}
use Rattle.def_laws.specs.Runs.{CollectsCalmly, Leads}
use Rattle.def_laws.proofs.PassLaws.{collects_stays, derived_lighter, given_lighter, invokes_refl, only_invokes, queued, queued_behind, replaced_lighter, rest_by, walked_lighter, walked_rest}
use Rattle.def_laws.proofs.StepsLaws.{calmly_refl}

-- What is answered

-- what follows of a turn that answers that one left
pub told_left : {E P Q : Type 0} (R : Bool → Type 0) (r : Result Bool E) → OnOk r P → OnOk r Q → IfOk r (λ left. left ≡ true) → (P → Q → R true) → IfOk r R
told_left R (Ok left) p q is f = subst R (sym is) (f p q)
told_left R (Err e) p q is f = is

-- it does not answer that it stays
pub left_not_kept : {E : Type 0} (P : Type 0) (r : Result Bool E) → IfOk r (λ left. left ≡ true) → IfOk r (λ left. left ≡ false → P)
left_not_kept P (Ok left) is = λ no. absurd (true≢false (sym is ∙ no))
left_not_kept P (Err e) is = is

-- One that is asked

-- it stays
pub had_stayed : (oracle : Oracle) (s : State) (d : MacroDirective) (t : State) → OnlyAsked oracle s d t → IsAsked oracle s d false t
had_stayed oracle s d t asked = record { stayed = λ no. asked; left = λ yes. absurd (true≢false (sym yes)) }

-- it leaves
pub had_left : (oracle : Oracle) (s : State) (d : MacroDirective) (t : State) → HasLeft oracle s t → IsAsked oracle s d true t
had_left oracle s d t left = record { stayed = λ no. absurd (true≢false no); left = λ yes. left }

-- where nothing is done, it stays
pub had_nothing : (oracle : Oracle) (s : State) (d : MacroDirective) → (told oracle s d).turn ≡ Stays → IsAsked oracle s d false s
had_nothing oracle s d turn = had_stayed oracle s d s (record { turn = turn; run = calmly_refl [] s; only = invokes_refl s })

module _ (oracle : Oracle) (s s' t : State) (d : MacroDirective) (given : Told) (is : given ≡ told oracle s d) (alike : s'.macros ≡ s.macros) (turned : IsTurned s' d given t) where
  stands : s.macros ≡ d ∷ turned.others
  stands = sym alike ∙ turned.stands

  now : (turn : Turn) → given.turn ≡ turn → t ≡ (turn_effect (told oracle s d).state [] d turned.others turn).state
  now turn which =
      turned.is
      ∙ ap (λ x. (turn_effect given.state [] d turned.others x).state) which
      ∙ ap (λ (x : Told). (turn_effect x.state [] d turned.others turn).state) is

  was : (turn : Turn) → given.turn ≡ turn → (told oracle s d).turn ≡ turn
  was turn which = ap (λ (x : Told). x.turn) (sym is) ∙ which

  -- it stays
  pub turn_stayed : given.turn ≡ Stays → IsAsked oracle s d false t
  turn_stayed which = had_stayed oracle s d t (record {
    turn = was Stays which;
    run = subst (λ u. CollectsCalmly oracle [] s [] u) (sym (now Stays which)) (collects_stays oracle s [] d turned.others stands (was Stays which));
    only = subst (OnlyInvokes s) (sym (now Stays which)) (only_invokes oracle s [] d turned.others stands (was Stays which));
  })

  -- it is given a call
  pub turn_called : (call : MacroCallId) → given.turn ≡ GivesCall call → IsAsked oracle s d true t
  turn_called call which =
      let told_so = was (GivesCall call) which in
      let is_now = now (GivesCall call) which in
      let u : State = (turn_effect (told oracle s d).state [] d turned.others (GivesCall call)).state in
      had_left oracle s d t (record {
        first = d;
        others = turned.others;
        stands = stands;
        turn = λ stays. cc (told_so, stays);
        rest = rest_by oracle s [] d turned.others stands (GivesCall call) told_so t (subst (λ x. CollectsCalmly oracle [] u [] x) (sym is_now) (calmly_refl [] u));
        more = [];
        macros = ap (λ (x : State). x.macros) is_now ∙ sym (append-nil turned.others);
        fewer = subst (λ u. waiting_work u < waiting_work s) (sym is_now) (given_lighter oracle s [] d turned.others stands call);
      })

  -- its attribute is given one
  pub turn_replaced : (call : MacroCallId) → given.turn ≡ Replaces call → IsAsked oracle s d true t
  turn_replaced call which =
      let told_so = was (Replaces call) which in
      let is_now = now (Replaces call) which in
      let u : State = (turn_effect (told oracle s d).state [] d turned.others (Replaces call)).state in
      had_left oracle s d t (record {
        first = d;
        others = turned.others;
        stands = stands;
        turn = λ stays. cc (told_so, stays);
        rest = rest_by oracle s [] d turned.others stands (Replaces call) told_so t (subst (λ x. CollectsCalmly oracle [] u [] x) (sym is_now) (calmly_refl [] u));
        more = [];
        macros = ap (λ (x : State). x.macros) is_now ∙ sym (append-nil turned.others);
        fewer = subst (λ u. waiting_work u < waiting_work s) (sym is_now) (replaced_lighter oracle s [] d turned.others stands call);
      })

-- the macro that a derive finds
pub derive_found : (oracle : Oracle) (s : State) (at : ModuleId) (written : WrittenDerive) (w : World) (known found : Option MacroDefId) → w ≡ world oracle s → known ≡ derive_macro w at written → known ≡ found
    → derive_macro (world oracle s) at written ≡ found
derive_found oracle s at written w known found same finds is = sym (finds ∙ ap (λ x. derive_macro x at written) same) ∙ is

-- a derive is given a call
module _ (oracle : Oracle) (s t : State) (d : MacroDirective) (written : WrittenDerive) (kind : d.kind ≡ Derive written) where
  derive_by : (w : World) (found : Option MacroDefId) → w ≡ world oracle s → found ≡ derive_macro w d.scope written → told oracle s d ≡ derive_told oracle s d written found
  derive_by w found same finds = ap (told_by oracle s d) kind ∙ ap (derive_told oracle s d written) (sym (finds ∙ ap (λ x. derive_macro x d.scope written) same))

  -- or it stays
  pub derive_stays : (w : World) (found : Option MacroDefId) → w ≡ world oracle s → found ≡ derive_macro w d.scope written → found ≡ None → (told oracle s d).turn ≡ Stays
  derive_stays w found same finds none = ap (λ (x : Told). x.turn) (derive_by w found same finds ∙ ap (derive_told oracle s d written) none)

  module _ (w : World) (known : Option MacroDefId) (found : MacroDefId) (same : w ≡ world oracle s) (finds : known ≡ derive_macro w d.scope written) (some : known ≡ Some found) (others : List MacroDirective) (stands : s.macros ≡ d ∷ others) where
    abbrev given_call : MacroCallId
    given_call = derive_call oracle s d written found

    given_is : told oracle s d ≡ given_told oracle s d written found given_call
    given_is = derive_by w known same finds ∙ ap (derive_told oracle s d written) some

    pub turn_derived : t ≡ expanding (derived oracle s d written found given_call) others d given_call → IsAsked oracle s d true t
    turn_derived now =
        let turn : (told oracle s d).turn ≡ GivesDerive given_call = ap (λ (x : Told). x.turn) given_is in
        let u : State = expanding (told oracle s d).state others d given_call in
        let here : t ≡ u = now ∙ ap (λ (x : Told). expanding x.state others d given_call) (sym given_is) in
        had_left oracle s d t (record {
          first = d;
          others = others;
          stands = stands;
          turn = λ stays. cc (turn, stays);
          rest = rest_by oracle s [] d others stands (GivesDerive given_call) turn t (subst (λ x. CollectsCalmly oracle [] u [] x) (sym here) (calmly_refl [] u));
          more = [];
          macros = ap (λ (x : State). x.macros) here ∙ sym (append-nil others);
          fewer = subst (λ u. waiting_work u < waiting_work s) (sym here) (derived_lighter oracle s [] d others stands given_call);
        })

-- an item is walked without its attribute
module _ (oracle : Oracle) (s s' t : State) (d : MacroDirective) (derives : List WrittenDerive) (written : WrittenAttr) (is : told oracle s d ≡ record { state = s'; turn = WalksItem derives written }) (alike : s'.macros ≡ s.macros)
    (walked : IsWalked oracle s' d derives written t) where
  abbrev given : Told
  given = told oracle s d

  walks : given.turn ≡ WalksItem derives written
  walks = ap (λ (x : Told). x.turn) is

  item_stands : s.macros ≡ d ∷ walked.others
  item_stands = sym alike ∙ walked.stands

  -- as it was told
  abbrev again : State → Task
  again x = Visit (item_site x d written) written.item

  tries : Tried oracle d derives (walked_state given.state [] d walked.others written) walked.tried
  tries = subst (λ (x : Told). Tried oracle d derives (walked_state x.state [] d walked.others written) walked.tried) (sym is) walked.tries

  leads : Leads oracle (again given.state ∷ []) walked.tried [] t
  leads = subst (λ (x : Told). Leads oracle (again x.state ∷ []) walked.tried [] t) (sym is) walked.leads

  pub turn_walked : d.depth ≤ deepest → length derives < 2 ^ 64 → length t.macros < 2 ^ 64 → IsAsked oracle s d true t
  turn_walked most short few = had_left oracle s d t (record {
    first = d;
    others = walked.others;
    stands = item_stands;
    turn = λ stays. cc (walks, stays);
    rest = rest_by oracle s [] d walked.others item_stands (WalksItem derives written) walks t (walked_rest oracle s [] d walked.others item_stands derives written walks walked.tried t tries leads);
    more = queued oracle s [] d walked.others item_stands derives written walks walked.tried t tries leads;
    macros = queued_behind oracle s [] d walked.others item_stands derives written walks walked.tried t tries leads;
    fewer = walked_lighter oracle s [] d walked.others item_stands derives written walks walked.tried t tries leads most short few;
  })

-- What is told

module _ (oracle : Oracle) (s : State) (d : MacroDirective) where
  module _ (w : World) (written : WrittenCall) (answer : Result CallAnswer UnresolvedMacro) (kind : d.kind ≡ FnLike written) (same : w ≡ world oracle s) (gives : answer ≡ answer_in w s.map d written) where
    call_is : call_told s d answer ≡ told oracle s d
    call_is = ap (call_told s d) (gives ∙ ap (λ x. answer_in x s.map d written) same) ∙ sym (ap (told_by oracle s d) kind)

    module _ (t : State) (turned : IsTurned s d (call_told s d answer) t) where
      by_value : (value : Option MacroCallId) → (call_told s d answer).turn ≡ given_turn value → (moved : Bool) → moved ≡ leaves (call_told s d answer).turn → IsAsked oracle s d moved t
      by_value None turn moved known = subst (λ m. IsAsked oracle s d m t) (sym (known ∙ ap leaves turn)) (turn_stayed oracle s s t d (call_told s d answer) call_is refl turned turn)
      by_value (Some call) turn moved known = subst (λ m. IsAsked oracle s d m t) (sym (known ∙ ap leaves turn)) (turn_called oracle s s t d (call_told s d answer) call_is refl turned call turn)

      by_answer : (shown : Result CallAnswer UnresolvedMacro) → answer ≡ shown → (moved : Bool) → moved ≡ leaves (call_told s d answer).turn → IsAsked oracle s d moved t
      by_answer (Ok told) is moved known = by_value told.value (ap (λ a. (call_told s d a).turn) is) moved known
      by_answer (Err unresolved) is moved known = by_value None (ap (λ a. (call_told s d a).turn) is) moved known

      -- a call is asked
      pub turn_answered : (moved : Bool) → moved ≡ leaves (call_told s d answer).turn → IsAsked oracle s d moved t
      turn_answered moved known = by_answer answer refl moved known

  module _ (written : WrittenAttr) (kind : d.kind ≡ Attr written) where
    -- an item is told by whether its attribute is a helper
    pub item_is : (helper : Bool) → helper ≡ is_helper s d.position written.attr → told oracle s d ≡ item_told oracle s d written helper
    item_is helper is = ap (told_by oracle s d) kind ∙ ap (item_told oracle s d written) (sym is)

    -- else by the attribute's macro
    pub attr_is : (helper : Bool) → helper ≡ is_helper s d.position written.attr → helper ≡ false → (w : World) (found : Option MacroDefId) → w ≡ world oracle s → found ≡ attr_macro w d.scope written.attr
        → told oracle s d ≡ attr_told oracle s d written found
    attr_is helper is none w found same finds =
        item_is helper is
        ∙ ap (item_told oracle s d written) none
        ∙ ap (attr_told oracle s d written) (sym (finds ∙ ap (λ x. attr_macro x d.scope written.attr) same))

    -- and by what that does
    pub use_is : (found : MacroDefId) (known : Option MacroDefId) (role : AttrUse) → told oracle s d ≡ attr_told oracle s d written known → known ≡ Some found → attr_use oracle s.map.id.krate found.kind ≡ role
        → told oracle s d ≡ use_told oracle s d written found role
    use_is found known role is some does = is ∙ ap (attr_told oracle s d written) some ∙ ap (use_told oracle s d written found) does
