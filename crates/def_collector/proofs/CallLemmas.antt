-- A macro call once it is answered.
use Rattle.std.proofs.Common.{◌≡◌, ℕ, List, [], ◌∷◌, None, Some, Ok, sym, ap, ◌∙◌}
use Rattle.tree_ids.specs.declared.ids.MacroCallId.{MacroCallId}
use Rattle.item_tree.specs.declared.items.ItemNode.{ItemNode}
use Rattle.def_map.specs.Oracle.{Oracle}
use Rattle.def_oracle.specs.declared.source_database.CallAnswer.{CallAnswer}
use Rattle.def_rules.specs.Calls.{answered_effect, expansion_at, expansion_effect, made_effect, queued, told_effect, with_invocations}
use Rattle.def_rules.specs.Items.{position_of}
use Rattle.def_rules.specs.State.{State, followed_by, only, Site, Task}
use Rattle.def_rules.specs.Waiting.{FnLike, WrittenCall}
use Rattle.def_laws.specs.Performs.{IsDone}
use Rattle.def_laws.proofs.CallsLaws.{left_done}

module _ (oracle : Oracle) (s t : State) (site : Site) (item : ItemNode) (written : WrittenCall) (answer : CallAnswer) where
  -- the state in which the calls for its arguments are recorded
  abbrev pub recorded : State
  recorded = with_invocations s site.scope answer.inner

  -- a call with an error waits
  pub answered_waits : (error : ℕ) → answer.err ≡ Some error → t ≡ queued recorded site item (FnLike written) → IsDone oracle (answered_effect oracle s site item written (Ok answer)) t []
  answered_waits error is after = left_done oracle (answered_effect oracle s site item written (Ok answer)) t [] (ap (told_effect oracle recorded site item written answer.value) is ∙ ap only (sym after))

  -- without one it is final, and may give nothing
  pub answered_nothing : answer.err ≡ None → answer.value ≡ None → t ≡ recorded → IsDone oracle (answered_effect oracle s site item written (Ok answer)) t []
  answered_nothing fine none after =
      left_done oracle (answered_effect oracle s site item written (Ok answer)) t []
      (ap (told_effect oracle recorded site item written answer.value) fine ∙ ap (made_effect oracle recorded site item) none ∙ ap only (sym after))

  -- or a call, which is expanded
  pub answered_opens : (call : MacroCallId) (inner : List Task) (begun : State) → answer.err ≡ None → answer.value ≡ Some call → t ≡ with_invocations recorded site.scope ((position_of site item, call) ∷ [])
      → expansion_effect oracle t (expansion_at site call) ≡ followed_by begun inner → IsDone oracle (answered_effect oracle s site item written (Ok answer)) begun inner
  answered_opens call inner begun fine is after opened =
      left_done oracle (answered_effect oracle s site item written (Ok answer)) begun inner
      (ap (told_effect oracle recorded site item written answer.value) fine ∙ ap (made_effect oracle recorded site item) is ∙ ap (λ u. expansion_effect oracle u (expansion_at site call)) (sym after) ∙ opened)
