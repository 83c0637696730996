-- Explicit bindings stay over all runs, but for functions of procedural macros.
use Rattle.std.proofs.Common.{◌≡◌, ◌⊎◌, ◌∙◌, ◌++◌, ◌&&◌, inl, inr, Bool, true, false, List, [], ◌∷◌, Some, Contains, refl, sym, ap, subst, append-nil, append_assoc}
use Rattle.std.proofs.lemmas.Bool.{and_parts}
use Rattle.std.proofs.lemmas.List.Elements.{Contains-append_left, Contains-append_right, Contains-push}
use Rattle.tree_ids.specs.declared.name.Name.{Name}
use Rattle.def_ids.specs.declared.ids.Def.TheVariants as def
use Rattle.def_ids.specs.declared.ids.FunctionId.{FunctionId}
use Rattle.def_ids.specs.declared.ids.ModuleId.{ModuleId}
use Rattle.def_ids.specs.Ids.{is_same_module}
use Rattle.def_bindings.specs.declared.bindings.Binding.{Binding}
use Rattle.def_bindings.specs.declared.bindings.Namespace.{Namespace}
use Rattle.def_bindings.specs.declared.bindings.Namespace.TheVariants.{Values}
use Rattle.def_bindings.specs.declared.visibility.Visibility.{Visibility}
use Rattle.def_bindings.specs.Content.{Content, is_name, is_namespace, without_binding}
use Rattle.def_bindings.specs.IdLaws.{name-eq, namespace-eq, same_module_equal}
use Rattle.def_bindings.specs.Puts.{IsExplicit}
use Rattle.def_bindings.specs.PutsLaws.{explicit_stays-put_entry, explicit_stays-copied}
use Rattle.def_oracle.specs.Oracle.{Oracle}
use Rattle.def_rules.specs.Recording.{ImportStep}
use Rattle.def_rules.specs.Settled.{ExplicitStays, WasTakenOut}
use Rattle.def_rules.specs.State.{State, Effect, Event, TookOut, Moment, Task, after, noting, only, order, with_content}
use Rattle.def_rules.specs.Steps.{Copies, Reaches, Step, put_event}
use Rattle.def_rules.specs.Targets.{leaves_out}
use Rattle.def_laws.proofs.LeftOutLaws.{LeavesAlike, alike_refl, leaves_alike, move_alike}
use Rattle.def_laws.proofs.MovesLaws.{Move, putting, linking, taking, doing, calling, copying, ordering, sorting, recording, move_of}
use Rattle.def_laws.proofs.RunsLaws.{along}
use Rattle.def_laws.proofs.TakenLaws.{bound_elsewhere}

-- explicit bindings stay from one table to another
abbrev KeepsExplicit : Content Visibility → Content Visibility → Type 0
KeepsExplicit old new = (at : ModuleId) (name : Name) (ns : Namespace) (held : Binding Visibility) → old.binding at name ns ≡ Some held → IsExplicit held.import → new.binding at name ns ≡ Some held

same_keeps : (old new : Content Visibility) → new ≡ old → KeepsExplicit old new
same_keeps old new same at name ns held there explicit = ap (λ (c : Content Visibility). c.binding at name ns) same ∙ there

-- a recorded import leaves the table as it is
import_content : (oracle : Oracle) (s : State) (effect : Effect) → ImportStep oracle s effect → effect.state.content ≡ s.content
import_content oracle s effect step = ap (λ (e : Effect). e.state.content) step.is

-- a copy keeps explicit bindings
pub copies_keep : (s : State) (content : Content Visibility) → Copies s content → KeepsExplicit s.content content
copies_keep s content copy =
    subst (λ c. KeepsExplicit s.content c) (sym copy.after) (λ at name ns held there explicit. explicit_stays-copied (order s) copy.source copy.edge copy.slot s.content at name ns held there explicit)

-- what happens from one moment to another: events join, the same modules are left out, and explicit bindings stay
record Keeps (a b : Moment) : Type 0 where
  events : List Event
  later : b.events ≡ a.events ++ events
  alike : LeavesAlike a.state b.state
  stay : ExplicitStays a b

-- where all explicit bindings stay
keeps_all : (a b : Moment) (events : List Event) → b.events ≡ a.events ++ events → LeavesAlike a.state b.state → KeepsExplicit a.state.content b.state.content → Keeps a b
keeps_all a b events later alike keeps = record { events = events; later = later; alike = alike; stay = λ at name ns held there explicit. inl (keeps at name ns held there explicit) }

-- the function that is taken out goes, and all else stays
keeps_taking : (a : Moment) (at : ModuleId) (name : Name) (function : FunctionId) (rest : List Task) (held : Binding Visibility) → leaves_out a.state at ≡ true → a.state.content.binding at name Values ≡ Some held → held.def ≡ def.Function function
    → Keeps a (after a rest (noting (TookOut at name function) (only (with_content a.state (without_binding a.state.content at name Values)))))
keeps_taking a at name function rest held out there of =
    record { events = gone ∷ []; later = refl; alike = record { is_proc_macro = refl; id = refl }; stay = λ m x n was bound explicit. by m x n was bound (is_same_module at m && (is_name name x && is_namespace Values n)) refl }
  where
    gone : Event
    gone = TookOut at name function

    b : Moment
    b = after a rest (noting gone (only (with_content a.state (without_binding a.state.content at name Values))))

    by : (m : ModuleId) (x : Name) (n : Namespace) (was : Binding Visibility) → a.state.content.binding m x n ≡ Some was → (here : Bool) → (is_same_module at m && (is_name name x && is_namespace Values n)) ≡ here
        → (b.state.content.binding m x n ≡ Some was) ⊎ WasTakenOut a b m x n was.def
    by m x n was bound false apart = inl (bound_elsewhere a.state.content at name Values m x n apart ∙ bound)
    by m x n was bound true here =
        let first = and_parts (is_same_module at m) _ here in
        let second = and_parts (is_name name x) (is_namespace Values n) first.1 in
        let in_module : at ≡ m = same_module_equal at m first.0 in
        let of_name : name ≡ x = name-eq name x second.0 in
        let in_ns : Values ≡ n = namespace-eq Values n second.1 in
        let known : a.state.content.binding at name Values ≡ Some was =
        subst (λ z. a.state.content.binding z name Values ≡ Some was) (sym in_module) (subst (λ z. a.state.content.binding m z Values ≡ Some was) (sym of_name) (subst (λ z. a.state.content.binding m x z ≡ Some was) (sym in_ns) bound)) in
        let both : Some held ≡ Some was = sym there ∙ known in
        let same : held ≡ was = cc in
        inr (record {
          function = function;
          is = ap (λ (h : Binding Visibility). h.def) (sym same) ∙ of;
          in_values = sym in_ns;
          in_root = subst (λ z. leaves_out a.state z ≡ true) in_module out;
          events = gone ∷ [];
          later = refl;
          taken = subst (λ z. Contains (gone ∷ []) (TookOut z x function)) in_module (subst (λ z. Contains (gone ∷ []) (TookOut at z function)) of_name (Contains-push [] gone));
        })

-- so one moment after another
keeps_trans : (a b c : Moment) → Keeps a b → Keeps b c → Keeps a c
keeps_trans a b c p q =
    record {
      events = p.events ++ q.events;
      later = q.later ∙ ap (λ es. es ++ q.events) p.later ∙ append_assoc a.events p.events q.events;
      alike = record { is_proc_macro = q.alike.is_proc_macro ∙ p.alike.is_proc_macro; id = q.alike.id ∙ p.alike.id };
      stay = λ at name ns held there explicit. elim (p.stay at name ns held there explicit) [
        | inl stays ↦ elim (q.stay at name ns held stays explicit) [
          | inl on ↦ inl on
          | inr taken ↦ inr (record {
            function = taken.function;
            is = taken.is;
            in_values = taken.in_values;
            in_root = taken.in_root;
            events = p.events ++ taken.events;
            later = taken.later ∙ ap (λ es. es ++ taken.events) p.later ∙ append_assoc a.events p.events taken.events;
            taken = Contains-append_right p.events taken.events _ taken.taken;
          })
        ]
        | inr taken ↦ inr (record {
          function = taken.function;
          is = taken.is;
          in_values = taken.in_values;
          in_root = leaves_alike q.alike at ∙ taken.in_root;
          events = taken.events ++ q.events;
          later = q.later ∙ ap (λ es. es ++ q.events) taken.later ∙ append_assoc a.events taken.events q.events;
          taken = Contains-append_left taken.events q.events _ taken.taken;
        })
      ];
    }

module _ {oracle : Oracle} (a b : Moment) where
  -- by a move that takes nothing out
  keeps_move : Move oracle a b → (events : List Event) → b.events ≡ a.events ++ events → KeepsExplicit a.state.content b.state.content → Keeps a b
  keeps_move move events later keeps = keeps_all a b events later (move_alike a b move) keeps

  move_keeps : Move oracle a b → Keeps a b
  move_keeps (putting place entry rest first is) =
      keeps_move (putting place entry rest first is) (put_event place entry) (ap (λ (m : Moment). m.events) is)
      (subst (λ (m : Moment). KeepsExplicit a.state.content m.state.content) (sym is) (λ at name ns held there explicit. explicit_stays-put_entry (order a.state) place entry a.state.content at name ns held there explicit))
  move_keeps (linking source edge rest first is) =
      keeps_move (linking source edge rest first is) [] (ap (λ (m : Moment). m.events) is) (subst (λ (m : Moment). KeepsExplicit a.state.content m.state.content) (sym is) (λ at name ns held there explicit. there))
  move_keeps (taking at name function rest held first out there of is) = subst (λ (m : Moment). Keeps a m) (sym is) (keeps_taking a at name function rest held out there of)
  move_keeps (doing gone rest scope depth macros expansions deferred inner effect first still own fewer foot is) =
      keeps_move (doing gone rest scope depth macros expansions deferred inner effect first still own fewer foot is) effect.events (ap (λ (m : Moment). m.events) is)
      (subst (λ (m : Moment). KeepsExplicit a.state.content m.state.content) (sym is) (same_keeps a.state.content effect.state.content foot.content))
  move_keeps (calling idle is) =
      keeps_move (calling idle is) [] (ap (λ (m : Moment). m.events) is) (subst (λ (m : Moment). KeepsExplicit a.state.content m.state.content) (sym is) (λ at name ns held there explicit. there))
  move_keeps (copying content copy is) =
      keeps_move (copying content copy is) [] (ap (λ (m : Moment). m.events) is ∙ sym (append-nil a.events)) (subst (λ (m : Moment). KeepsExplicit a.state.content m.state.content) (sym is) (copies_keep a.state content copy))
  move_keeps (ordering macros same is) =
      keeps_move (ordering macros same is) [] (ap (λ (m : Moment). m.events) is ∙ sym (append-nil a.events)) (subst (λ (m : Moment). KeepsExplicit a.state.content m.state.content) (sym is) (λ at name ns held there explicit. there))
  move_keeps (sorting state same is) =
      keeps_move (sorting state same is) [] (ap (λ (m : Moment). m.events) is ∙ sym (append-nil a.events))
      (subst (λ (m : Moment). KeepsExplicit a.state.content m.state.content) (sym is) (same_keeps a.state.content state.content (ap (λ (s : State). s.content) same.rest)))
  move_keeps (recording effect idle step is) =
      keeps_move (recording effect idle step is) effect.events (ap (λ (m : Moment). m.events) is)
      (subst (λ (m : Moment). KeepsExplicit a.state.content m.state.content) (sym is) (same_keeps a.state.content effect.state.content (import_content oracle a.state effect step)))

-- between any two moments of any run
keeps_along : {oracle : Oracle} {a b : Moment} → Reaches oracle a b → Keeps a b
keeps_along {oracle} r =
    along {oracle = oracle} Keeps (λ a. keeps_all a a [] (sym (append-nil a.events)) (alike_refl a.state) (λ at name ns held there explicit. there)) (λ a b step. move_keeps a b (move_of a b step)) keeps_trans r

-- explicit bindings stay between any two moments of any run
pub explicit_stays_along : {oracle : Oracle} {a b : Moment} → Reaches oracle a b → ExplicitStays a b
explicit_stays_along {oracle} r = (keeps_along {oracle = oracle} r).stay
