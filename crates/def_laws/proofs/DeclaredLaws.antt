-- Declarations stand at their places along runs.
use Rattle.std.proofs.Common.{◌≡◌, ◌⊎◌, ◌&&◌, inl, inr, Bool, true, false, List, [], ◌∷◌, ◌++◌, Option, Some, None, Contains, refl, sym, ap, ◌∙◌, subst, append-nil}
use Rattle.std.proofs.lemmas.Bool.{and_parts}
use Rattle.std.proofs.lemmas.List.Elements.{Contains-append_left, Contains-push}
use Rattle.tree_ids.specs.declared.name.Name.{Name}
use Rattle.def_ids.specs.declared.ids.FunctionId.{FunctionId}
use Rattle.def_ids.specs.declared.ids.GlobId.{GlobId}
use Rattle.def_ids.specs.declared.ids.ModuleId.{ModuleId}
use Rattle.def_ids.specs.Ids.{is_same_module}
use Rattle.def_bindings.specs.declared.bindings.Binding.{Binding}
use Rattle.def_bindings.specs.declared.bindings.EdgeTo.{EdgeTo}
use Rattle.def_bindings.specs.declared.bindings.Entry.{Entry}
use Rattle.def_bindings.specs.declared.bindings.Namespace.{Namespace}
use Rattle.def_bindings.specs.declared.bindings.Namespace.TheVariants.{Values}
use Rattle.def_bindings.specs.declared.visibility.Visibility.{Visibility}
use Rattle.def_bindings.specs.Content.{Content, empty, is_name, is_namespace, without_binding}
use Rattle.def_bindings.specs.IdLaws.{name-eq, namespace-eq, same_module_equal}
use Rattle.def_bindings.specs.Order.{Order}
use Rattle.def_bindings.specs.Puts.{IsExplicit, glob_of, offered, put_entry}
use Rattle.def_bindings.specs.PutsLaws.{explicit_stays-put_entry, explicit_after-put_entry, explicit_from-put_entry, explicit_from-copied}
use Rattle.def_oracle.specs.Oracle.{Oracle}
use Rattle.def_globs.specs.Globs.{with_recorded}
use Rattle.def_rules.specs.Imports.{answer_now, is_foreign}
use Rattle.def_rules.specs.Recording.{ImportStep}
use Rattle.def_rules.specs.Settled.{IsDeclared, NoneTakenOut, WasPut}
use Rattle.def_rules.specs.State.{State, Effect, Event, PutExplicit, Recorded, TookOut, Import, Moment, order}
use Rattle.def_rules.specs.Steps.{Copies, Reaches, Step, event_of, put_event}
use Rattle.def_laws.proofs.ListLaws.{not_empty, split_last}
use Rattle.def_laws.proofs.MovesLaws.{Move, putting, linking, taking, doing, calling, copying, ordering, sorting, recording, move_of}
use Rattle.def_laws.proofs.RunsLaws.{kept_along}
use Rattle.def_laws.proofs.StaysLaws.{copies_keep}
use Rattle.def_laws.proofs.TakenLaws.{bound_earlier, bound_elsewhere}

-- an explicit binding stands at the place of one that was put: that one, or one that was put there before
record Stands (content : Content Visibility) (before : List Event) (at : ModuleId) (name : Name) (ns : Namespace) (held : Binding Visibility) : Type 0 where
  now : Binding Visibility
  is_bound : content.binding at name ns ≡ Some now
  explicit : IsExplicit now.import
  came : (now ≡ held) ⊎ Contains before (PutExplicit at name ns now)

-- an explicit binding stands at the place of the one that this event put
abbrev StandsFor : Content Visibility → List Event → Event → Type 0
StandsFor content before (PutExplicit at name ns held) = Stands content before at name ns held
StandsFor content before (Recorded p foreign) = Unit {0}
StandsFor content before (TookOut at name function) = Unit {0}

-- each explicit binding was put, and each that was put stands
record Declares (events : List Event) (content : Content Visibility) : Type 0 where
  known : (at : ModuleId) (name : Name) (ns : Namespace) (held : Binding Visibility) → content.binding at name ns ≡ Some held → IsExplicit held.import → Contains events (PutExplicit at name ns held)
  declared : (before after : List Event) (at : ModuleId) (name : Name) (ns : Namespace) (held : Binding Visibility) → events ≡ before ++ PutExplicit at name ns held ∷ after → NoneTakenOut after at name ns
      → Stands content before at name ns held

-- of fewer events none takes a function out of a place
none_before : (rest more after : List Event) → after ≡ rest ++ more → (at : ModuleId) (name : Name) (ns : Namespace) → NoneTakenOut after at name ns → NoneTakenOut rest at name ns
none_before rest more after is at name ns none values function taken = none values function (subst (λ es. Contains es (TookOut at name function)) (sym is) (Contains-append_left rest more _ taken))

-- what stands, as it is stated of the end
is_declared : (events : List Event) (content : Content Visibility) → Declares events content → IsDeclared events content
is_declared events content all before after at name ns held happened none =
    let stands = all.declared before after at name ns held happened none in
    (stands.now, stands.is_bound, stands.came)

-- what stands still stands where explicit bindings stay
still_stands : (old new : Content Visibility) (before : List Event) (at : ModuleId) (name : Name) (ns : Namespace) (held : Binding Visibility)
    → ((b : Binding Visibility) → old.binding at name ns ≡ Some b → IsExplicit b.import → new.binding at name ns ≡ Some b) → Stands old before at name ns held → Stands new before at name ns held
still_stands old new before at name ns held stay stands = record { now = stands.now; is_bound = stay stands.now stands.is_bound stands.explicit; explicit = stands.explicit; came = stands.came }

recorded_apart : (events before after : List Event) (p : Import) (foreign : Bool) (at : ModuleId) (name : Name) (ns : Namespace) (held : Binding Visibility)
    → events ++ Recorded p foreign ∷ [] ≡ before ++ PutExplicit at name ns held ∷ after → (rest : List Event) × (events ≡ before ++ PutExplicit at name ns held ∷ rest) × (after ≡ rest ++ Recorded p foreign ∷ [])
recorded_apart events before after p foreign at name ns held e =
    elim (split_last events before after (Recorded p foreign) (PutExplicit at name ns held) e) [
      | inl more ↦ more
      | inr last ↦ absurd (cc last.1)
    ]

-- a recorded import is no put
declares-recorded : (events : List Event) (content : Content Visibility) (p : Import) (foreign : Bool) → Declares events content → Declares (events ++ Recorded p foreign ∷ []) content
declares-recorded events content p foreign all =
    record {
      known = λ at name ns held there explicit. Contains-append_left events (Recorded p foreign ∷ []) _ (all.known at name ns held there explicit);
      declared = λ before after at name ns held happened none. let earlier = recorded_apart events before after p foreign at name ns held happened in
          all.declared before earlier.0 at name ns held earlier.1 (none_before earlier.0 (Recorded p foreign ∷ []) after earlier.2 at name ns none);
    }

-- what is copied is not explicit
declares-copied : (s : State) (events : List Event) (content : Content Visibility) → Copies s content → Declares events s.content → Declares events content
declares-copied s events content copy all =
    record {
      known = λ at name ns held there explicit. all.known at name ns held (explicit_from-copied (order s) copy.source copy.edge copy.slot s.content at name ns held (ap (λ (c : Content Visibility). c.binding at name ns) (sym copy.after) ∙ there) explicit) explicit;
      declared = λ before after at name ns held happened none. still_stands s.content content before at name ns held (λ b there explicit. copies_keep s content copy at name ns b there explicit) (all.declared before after at name ns held happened none);
    }

module _ (o : Order Visibility) (place : ModuleId) (entry : Entry Visibility) (events : List Event) (c : Content Visibility) (all : Declares events c) where
  -- a put that is not explicit, or has no name
  declares-unnoted : ((at : ModuleId) (name : Name) (ns : Namespace) (held : Binding Visibility) → (put_entry o place entry c).binding at name ns ≡ Some held → IsExplicit held.import → c.binding at name ns ≡ Some held)
      → Declares (events ++ []) (put_entry o place entry c)
  declares-unnoted from =
      subst (λ es. Declares es (put_entry o place entry c)) (sym (append-nil events))
      (record {
        known = λ at name ns held there explicit. all.known at name ns held (from at name ns held there explicit) explicit;
        declared = λ before after at name ns held happened none. still_stands c (put_entry o place entry c) before at name ns held (λ b there explicit. explicit_stays-put_entry o place entry c at name ns b there explicit) (all.declared before after at name ns held happened none);
      })

  -- what stands at the place of an explicit entry once it is put
  stands_new : (name : Name) → entry.name ≡ Some name → IsExplicit entry.origin → (there : Option (Binding Visibility)) → c.binding place name entry.ns ≡ there
      → Stands (put_entry o place entry c) events place name entry.ns (offered entry)
  stands_new name named explicit None is =
      record { now = offered entry; is_bound = explicit_after-put_entry o place entry name c named explicit (λ b there e. cc); explicit = explicit; came = inl refl }
  stands_new name named explicit (Some b) is = by_glob (glob_of b.import) refl
    where
      by_glob : (g : Option GlobId) → glob_of b.import ≡ g → Stands (put_entry o place entry c) events place name entry.ns (offered entry)
      by_glob None own =
          record { now = b; is_bound = explicit_stays-put_entry o place entry c place name entry.ns b is own; explicit = own; came = inr (all.known place name entry.ns b is own) }
      by_glob (Some g) by =
          record {
            now = offered entry;
            is_bound = explicit_after-put_entry o place entry name c named explicit (λ d there e. let same : b ≡ d = cc in let wrong : Some g ≡ None = sym by ∙ ap (λ (x : Binding Visibility). glob_of x.import) same ∙ e in cc);
            explicit = explicit;
            came = inl refl;
          }

  noted : (g : Option GlobId) (n : Option Name) → glob_of entry.origin ≡ g → entry.name ≡ n → Declares (events ++ event_of place entry g n) (put_entry o place entry c)
  noted (Some g) n by is =
      declares-unnoted (λ at name ns held there explicit.
      elim (explicit_from-put_entry o place entry c at name ns held there explicit) [
        | inl before ↦ before
        | inr new ↦ let same : held ≡ offered entry = new.3 in let wrong : Some g ≡ None = sym by ∙ ap (λ (b : Binding Visibility). glob_of b.import) (sym same) ∙ explicit in cc
      ])
  noted None None by is =
      declares-unnoted (λ at name ns held there explicit.
      elim (explicit_from-put_entry o place entry c at name ns held there explicit) [
        | inl before ↦ before
        | inr new ↦ let wrong : None ≡ Some name = sym is ∙ new.1 in cc
      ])
  noted None (Some n) by is =
      record {
        known = λ at name ns held there explicit.
            elim (explicit_from-put_entry o place entry c at name ns held there explicit) [
              | inl before ↦ Contains-append_left events (event ∷ []) _ (all.known at name ns held before explicit)
              | inr new ↦ subst (λ e. Contains (events ++ event ∷ []) e) (same_event at name ns held new.0 (sym is ∙ new.1) new.2 new.3) (Contains-push events event)
            ];
        declared = λ before after at name ns held happened none.
            elim (split_last events before after event (PutExplicit at name ns held) happened) [
              | inl more ↦ still_stands c new_content before at name ns held (λ b there explicit. explicit_stays-put_entry o place entry c at name ns b there explicit)
                  (all.declared before more.0 at name ns held more.1 (none_before more.0 (event ∷ []) after more.2 at name ns none))
              | inr last ↦ last_stands before at name ns held last.0 last.1
            ];
      }
    where
      event : Event
      event = PutExplicit place n entry.ns (offered entry)

      new_content : Content Visibility
      new_content = put_entry o place entry c

      same_event : (at : ModuleId) (name : Name) (ns : Namespace) (held : Binding Visibility) → at ≡ place → Some n ≡ Some name → ns ≡ entry.ns → held ≡ offered entry → event ≡ PutExplicit at name ns held
      same_event at name ns held p q r h = let same : n ≡ name = cc in cc

      last_stands : (before : List Event) (at : ModuleId) (name : Name) (ns : Namespace) (held : Binding Visibility) → before ≡ events → event ≡ PutExplicit at name ns held → Stands new_content before at name ns held
      last_stands before at name ns held p q =
          subst (λ e. StandsFor new_content before e) q (subst (λ es. Stands new_content es place n entry.ns (offered entry)) (sym p) (stands_new n is by (c.binding place n entry.ns) refl))

  -- an entry is put
  declares-put : Declares (events ++ put_event place entry) (put_entry o place entry c)
  declares-put = noted (glob_of entry.origin) entry.name refl refl

declares-same : (events es : List Event) (old new : Content Visibility) → es ≡ [] → new ≡ old → Declares events old → Declares (events ++ es) new
declares-same events es old new none same all =
    subst (λ x. Declares (events ++ x) new) (sym none) (subst (λ x. Declares x new) (sym (append-nil events)) (subst (λ c. Declares events c) (sym same) all))

-- an added edge binds nothing
declares-edge : (events : List Event) (o : Order Visibility) (source : ModuleId) (edge : EdgeTo Visibility) (c : Content Visibility) → Declares events c → Declares (events ++ []) (with_recorded o c source edge)
declares-edge events o source edge c all =
    subst (λ es. Declares es (with_recorded o c source edge)) (sym (append-nil events))
    (record {
      known = λ at name ns held there explicit. all.known at name ns held there explicit;
      declared = λ before after at name ns held happened none. still_stands c (with_recorded o c source edge) before at name ns held (λ b there explicit. there) (all.declared before after at name ns held happened none);
    })

-- a function that is taken out counts no longer, and all else stands as it did
module _ (events : List Event) (c : Content Visibility) (at : ModuleId) (name : Name) (function : FunctionId) (all : Declares events c) where
  abbrev outgoing : Event
  outgoing = TookOut at name function

  abbrev left : Content Visibility
  left = without_binding c at name Values

  -- at a place that nothing was taken out of since
  stays_elsewhere : (rest after : List Event) → after ≡ rest ++ outgoing ∷ [] → (m : ModuleId) (x : Name) (n : Namespace) → NoneTakenOut after m x n
      → (b : Binding Visibility) → c.binding m x n ≡ Some b → IsExplicit b.import → left.binding m x n ≡ Some b
  stays_elsewhere rest after is m x n none b there explicit = by (is_same_module at m && (is_name name x && is_namespace Values n)) refl
    where
      by : (here : Bool) → (is_same_module at m && (is_name name x && is_namespace Values n)) ≡ here → left.binding m x n ≡ Some b
      by false apart = bound_elsewhere c at name Values m x n apart ∙ there
      by true here =
          let first = and_parts (is_same_module at m) _ here in
          let second = and_parts (is_name name x) (is_namespace Values n) first.1 in
          let happened : Contains after outgoing = subst (λ es. Contains es outgoing) (sym is) (Contains-push rest outgoing) in
          absurd (none (sym (namespace-eq Values n second.1)) function
          (subst (λ z. Contains after (TookOut z x function)) (same_module_equal at m first.0) (subst (λ z. Contains after (TookOut at z function)) (name-eq name x second.0) happened)))

  declares-taken : Declares (events ++ outgoing ∷ []) left
  declares-taken =
      record {
        known = λ m x n held there explicit. Contains-append_left events (outgoing ∷ []) _ (all.known m x n held (bound_earlier c at name Values m x n held there) explicit);
        declared = λ before after m x n held happened none.
            elim (split_last events before after outgoing (PutExplicit m x n held) happened) [
              | inl more ↦ still_stands c left before m x n held (stays_elsewhere more.0 after more.2 m x n none) (all.declared before more.0 m x n held more.1 (none_before more.0 (outgoing ∷ []) after more.2 m x n none))
              | inr last ↦ absurd (cc last.1)
            ];
      }

-- Each step keeps what is declared

declares-import : (oracle : Oracle) (events : List Event) (s : State) (effect : Effect) → ImportStep oracle s effect → Declares events s.content → Declares (events ++ effect.events) effect.state.content
declares-import oracle events s effect step all =
    subst (λ (e : Effect). Declares (events ++ e.events) e.state.content) (sym step.is) (declares-recorded events s.content step.directive.import (is_foreign (answer_now oracle s step.directive.import)) all)

-- what is declared at a moment
abbrev DeclaresAt : Moment → Type 0
DeclaresAt m = Declares m.events m.state.content

declares-move : {oracle : Oracle} (a b : Moment) → Move oracle a b → DeclaresAt a → DeclaresAt b
declares-move a b (putting place entry rest first is) all = subst DeclaresAt (sym is) (declares-put (order a.state) place entry a.events a.state.content all)
declares-move a b (linking source edge rest first is) all = subst DeclaresAt (sym is) (declares-edge a.events (order a.state) source edge a.state.content all)
declares-move a b (taking at name function rest held first out there of is) all = subst DeclaresAt (sym is) (declares-taken a.events a.state.content at name function all)
declares-move a b (doing gone rest scope depth macros expansions deferred inner effect first still own fewer foot is) all = subst DeclaresAt (sym is) (declares-same a.events effect.events a.state.content effect.state.content foot.events foot.content all)
declares-move a b (calling idle is) all = subst DeclaresAt (sym is) (declares-same a.events [] a.state.content a.state.content refl refl all)
declares-move a b (copying content copy is) all = subst DeclaresAt (sym is) (declares-copied a.state a.events content copy all)
declares-move a b (ordering macros same is) all = subst DeclaresAt (sym is) all
declares-move a b (sorting state same is) all = subst DeclaresAt (sym is) (subst (λ (s : State). Declares a.events s.content) (sym same.rest) all)
declares-move {oracle} a b (recording effect idle step is) all = subst DeclaresAt (sym is) (declares-import oracle a.events a.state effect step all)

declares-step : {oracle : Oracle} (a b : Moment) → Step oracle a b → DeclaresAt a → DeclaresAt b
declares-step a b step all = declares-move a b (move_of a b step) all

declares_nothing : Declares [] empty
declares_nothing = record { known = λ at name ns held there explicit. cc; declared = λ before after at name ns held happened none. absurd (not_empty before after _ happened) }

declares_along : {oracle : Oracle} {a b : Moment} → Reaches oracle a b → a.events ≡ [] → a.state.content ≡ empty → DeclaresAt b
declares_along {oracle} {a} {b} r none nothing =
    let begins : DeclaresAt a = subst (λ es. Declares es a.state.content) (sym none) (subst (λ c. Declares [] c) (sym nothing) declares_nothing) in
    kept_along {oracle = oracle} DeclaresAt (declares-step {oracle = oracle}) r begins

-- each explicit binding that was put stands, or what was put there before it, after a run from nothing
pub declared_along : {oracle : Oracle} {a b : Moment} → Reaches oracle a b → a.events ≡ [] → a.state.content ≡ empty → IsDeclared b.events b.state.content
declared_along {oracle} {a} {b} r none nothing = is_declared b.events b.state.content (declares_along {oracle = oracle} r none nothing)

-- each explicit binding that stands was put, after a run from nothing
pub was_put_along : {oracle : Oracle} {a b : Moment} → Reaches oracle a b → a.events ≡ [] → a.state.content ≡ empty → WasPut b.events b.state.content
was_put_along {oracle} {a} {b} r none nothing = (declares_along {oracle = oracle} {a = a} {b = b} r none nothing).known
