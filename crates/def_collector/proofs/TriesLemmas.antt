-- Turns of single imports, and what is known once none had one.
use Rattle.std.proofs.Common.{◌≡◌, ◌<◌, ◌≤◌, ◌&&◌, ◌||◌, ℕ, nat_lt, not, Bool, false, true, List, [], ◌++◌, Option, Some, None, option_and_then, slice_get, length, refl, sym, ap, subst, arith, ◌∙◌, IsPermutation, sum_by, IfSome, inl, inr}
use Rattle.std.proofs.lemmas.Bool.{cases_Bool, ltb-false}
use Rattle.std.proofs.lemmas.List.Elements.{All-contains}
use Rattle.std.proofs.lemmas.Option.{none-some, slice_get_past}
use Rattle.def_interner.specs.declared.interner.Interner.{Interner}
use Rattle.def_paths.specs.declared.path_result.ResolvePathResult.{ResolvePathResult}
use Rattle.def_map.specs.Oracle.{Oracle}
use Rattle.def_collector.specs.declared.collector.DefCollector.{DefCollector}
use Rattle.def_steps.specs.declared.directive.ImportDirective.{ImportDirective}
use Rattle.def_steps.specs.declared.import_lists.ImportAt.{ImportAt}
use Rattle.def_steps.specs.declared.import_lists.ImportList.{ImportList}
use Rattle.def_steps.specs.declared.import_lists.ImportList.TheVariants.{Unresolved, Indeterminate}
use Rattle.def_steps.specs.declared.import_lists.PendingImports.{PendingImports}
use Rattle.def_collector.specs.Collector.{state_of}
use Rattle.def_steps.specs.ImportLists.{IsRetired, import_at, numbers_in, pending}
use Rattle.def_steps.specs.Listed.{entry_in}
use Rattle.def_collector.specs.Passes.{IsUnready}
use Rattle.def_steps.specs.declared.directive.Import.{Import}
use Rattle.def_steps.specs.declared.directive.NamespaceSet.{NamespaceSet}
use Rattle.def_steps.specs.Shown.{directive_of, directives_kept, import_of, kept_of, kept_with, ns_set}
use Rattle.def_laws.specs.Turns.{Moves, turns_left, turns_of}
use Rattle.def_laws.specs.Performs.{Performs}
use Rattle.def_rules.specs.Imports.{answer_now, given_set, is_empty, is_extended, is_foreign, is_full, is_missing, is_ready, kept_after, kept_unless_full, union}
use Rattle.def_rules.specs.Recording.{NoneReady, kept_list, record_effect}
use Rattle.def_rules.specs.State as rules
use Rattle.def_rules.specs.State.{IsBare, NsSet, State}
use Rattle.def_laws.proofs.ImportsLaws.{moves_import}
use Rattle.def_steps.proofs.ListedLaws.{all-pending}

module _ (oracle : Oracle) (session : Interner) (c : DefCollector) where
  -- an import that gives nothing new is not ready
  pub unready_here : (at : ImportAt) (d : ImportDirective) (answer : ResolvePathResult) (ready : Bool) → import_at c.imports at ≡ Some d
      → answer ≡ answer_now oracle (state_of c session) (import_of d.import) → ready ≡ is_ready (ns_set d.recorded) answer → ready ≡ false → IsUnready oracle session c at
  unready_here at d answer ready here gives asks was d' here' =
      let same : d ≡ d' = cc in
      subst (λ x. is_ready (ns_set x.recorded) (answer_now oracle (state_of c session) (import_of x.import)) ≡ false) same
      (ap (is_ready (ns_set d.recorded)) (sym gives) ∙ sym asks ∙ was)

  -- at a place where none stands none is ready
  pub unready_left : (at : ImportAt) → import_at c.imports at ≡ None → IsUnready oracle session c at
  unready_left at left d here = absurd (none-some d (sym left ∙ here))

  -- nor behind the last place
  pub unready_past : (list : ImportList) (index : ℕ) → length (numbers_in list c.imports) ≤ index → IsUnready oracle session c (record { list = list; index = index })
  unready_past list index past =
      unready_left (record { list = list; index = index })
      (ap (option_and_then (λ number. option_and_then (entry_in list) (slice_get c.imports.directives.items number))) (slice_get_past (numbers_in list c.imports) index past))

-- one import stands at a place
pub same_import : (there : Option ImportDirective) (d e : ImportDirective) → there ≡ Some d → there ≡ Some e → d ≡ e
same_import there d e is is' = cc

-- what a recorded import puts leaves the turns
turns_by : (s t : State) → t.imports ≡ s.imports → turns_left t ≡ turns_left s
turns_by s t imports = λ i. sum_by turns_of (imports i)

pub turns_kept : (session : Interner) (old new : DefCollector) → new ≡ record old { def_map = new.def_map; table = new.table; targets = new.targets } → turns_left (state_of new session) ≡ turns_left (state_of old session)
turns_kept session old new frame =
    turns_by (state_of old session) (state_of new session) (ap (λ (x : DefCollector). pending x.imports) frame)

-- what stays of an import, as the rules list it
pub kept-list : (import : Import) (kept : Option NamespaceSet) → directives_kept (kept_with import kept) ≡ kept_list (import_of import) (kept_of kept)
kept-list import None = refl
kept-list import (Some recorded) = refl

-- what stays of an import that is ready was recorded from some namespace
recorded-some : (a b c x y z : Bool) → ((x && not a) || ((y && not b) || (z && not c))) ≡ true → not ((a || x) || ((b || y) || (c || z))) ≡ false
recorded-some true b c x y z more = refl
recorded-some false b c true y z more = refl
recorded-some false true c false y z more = refl
recorded-some false false c false true z more = refl
recorded-some false false true false false z more = refl
recorded-some false false false false false true more = refl
recorded-some false false false false false false more = absurd cc

extends-unless : (missing extended : Bool) → (not missing && (false || extended)) ≡ true → extended ≡ true
extends-unless true extended ready = absurd cc
extends-unless false extended ready = ready

pub kept-some : (recorded : NsSet) (answer : ResolvePathResult) (kept : Option NamespaceSet) → is_ready recorded answer ≡ true → kept_of kept ≡ kept_after recorded answer → IfSome kept (λ k. is_empty (ns_set k) ≡ false)
kept-some recorded answer None ready keeps = tt
kept-some recorded answer (Some k) ready keeps = elim (cases_Bool (is_foreign answer)) [
  | inl foreign ↦ let none : kept_of (Some k) ≡ None = keeps ∙ rw foreign refl in absurd cc
  | inr own ↦
      let all : NsSet = union recorded (given_set answer.resolved_def) in
      let given : NsSet = given_set answer.resolved_def in
      let stays : kept_of (Some k) ≡ kept_unless_full all = keeps ∙ rw own refl in
      let more : is_extended recorded given ≡ true = extends-unless (is_missing answer) (is_extended recorded given) (ap (λ b. not (is_missing answer) && (b || is_extended recorded given)) (sym own) ∙ ready) in
      let empty : is_empty all ≡ false = recorded-some recorded.types recorded.values recorded.macros given.types given.values given.macros more in
      elim (cases_Bool (is_full all)) [
        | inl full ↦ let none : kept_of (Some k) ≡ None = stays ∙ rw full refl in absurd cc
        | inr part ↦ let same : Some (ns_set k) ≡ Some all = stays ∙ rw part refl in let is : ns_set k ≡ all = cc in ap is_empty is ∙ empty
      ]
]

-- an import left its place, stays among the others if it may be recorded again, and was recorded
pub moved : (oracle : Oracle) (session : Interner) (old new kept : DefCollector) (d : ImportDirective) (answer : ResolvePathResult) (ready : Bool) (stays : Option ImportDirective)
    → IsBare (state_of old session)
    → answer ≡ answer_now oracle (state_of old session) (import_of d.import)
    → ready ≡ is_ready (ns_set d.recorded) answer → ready ≡ true
    → directives_kept stays ≡ kept_list (import_of d.import) (kept_after (ns_set d.recorded) answer)
    → kept ≡ record old { imports = kept.imports }
    → IsRetired (state_of old session).imports (directive_of d) (directives_kept stays) (state_of kept session).imports
    → (let effect = record_effect oracle (state_of kept session) (import_of d.import) answer in Performs oracle effect.tasks effect.state (state_of new session))
    → turns_left (state_of new session) ≡ turns_left (state_of kept session)
    → Moves oracle (state_of old session) (state_of new session)
moved oracle session old new kept d answer ready stays bare gives asks was keeps frame retired became turns =
    moves_import oracle s (state_of new session) (directive_of d) retired.rest imports bare retired.stands left again after turns
  where
    s : State
    s = state_of old session

    imports : List rules.ImportDirective
    imports = (state_of kept session).imports

    left : IsPermutation (retired.rest ++ kept_list (import_of d.import) (kept_after (ns_set d.recorded) (answer_now oracle s (import_of d.import)))) imports
    left = subst (λ l. IsPermutation (retired.rest ++ l) imports) (keeps ∙ ap (λ a. kept_list (import_of d.import) (kept_after (ns_set d.recorded) a)) gives) retired.left

    again : is_ready (ns_set d.recorded) (answer_now oracle s (import_of d.import)) ≡ true
    again = ap (is_ready (ns_set d.recorded)) (sym gives) ∙ sym asks ∙ was

    same : state_of kept session ≡ record s { imports = imports }
    same = ap (λ k. state_of k session) frame

    -- an import was recorded in this state, with what its path gave
    Recorded : State → ResolvePathResult → Type 0
    Recorded u a = Performs oracle (record_effect oracle u (import_of d.import) a).tasks (record_effect oracle u (import_of d.import) a).state (state_of new session)

    after : Recorded (record s { imports = imports }) (answer_now oracle s (import_of d.import))
    after = subst (λ a. Recorded (record s { imports = imports }) a) gives (subst (λ u. Recorded u answer) same became)

-- what stands there no longer was dropped, and the state is the same
pub dropped : (session : Interner) (c : DefCollector) (imports : PendingImports) → pending imports ≡ pending c.imports → state_of (record c { imports = imports }) session ≡ state_of c session
dropped session c imports same = λ i. record (state_of c session) { imports = same i }

module _ (oracle : Oracle) (session : Interner) where
  -- no import is ready where none at a place of a list is
  pub none_ready : (c : DefCollector) → ((index : ℕ) → IsUnready oracle session c (record { list = Unresolved; index = index })) → ((index : ℕ) → IsUnready oracle session c (record { list = Indeterminate; index = index }))
      → NoneReady oracle (state_of c session)
  none_ready c first second = record { none = λ d there. All-contains Unready (pending c.imports) d (all-pending Unready c.imports each) there }
    where
      Unready : rules.ImportDirective → Type 0
      Unready d = is_ready d.recorded (answer_now oracle (state_of c session) d.import) ≡ false

      each : (at : ImportAt) (d : ImportDirective) → import_at c.imports at ≡ Some d → Unready (directive_of d)
      each at d here = at-list at.list refl
        where
          at-list : (list : ImportList) → at.list ≡ list → Unready (directive_of d)
          at-list Unresolved is = first at.index d (subst (λ l. import_at c.imports (record { list = l; index = at.index }) ≡ Some d) is here)
          at-list Indeterminate is = second at.index d (subst (λ l. import_at c.imports (record { list = l; index = at.index }) ≡ Some d) is here)

  -- after both passes, in which nothing was recorded, no import is ready
  settled_after_both : (old mid new : DefCollector) → ((index : ℕ) → IsUnready oracle session old (record { list = Unresolved; index = index })) → mid ≡ old
      → ((index : ℕ) → IsUnready oracle session mid (record { list = Indeterminate; index = index })) → new ≡ mid
      → NoneReady oracle (state_of new session)
  settled_after_both old mid new unready first unready' second =
      subst (λ c. NoneReady oracle (state_of c session)) (sym second)
      (none_ready mid (subst (λ c. (index : ℕ) → IsUnready oracle session c (record { list = Unresolved; index = index })) (sym first) unready) unready')

  -- nor where no place is left among the unresolved ones and nothing was recorded since
  settled_after_last : (mid new : DefCollector) → length (numbers_in Unresolved new.imports) ≤ 0
      → ((index : ℕ) → IsUnready oracle session mid (record { list = Indeterminate; index = index })) → new ≡ mid
      → NoneReady oracle (state_of new session)
  settled_after_last mid new none unready same =
      none_ready new (λ index. unready_past oracle session new Unresolved index (omega (arith, none)))
      (subst (λ c. (index : ℕ) → IsUnready oracle session c (record { list = Indeterminate; index = index })) (sym same) unready)

  -- a pass over both lists says whether another one may record an import: it may where one of the second was recorded, or one of the first and an unresolved one is left
  pub settled : (old mid new : DefCollector) (first second : Bool) (waiting : ℕ) → waiting ≡ length (numbers_in Unresolved new.imports) → (second || (first && nat_lt 0 waiting)) ≡ false
      → (first ≡ false → (index : ℕ) → IsUnready oracle session old (record { list = Unresolved; index = index })) → (first ≡ false → mid ≡ old)
      → (second ≡ false → (index : ℕ) → IsUnready oracle session mid (record { list = Indeterminate; index = index })) → (second ≡ false → new ≡ mid)
      → NoneReady oracle (state_of new session)
  settled old mid new first true waiting count none unready first_same unready' second_same = absurd cc
  settled old mid new true false waiting count none unready first_same unready' second_same = settled_after_last mid new (subst (λ n. n ≤ 0) count (ltb-false 0 waiting none)) (unready' refl) (second_same refl)
  settled old mid new false false waiting count none unready first_same unready' second_same = settled_after_both old mid new (unready refl) (first_same refl) (unready' refl) (second_same refl)

module _ (session : Interner) where
  -- after both passes, in one of which something was recorded, fewer turns are left
  pub fewer_after_both : (old mid new : DefCollector) (first second : Bool) (waiting : ℕ) → (second || (first && nat_lt 0 waiting)) ≡ true
      → (first ≡ true → turns_left (state_of mid session) < turns_left (state_of old session)) → (first ≡ false → mid ≡ old)
      → (second ≡ true → turns_left (state_of new session) < turns_left (state_of mid session)) → (second ≡ false → new ≡ mid)
      → turns_left (state_of new session) < turns_left (state_of old session)
  fewer_after_both old mid new true true waiting some first_less first_same second_less second_same =
      let one = first_less refl in let two = second_less refl in omega arith
  fewer_after_both old mid new true false waiting some first_less first_same second_less second_same =
      subst (λ c. turns_left (state_of c session) < turns_left (state_of old session)) (sym (second_same refl)) (first_less refl)
  fewer_after_both old mid new false true waiting some first_less first_same second_less second_same =
      subst (λ c. turns_left (state_of new session) < turns_left (state_of c session)) (first_same refl) (second_less refl)
  fewer_after_both old mid new false false waiting some first_less first_same second_less second_same = absurd cc
