-- One entry of a list is put, or one slot is copied along an edge, and the rest is left.
use Rattle.std.proofs.Math.Seq.{drop-cons}
use Rattle.std.proofs.Common.{◌≡◌, ◌<◌, ◌≤◌, ◌+◌, ℕ, suc, Bool, true, false, cond, List, [], ◌∷◌, ◌++◌, length, get_or, drop, take, add-one, append_assoc, refl, sym, ap, ◌∙◌, subst}
use Rattle.std.specs.Prelude.{is_some, slice_get, Result, Ok, Err, OnErr}
use Rattle.std.proofs.lemmas.Bool.{false≢true}
use Rattle.std.proofs.lemmas.List.{append-nil, drop_all, take_more}
use Rattle.def_ids.specs.declared.ids.ModuleId.{ModuleId}
use Rattle.def_bindings.specs.declared.bindings.EdgeTo.{EdgeTo}
use Rattle.def_bindings.specs.declared.bindings.Entry.{Entry}
use Rattle.def_bindings.specs.declared.bindings.Slot.{Slot}
use Rattle.def_bindings.specs.Order.{Order}
use Rattle.def_bindings.specs.Content.{Content}
use Rattle.def_bindings.specs.Puts.{slot_of, offered, put_entry, puts, copied}
use Rattle.def_globs.specs.Pending.{CopiesFirst, PutsFirst, changed_at, changed_by, carried_by, is_changed, copied_all, reached}
use Rattle.def_globs.specs.Globs.{Stays}
use Rattle.def_globs.proofs.StaysLemmas.{stays_still, stays_then, stays_put, stays_copied}

-- what is left of a list is its next item and the rest
rest_is : {A : Type 0} (list : List A) (i : ℕ) (x d : A) → i < length list → x ≡ get_or list i d → drop i list ≡ x ∷ drop (i + 1) list
rest_is list i x d within item =
    drop-cons list i d within ∙ ap (λ y. y ∷ drop (suc i) list) (sym item) ∙ ap (λ j. x ∷ drop j list) (sym (add-one i))

-- one item more is taken
one_more : {A : Type 0} (list : List A) (i : ℕ) (x d : A) → i < length list → x ≡ get_or list i d → take i list ++ x ∷ [] ≡ take (i + 1) list
one_more list i x d within item = ap (λ y. take i list ++ y ∷ []) item ∙ sym (take_more list i d within)

-- what is noted now comes before what the rest notes
noted : {A : Type 0} (wanted : Bool) (so_far next now rest all : List A) → next ≡ so_far ++ cond wanted now [] → so_far ++ cond wanted (now ++ rest) [] ≡ all
    → next ++ cond wanted rest [] ≡ all
noted true so_far next now rest all is before = ap (λ s. s ++ rest) is ∙ append_assoc so_far now rest ∙ before
noted false so_far next now rest all is before = ap (λ s. s ++ []) is ∙ append_assoc so_far [] [] ∙ before

-- what is noted where it is wanted, and nothing where it is not
noted_wanted : {A : Type 0} (wanted : Bool) (so_far now : List A) → wanted ≡ true → so_far ++ now ≡ so_far ++ cond wanted now []
noted_wanted true so_far now is = refl
noted_wanted false so_far now is = absurd (false≢true is)

noted_none : {A : Type 0} (wanted : Bool) (so_far now : List A) → wanted ≡ false → so_far ≡ so_far ++ cond wanted now []
noted_none false so_far now is = sym (append-nil so_far)
noted_none true so_far now is = absurd (false≢true (sym is))

nothing : {A : Type 0} (wanted : Bool) → cond wanted (let none : List A = [] in none) [] ≡ []
nothing true = refl
nothing false = refl

module _ {V : Type 0} (o : Order V) (m : ModuleId) where
  pub stays_entry : (first : Content V) (e : Entry V) (c c' : Content V) → Stays first c → c' ≡ put_entry o m e c → Stays first c'
  stays_entry first e c c' before placed = stays_then first c c' before (subst (Stays c) (sym placed) (stays_put o m e c))

-- the last entry of a list is put behind the others
puts_push : {V : Type 0} (o : Order V) (m : ModuleId) (es : List (Entry V)) (e : Entry V) (c : Content V) → puts o m (es ++ e ∷ []) c ≡ put_entry o m e (puts o m es c)
puts_push o m [] e c = refl
puts_push o m (x ∷ es) e c = puts_push o m es e (put_entry o m x c)

-- an entry was put behind the first ones
put_on : {V : Type 0} (o : Order V) (m : ModuleId) (list : List (Entry V)) (first : Content V) (i : ℕ) (e : Entry V) (c c' : Content V) → i < length list → e ≡ get_or list i e
    → c' ≡ put_entry o m e c → c ≡ puts o m (take i list) first → c' ≡ puts o m (take (i + 1) list) first
put_on o m list first i e c c' within item placed before =
    placed ∙ ap (put_entry o m e) before ∙ sym (puts_push o m (take i list) e first) ∙ ap (λ l. puts o m l first) (one_more list i e e within item)

pub put_first : {V : Type 0} (o : Order V) (m : ModuleId) (list : List (Entry V)) (first : Content V) (i : ℕ) (e : Entry V) (c c' : Content V) → i < length list → e ≡ get_or list i e
    → c' ≡ put_entry o m e c → c ≡ puts o m (take i list) first → PutsFirst o m list first c'
put_first o m list first i e c c' within item placed before = (i + 1, put_on o m list first i e c c' within item placed before)

module _ {V : Type 0} (o : Order V) (m : ModuleId) (list : List (Entry V)) (has_edge : Bool) (first : Content V) where
  -- a list is put so far: what stood stands, and the rest leads to what the whole list leads to
  abbrev pub PutSoFar : ℕ → List Slot → Content V → Type 0
  PutSoFar i slots c = record {
    stays : Stays first c;
    changed : slots ++ cond has_edge (changed_by o m (drop i list) c) [] ≡ carried_by o m list first;
    content : puts o m (drop i list) c ≡ puts o m list first;
    begun : c ≡ puts o m (take i list) first;
  }

  put_next : (i : ℕ) (e : Entry V) (slots next : List Slot) (c c' : Content V) → i < length list → e ≡ get_or list i e
      → c' ≡ put_entry o m e c → next ≡ slots ++ cond has_edge (changed_at o m (slot_of e) (offered e) c) []
      → PutSoFar i slots c → PutSoFar (i + 1) next c'
  put_next i e slots next c c' within item placed noted_now before =
      let rest = rest_is list i e e within item in
      record {
        stays = stays_entry o m first e c c' before.stays placed;
        changed = ap (λ d. next ++ cond has_edge (changed_by o m (drop (i + 1) list) d) []) placed
            ∙ noted has_edge slots next (changed_at o m (slot_of e) (offered e) c) (changed_by o m (drop (i + 1) list) (put_entry o m e c)) _ noted_now
            (ap (λ r. slots ++ cond has_edge (changed_by o m r c) []) (sym rest) ∙ before.changed);
        content = ap (puts o m (drop (i + 1) list)) placed ∙ ap (λ r. puts o m r c) (sym rest) ∙ before.content;
        begun = put_on o m list first i e c c' within item placed before.begun;
      }

  -- an entry is put, and its slot is noted where it changed and the module has an edge
  module _ (i : ℕ) (e : Entry V) (changed slots next : List Slot) (c c' : Content V) (within : i < length list) (item : e ≡ get_or list i e)
      (done : (changed ≡ changed_at o m (slot_of e) (offered e) c) × (c' ≡ put_entry o m e c)) (before : PutSoFar i slots c) where
    by_entry : next ≡ slots ++ cond has_edge changed [] → PutSoFar (i + 1) next c'
    by_entry is = put_next i e slots next c c' within item done.1 (is ∙ ap (λ l. slots ++ cond has_edge l []) done.0) before

    pub put_noted : (noted_now : List Slot) → has_edge ≡ true → next ≡ noted_now → noted_now ≡ slots ++ changed → PutSoFar (i + 1) next c'
    put_noted noted_now wanted is with_it = by_entry (is ∙ with_it ∙ noted_wanted has_edge slots changed wanted)

    pub put_unnoted : has_edge ≡ false → next ≡ slots → PutSoFar (i + 1) next c'
    put_unnoted none is = by_entry (is ∙ noted_none has_edge slots changed none)

  -- nothing is put yet
  pub put_begins : (slots : List Slot) → slots ≡ [] → has_edge ≡ is_some (slice_get (first.edges m) 0) → PutSoFar 0 slots first
  put_begins slots none is = record {
    stays = stays_still first;
    changed = ap (λ l. l ++ cond has_edge (changed_by o m list first) []) none ∙ ap (λ b. cond b (changed_by o m list first) []) is;
    content = refl;
    begun = refl;
  }

  -- the whole list is put
  pub put_ends : (i : ℕ) (slots : List Slot) (c : Content V) → length list ≤ i → PutSoFar i slots c → (slots ≡ carried_by o m list first) × (c ≡ puts o m list first)
  put_ends i slots c past before = (
    sym (append-nil slots)
        ∙ ap (λ l. slots ++ l) (sym (nothing has_edge))
        ∙ ap (λ l. slots ++ cond has_edge (changed_by o m l c) []) (sym (drop_all i list past))
        ∙ before.changed,
    ap (λ l. puts o m l c) (sym (drop_all i list past)) ∙ before.content,
  )

pub stays_reached : {V : Type 0} (o : Order V) (source : ModuleId) (edge : EdgeTo V) (first : Content V) (x : Slot) (c c' : Content V) → Stays first c → c' ≡ copied o source edge x c → Stays first c'
stays_reached o source edge first x c c' before copied_now = stays_then first c c' before (subst (Stays c) (sym copied_now) (stays_copied o source edge x c))

-- the last of some slots is copied behind the others
copied_push : {V : Type 0} (o : Order V) (source : ModuleId) (edge : EdgeTo V) (xs : List Slot) (x : Slot) (c : Content V)
    → copied_all o source edge (xs ++ x ∷ []) c ≡ copied o source edge x (copied_all o source edge xs c)
copied_push o source edge [] x c = refl
copied_push o source edge (y ∷ xs) x c = copied_push o source edge xs x (copied o source edge y c)

-- a slot was copied behind the first ones
copied_on : {V : Type 0} (o : Order V) (source : ModuleId) (edge : EdgeTo V) (slots : List Slot) (first : Content V) (i : ℕ) (x d : Slot) (c c' : Content V) → i < length slots
    → x ≡ get_or slots i d → c' ≡ copied o source edge x c → c ≡ copied_all o source edge (take i slots) first → c' ≡ copied_all o source edge (take (i + 1) slots) first
copied_on o source edge slots first i x d c c' within item copied_now before =
    copied_now ∙ ap (copied o source edge x) before ∙ sym (copied_push o source edge (take i slots) x first) ∙ ap (λ l. copied_all o source edge l first) (one_more slots i x d within item)

pub copied_first : {V : Type 0} (o : Order V) (source : ModuleId) (edge : EdgeTo V) (slots : List Slot) (first : Content V) (i : ℕ) (x d : Slot) (c c' : Content V) → i < length slots
    → x ≡ get_or slots i d → c' ≡ copied o source edge x c → c ≡ copied_all o source edge (take i slots) first → CopiesFirst o source edge slots first c'
copied_first o source edge slots first i x d c c' within item copied_now before = (i + 1, copied_on o source edge slots first i x d c c' within item copied_now before)

module _ {V : Type 0} (o : Order V) (source : ModuleId) (edge : EdgeTo V) (slots : List Slot) (first : Content V) where
  -- slots are copied so far: what stood stands, and the rest leads to what all slots lead to
  abbrev pub CopiedSoFar : ℕ → List Slot → Content V → Type 0
  CopiedSoFar i changed c = record {
    stays : Stays first c;
    reached : changed ++ reached o source edge (drop i slots) c ≡ reached o source edge slots first;
    content : copied_all o source edge (drop i slots) c ≡ copied_all o source edge slots first;
    begun : c ≡ copied_all o source edge (take i slots) first;
  }

  copied_next : (i : ℕ) (x d : Slot) (changed next : List Slot) (c c' : Content V) → i < length slots → x ≡ get_or slots i d
      → c' ≡ copied o source edge x c → next ≡ changed ++ cond (is_changed o source edge x c) (x ∷ []) []
      → CopiedSoFar i changed c → CopiedSoFar (i + 1) next c'
  copied_next i x d changed next c c' within item copied_now noted_now before =
      let rest = rest_is slots i x d within item in
      record {
        stays = stays_reached o source edge first x c c' before.stays copied_now;
        reached = ap (λ d. next ++ reached o source edge (drop (i + 1) slots) d) copied_now
            ∙ noted true changed next (cond (is_changed o source edge x c) (x ∷ []) []) (reached o source edge (drop (i + 1) slots) (copied o source edge x c)) _ noted_now
            (ap (λ r. changed ++ reached o source edge r c) (sym rest) ∙ before.reached);
        content = ap (copied_all o source edge (drop (i + 1) slots)) copied_now ∙ ap (λ r. copied_all o source edge r c) (sym rest) ∙ before.content;
        begun = copied_on o source edge slots first i x d c c' within item copied_now before.begun;
      }

  -- a slot is copied, and noted where that changed the importer
  pub copied_noted : (i : ℕ) (x d : Slot) (noted_now noted_so_far next : List Slot) (c c' : Content V) → i < length slots → x ≡ get_or slots i d
      → (noted_now ≡ cond (is_changed o source edge x c) (x ∷ []) []) × (c' ≡ copied o source edge x c) → next ≡ noted_so_far ++ noted_now → CopiedSoFar i noted_so_far c → CopiedSoFar (i + 1) next c'
  copied_noted i x d noted_now noted_so_far next c c' within item done is before =
      copied_next i x d noted_so_far next c c' within item done.1 (is ∙ ap (λ l. noted_so_far ++ l) done.0) before

  -- nothing is copied yet
  pub copied_begins : (changed : List Slot) → changed ≡ [] → CopiedSoFar 0 changed first
  copied_begins changed none = record {
    stays = stays_still first;
    reached = ap (λ l. l ++ reached o source edge slots first) none;
    content = refl;
    begun = refl;
  }

  -- all slots are copied
  pub copied_ends : (i : ℕ) (changed : List Slot) (c : Content V) → length slots ≤ i → CopiedSoFar i changed c → (changed ≡ reached o source edge slots first) × (c ≡ copied_all o source edge slots first)
  copied_ends i changed c past before = (
    sym (append-nil changed) ∙ ap (λ l. changed ++ reached o source edge l c) (sym (drop_all i slots past)) ∙ before.reached,
    ap (λ l. copied_all o source edge l c) (sym (drop_all i slots past)) ∙ before.content,
  )

-- what holds of a call that met want of memory
pub on_err_from : {A E : Type 0} {P : Type 0} (result : Result A E) → P → OnErr result P
on_err_from (Ok value) h = tt
on_err_from (Err error) h = h
