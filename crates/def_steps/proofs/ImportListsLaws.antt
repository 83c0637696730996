-- Entries of a list whose places may be empty.
use Rattle.std.proofs.Common.{append-nil, append_assoc, ◌≡◌, ◌<◌, ◌+◌, ℕ, zero, suc, List, [], ◌∷◌, ◌++◌, length, take, get_or, map, filter_map, Option, Some, None, All, slice_get, slice_set, refl, sym, ap, subst, ◌∙◌, IsPermutation}
use Rattle.std.proofs.lemmas.List.{map-append, map_more}
use Rattle.std.proofs.lemmas.List.Sorted.{IsPermutation-append_comm, IsPermutation-append_right, IsPermutation-middle}
use Rattle.std.proofs.lemmas.List.Elements.{filter_map-append, All-nil, All-cons}
use Rattle.item_tree.specs.declared.items.UseImport.{UseImport}
use Rattle.def_ids.specs.declared.ids.ModuleId.{ModuleId}
use Rattle.def_rules.specs.Imports.{no_namespaces}
use Rattle.def_rules.specs.State as rules
use Rattle.def_steps.specs.declared.import_lists.WrittenUse.{WrittenUse}
use Rattle.def_steps.specs.ImportLists.{IsRetired, directives_in, present, queued}
use Rattle.def_steps.specs.declared.directive.ImportDirective.{ImportDirective}
use Rattle.def_steps.specs.Shown.{directive_of, directives_kept}

pub present-push : {A : Type 0} (xs : List (Option A)) (x : A) → present (xs ++ Some x ∷ []) ≡ present xs ++ x ∷ []
unfolding present
present-push xs x = filter_map-append (λ entry. entry) xs (Some x ∷ [])

-- an empty place adds nothing
pub present_same : {A : Type 0} (xs : List (Option A)) → present (xs ++ None ∷ []) ≡ present xs
unfolding present
present_same xs = filter_map-append (λ entry. entry) xs (None ∷ []) ∙ append-nil (filter_map (λ entry. entry) xs)

pub present-nil : (A : Type 0) → present {A = A} [] ≡ []
unfolding present
present-nil A = refl

-- where an entry stands, the others stand before and after it, whatever takes its place
pub record Around {A : Type 0} (xs : List (Option A)) (i : ℕ) (x : A) : Type 0 where
  pub before : List A
  pub after : List A
  pub all : present xs ≡ before ++ x ∷ after
  pub without : present (slice_set xs i None) ≡ before ++ after
  pub replaced : (y : A) → present (slice_set xs i (Some y)) ≡ before ++ y ∷ after

pub around : {A : Type 0} (xs : List (Option A)) (i : ℕ) (x : A) → slice_get xs i ≡ Some (Some x) → Around xs i x
unfolding present
around [] i x h = absurd cc
around (e ∷ xs) zero x h = let same : e ≡ Some x = cc in record { before = []; after = present xs; all = rw same refl; without = refl; replaced = λ y. refl }
around (None ∷ xs) (suc i) x h = let rest = around xs i x h in record { before = rest.before; after = rest.after; all = rest.all; without = rest.without; replaced = rest.replaced }
around (Some e ∷ xs) (suc i) x h =
    let rest = around xs i x h in
    record {
      before = e ∷ rest.before;
      after = rest.after;
      all = ap (λ es. e ∷ es) rest.all;
      without = ap (λ es. e ∷ es) rest.without;
      replaced = λ y. ap (λ es. e ∷ es) (rest.replaced y);
    }

-- what holds of each entry that is there holds of all
pub present-all : {A : Type 0} (P : A → Type 0) (xs : List (Option A)) → ((i : ℕ) (x : A) → slice_get xs i ≡ Some (Some x) → P x) → All P (present xs)
unfolding present
present-all P [] each = All-nil P
present-all P (None ∷ xs) each = present-all P xs (λ i x h. each (suc i) x h)
present-all P (Some x ∷ xs) each = All-cons P x (present xs) (each 0 x refl) (present-all P xs (λ i y h. each (suc i) y h))

-- one more entry, as it is shown
pub present_pushed : {A B : Type 0} (f : A → B) (xs ys : List (Option A)) (x : A) → ys ≡ xs ++ Some x ∷ [] → map f (present ys) ≡ map f (present xs) ++ f x ∷ []
present_pushed f xs ys x more = ap (λ l. map f (present l)) more ∙ ap (map f) (present-push xs x) ∙ map-append f (present xs) (x ∷ [])

-- one more import of a `use` item
pub queued_more : (old now new : List rules.ImportDirective) (at : ModuleId) (written : WrittenUse) (imports : List UseImport) (i : ℕ) (import : UseImport) (d : rules.ImportDirective)
    → now ≡ old ++ queued at written (take i imports) → i < length imports → import ≡ get_or imports i import → d ∷ [] ≡ queued at written (import ∷ [])
    → new ≡ now ++ d ∷ []
    → new ≡ old ++ queued at written (take (i + 1) imports)
queued_more old now new at written imports i import d so_far within item made more =
    let make : UseImport → rules.ImportDirective = λ import. record {
      import = record { scope = at; position = written.position; use_id = written.use_id; written = import; vis = written.vis.now; is_prelude = written.is_prelude };
      recorded = no_namespaces;
    } in
    let next : queued at written (take (i + 1) imports) ≡ queued at written (take i imports) ++ make import ∷ [] = map_more make imports i import within ∙ ap (λ x. queued at written (take i imports) ++ make x ∷ []) (sym item) in
    more
    ∙ ap (λ x. x ++ d ∷ []) so_far
    ∙ ap (λ x. (old ++ queued at written (take i imports)) ++ x) made
    ∙ append_assoc old (queued at written (take i imports)) (make import ∷ [])
    ∙ ap (λ x. old ++ x) (sym next)

-- what is appended to one list stands among all
pub appended_in : {X : Type 0} (before after more : List X) → IsPermutation ((before ++ after) ++ more) ((before ++ more) ++ after)
appended_in before after more =
    subst (λ l. IsPermutation l ((before ++ more) ++ after)) (sym (append_assoc before after more))
    (subst (IsPermutation (before ++ (after ++ more))) (sym (append_assoc before more after))
    (IsPermutation-append_right before (after ++ more) (more ++ after) (IsPermutation-append_comm after more)))

replaced : (ys : List (Option ImportDirective)) (i : ℕ) (d : ImportDirective) (w : Around ys i d) (entry : Option ImportDirective)
    → directives_in (slice_set ys i entry) ≡ map directive_of w.before ++ (directives_kept entry ++ map directive_of w.after)
replaced ys i d w None = ap (map directive_of) w.without ∙ map-append directive_of w.before w.after
replaced ys i d w (Some next) = ap (map directive_of) (w.replaced next) ∙ map-append directive_of w.before (next ∷ w.after)

-- an import that leaves, or stays in its place
pub retired : (xs ys : List (Option ImportDirective)) (i : ℕ) (d : ImportDirective) (entry : Option ImportDirective) → slice_get xs i ≡ Some (Some d)
    → ys ≡ slice_set xs i entry
    → IsRetired (directives_in xs) (directive_of d) (directives_kept entry) (directives_in ys)
retired xs ys i d entry here put = record { rest = before ++ after; stands = stands; left = all }
  where
    w : Around xs i d
    w = around xs i d here

    before : List rules.ImportDirective
    before = map directive_of w.before

    after : List rules.ImportDirective
    after = map directive_of w.after

    stands : IsPermutation (directives_in xs) (directive_of d ∷ (before ++ after))
    stands =
        subst (λ l. IsPermutation l (directive_of d ∷ (before ++ after))) (sym (ap (map directive_of) w.all ∙ map-append directive_of w.before (d ∷ w.after)))
        (IsPermutation-middle before (directive_of d) after)

    now : directives_in ys ≡ before ++ (directives_kept entry ++ after)
    now = ap directives_in put ∙ replaced xs i d w entry

    all : IsPermutation ((before ++ after) ++ directives_kept entry) (directives_in ys)
    all =
        subst (IsPermutation ((before ++ after) ++ directives_kept entry)) (sym now)
        (subst (IsPermutation ((before ++ after) ++ directives_kept entry)) (append_assoc before (directives_kept entry) after) (appended_in before after (directives_kept entry)))
