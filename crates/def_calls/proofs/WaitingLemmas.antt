-- What waits for macros, in order.
use Rattle.std.proofs.Common.{◌≡◌, ◌+◌, ◌<◌, ◌≤◌, ℕ, zero, suc, List, [], ◌∷◌, ◌++◌, length, map, take, get_or, append_assoc, slice_get, Some, refl, sym, ap, ◌∙◌}
use Rattle.std.specs.Prelude.{Bool, true, false, cond, filter, IsSome, OnSome, Option, None}
use Rattle.std.specs.List.{remove}
use Rattle.std.proofs.lemmas.List.Elements.{filter-append}
use Rattle.std.proofs.lemmas.List.{map-append, take_all, take_more}
use Rattle.std.proofs.lemmas.Option.{slice_get-get_or}
use Rattle.tree_ids.specs.declared.ids.FileAstId.{FileAstId}
use Rattle.tree_ids.specs.declared.ids.InFile.{InFile}
use Rattle.tree_ids.specs.declared.ids.MacroCallId.{MacroCallId}
use Rattle.def_ids.specs.declared.ids.ModuleId.{ModuleId}
use Rattle.def_calls.specs.declared.directives.MacroDirective.{MacroDirective}
use Rattle.def_calls.specs.Shown.{IsLeft, macro_directive_of, macros_in}
use Rattle.def_rules.specs.declared.inner_calls.InnerCall.{InnerCall}
use Rattle.def_rules.specs.Calls.{inner_call}
use Rattle.def_rules.specs.declared.outcome.LeftMacro.{LeftMacro}
use Rattle.def_rules.specs.Report.{left_macro}

-- an element that was read stands at its place
pub read_at : {X : Type 0} (xs : List X) (i : ℕ) (shown known : X) → i < length xs → shown ≡ get_or xs i shown → shown ≡ known → slice_get xs i ≡ Some known
read_at xs i shown known within read is = slice_get-get_or xs i shown within ∙ ap (λ x. Some x) (sym read ∙ is)

-- what waits first stands before the others
pub first_is : {X : Type 0} (xs : List X) (x : X) → slice_get xs 0 ≡ Some x → (rest : List X) × (xs ≡ x ∷ rest)
first_is [] x at = absurd (cc at)
first_is (y ∷ xs) x at = let same : y ≡ x = cc in (xs, ap (λ z. z ∷ xs) same)

-- what follows where there is something
pub some_then : {X P : Type 0} (o : Option X) → IsSome o → OnSome o P → P
some_then None is p = absurd (cc is)
some_then (Some x) is p = p

-- those of a list up to one more that pass a test
pub filter_more : {X : Type 0} (test : X → Bool) (xs : List X) (i : ℕ) (x : X) → i < length xs → x ≡ get_or xs i x → filter test (take (i + 1) xs) ≡ filter test (take i xs) ++ filter test (x ∷ [])
filter_more test xs i x within is = ap (filter test) (take_more xs i x within ∙ ap (λ e. take i xs ++ e ∷ []) (sym is)) ∙ filter-append test (take i xs) (x ∷ [])

pub filter_one : {X : Type 0} (test : X → Bool) (x : X) → test x ≡ true → filter test (x ∷ []) ≡ x ∷ []
filter_one test x passes = ap (λ b. cond b (x ∷ []) []) passes

pub filter_none : {X : Type 0} (test : X → Bool) (x : X) → test x ≡ false → filter test (x ∷ []) ≡ []
filter_none test x passes = ap (λ b. cond b (x ∷ []) []) passes

-- one more waits
pub macros_push : (ds : List MacroDirective) (d : MacroDirective) → macros_in (ds ++ d ∷ []) ≡ macros_in ds ++ macro_directive_of d ∷ []
macros_push ds d = map-append macro_directive_of ds (d ∷ [])

pub macros_more : (ds : List MacroDirective) (i : ℕ) (d : MacroDirective) → i < length ds → d ≡ get_or ds i d → macros_in (take (i + 1) ds) ≡ macros_in (take i ds) ++ macro_directive_of d ∷ []
macros_more ds i d within is = ap macros_in (take_more ds i d within ∙ ap (λ e. take i ds ++ e ∷ []) (sym is)) ∙ macros_push (take i ds) d

-- all of them
pub macros_all : (ds : List MacroDirective) (i : ℕ) → length ds ≤ i → macros_in (take i ds) ≡ macros_in ds
macros_all ds i all = ap macros_in (take_all i ds all)

-- what is left over at one more
pub left_more : (left left' : List LeftMacro) (x : LeftMacro) (ds : List MacroDirective) (i : ℕ) (d : MacroDirective) → left ≡ map left_macro (macros_in (take i ds)) → i < length ds → d ≡ get_or ds i d
    → left' ≡ left ++ x ∷ [] → x ≡ left_macro (macro_directive_of d) → left' ≡ map left_macro (macros_in (take (i + 1) ds))
left_more left left' x ds i d so_far within is adds one =
    adds
    ∙ (λ j. so_far j ++ one j ∷ [])
    ∙ sym (map-append left_macro (macros_in (take i ds)) (macro_directive_of d ∷ []))
    ∙ ap (map left_macro) (sym (macros_more ds i d within is))

-- one call more that was made for arguments is to be recorded
pub inner_more : (start calls new : List InnerCall) (at : ModuleId) (xs : List (InFile FileAstId × MacroCallId)) (i : ℕ) (x : InFile FileAstId × MacroCallId) → i < length xs → new ≡ calls ++ inner_call at (get_or xs i x) ∷ []
    → calls ≡ start ++ map (inner_call at) (take i xs) → new ≡ start ++ map (inner_call at) (take (i + 1) xs)
inner_more start calls new at xs i x within adds so_far =
    adds
    ∙ ap (λ l. l ++ inner_call at (get_or xs i x) ∷ []) so_far
    ∙ append_assoc start (map (inner_call at) (take i xs)) (inner_call at (get_or xs i x) ∷ [])
    ∙ ap (λ l. start ++ l) (sym (map-append (inner_call at) (take i xs) (get_or xs i x ∷ [])))
    ∙ ap (λ l. start ++ map (inner_call at) l) (sym (take_more xs i x within))

-- all of them are
pub inner_all : (start calls : List InnerCall) (at : ModuleId) (xs : List (InFile FileAstId × MacroCallId)) (i : ℕ) → length xs ≤ i → calls ≡ start ++ map (inner_call at) (take i xs) → calls ≡ start ++ map (inner_call at) xs
inner_all start calls at xs i all so_far = so_far ∙ ap (λ l. start ++ map (inner_call at) l) (take_all i xs all)

-- one that waits stands between others, and these stay where it leaves
pub between : (ds : List MacroDirective) (i : ℕ) (d : MacroDirective) → slice_get ds i ≡ Some d → IsLeft (macros_in ds) (macro_directive_of d) (macros_in (remove ds i))
between [] i d at = absurd (cc at)
between (x ∷ xs) zero d at =
    let same : x ≡ d = cc in
    record { before = []; behind = macros_in xs; stands = ap (λ y. macro_directive_of y ∷ macros_in xs) same; left = refl }
between (x ∷ xs) (suc i) d at =
    let rest = between xs i d at in
    record {
      before = macro_directive_of x ∷ rest.before;
      behind = rest.behind;
      stands = ap (λ l. macro_directive_of x ∷ l) rest.stands;
      left = ap (λ l. macro_directive_of x ∷ l) rest.left;
    }
