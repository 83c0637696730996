-- What was found so far, as the first sources of a list.
use Rattle.std.proofs.Common.{◌≡◌, ◌∙◌, ap, sym, refl, Bool, true, false, List, [], ◌∷◌, ◌++◌, append_assoc, Option, Some, None, is_some}
use Rattle.std.specs.Option.{option_or}
use Rattle.tree_ids.specs.declared.name.Name.{Name}
use Rattle.def_ids.specs.declared.ids.ModuleId.{ModuleId}
use Rattle.def_ids.specs.Ids.{is_block_root}
use Rattle.def_bindings.specs.declared.bindings.Namespace.{Namespace}
use Rattle.def_bindings.specs.declared.bindings.Namespace.TheVariants.{Types, Values, Macros}
use Rattle.def_sources.specs.declared.per_ns.PerNs.{PerNs}
use Rattle.def_sources.specs.PerNs.{Item, kept, nothing, otherwise, per_namespace}
use Rattle.def_sources.specs.Sources.{Source, first_found, with_source, unless_block_root}

pub option_or-none : {A : Type 0} (o : Option A) → option_or o None ≡ o
option_or-none None = refl
option_or-none (Some x) = refl

pub option_or-or : {A : Type 0} (a b c : Option A) → option_or (option_or a b) c ≡ option_or a (option_or b c)
option_or-or None b c = refl
option_or-or (Some x) b c = refl

-- the first of two lists is the first of one, and else of the other
pub first_found-append : (keep : Item → Bool) (xs ys : List Source) (name : Name) (ns : Namespace)
    → first_found keep (xs ++ ys) name ns ≡ option_or (first_found keep xs name ns) (first_found keep ys name ns)
first_found-append keep [] ys name ns = refl
first_found-append keep (x ∷ xs) ys name ns =
    ap (option_or (kept keep (x name ns))) (first_found-append keep xs ys name ns) ∙ sym (option_or-or (kept keep (x name ns)) _ _)

-- the first of a list with one more source
first_found-last : (keep : Item → Bool) (xs : List Source) (s : Source) (name : Name) (ns : Namespace)
    → option_or (first_found keep xs name ns) (kept keep (s name ns)) ≡ first_found keep (xs ++ s ∷ []) name ns
first_found-last keep xs s name ns =
    ap (option_or (first_found keep xs name ns)) (sym (option_or-none (kept keep (s name ns)))) ∙ sym (first_found-append keep xs (s ∷ []) name ns)

abbrev three : Option Item → Option Item → Option Item → PerNs
three types values macros = record { types = types; values = values; macros = macros }

-- equal in each namespace
pub per_namespace-equal : (a b : PerNs) → a.types ≡ b.types → a.values ≡ b.values → a.macros ≡ b.macros → a ≡ b
per_namespace-equal a b p q r = ap (λ t. three t a.values a.macros) p ∙ ap (λ v. three b.types v a.macros) q ∙ ap (three b.types b.values) r

pub otherwise-nothing : (found : PerNs) → otherwise found nothing ≡ found
otherwise-nothing found = per_namespace-equal _ _ (option_or-none found.types) (option_or-none found.values) (option_or-none found.macros)

-- one source more behind those that were asked
pub with_source-last : (keep : Item → Bool) (xs : List Source) (s : Source) (name : Name) (found result : PerNs)
    → result ≡ with_source keep found s name → found ≡ per_namespace (first_found keep xs name)
    → result ≡ per_namespace (first_found keep (xs ++ s ∷ []) name)
with_source-last keep xs s name found result p q =
    p ∙ ap (λ f. with_source keep f s name) q
    ∙ per_namespace-equal _ _ (first_found-last keep xs s name Types) (first_found-last keep xs s name Values) (first_found-last keep xs s name Macros)

-- a source that a block's root skips adds nothing there
pub with_skipped : (keep : Item → Bool) (place : ModuleId) (s : Source) (name : Name) (found : PerNs)
    → is_block_root place ≡ true → found ≡ with_source keep found (unless_block_root place s) name
with_skipped keep place s name found e = rw e (sym (otherwise-nothing found))

-- one that is not skipped adds what it has
pub with_unskipped : (keep : Item → Bool) (place : ModuleId) (s : Source) (name : Name) (found result : PerNs)
    → is_block_root place ≡ false → result ≡ with_source keep found s name → result ≡ with_source keep found (unless_block_root place s) name
with_unskipped keep place s name found result e p = rw e p

-- two sources more
pub with_two : (keep : Item → Bool) (xs : List Source) (s t : Source) (name : Name) (found a result : PerNs)
    → found ≡ per_namespace (first_found keep xs name) → a ≡ with_source keep found s name → result ≡ with_source keep a t name
    → result ≡ per_namespace (first_found keep (xs ++ s ∷ t ∷ []) name)
with_two keep xs s t name found a result e p q =
    with_source-last keep (xs ++ s ∷ []) t name a result q (with_source-last keep xs s name found a p e)
    ∙ ap (λ l. per_namespace (first_found keep l name)) (append_assoc xs (s ∷ []) (t ∷ []))

-- three sources more
pub with_three : (keep : Item → Bool) (xs : List Source) (s t u : Source) (name : Name) (found a b result : PerNs)
    → found ≡ per_namespace (first_found keep xs name) → a ≡ with_source keep found s name
    → b ≡ with_source keep a t name → result ≡ with_source keep b u name
    → result ≡ per_namespace (first_found keep (xs ++ s ∷ t ∷ u ∷ []) name)
with_three keep xs s t u name found a b result e p q r =
    with_source-last keep (xs ++ s ∷ t ∷ []) u name b result r (with_two keep xs s t name found a b e p q)
    ∙ ap (λ l. per_namespace (first_found keep l name)) (append_assoc xs (s ∷ t ∷ []) (u ∷ []))

-- what has nothing leaves all to the rest
later : (found first rest : Option Item) → found ≡ first → is_some found ≡ false → rest ≡ option_or first rest
later found first rest e none = is_left found none ∙ ap (λ o. option_or o rest) e
  where
    is_left : (o : Option Item) → is_some o ≡ false → rest ≡ option_or o rest
    is_left None none = refl
    is_left (Some x) none = cc

-- what a first source and then a list give: the list, where the source has nothing
pub found-next : (keep : Item → Bool) (xs ys : List Source) (name : Name) (ns : Namespace) (none first found : Option Item)
    → none ≡ first → is_some none ≡ false → found ≡ first_found keep xs name ns → is_some found ≡ true
    → found ≡ option_or first (first_found keep (xs ++ ys) name ns)
found-next keep xs ys name ns none first found e is_none there has =
    is_first found (first_found keep ys name ns) has
    ∙ ap (λ o. option_or o (first_found keep ys name ns)) there
    ∙ sym (first_found-append keep xs ys name ns)
    ∙ later none first (first_found keep (xs ++ ys) name ns) e is_none
  where
    is_first : (o rest : Option Item) → is_some o ≡ true → o ≡ option_or o rest
    is_first None rest has = cc
    is_first (Some x) rest has = refl

-- and the rest of the list, where its beginning has nothing either
pub found-last : (keep : Item → Bool) (xs ys : List Source) (name : Name) (ns : Namespace) (none first nor found : Option Item)
    → none ≡ first → is_some none ≡ false → nor ≡ first_found keep xs name ns → is_some nor ≡ false → found ≡ first_found keep ys name ns
    → found ≡ option_or first (first_found keep (xs ++ ys) name ns)
found-last keep xs ys name ns none first nor found e is_none there is_nor has =
    has
    ∙ later nor (first_found keep xs name ns) (first_found keep ys name ns) there is_nor
    ∙ sym (first_found-append keep xs ys name ns)
    ∙ later none first (first_found keep (xs ++ ys) name ns) e is_none
