-- Outcomes that are written out: they list each edge and each target once.
use Rattle.std.proofs.Common.{◌≡◌, Bool, true, false, cond, not, ◌&&◌, Some, None, List, [], ◌∷◌, ◌++◌, filter, map, refl, sym, ap, ap₂, ◌∙◌, append-nil, inl, inr}
use Rattle.std.proofs.lemmas.Bool.{and_parts, cases_Bool}
use Rattle.std.proofs.lemmas.List.Elements.{filter-append}
use Rattle.std.specs.List.{AllByRecursion, IsDistinct, list_all}
use Rattle.std.specs.Map.{keys_of, lookup}
use Rattle.def_ids.specs.declared.ids.Def.{Def}
use Rattle.def_ids.specs.declared.ids.GlobId.{GlobId}
use Rattle.def_ids.specs.declared.ids.ModuleId.{ModuleId}
use Rattle.def_ids.specs.Equality.{glob_eq}
use Rattle.def_ids.specs.Ids.{is_same_module}
use Rattle.def_bindings.specs.declared.bindings.EdgeTo.{EdgeTo}
use Rattle.def_bindings.specs.declared.visibility.Visibility.{Visibility}
use Rattle.def_bindings.specs.IdLaws.{glob-eq, module-refl, module-sym}
use Rattle.def_rules.specs.declared.outcome.Edge.{Edge}
use Rattle.def_rules.specs.Globs.{Targets}
use Rattle.def_rules.specs.Report.{AreTargets, leaves, listed_edge}
use Rattle.def_runs.proofs.TableLemmas.{is_false, lists_with, other_glob}
use Rattle.def_runs.proofs.Tables.{edges_by, Leaving}

-- Edges

-- the edges of these modules as they are listed
abbrev pub listed : List Leaving → List Edge
listed [] = []
listed (l ∷ ls) = map (listed_edge l.source) l.edges ++ listed ls

-- no other edges leave this module
abbrev pub leaves_alone : ModuleId → List Leaving → Bool
leaves_alone source ls = list_all (λ k. not (is_same_module source k.source)) ls

-- each module stands once
abbrev pub stand_once : List Leaving → Bool
stand_once [] = true
stand_once (l ∷ ls) = leaves_alone l.source ls && stand_once ls

-- the edges of a module leave it
all_leave : (m : ModuleId) (es : List (EdgeTo Visibility)) → filter (leaves m) (map (listed_edge m) es) ≡ map (listed_edge m) es
all_leave m [] = refl
all_leave m (e ∷ es) = rw (module-refl m) (ap (λ l. listed_edge m e ∷ l) (all_leave m es))

-- and no other
none_leave : (m source : ModuleId) (es : List (EdgeTo Visibility)) → is_same_module source m ≡ false → filter (leaves m) (map (listed_edge source) es) ≡ []
none_leave m source [] apart = refl
none_leave m source (e ∷ es) apart = let other : is_same_module m source ≡ false = module-sym m source ∙ apart in rw other (none_leave m source es apart)

none_of_others : (m : ModuleId) (ls : List Leaving) → leaves_alone m ls ≡ true → filter (leaves m) (listed ls) ≡ []
none_of_others m [] all = refl
none_of_others m (l ∷ ls) all =
    let parts = and_parts (not (is_same_module m l.source)) (leaves_alone m ls) all in
    let apart : is_same_module l.source m ≡ false = module-sym l.source m ∙ is_false _ parts.0 in
    filter-append (leaves m) (map (listed_edge l.source) l.edges) (listed ls)
    ∙ ap₂ (λ xs ys. xs ++ ys) (none_leave m l.source l.edges apart) (none_of_others m ls parts.1)

-- each edge of a table is listed once
pub edges_listed : (ls : List Leaving) → stand_once ls ≡ true → (m : ModuleId) → filter (leaves m) (listed ls) ≡ map (listed_edge m) (edges_by ls m)
edges_listed [] once m = refl
edges_listed (l ∷ ls) once m =
    lists_with (λ source es. filter (leaves source) (listed (l ∷ ls)) ≡ map (listed_edge source) es) (edges_by ls) l.source l.edges
    (filter-append (leaves l.source) (map (listed_edge l.source) l.edges) (listed ls)
    ∙ (ap₂ (λ xs ys. xs ++ ys) (all_leave l.source l.edges) (none_of_others l.source ls parts.0) ∙ append-nil (map (listed_edge l.source) l.edges)))
    (λ n apart.
    filter-append (leaves n) (map (listed_edge l.source) l.edges) (listed ls)
    ∙ ap₂ (λ xs ys. xs ++ ys) (none_leave n l.source l.edges apart) (edges_listed ls parts.1 n))
    m
  where
    parts : (leaves_alone l.source ls ≡ true) × (stand_once ls ≡ true)
    parts = and_parts (leaves_alone l.source ls) (stand_once ls) once

-- Targets

-- what each glob was recorded with, by a list
abbrev pub targets_by : List (GlobId × List Def) → Targets
targets_by [] = λ g. None
targets_by (t ∷ ts) = λ g. cond (glob_eq t.0 g) (Some t.1) (targets_by ts g)

-- whether each glob stands once
abbrev pub are_distinct : List GlobId → Bool
are_distinct [] = true
are_distinct (g ∷ gs) = list_all (λ h. not (glob_eq g h)) gs && are_distinct gs

glob-sym : (g h : GlobId) → glob_eq g h ≡ glob_eq h g
glob-sym g h =
    elim (cases_Bool (glob_eq g h)) [
      | inl e ↦ ap₂ glob_eq (glob-eq g h e) (sym (glob-eq g h e))
      | inr e ↦ e ∙ sym (other_glob g h e)
    ]

looked_up : (ts : List (GlobId × List Def)) (g : GlobId) → lookup (glob_eq g) ts ≡ targets_by ts g
looked_up [] g = refl
looked_up (t ∷ ts) g = ap₂ (λ b rest. cond b (Some t.1) rest) (glob-sym g t.0) (looked_up ts g)

distinct : (gs : List GlobId) → are_distinct gs ≡ true → IsDistinct glob_eq gs
unfolding IsDistinct
distinct [] once = tt
distinct (g ∷ gs) once = (apart gs parts.0, distinct gs parts.1)
  where
    parts : (list_all (λ h. not (glob_eq g h)) gs ≡ true) × (are_distinct gs ≡ true)
    parts = and_parts (list_all (λ h. not (glob_eq g h)) gs) (are_distinct gs) once

    apart : (hs : List GlobId) → list_all (λ h. not (glob_eq g h)) hs ≡ true → AllByRecursion (λ h. glob_eq g h ≡ false) hs
    apart [] all = tt
    apart (h ∷ hs) all = let both = and_parts (not (glob_eq g h)) (list_all (λ h. not (glob_eq g h)) hs) all in (is_false _ both.0, apart hs both.1)

-- each target is listed once
pub targets_listed : (ts : List (GlobId × List Def)) → are_distinct (keys_of ts) ≡ true → AreTargets (targets_by ts) ts
targets_listed ts once = record { once = distinct (keys_of ts) once; all = looked_up ts }
