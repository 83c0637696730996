-- Passes over the imports.
use Rattle.std.proofs.Common.{◌≡◌, ◌<◌, ◌≤◌, ◌+◌, ℕ, Bool, false, true, cond, ◌&&◌, ◌||◌, not, List, [], ◌∷◌, ◌++◌, Some, None, sum_by, IsPermutation, arith, refl, ◌∙◌, inl, inr}
use Rattle.std.proofs.lemmas.Bool.{or_cases}
use Rattle.std.proofs.lemmas.List.Sorted.{sum_by-IsPermutation, sum_by_popped}
use Rattle.std.proofs.lemmas.List.Sums.{sum_by-append}
use Rattle.def_paths.specs.declared.path_result.ResolvePathResult.{ResolvePathResult}
use Rattle.def_oracle.specs.Oracle.{Oracle}
use Rattle.def_laws.specs.Turns.{Moves, missing_from, turns_left, turns_of}
use Rattle.def_laws.specs.Performs.{Performs}
use Rattle.def_rules.specs.Imports.{answer_now, is_ready, is_extended, is_foreign, is_full, is_missing, given_set, union, kept_after}
use Rattle.def_rules.specs.Recording.{import_effect, kept_list, record_effect}
use Rattle.def_rules.specs.State.{IsBare, State, Import, ImportDirective, NsSet}
use Rattle.def_laws.specs.Runs.{Leads}
use Rattle.def_laws.proofs.StepsLaws.{leads_import, leads_performed, leads_rearranged, leads_trans}
use Rattle.def_laws.proofs.TasksLaws.{record_followed}

-- Sets of namespaces

missing : Bool → ℕ
missing b = cond b 0 1

missing-or : (r g : Bool) → cond (r || g) 0 1 ≤ cond r 0 1
missing-or true g = omega arith
missing-or false true = omega arith
missing-or false false = omega arith

missing-more : (r g : Bool) → (g && not r) ≡ true → cond (r || g) 0 1 < cond r 0 1
missing-more true true h = absurd cc
missing-more true false h = absurd cc
missing-more false true h = omega arith
missing-more false false h = absurd cc

-- what extends a set leaves less missing
missing_from-union : (recorded given : NsSet) → is_extended recorded given ≡ true → missing_from (union recorded given) < missing_from recorded
missing_from-union recorded given h =
    let types = missing-or recorded.types given.types in
    let values = missing-or recorded.values given.values in
    let macros = missing-or recorded.macros given.macros in
    elim (or_cases (given.types && not recorded.types) _ h) [
      | inl e ↦ let less = missing-more recorded.types given.types e in omega arith
      | inr rest ↦ elim (or_cases (given.values && not recorded.values) _ rest) [
        | inl e ↦ let less = missing-more recorded.values given.values e in omega arith
        | inr e ↦ let less = missing-more recorded.macros given.macros e in omega arith
      ]
    ]

kept_unless_full-light : (p : Import) (full : Bool) (recorded : NsSet) (old : ℕ) → missing_from recorded < old → sum_by turns_of (kept_list p (cond full None (Some recorded))) < 1 + old
kept_unless_full-light p true recorded old less = omega arith
kept_unless_full-light p false recorded old less = omega arith

-- what is kept of an import that is ready has fewer turns
kept_after-lighter : (p : Import) (foreign full : Bool) (recorded given : NsSet) → (foreign || is_extended recorded given) ≡ true
    → sum_by turns_of (kept_list p (cond foreign None (cond full None (Some (union recorded given))))) < 1 + missing_from recorded
kept_after-lighter p true full recorded given ready = omega arith
kept_after-lighter p false full recorded given ready = kept_unless_full-light p full (union recorded given) (missing_from recorded) (missing_from-union recorded given ready)

-- An import is recorded

and_right : (a b : Bool) → (a && b) ≡ true → b ≡ true
and_right true b h = h
and_right false b h = absurd cc

-- an import that is ready was recorded, and its entries were put
pub moves_import : (oracle : Oracle) (s t : State) (d : ImportDirective) (rest imports : List ImportDirective) → IsBare s → IsPermutation s.imports (d ∷ rest)
    → IsPermutation (rest ++ kept_list d.import (kept_after d.recorded (answer_now oracle s d.import))) imports → is_ready d.recorded (answer_now oracle s d.import) ≡ true
    → (let effect = record_effect oracle (record s { imports = imports }) d.import (answer_now oracle s d.import) in Performs oracle effect.tasks effect.state t)
    → turns_left t ≡ turns_left (record s { imports = imports })
    → Moves oracle s t
moves_import oracle s t d rest imports bare stands left ready performs same = record { leads = leads; fewer = fewer }
  where
    answer : ResolvePathResult
    answer = answer_now oracle s d.import

    kept : List ImportDirective
    kept = kept_list d.import (kept_after d.recorded answer)

    v : State
    v = record s { imports = imports }

    leads : Leads oracle [] s [] t
    leads =
        leads_trans (leads_import s (import_effect oracle s d rest answer) (record { bare = bare; directive = d; rest = rest; stands = stands; ready = ready; is = refl }))
        (leads_trans (leads_rearranged _ _ (record_effect oracle v d.import answer).state (record { imports = left; rest = refl }))
        (leads_performed (record_effect oracle v d.import answer).tasks [] (record_effect oracle v d.import answer).state t (record_followed oracle v d.import answer d.import.written.kind) performs))

    fewer : turns_left t < turns_left s
    fewer =
        let same' : turns_left t ≡ turns_left v = same in
        let was : sum_by turns_of rest + (1 + missing_from d.recorded) ≡ turns_left s = sum_by_popped turns_of d s.imports rest stands in
        let is : turns_left v ≡ sum_by turns_of rest + sum_by turns_of kept = sum_by-IsPermutation turns_of (rest ++ kept) imports left ∙ sum_by-append turns_of rest kept in
        let light = kept_after-lighter d.import (is_foreign answer) (is_full (union d.recorded (given_set answer.resolved_def))) d.recorded (given_set answer.resolved_def)
        (and_right (not (is_missing answer)) (is_foreign answer || is_extended d.recorded (given_set answer.resolved_def)) ready) in
        omega arith
