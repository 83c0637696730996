-- The directory of a module's contents lies one level deeper.
use Rattle.std.proofs.Common.{◌≡◌, ◌<◌, ◌+◌, ℕ, Bool, true, false, cond, List, [], ◌∷◌, Option, Some, None, Ok, option_map, option_and_then, refl, ap, sym}
use Rattle.std.proofs.lemmas.Bool.{ltb-true}
use Rattle.std.specs.Prelude.{nat_lt}
use Rattle.tree_ids.specs.declared.ids.FileId.{FileId}
use Rattle.tree_ids.specs.declared.ids.HirFileId.{HirFileId}
use Rattle.item_tree.specs.Lists.{or_else}
use Rattle.def_readings.specs.Directories.{Directory, Files, FoundFile, candidates, child, child_of_file, descend, first_found, found_directory, found_file, in_candidate, is_mod_rs, joined_text, or_candidates, pieces_of, resolve_declaration}

-- one level below a directory that is not at the limit
pub record IsDeeper (above below : Directory) : Type 0 where
  pub within : above.depth < 32
  pub deeper : below.depth ≡ above.depth + 1

cond_some : {X : Type 0} (b : Bool) (x y : X) → cond b (Some x) None ≡ Some y → (b ≡ true) × (x ≡ y)
cond_some true x y e = let same : x ≡ y = cc in (refl, same)
cond_some false x y e = absurd (cc e)

mapped_some : {X Y : Type 0} (f : X → Y) (o : Option X) (y : Y) → option_map f o ≡ Some y → (x : X) × (o ≡ Some x) × (f x ≡ y)
mapped_some f None y e = absurd (cc e)
mapped_some f (Some x) y e = let same : f x ≡ y = cc in (x, refl, same)

then_some : {X Y : Type 0} (f : X → Option Y) (o : Option X) (y : Y) → option_and_then f o ≡ Some y → (x : X) × (f x ≡ Some y)
then_some f None y e = absurd (cc e)
then_some f (Some x) y e = (x, e)

child_deeper : (above : Directory) (pieces : List (List ℕ)) (owner : Bool) (below : Directory) → child above pieces owner ≡ Some below → IsDeeper above below
child_deeper above pieces owner below e =
    let parts = cond_some (nat_lt above.depth 32) _ below e in
    let level : above.depth + 1 ≡ below.depth = ap (λ (d : Directory). d.depth) parts.1 in
    record { within = ltb-true above.depth 32 parts.0; deeper = sym level }

-- an inline module
pub descend_deeper : (above : Directory) (name : List ℕ) (attr : Option (List ℕ)) (below : Directory) → descend above name attr ≡ Some below → IsDeeper above below
descend_deeper above name attr below e = child_deeper above _ false below e

of_file_deeper : (above : Directory) (name : List ℕ) (owns : Bool) (below : Directory) → child_of_file above name owns ≡ Some below → IsDeeper above below
of_file_deeper above name true below e = child_deeper above [] false below e
of_file_deeper above name false below e = child_deeper above (pieces_of name) true below e

module _ (files : Files) (anchor : FileId) (above : Directory) (name : List ℕ) (attr : Option (List ℕ)) where
  in_candidate_deeper : (candidate : List (List ℕ)) (found : FoundFile) → in_candidate files anchor above name attr candidate ≡ Some found → IsDeeper above found.2
  in_candidate_deeper candidate found e =
      let file = then_some (found_file above name attr candidate) (files.resolve_path anchor (joined_text candidate)) found e in
      let below = mapped_some (λ child. (file.0, is_mod_rs candidate, child)) (found_directory above name attr candidate) found file.1 in
      let level : below.0 ≡ found.2 = ap (λ (f : FoundFile). f.2) below.2 in
      let lies = of_file_deeper above name _ below.0 below.1 in
      record { within = lies.within; deeper = rw (sym level) lies.deeper }

  either_deeper : (first rest : Option FoundFile) (found : FoundFile) → ((f : FoundFile) → first ≡ Some f → IsDeeper above f.2) → ((f : FoundFile) → rest ≡ Some f → IsDeeper above f.2) → or_else first rest ≡ Some found → IsDeeper above found.2
  either_deeper None rest found here later e = later found e
  either_deeper (Some first) rest found here later e = here found e

  first_found_deeper : (list : List (List (List ℕ))) (found : FoundFile) → first_found files anchor above name attr list ≡ Some found → IsDeeper above found.2
  first_found_deeper [] found e = absurd (cc e)
  first_found_deeper (candidate ∷ rest) found e =
      either_deeper (in_candidate files anchor above name attr candidate) (first_found files anchor above name attr rest) found (in_candidate_deeper candidate) (first_found_deeper rest) e

or_candidates_found : (o : Option FoundFile) (texts : List (List ℕ)) (found : FoundFile) → or_candidates o texts ≡ Ok found → o ≡ Some found
or_candidates_found (Some f) texts found e = let same : f ≡ found = cc in ap Some same
or_candidates_found None texts found e = absurd (cc e)

-- a module in a file of its own
pub declaration_deeper : (files : Files) (file : HirFileId) (above : Directory) (name : List ℕ) (attr : Option (List ℕ)) (found : FoundFile) → resolve_declaration files file above name attr ≡ Ok found → IsDeeper above found.2
declaration_deeper files file above name attr found e =
    first_found_deeper files (files.original_file file) above name attr (candidates above name attr) found
    (or_candidates_found (first_found files (files.original_file file) above name attr (candidates above name attr)) _ found e)
