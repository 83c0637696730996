-- Directories of modules, as lists of texts without '/'.
use Rattle.std.specs.Prelude.{◌≡◌, ℕ, ◌+◌, ◌==◌, Bool, true, false, cond, ◌||◌, nat_eq, nat_lt, List, [], ◌∷◌, ◌++◌, drop, map, is_some, Option, None, Some, option_map, option_and_then, Result, Ok, Err, codes, string_bytes, String, Vec}
use Rattle.std.specs.Global.{Global}
use denote.Ref.{Bor}
use Rattle.std.specs.List.{flat_map, join_with_byte, starts_with, slice_split}
use Rattle.tree_ids.specs.declared.ids.FileId.{FileId}
use Rattle.tree_ids.specs.declared.ids.HirFileId.{HirFileId}
use Rattle.item_tree.specs.Lists.{or_else}
use Rattle.def_oracle.specs.Oracle.{Oracle}

-- the text of an attribute, if there is one
abbrev pub text_in : Option (Bor (List ℕ)) → Option (List ℕ)
text_in attr = option_map (λ text. text.now) attr

-- a module's directory; root_non_dir_owner: it is named after a file in the directory above
pub record Directory : Type 0 where
  pub pieces : List (List ℕ)
  pub root_non_dir_owner : Bool
  pub depth : ℕ

-- a directory that is named after a file has a directory above
abbrev pub HasParent : List (List ℕ) → Bool → Type 0
HasParent pieces root_non_dir_owner = root_non_dir_owner ≡ true → pieces ≡ [] → ⊥

-- a crate root's directory
abbrev pub root_directory : Directory
root_directory = record { pieces = []; root_non_dir_owner = false; depth = 0 }

-- the byte of '/'
abbrev pub slash : ℕ
slash = 47

-- each piece followed by '/'
abbrev pub dir_text : List (List ℕ) → List ℕ
dir_text pieces = flat_map (λ piece. piece ++ slash ∷ []) pieces

-- the texts joined by '/'
abbrev pub joined_text : List (List ℕ) → List ℕ
joined_text pieces = join_with_byte slash pieces

-- a text split at each '/'
abbrev pub pieces_of : List ℕ → List (List ℕ)
pieces_of text = slice_split (λ c. c == slash) text

-- without one leading './'
abbrev pub without_dot : List ℕ → List ℕ
without_dot text = cond (starts_with nat_eq text (codes "./")) (drop 2 text) text

-- '/' for a backslash
abbrev pub as_slash : ℕ → ℕ
as_slash c = cond (c == 92) slash c

-- an attribute's text without one leading './', and with '/' for each backslash
abbrev pub clean : List ℕ → List ℕ
clean attr = map as_slash (without_dot attr)

-- without the last piece
abbrev pub without_last : List (List ℕ) → List (List ℕ)
without_last [] = []
without_last (last ∷ []) = []
without_last (piece ∷ next ∷ rest) = piece ∷ without_last (next ∷ rest)

-- without an empty last piece
abbrev pub without_last_empty : List (List ℕ) → List (List ℕ)
without_last_empty [] = []
without_last_empty ([] ∷ []) = []
without_last_empty (piece ∷ rest) = piece ∷ without_last_empty rest

-- the pieces of a directory's text
abbrev pub dir_pieces : List ℕ → List (List ℕ)
dir_pieces text = without_last_empty (pieces_of text)

-- what an attribute's path is relative to
abbrev pub base_of : List (List ℕ) → Bool → List (List ℕ)
base_of pieces relative_to_parent = cond relative_to_parent (without_last pieces) pieces

abbrev pub attr_base : Directory → List (List ℕ)
attr_base dir = base_of dir.pieces dir.root_non_dir_owner

-- one level deeper, down to 32
abbrev pub child : Directory → List (List ℕ) → Bool → Option Directory
child dir pieces owner = cond (nat_lt dir.depth 32) (Some (record { pieces = pieces; root_non_dir_owner = owner; depth = dir.depth + 1 })) None

-- the pieces below a directory, by a name or by an attribute
abbrev pub below : Directory → List ℕ → Option (List ℕ) → List (List ℕ)
below dir name None = dir.pieces ++ pieces_of name
below dir name (Some attr) = attr_base dir ++ without_last_empty (pieces_of (clean attr))

-- the directory of an inline module
abbrev pub descend : Directory → List ℕ → Option (List ℕ) → Option Directory
descend dir name attr = child dir (below dir name attr) false

-- the files that an outline module may lie in
abbrev pub candidates : Directory → List ℕ → Option (List ℕ) → List (List (List ℕ))
candidates dir name (Some attr) = (attr_base dir ++ pieces_of (clean attr)) ∷ []
candidates dir name None = (dir.pieces ++ pieces_of (name ++ codes ".rs")) ∷ (dir.pieces ++ (pieces_of name ++ codes "mod.rs" ∷ [])) ∷ []

-- whether two texts are one
abbrev pub is_text : List ℕ → List ℕ → Bool
is_text [] [] = true
is_text [] (b ∷ bs) = false
is_text (a ∷ as') [] = false
is_text (a ∷ as') (b ∷ bs) = cond (a == b) (is_text as' bs) false

-- two pieces or more, the last being mod.rs
abbrev pub is_mod_rs : List (List ℕ) → Bool
is_mod_rs [] = false
is_mod_rs (alone ∷ []) = false
is_mod_rs (first ∷ last ∷ []) = is_text last (codes "mod.rs")
is_mod_rs (first ∷ next ∷ third ∷ rest) = is_mod_rs (next ∷ third ∷ rest)

-- the directory of a module that was found in a file: below the file's, unless that is a mod.rs or was named by an attribute
abbrev pub child_of_file : Directory → List ℕ → Bool → Option Directory
child_of_file dir name owns_directory = cond owns_directory (child dir [] false) (child dir (pieces_of name) true)

-- the directory of a module that was found in a candidate
abbrev pub found_directory : Directory → List ℕ → Option (List ℕ) → List (List ℕ) → Option Directory
found_directory dir name attr candidate = child_of_file dir name (is_mod_rs candidate || is_some attr)

-- the file of an outline module, whether it is a mod.rs, and the module's directory
abbrev pub FoundFile : Type 0
FoundFile = FileId × Bool × Directory

-- a module that is found in a file, with its directory
abbrev pub found_file : Directory → List ℕ → Option (List ℕ) → List (List ℕ) → FileId → Option FoundFile
found_file dir name attr candidate file = option_map (λ child. (file, is_mod_rs candidate, child)) (found_directory dir name attr candidate)

-- where each file comes from, and what lies at each path
pub record Files : Type 0 where
  pub original_file : HirFileId → FileId
  pub resolve_path : FileId → List ℕ → Option FileId

-- what a database answers about files
abbrev pub files_of : Oracle → Files
files_of oracle = record { original_file = oracle.original_file; resolve_path = oracle.resolve_path }

-- a candidate that is found, and whose directory is not too deep
abbrev pub in_candidate : Files → FileId → Directory → List ℕ → Option (List ℕ) → List (List ℕ) → Option FoundFile
in_candidate files anchor dir name attr candidate =
    option_and_then (found_file dir name attr candidate) (files.resolve_path anchor (joined_text candidate))

-- the first candidate that is found
abbrev pub first_found : Files → FileId → Directory → List ℕ → Option (List ℕ) → List (List (List ℕ)) → Option FoundFile
first_found files anchor dir name attr [] = None
first_found files anchor dir name attr (candidate ∷ rest) = or_else (in_candidate files anchor dir name attr candidate) (first_found files anchor dir name attr rest)

-- what is found, or the candidates
abbrev pub or_candidates : Option FoundFile → List (List ℕ) → Result FoundFile (List (List ℕ))
or_candidates (Some found) texts = Ok found
or_candidates None texts = Err texts

-- the file of an outline module, or all candidates
abbrev pub resolve_declaration : Files → HirFileId → Directory → List ℕ → Option (List ℕ) → Result FoundFile (List (List ℕ))
resolve_declaration files file dir name attr =
    or_candidates (first_found files (files.original_file file) dir name attr (candidates dir name attr)) (map joined_text (candidates dir name attr))

-- the pieces of a text
abbrev pub split_text : String Global → List (List ℕ)
split_text text = pieces_of (string_bytes text)

-- an answer with its files as texts
abbrev pub AnswersFile : Result FoundFile (Vec (String Global) Global) → Result FoundFile (List (List ℕ)) → Type 0
AnswersFile (Ok found) wanted = wanted ≡ Ok found
AnswersFile (Err files) wanted = wanted ≡ Err (map string_bytes files.items)
