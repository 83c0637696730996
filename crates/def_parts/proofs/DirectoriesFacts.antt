-- Directories and candidates of single modules.
use Rattle.std.proofs.Common.{◌≡◌, true, false, Some, None, [], ◌∷◌, refl}
use Rattle.std.specs.Prelude.{codes, map, Err}
use Rattle.tree_ids.specs.declared.ids.FileId.{FileId}
use Rattle.tree_ids.specs.declared.ids.HirFileId.TheVariants.{File}
use Rattle.def_readings.specs.Directories.{Directory, Files, root_directory, dir_text, joined_text, pieces_of, dir_pieces, clean, candidates, child, descend, is_mod_rs, found_file, found_directory, resolve_declaration}

-- the directory of `mod bar { .. }` in foo.rs, and that of foo.rs itself
abbrev foo_bar : Directory
foo_bar = record { pieces = codes "foo" ∷ codes "bar" ∷ []; root_non_dir_owner = false; depth = 2 }

abbrev foo : Directory
foo = record { pieces = codes "foo" ∷ []; root_non_dir_owner = true; depth = 1 }

-- file 7 for every path, and no file for any
abbrev file : FileId
file = record { 0 = 7 }

abbrev some_files : Files
some_files = record { original_file = λ _. file; resolve_path = λ _ _. Some file }

abbrev no_files : Files
no_files = record { original_file = λ _. file; resolve_path = λ _ _. None }

in_root : map joined_text (candidates root_directory (codes "foo") None) ≡ codes "foo.rs" ∷ codes "foo/mod.rs" ∷ []
in_root = refl

in_foo_bar : map joined_text (candidates foo_bar (codes "x") None) ≡ codes "foo/bar/x.rs" ∷ codes "foo/bar/x/mod.rs" ∷ []
in_foo_bar = refl

-- an attribute in foo.rs is relative to where foo.rs lies
beside_foo : map joined_text (candidates foo (codes "b") (Some (codes "./a\\b.rs"))) ≡ codes "a/b.rs" ∷ []
beside_foo = refl

-- one leading "./" is dropped, and no other
one_dot : clean (codes "././a.rs") ≡ codes "./a.rs"
one_dot = refl

later_dot : clean (codes "a/./b.rs") ≡ codes "a/./b.rs"
later_dot = refl

below_root : descend root_directory (codes "foo") None ≡ Some (record { pieces = codes "foo" ∷ []; root_non_dir_owner = false; depth = 1 })
below_root = refl

text_of_foo : dir_text (codes "foo" ∷ []) ≡ codes "foo/"
text_of_foo = refl

text_of_foo_bar : dir_pieces (codes "foo/bar/") ≡ foo_bar.pieces
text_of_foo_bar = refl

-- an attribute may end with '/', or be empty
below_attr : descend root_directory (codes "m") (Some (codes "a/b/")) ≡ Some (record { pieces = codes "a" ∷ codes "b" ∷ []; root_non_dir_owner = false; depth = 1 })
below_attr = refl

below_no_attr : descend foo_bar (codes "m") (Some []) ≡ Some (record { pieces = foo_bar.pieces; root_non_dir_owner = false; depth = 3 })
below_no_attr = refl

-- mod.rs alone is no mod.rs in a directory
alone : is_mod_rs (pieces_of (codes "mod.rs")) ≡ false
alone = refl

in_directory : is_mod_rs (pieces_of (codes "foo/mod.rs")) ≡ true
in_directory = refl

other_name : is_mod_rs (pieces_of (codes "foo/amod.rs")) ≡ false
other_name = refl

path_mod_rs : found_file root_directory (codes "m") (Some (codes "mod.rs")) (pieces_of (codes "mod.rs")) file ≡ Some (file, false, record { pieces = []; root_non_dir_owner = false; depth = 1 })
path_mod_rs = refl

-- the children of foo.rs lie in foo/, those of foo/mod.rs beside it
child_of_file : found_directory root_directory (codes "foo") None (pieces_of (codes "foo.rs")) ≡ Some foo
child_of_file = refl

child_of_mod_rs : found_directory root_directory (codes "foo") None (pieces_of (codes "foo/mod.rs")) ≡ Some (record { pieces = []; root_non_dir_owner = false; depth = 1 })
child_of_mod_rs = refl

-- the 32nd level is the last
last_level : child (record root_directory { depth = 31 }) [] false ≡ Some (record root_directory { depth = 32 })
last_level = refl

too_deep : child (record root_directory { depth = 32 }) [] false ≡ None
too_deep = refl

nowhere : resolve_declaration no_files (File file) root_directory (codes "foo") None ≡ Err (codes "foo.rs" ∷ codes "foo/mod.rs" ∷ [])
nowhere = refl

-- a file that is there is refused all the same where it is too deep
there_but_deep : resolve_declaration some_files (File file) (record root_directory { depth = 32 }) (codes "foo") None ≡ Err (codes "foo.rs" ∷ codes "foo/mod.rs" ∷ [])
there_but_deep = refl
