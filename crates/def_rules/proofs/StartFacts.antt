-- What is known of a crate, worked out.
use Rattle.std.proofs.Common.{◌≡◌, ℕ, true, false, List, [], ◌∷◌, Option, Some, None, codes, refl}
use Rattle.item_tree.specs.declared.attrs.Attr.{Attr}
use Rattle.item_tree.specs.declared.attrs.AttrInput.{AttrInput}
use Rattle.item_tree.specs.declared.attrs.AttrInput.TheVariants.{Str, TokenTree}
use Rattle.item_tree.specs.declared.mod_path.PathKind.TheVariants.{Plain}
use Rattle.tree_ids.specs.declared.name.Name.{Name}
use Rattle.item_tree.specs.declared.tt.Leaf.TheVariants.{Ident}
use Rattle.item_tree.specs.KnownNames as known
use Rattle.item_tree.specs.TokenTrees.{TokenTrees, no_trees, leaf}
use Rattle.def_oracle.specs.declared.source_database.LangCrate.TheVariants.{Core, Std}
use Rattle.def_ids.specs.declared.edition.Edition.TheVariants.{Edition2021}
use Rattle.def_modules.specs.Fresh.{fresh_crate, known_tools}
use Rattle.def_modules.specs.Maps.{limit_of}
use Rattle.def_rules.specs.Crates.{after_attrs, is_left_out, read_u32, says_proc_macro}

-- an attribute of this name
abbrev attr : Name → Option AttrInput → Attr
attr name input = record { path = record { kind = Plain; segments = name ∷ [] }; input = input; ctxt = record { 0 = 0 }; paths = None }

abbrev text : List ℕ → Option AttrInput
text t = Some (Str t)

abbrev tokens : TokenTrees → Option AttrInput
tokens ts = Some (TokenTree ts)

-- a word before others
abbrev word : ℕ → TokenTrees → TokenTrees
word n behind = leaf (Ident (record { 0 = n })) behind

-- a limit is a number of 32 bits
digits_are_read : read_u32 (codes "128") ≡ Some 128
digits_are_read = refl

a_plus_may_stand_first : read_u32 (codes "+7") ≡ Some 7
a_plus_may_stand_first = refl

nothing_is_no_number : read_u32 [] ≡ None
nothing_is_no_number = refl

a_plus_is_no_number : read_u32 (codes "+") ≡ None
a_plus_is_no_number = refl

a_minus_is_no_digit : read_u32 (codes "-1") ≡ None
a_minus_is_no_digit = refl

the_greatest_is_read : read_u32 (codes "4294967295") ≡ Some 4294967295
the_greatest_is_read = refl

one_more_is_not : read_u32 (codes "4294967296") ≡ None
one_more_is_not = refl

-- the last limit that is a number counts
abbrev limits : List Attr
limits = attr known.recursion_limit_name (text (codes "5")) ∷ attr known.recursion_limit_name (text (codes "4")) ∷ attr known.recursion_limit_name (text (codes "x")) ∷ []

the_last_number_counts : limit_of (after_attrs limits (fresh_crate Edition2021)) ≡ 4
the_last_number_counts = refl

none_is_128 : limit_of (after_attrs [] (fresh_crate Edition2021)) ≡ 128
none_is_128 = refl

-- flags, each by its own name
no_core_is_no_core : (after_attrs (attr known.no_core_name None ∷ []) (fresh_crate Edition2021)).no_core ≡ true
no_core_is_no_core = refl

no_core_is_not_no_std : (after_attrs (attr known.no_core_name None ∷ []) (fresh_crate Edition2021)).no_std ≡ false
no_core_is_not_no_std = refl

-- one tool, if it stands alone
a_tool_is_added : (after_attrs (attr known.register_tool_name (tokens (word 40 no_trees)) ∷ []) (fresh_crate Edition2021)).tools ≡ record { 0 = 27 } ∷ record { 0 = 28 } ∷ record { 0 = 29 } ∷ record { 0 = 30 } ∷ record { 0 = 31 } ∷ record { 0 = 40 } ∷ []
a_tool_is_added = refl

two_are_not : (after_attrs (attr known.register_tool_name (tokens (word 40 (word 41 no_trees))) ∷ []) (fresh_crate Edition2021)).tools ≡ known_tools
two_are_not = refl

-- `crate_type`
a_crate_of_procedural_macros : says_proc_macro (attr known.crate_type_name (text (codes "proc-macro"))) ≡ true
a_crate_of_procedural_macros = refl

a_library : says_proc_macro (attr known.crate_type_name (text (codes "lib"))) ≡ false
a_library = refl

-- `no_core` leaves out both crates of the language, and `no_std` only `std`
std_goes_with_core : is_left_out (after_attrs (attr known.no_core_name None ∷ []) (fresh_crate Edition2021)) (Some Std) ≡ true
std_goes_with_core = refl

core_stays_without_std : is_left_out (after_attrs (attr known.no_std_name None ∷ []) (fresh_crate Edition2021)) (Some Core) ≡ false
core_stays_without_std = refl
