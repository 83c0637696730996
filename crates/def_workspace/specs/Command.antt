-- What the words of a command line ask for.
use Rattle.std.specs.Prelude.{Bool, false, ◌&&◌, ℕ, List, [], ◌∷◌, codes, bytes_eq}
use Rattle.def_scripted.specs.Vectors.{is_vector}

-- the word that asks for the names
unfoldable pub is_list : List ℕ → Bool
is_list word = bytes_eq word (codes "list")

-- the word that asks for a vector
unfoldable pub is_show : List ℕ → Bool
is_show word = bytes_eq word (codes "show")

-- whether words ask for something that there is
abbrev pub is_answerable : List (List ℕ) → Bool
is_answerable [] = false
is_answerable (word ∷ []) = is_list word
is_answerable (word ∷ name ∷ []) = is_show word && is_vector name
is_answerable (word ∷ name ∷ other ∷ words) = false
