-- The scripted workspaces that there are.
use Rattle.std.specs.Prelude.{Bool, ℕ, List, [], ◌∷◌, codes, bytes_eq}
use Rattle.std.specs.List.{list_any}

-- the names of the vectors, in byte order
abbrev pub vector_names : List (List ℕ)
vector_names = codes "attrs" ∷ codes "chain" ∷ codes "circular" ∷ codes "cycle" ∷ codes "empty" ∷ codes "excused" ∷ codes "fallback" ∷ codes "fields" ∷ codes "follow" ∷ codes "glob" ∷ codes "list" ∷ codes "module-macro" ∷ codes "partial" ∷ codes "plain" ∷ codes "private" ∷ codes "procmacro" ∷ codes "rounds" ∷ codes "targets" ∷ codes "textual-use" ∷ codes "underscore" ∷ []

-- whether there is a vector of this name
unfoldable pub is_vector : List ℕ → Bool
is_vector name = list_any (λ known. bytes_eq known name) vector_names
