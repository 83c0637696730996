-- A path that is made of three segments.
use Rattle.std.proofs.Common.{◌≡◌, List, [], ◌∷◌, ◌++◌, ap, ◌∙◌}
use Rattle.item_tree.specs.declared.mod_path.ModPath.{ModPath}
use Rattle.item_tree.specs.declared.mod_path.PathKind.{PathKind}
use Rattle.tree_ids.specs.declared.name.Name.{Name}

-- a path of these
abbrev spelled : PathKind → List Name → ModPath
spelled kind segments = record { kind = kind; segments = segments }

-- a path of three segments that were added in order
pub path_of_three : (k k' : PathKind) (none one two three : List Name) (a a' b c c' : Name) → none ≡ [] → one ≡ none ++ a ∷ [] → two ≡ one ++ b ∷ [] → three ≡ two ++ c ∷ [] → a ≡ a' → c ≡ c' → k ≡ k'
    → spelled k three ≡ spelled k' (a' ∷ b ∷ c' ∷ [])
path_of_three k k' none one two three a a' b c c' empty first second third same-a same-c same-k =
    let all : three ≡ a' ∷ b ∷ c' ∷ [] =
    third ∙ ap (λ l. l ++ c ∷ []) (second ∙ ap (λ l. l ++ b ∷ []) (first ∙ ap (λ l. l ++ a ∷ []) empty))
    ∙ ap (λ n. n ∷ b ∷ c ∷ []) same-a ∙ ap (λ n. a' ∷ b ∷ n ∷ []) same-c in
    λ i. record { kind = same-k i; segments = all i }
