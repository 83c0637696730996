-- Lists under keys.
use Rattle.std.specs.Prelude.{◌≡◌, Bool, cond, List, [], ◌∷◌, ◌++◌, Option, Some, unwrap_or}

-- one item more behind the others of a key, and nothing else
abbrev pub PushesUnder : {K V : Type 0} → (K → K → Bool) → (K → Option (List V)) → (K → Option (List V)) → K → V → Type 0
PushesUnder eq old new key item = (q : _) → new q ≡ cond (eq key q) (Some (unwrap_or (old key) [] ++ item ∷ [])) (old q)
