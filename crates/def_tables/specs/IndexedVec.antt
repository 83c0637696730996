-- What is found by keys.
use Rattle.std.specs.Prelude.{Bool, List, Option}
use Rattle.std.specs.Map.{lookup}

-- the value of a key, if it has one
abbrev pub get : {P W : Type 0} → (P → P → Bool) → List (P × W) → P → Option W
get eq rows key = lookup (eq key) rows
