-- Comparisons that tell any two values apart.
use Rattle.std.specs.Prelude.{◌≡◌, Bool, true}

-- equal by this test is equal
abbrev pub IsExact : {A : Type 0} → (A → A → Bool) → Type 0
IsExact {A} eq = (a b : A) → eq a b ≡ true → a ≡ b
