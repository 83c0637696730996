-- Words on lists and options that the definitions share.
use Rattle.std.specs.Prelude.{Option, Some, None, Bool, true, false, List, [], ◌∷◌, cond}

-- the first of two answers that is there
abbrev pub or_else : {X : Type 0} → Option X → Option X → Option X
or_else None other = other
or_else (Some x) other = Some x

-- the function with another value at the places that the test picks
abbrev pub set_where : {K X : Type 0} → (K → Bool) → X → (K → X) → K → X
set_where here x f k = cond (here k) x (f k)

-- whether a list has an element
abbrev pub is_there : {X : Type 0} → List X → Bool
is_there [] = false
is_there (x ∷ xs) = true

-- the first element
abbrev pub first_of_list : {X : Type 0} → List X → Option X
first_of_list [] = None
first_of_list (x ∷ xs) = Some x

-- the element of a list of one
abbrev pub only_of_list : {X : Type 0} → List X → Option X
only_of_list [] = None
only_of_list (x ∷ []) = Some x
only_of_list (x ∷ y ∷ rest) = None
