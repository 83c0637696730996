-- What a step up shows of the chain.
use Rattle.std.proofs.Common.{◌≡◌, Option, Some, None, refl}
use Rattle.std.specs.Prelude.{option_map}
use Rattle.std.specs.Option.{option_map_or}

pub option_map_or-option_map : {A B C : Type 0} (f : B → C) (g : A → B) (o : Option A) (d : C) → option_map_or f (option_map g o) d ≡ option_map_or (λ x. f (g x)) o d
option_map_or-option_map f g None d = refl
option_map_or-option_map f g (Some x) d = refl
