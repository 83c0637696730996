-- Modules of a map after a write.
use Rattle.std.proofs.Common.{◌≡◌, ℕ, zero, suc, ◌<◌, ◌≤◌, List, [], ◌∷◌, Result, Ok, Err, refl, sym, ap, ◌∙◌, arith, length, vec_len, get_or}
use Rattle.std.specs.Prelude.{OnOk, map}
use Rattle.std.specs.Vec.{with_item}
use Rattle.std.proofs.lemmas.List.{length-map}
use Rattle.std.proofs.Math.ListN.{set}
use Rattle.def_modules.specs.declared.map.MapData.{MapData}
use Rattle.def_modules.specs.declared.module_data.ModuleData.{ModuleData}
use Rattle.def_modules.specs.MapState.{ModuleState}
use Rattle.def_modules.specs.Scopes.{module_state}
use Rattle.def_modules.specs.Maps.{map_state, with_module}
use Rattle.def_modules.specs.Updates.{update_at}

-- the shown list after one element is set
pub shown-set : {X Y : Type 0} (shown : X → Y) (xs : List X) (i : ℕ) (was new : X) (f : Y → Y) → i < length xs → was ≡ get_or xs i was → shown new ≡ f (shown was)
    → map shown (set xs i new) ≡ update_at (map shown xs) i f
shown-set shown [] i was new f within at is = absurd (omega arith)
shown-set shown (x ∷ xs) zero was new f within at is = ap (λ y. y ∷ map shown xs) (is ∙ ap (λ y. f (shown y)) at)
shown-set shown (x ∷ xs) (suc i) was new f within at is = ap (λ ys. shown x ∷ ys) (shown-set shown xs i was new f (omega arith) at is)

-- and after one that shows the same
shown-same : {X Y : Type 0} (shown : X → Y) (xs : List X) (i : ℕ) (was new : X) → i < length xs → was ≡ get_or xs i was → shown new ≡ shown was → map shown (set xs i new) ≡ map shown xs
shown-same shown [] i was new within at is = absurd (omega arith)
shown-same shown (x ∷ xs) zero was new within at is = ap (λ y. y ∷ map shown xs) (is ∙ ap shown at)
shown-same shown (x ∷ xs) (suc i) was new within at is = ap (λ ys. shown x ∷ ys) (shown-same shown xs i was new (omega arith) at is)

-- one element replaced
pub set-update : {X : Type 0} (xs : List X) (i : ℕ) (new : X) → i < length xs → set xs i new ≡ update_at xs i (λ before. new)
set-update [] i new within = absurd (omega arith)
set-update (x ∷ xs) zero new within = refl
set-update (x ∷ xs) (suc i) new within = ap (λ ys. x ∷ ys) (set-update xs i new (omega arith))

-- a list without the index stays
pub missing : {Y : Type 0} (ys : List Y) (i : ℕ) (f : Y → Y) → length ys ≤ i → update_at ys i f ≡ ys
missing [] i f h = refl
missing (y ∷ ys) zero f h = absurd (omega arith)
missing (y ∷ ys) (suc i) f h = ap (λ zs. y ∷ zs) (missing ys i f (omega arith))

-- one module written
pub module_changed : {T E : Type 0} (r : Result T E) (d : MapData) (i : ℕ) (was new : ModuleData) (f : ModuleState → ModuleState)
    → i < vec_len d.modules → was ≡ get_or d.modules.items i was → OnOk r (module_state new ≡ f (module_state was))
    → OnOk r (map_state (record d { modules = with_item d.modules i new }) ≡ with_module (map_state d) i f)
module_changed (Ok x) d i was new f within at is =
    let same : length d.modules.items ≡ vec_len d.modules = sym d.modules.ok.0 in
    ap (λ ms. record (map_state d) { modules = ms }) (shown-set module_state d.modules.items i was new f (omega arith) at is)
module_changed (Err e) d i was new f within at is = tt

-- one module that shows the same
pub module_same : (d : MapData) (i : ℕ) (was new : ModuleData) → i < vec_len d.modules → was ≡ get_or d.modules.items i was → module_state new ≡ module_state was → map_state (record d { modules = with_item d.modules i new }) ≡ map_state d
module_same d i was new within at is =
    let same : length d.modules.items ≡ vec_len d.modules = sym d.modules.ok.0 in
    ap (λ ms. record (map_state d) { modules = ms }) (shown-same module_state d.modules.items i was new (omega arith) at is)

-- a module that is not there
pub module_missing : (d : MapData) (i : ℕ) (f : ModuleState → ModuleState) → vec_len d.modules ≤ i → map_state d ≡ with_module (map_state d) i f
module_missing d i f beyond =
    ap (λ ms. record (map_state d) { modules = ms }) (sym (missing (map module_state d.modules.items) i f (omega (arith, length-map d.modules.items module_state, d.modules.ok.0))))
