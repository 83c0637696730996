-- Paths that are cloned.
use Rattle.std.proofs.Common.{◌≡◌}
use Rattle.std.specs.List.{AllZip}
use Rattle.std.proofs.lemmas.List.Elements.{same_from_all_zip}
use Rattle.tree_ids.specs.declared.name.Name.{Name}
use Rattle.item_tree.specs.declared.mod_path.ModPath.{ModPath}

-- a path that was cloned is the same
pub cloned_path : (old new : ModPath) → (new.kind ≡ old.kind) × AllZip (λ (x y : Name). y ≡ x) old.segments new.segments → new ≡ old
cloned_path old new same =
    let segments = same_from_all_zip (λ (x y : Name). y ≡ x) old.segments new.segments same.1 (λ x y is. is) in
    λ i. record { kind = same.0 i; segments = segments i }
