-- Contents that agree everywhere.
use Rattle.std.proofs.Common.{◌≡◌}
use Rattle.tree_ids.specs.declared.name.Name.{Name}
use Rattle.def_ids.specs.declared.ids.ModuleId.{ModuleId}
use Rattle.def_bindings.specs.declared.bindings.Namespace.{Namespace}
use Rattle.def_bindings.specs.Content.{Content}

-- contents that agree everywhere are equal
pub content_ext : {V : Type 0} (c d : Content V)
    → ((m : ModuleId) (x : Name) (n : Namespace) → c.binding m x n ≡ d.binding m x n)
    → ((m : ModuleId) → c.names m ≡ d.names m)
    → ((m : ModuleId) → c.unnamed m ≡ d.unnamed m)
    → ((m : ModuleId) → c.edges m ≡ d.edges m)
    → c ≡ d
content_ext c d f n u e = λ i. record { binding = λ m x k. f m x k i; names = λ m. n m i; unnamed = λ m. u m i; edges = λ m. e m i }
