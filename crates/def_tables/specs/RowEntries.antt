-- The names of one module, each with its bindings.
use Rattle.std.specs.Prelude.{Bool, true, not, ◌&&◌, Option, None, List, [], ◌∷◌, cond, option_and_then, unwrap_or}
use Rattle.std.specs.Map.{lookup, remove_entry, set_value}
use Rattle.tree_ids.specs.declared.name.Name.{Name}
use Rattle.def_bindings.specs.declared.bindings.Namespace.{Namespace}
use Rattle.def_bindings.specs.declared.bindings.Binding.{Binding}
use Rattle.def_bindings.specs.declared.name_bindings.NameBindings.{NameBindings}
use Rattle.def_bindings.specs.Content.{is_name}
use Rattle.def_bindings.specs.NameBindings.{bound_in, with_bound, unbound, is_unbound}

-- those that are there, or none
abbrev pub or_unbound : {V : Type 0} → Option (NameBindings V) → NameBindings V
or_unbound o = unwrap_or o unbound

module _ {V : Type 0} where
  -- the bindings of a name
  abbrev pub bindings_at : List (Name × NameBindings V) → Name → NameBindings V
  bindings_at entries x = or_unbound (lookup (is_name x) entries)

  -- the binding of a name in a namespace
  abbrev pub binding_in : List (Name × NameBindings V) → Name → Namespace → Option (Binding V)
  binding_in entries x n = option_and_then (λ s. bound_in s n) (lookup (is_name x) entries)

  -- the names once a binding is taken out: one that has no binding left goes
  abbrev pub bindings_left : List (Name × NameBindings V) → Name → Namespace → List (Name × NameBindings V)
  bindings_left entries x n =
      let left = with_bound (bindings_at entries x) n None in
      cond (is_unbound left) (remove_entry (is_name x) entries) (set_value (is_name x) entries left)

  -- each name has a binding
  abbrev pub are_bound : List (Name × NameBindings V) → Bool
  are_bound [] = true
  are_bound (e ∷ es) = not (is_unbound e.1) && are_bound es
