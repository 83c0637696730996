-- What a name stands for, as a numbered table keeps it.
use Rattle.std.specs.Prelude.{Option, Some, None, cond, option_and_then}
use Rattle.def_ids.specs.declared.ids.MapId.{MapId}
use Rattle.def_bindings.specs.declared.bindings.Namespace.{Namespace}
use Rattle.def_bindings.specs.declared.bindings.Binding.{Binding}
use Rattle.def_tables.specs.declared.bound_name.BoundName.{BoundName}
use Rattle.def_tables.specs.declared.bound_name.BoundName.TheVariants.{One, Each}
use Rattle.def_bindings.specs.Content.{is_namespace}
use Rattle.def_tables.specs.Parts.{parts_in}
use Rattle.def_tables.specs.Short.{long}

-- one namespace changed
abbrev pub with_namespace : {B : Type 0} → (Namespace → Option B) → Namespace → Option B → Namespace → Option B
with_namespace f ns b n = cond (is_namespace ns n) b (f n)

-- what is put in a namespace, where something is
abbrev pub written_in : {B : Type 0} → (Namespace → Option B) → Namespace → Option B → Namespace → Option B
written_in f n None = f
written_in f n (Some b) = with_namespace f n (Some b)

module _ {V K : Type 0} where
  -- the bindings of a name in a table of this map
  abbrev pub stands_for : (MapId → K → V) → MapId → BoundName V K → Namespace → Option (Binding V)
  stands_for meaning map (One ns kind source idx def vis import) n = cond (is_namespace ns n) (Some (long meaning map (record { kind = kind; source = source; idx = idx; def = def; vis = vis; import = import }))) None
  stands_for meaning map (Each each) n = parts_in meaning map each.value.parts n

  -- those of a name that may have none
  abbrev pub meaning_of : (MapId → K → V) → MapId → Option (BoundName V K) → Namespace → Option (Binding V)
  meaning_of meaning map s n = option_and_then (λ t. stands_for meaning map t n) s
