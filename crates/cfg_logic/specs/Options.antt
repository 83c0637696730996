use Rattle.std.specs.Prelude.{ℕ, List, Bool, false}
use Rattle.std.specs.Option.{option_map_or}
use Rattle.indexmap.specs.IndexMap.{get_by_text}
use Rattle.indexmap.specs.IndexSet.{contains_text}
use Rattle.cfg_logic.specs.declared.options.CfgOptions.{CfgOptions}

-- Whether a flag is set.
abbrev pub has_flag : CfgOptions → List ℕ → Bool
has_flag options name = contains_text options.flags name

-- Whether a key has a value.
abbrev pub has_value : CfgOptions → List ℕ → List ℕ → Bool
has_value options key value = option_map_or (λ values. contains_text values value) (get_by_text options.values key) false
