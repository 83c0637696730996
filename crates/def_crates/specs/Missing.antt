-- What the set of crates that were not found stands for.
use Rattle.std.specs.Prelude.{Bool}
use Rattle.tree_ids.specs.declared.name.Name.{Name}
use Rattle.def_bindings.specs.Content.{is_name}
use Rattle.def_crates.specs.declared.missing_crates.MissingCrates.{MissingCrates}
use Rattle.indexmap.specs.IndexSet.{contains}

-- the names of the crates that were not found
abbrev pub missing_in : MissingCrates → Name → Bool
missing_in m = contains is_name m.names
