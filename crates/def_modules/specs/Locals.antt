-- What a local map shows.
use Rattle.std.specs.Prelude.{Option, Some, option_map}
use Rattle.indexmap.specs.IndexMap.{get}
use Rattle.tree_ids.specs.declared.name.Name.{Name}
use Rattle.def_bindings.specs.Content.{is_name}
use Rattle.def_modules.specs.declared.local_def_map.ExternPreludeEntry.{ExternPreludeEntry}
use Rattle.def_modules.specs.declared.local_def_map.LocalDefMap.{LocalDefMap}
use Rattle.def_modules.specs.Updates.{set_where}
use Rattle.def_modules.specs.MapView.{ExternCrateEntry, LocalView}

-- an entry as it is shown
abbrev pub entry_state : ExternPreludeEntry → ExternCrateEntry
entry_state e = record { root = e.root; by = e.by }

-- an entry that may be missing
abbrev pub entry_in : Option ExternPreludeEntry → Option ExternCrateEntry
entry_in o = option_map entry_state o

-- what a local map shows
abbrev pub local_view : LocalDefMap → LocalView
local_view l = record { extern_prelude = λ name. entry_in (get is_name l.extern_prelude name) }

-- a name that leads to this crate
abbrev pub with_extern : LocalView → Name → ExternPreludeEntry → LocalView
with_extern l name entry = record { extern_prelude = set_where (is_name name) (Some (entry_state entry)) l.extern_prelude }
