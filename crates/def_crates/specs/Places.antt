-- Names of crates that stand where the first of each name stood.
use Rattle.std.specs.Prelude.{List, [], ◌∷◌}
use Rattle.def_bindings.specs.Content.{is_name}
use Rattle.def_oracle.specs.declared.source_database.Dependency.{Dependency}
use Rattle.def_modules.specs.MapView.{LocalView}
use Rattle.def_modules.specs.Updates.{set_where}

-- the names, that of a dependency as others have it
abbrev pub with_last : LocalView → Dependency → LocalView → LocalView
with_last last dep local = record { extern_prelude = set_where (is_name dep.name) (last.extern_prelude dep.name) local.extern_prelude }

-- the names, those of these dependencies as others have them
abbrev pub with_lasts : LocalView → List Dependency → LocalView → LocalView
with_lasts last [] local = local
with_lasts last (dep ∷ deps) local = with_lasts last deps (with_last last dep local)
