-- What a glob of a definition brings, and where its edge begins.
use Rattle.std.specs.Prelude.{ℕ, cond, List, [], Option, None, Some}
use Rattle.std.specs.List.{flat_map}
use Rattle.def_ids.specs.declared.ids.Def.{Def}
use Rattle.def_ids.specs.declared.ids.Def.TheVariants as def
use Rattle.def_ids.specs.declared.ids.MapId.{MapId}
use Rattle.def_ids.specs.declared.ids.ModuleId.{ModuleId}
use Rattle.def_bindings.specs.declared.bindings.EdgeTo.{EdgeTo}
use Rattle.def_bindings.specs.declared.bindings.Entry.{Entry}
use Rattle.def_bindings.specs.declared.visibility.Visibility.{Visibility}
use Rattle.def_bindings.specs.Visibility.{order_over}
use Rattle.def_map.specs.Answers.{variants_of}
use Rattle.def_map.specs.Paths.{for_import, map_of, question}
use Rattle.def_map.specs.Sources.{World}
use Rattle.def_rules.specs.Globs.{module_entries, variant_entries}
use Rattle.def_rules.specs.Recording.{is_own_crate}

-- the entries of what a glob sees of a module
abbrev pub entries_of_module : World → EdgeTo Visibility → ModuleId → List (Entry Visibility)
entries_of_module w glob source = module_entries (order_over w.map.facts.chain) glob (is_own_crate w.map.facts.id source) (map_of w source.map) source

-- the entries of the variants of an enum
abbrev pub entries_of_enum : World → EdgeTo Visibility → ℕ → List (Entry Visibility)
entries_of_enum w glob id = flat_map (variant_entries (order_over w.map.facts.chain) glob) (variants_of (question w for_import) id)

-- what a glob of a definition brings: what it sees of a module, or the variants of an enum
abbrev pub entries_of_glob : World → EdgeTo Visibility → Def → List (Entry Visibility)
entries_of_glob w glob (def.Module source) = entries_of_module w glob source
entries_of_glob w glob (def.Enum id) = entries_of_enum w glob id.0
entries_of_glob w glob d = []

-- where the edge of a glob of a definition begins: at a module of this crate
abbrev pub edge_source : MapId → Def → Option ModuleId
edge_source id (def.Module source) = cond (is_own_crate id source) (Some source) None
edge_source id d = None
