-- What the collector's parts stand for.
use Rattle.std.specs.Prelude.{◌++◌, Vec, map, option_map}
use Rattle.std.specs.declared.alloc.Global.{Global}
use Rattle.std.specs.List.{flat_map}
use Rattle.def_interner.specs.declared.interner.Interner.{Interner}
use Rattle.def_ids.specs.Equality.{glob_eq}
use Rattle.def_interner.specs.Session.{session_of}
use Rattle.def_attrs.specs.ItemAttrs.{active_of, skipped_of}
use Rattle.def_attrs.specs.Shown.{deferrals_of}
use Rattle.def_calls.specs.Shown.{expansion_shown, macros_in}
use Rattle.def_crates.specs.Missing.{missing_in}
use Rattle.def_parts.specs.Sites.{directories_of}
use Rattle.def_modules.specs.Locals.{local_view}
use Rattle.def_modules.specs.Maps.{map_state}
use Rattle.def_sources.specs.Tables.{Table, bound_by}
use Rattle.def_collector.specs.declared.collector.DefCollector.{DefCollector}
use Rattle.def_attrs.specs.declared.deferred.DeferredDerives.{DeferredDerives}
use Rattle.def_items.specs.Parts.{with_parts, with_session}
use Rattle.def_crates.specs.declared.missing_crates.MissingCrates.{MissingCrates}
use Rattle.def_modules.specs.declared.local_def_map.LocalDefMap.{LocalDefMap}
use Rattle.def_rules.specs.declared.diagnostics.DefDiagnostic.{DefDiagnostic}
use Rattle.def_modules.specs.declared.map.MapData.{MapData}
use Rattle.def_steps.specs.ImportLists.{pending}
use Rattle.indexmap.specs.IndexMap.{get}
use Rattle.def_map.specs.Oracle.{Oracle}
use Rattle.def_rules.specs.Report.{macro_report}
use Rattle.def_rules.specs.State.{State}

-- the state that the collector is in
abbrev pub state_of : DefCollector → Interner → State
state_of c session =
    record {
      session = session_of session;
      map = map_state c.def_map;
      content = bound_by c.table;
      targets = get glob_eq c.targets;
      local = local_view c.local_def_map;
      outer = option_map (λ l. local_view l.now) c.crate_local;
      is_proc_macro = c.is_proc_macro;
      deps = local_view c.deps;
      missing_crates = missing_in c.missing_crates;
      directories = directories_of c.mod_dirs;
      imports = pending c.imports;
      skipped = skipped_of c.item_attrs;
      active = active_of c.item_attrs;
      deferred = deferrals_of c.deferred_builtin_derives;
      macros = macros_in c.unresolved_macros.items;
      inner_calls = c.inner_calls.items;
      expansions = map expansion_shown c.expansions.items;
      diagnostics = c.diagnostics.items;
    }

-- a state whose session, map and deferred derives are these
abbrev pub with_deferred : State → Interner → MapData → DeferredDerives → State
with_deferred s session def_map deferred = record (with_session s session def_map) { deferred = deferrals_of deferred }

-- a state whose names of crates, map and table are these
abbrev pub with_names : State → LocalDefMap → MapData → Table → State
with_names s local def_map table = record (with_parts s def_map table) { local = local_view local }

-- a state whose missing crates and reports are these
abbrev pub with_missed : State → MissingCrates → Vec DefDiagnostic Global → State
with_missed s missing diagnostics = record s { missing_crates = missing_in missing; diagnostics = diagnostics.items }

-- a state in which the macros left over are reported
abbrev pub with_reported : Oracle → State → State
with_reported oracle s = record s { diagnostics = s.diagnostics ++ flat_map (macro_report oracle s) s.macros }
