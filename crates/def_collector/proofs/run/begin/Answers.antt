use Rattle.std.proofs.Common.{ap, map as map_of, option_map, ◌∙◌}
use Rattle.def_calls.specs.Shown.{expansion_shown, macros_in}
use Rattle.def_interner.specs.Session.{session_of}
use Rattle.def_modules.specs.Locals.{local_view}
use Rattle.def_sources.specs.Tables.{bound_by}
use Rattle.def_collector.specs.Setting.{setting_of}
use Rattle.def_rules.specs.Crates.{deps_by_name, is_proc_macro_crate}
use Rattle.def_collector.proofs.CollectLemmas.{begins}
use Rattle.def_laws.proofs.GlobsLaws.{no_targets}
use Rattle.def_rules.specs.State.{State}
use Rattle.def_collector.proofs.run.begin.Goals as goal

pub returns : goal.returns
returns g c = record {
  seeded = λ tree session.
      let oracle = g.D.SourceDatabase.oracle c.args.db.now in
      let map = c.into_parts-data.ensures.state in
      ap (λ (s : State). record s { deps = local_view c.in_ok-collector.field-0 }) (c.make_room.ensures.state session)
      ∙ begins (setting_of oracle c.args.def_map tree (option_map (λ l. local_view l.now) c.args.crate_local)) (session_of session) _ _ _ _ _ _ _ _ _ _ _ _ _ _ _ _
      map (ap bound_by c.new.ensures ∙ c.reserve.ensures ∙ c.into_parts-data.ensures.content ∙ c.requires.bindings) (no_targets c.new-2.result c.new-2.ensures.empty) c.new-3.ensures
      (c.is_proc_macro_crate.ensures ∙ ap (λ m. is_proc_macro_crate oracle m.id.krate) map) (c.in_ok-collector.ensures ∙ ap (λ m. deps_by_name oracle m.id.krate) map) c.new-5.ensures c.new-6.ensures
      c.new-7.ensures c.new-8.ensures.skipped c.new-8.ensures.active
      c.new-9.ensures (ap macros_in c.new-10.ensures.items) c.new-11.ensures.items (ap (map_of expansion_shown) c.new-12.ensures.items) c.new-13.ensures.items;
}
