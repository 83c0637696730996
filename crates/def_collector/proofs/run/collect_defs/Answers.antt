use Rattle.std.proofs.Common.{option_map, refl, subst, sym}
use Rattle.def_ids.specs.declared.ids.ModuleId.{ModuleId}
use Rattle.def_macros.specs.Censored.{ListsOnce}
use Rattle.def_sources.specs.Tables.{bound_by}
use Rattle.def_collector.specs.declared.collector.DefCollector.{DefCollector}
use Rattle.def_interner.specs.Session.{session_of}
use Rattle.def_map.specs.DefMaps as whole
use Rattle.def_modules.specs.Locals.{local_view}
use Rattle.def_collector.specs.Answer.{shown}
use Rattle.def_collector.specs.Collector.{state_of}
use Rattle.def_collector.specs.Setting.{setting_of}
use Rattle.def_laws.proofs.ResultLaws.{if_ok}
use Rattle.def_collector.proofs.CensorLemmas.{reported_censored}
use Rattle.def_collector.proofs.CollectLemmas.{begun_bare, begun_sound, collected_answers, ended_distinct}
use Rattle.def_collector.proofs.run.collect_defs.Goals as goal

pub collect-requires-clause-start : goal.collect-requires-clause-start
collect-requires-clause-start g c =
    begun_sound (setting_of (g.D.SourceDatabase.oracle c.args.db.now) c.args.def_map c.args.tree_id (option_map (λ l. local_view l.now) c.args.crate_local))
    (session_of c.args.session.now) (state_of c.in_ok-collector.collector c.args.session.now) (c.in_ok-collector.ensures.seeded c.args.tree_id c.args.session.now) (whole.content_of c.args.def_map) c.requires.fresh

pub collect-requires-clause-bare : goal.collect-requires-clause-bare
collect-requires-clause-bare g c =
    begun_bare (setting_of (g.D.SourceDatabase.oracle c.args.db.now) c.args.def_map c.args.tree_id (option_map (λ l. local_view l.now) c.args.crate_local))
    (session_of c.args.session.now) (state_of c.in_ok-collector.collector c.args.session.now) (c.in_ok-collector.ensures.seeded c.args.tree_id c.args.session.now) (whole.content_of c.args.def_map) c.requires.fresh

pub censored-requires : goal.censored-requires
censored-requires g c = subst (λ (k : DefCollector). (m : ModuleId) → ListsOnce (bound_by k.table) m) (sym c.into_collector.ensures)
    (ended_distinct (setting_of (g.D.SourceDatabase.oracle c.args.db.now) c.args.def_map c.args.tree_id (option_map (λ l. local_view l.now) c.args.crate_local))
    (session_of c.args.session.now) (state_of c.in_ok-collector.collector c.args.session.now) (c.in_ok-collector.ensures.seeded c.args.tree_id c.args.session.now) (whole.content_of c.args.def_map) c.requires.fresh
    (state_of c.collect.new.run.collector c.collect.new.session) c.in_ok-limit_met.limit_met c.in_ok-limit_met.ensures.ends)

pub returns-clause-answers : goal.returns-clause-answers
returns-clause-answers g c =
    let setting = setting_of (g.D.SourceDatabase.oracle c.args.db.now) c.args.def_map c.args.tree_id (option_map (λ l. local_view l.now) c.args.crate_local) in
    if_ok c.finish.result c.finish.ensures (λ collected ends.
    collected_answers setting
    (session_of c.args.session.now) (state_of c.in_ok-collector.collector c.args.session.now) (c.in_ok-collector.ensures.seeded c.args.tree_id c.args.session.now) (whole.content_of c.args.def_map) c.requires.fresh
    (session_of c.collect.new.session) (state_of c.collect.new.run.collector c.collect.new.session) (state_of c.report_macros.new.collector c.collect.new.session) (shown collected) c.in_ok-limit_met.limit_met c.in_ok-limit_met.ensures.ends c.in_ok-limit_met.ensures.sound
    c.in_ok-limit_met.ensures.bare refl (reported_censored setting.oracle c.collect.new.session c.collect.new.run.collector c.into_collector.result c.in_ok-answered.answered c.report_macros.new.collector c.into_collector.ensures (c.in_ok-answered.ensures c.collect.new.session) c.in_ok-report_macros.ensures) (ends c.collect.new.session))
