use Rattle.std.proofs.Common.{ap, sym, ◌∙◌}
use Rattle.std.specs.Prelude.{option_copied, option_map}
use Rattle.def_bindings.specs.declared.bindings.EdgeTo.{EdgeTo}
use Rattle.def_bindings.specs.declared.visibility.Visibility.{Visibility}
use Rattle.def_map.specs.PathAnswer.{whole}
use Rattle.def_steps.specs.Shown.{import_of}
use Rattle.def_collector.specs.Collector.{state_of}
use Rattle.def_rules.specs.Globs.{Targets}
use Rattle.def_rules.specs.State.{State}
use Rattle.def_laws.proofs.GlobsLaws.{glob_nothing, glob_recorded}
use Rattle.def_laws.proofs.RecordLaws.{on_ok}
use Rattle.def_imports.specs.GlobEntries.{entries_of_glob}
use Rattle.def_collector.proofs.globs.record_glob.Goals as goal

pub returns-in_default-clause-performs : goal.returns-in_default-clause-performs
returns-in_default-clause-performs g c =
    glob_nothing (g.D.SourceDatabase.oracle c.args.db.now) (state_of c.args.collector.now c.args.session.now) (import_of c.args.import.now) (whole c.args.answer.now)
    (ap (λ o. option_map (λ item. item.def) o) (sym c.kept_in.ensures ∙ ap option_copied c.in_default.is))

pub returns-clause-performs : goal.returns-clause-performs
returns-clause-performs g c =
    let oracle = g.D.SourceDatabase.oracle c.args.db.now in
    let s = state_of c.args.collector.now c.args.session.now in
    let glob : EdgeTo Visibility = record { importer = c.args.import.now.module_id; vis = c.resolve_visibility.result; glob = c.glob_id.result } in
    let mid : State = state_of (record c.args.collector.now { targets = c.add_target.new.targets }) c.args.session.now in
    on_ok c.put_glob.result c.put_glob.ensures (λ puts.
    glob_recorded oracle s (state_of (record c.args.collector.now { targets = c.add_target.new.targets; table = c.put_glob.new.table }) c.args.session.now) (import_of c.args.import.now) (whole c.args.answer.now) mid c.in-Some.item.now.def glob
    (ap (λ (targets : Targets). record s { targets = targets }) c.in_ok-add_target.ensures)
    (ap (λ o. option_map (λ item. item.def) o) (sym c.kept_in.ensures ∙ ap option_copied c.in-Some.is))
    (λ i. record { importer = c.args.import.now.module_id; vis = c.resolve_visibility.ensures i; glob = c.glob_id.ensures i })
    (puts oracle mid (c.in_ok-entries.ensures ∙ ap (λ w. entries_of_glob w glob c.in-Some.item.now.def) c.world.ensures)))
