use Rattle.std.proofs.Common.{[], ◌∷◌, ap, subst}
use Rattle.def_attrs.specs.Shown.{derives_in}
use Rattle.def_calls.specs.Shown.{macro_directive_of, macros_in, written_attr_of}
use Rattle.def_collector.specs.Collector.{state_of}
use Rattle.def_parts.specs.Sites.{directories_of}
use Rattle.def_laws.specs.Performs.{Tried}
use Rattle.def_laws.specs.Runs.{Leads}
use Rattle.def_rules.specs.Attributes.{item_site}
use Rattle.def_rules.specs.Calls.{stored_directory}
use Rattle.def_rules.specs.State.{State, Visit}
use Rattle.def_collector.proofs.macro_pass.walk_without.Goals as goal

pub returns-clause-walked : goal.returns-clause-walked
returns-clause-walked g c =
    let oracle = g.D.SourceDatabase.oracle c.args.db.now in
    let s : State = state_of c.args.collector.now c.args.session.now in
    let d = macro_directive_of c.args.directive in
    let written = written_attr_of c.args.list.written in
    let others = macros_in c.leave.new.directives.items in
    let t : State = state_of c.walk_again.new.collector c.walk_again.new.session in
    let tried : State = state_of c.try_derives.new.collector c.args.session.now in
    record {
      others = others;
      stands = ap macros_in c.leave.ensures;
      tried = tried;
      tries = subst (λ u. Tried oracle d (derives_in c.args.list) u tried)
          (λ i. record s { macros = others; skipped = c.in_ok-pass_over.ensures.skipped i; active = c.pass_over.ensures.active i }) c.in_ok-try_derives.ensures.tried;
      leads = subst (λ dirs. Leads oracle (Visit (record (item_site s d written) { directory = stored_directory (directories_of dirs) d.scope }) written.item ∷ []) tried [] t)
          c.try_derives.ensures.dirs c.in_ok-walk_again.ensures.run;
    }
