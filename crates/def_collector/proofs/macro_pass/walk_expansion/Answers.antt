use Rattle.std.proofs.Common.{[], Some, ap, ◌∙◌}
use Rattle.def_collector.specs.Collector.{state_of}
use Rattle.def_collector.specs.Walk.{inner_of}
use Rattle.def_laws.proofs.RecordLaws.{on_ok}
use Rattle.def_laws.proofs.StepsLaws.{leads_refl}
use Rattle.def_rules.specs.State.{State, followed_by}
use Rattle.def_collector.proofs.macro_pass.walk_expansion.Goals as goal

pub returns-in-None-clause-walked : goal.returns-in-None-clause-walked
returns-in-None-clause-walked g c =
    let begun : State = state_of c.open_expansion.new.collector c.args.session.now in
    record {
      inner = [];
      begun = begun;
      opened = c.in_ok-list.ensures.opened c.args.session.now ∙ ap (λ o. followed_by begun (inner_of (g.D.SourceDatabase.oracle c.args.db.now) o)) c.in-None.is;
      leads = leads_refl [] begun;
    }

pub returns-in-Some-clause-walked : goal.returns-in-Some-clause-walked
returns-in-Some-clause-walked g c = on_ok c.walk.result c.walk.ensures.run (λ run.
    let begun : State = state_of c.open_expansion.new.collector c.args.session.now in
    record {
      inner = inner_of (g.D.SourceDatabase.oracle c.args.db.now) (Some c.in-Some.list);
      begun = begun;
      opened = c.in_ok-list.ensures.opened c.args.session.now ∙ ap (λ o. followed_by begun (inner_of (g.D.SourceDatabase.oracle c.args.db.now) o)) c.in-Some.is;
      leads = run;
    })
