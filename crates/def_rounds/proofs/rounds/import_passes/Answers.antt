use Rattle.std.proofs.Common.{[], refl, subst, ◌∙◌}
use Rattle.def_laws.specs.Runs.{Leads}
use Rattle.def_laws.proofs.StepsLaws.{leads_bare, leads_refl, leads_trans}
use Rattle.def_rules.specs.Recording.{NoneReady}
use Rattle.def_rounds.proofs.rounds.import_passes.Goals as goal

pub passes-init : goal.passes-init
passes-init g c = record { asks = refl; run = leads_refl [] (g.P.Passes.state c.args.passes.now c.args.session.now) }

pub passes-preserved : goal.passes-preserved
passes-preserved g c =
    let oracle = g.P.Passes.oracle in
    let state = g.P.Passes.state in
    record {
      asks = c.in_ok-import_pass.ensures.asks ∙ c.passes.invariant.asks;
      run = leads_trans c.passes.invariant.run (subst (λ o. Leads o [] (state c.passes.passes c.args.session.now) [] (state c.import_pass.new.passes c.args.session.now)) c.passes.invariant.asks c.in_ok-import_pass.ensures.run);
    }

pub returns-clause-asks : goal.returns-clause-asks
returns-clause-asks g c = c.in_ok-import_pass.ensures.asks ∙ c.passes.invariant.asks

pub returns-clause-run : goal.returns-clause-run
returns-clause-run g c =
    let state = g.P.Passes.state in
    leads_trans c.passes.invariant.run (subst (λ o. Leads o [] (state c.passes.passes c.args.session.now) [] (state c.import_pass.new.passes c.args.session.now)) c.passes.invariant.asks c.in_ok-import_pass.ensures.run)

pub returns-clause-settled : goal.returns-clause-settled
returns-clause-settled g c =
    subst (λ o. NoneReady o (g.P.Passes.state c.import_pass.new.passes c.args.session.now)) c.passes.invariant.asks (c.in_ok-import_pass.ensures.settled c.if-branch.false)

pub import_pass-requires : goal.import_pass-requires
import_pass-requires g c = leads_bare c.passes.invariant.run c.requires
