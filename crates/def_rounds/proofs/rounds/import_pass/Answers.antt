use Rattle.std.proofs.Common.{[], arith, subst, true≢false, ◌∙◌}
use Rattle.def_laws.specs.Runs.{Leads}
use Rattle.def_laws.proofs.StepsLaws.{leads_bare, leads_trans}
use Rattle.def_rounds.proofs.rounds.import_pass.Goals as goal

pub returns-then-not-branch-clause-settled : goal.returns-then-not-branch-clause-settled
returns-then-not-branch-clause-settled g c = λ _. c.in_ok-resolve_imports.ensures.settled c.if-not-branch.true

pub returns-clause-asks : goal.returns-clause-asks
returns-clause-asks g c = c.in_ok-record_woken.ensures.asks ∙ c.in_ok-resolve_imports.ensures.asks

pub returns-clause-run : goal.returns-clause-run
returns-clause-run g c =
    let state = g.P.Passes.state in
    leads_trans c.in_ok-resolve_imports.ensures.run (subst (λ o. Leads o [] (state c.resolve_imports.new.self c.args.session.now) [] (state c.record_woken.new.self c.args.session.now)) c.in_ok-resolve_imports.ensures.asks c.in_ok-record_woken.ensures.run)

pub returns-clause-settled : goal.returns-clause-settled
returns-clause-settled g c = λ still. absurd (true≢false still)

pub returns-clause-fewer : goal.returns-clause-fewer
returns-clause-fewer g c = λ _.
    let less = c.in_ok-resolve_imports.ensures.fewer c.if-not-branch.false in
    let most = c.in_ok-record_woken.ensures.turns in
    omega (arith, less, most)

pub record_woken-requires : goal.record_woken-requires
record_woken-requires g c = leads_bare c.in_ok-resolve_imports.ensures.run c.requires
