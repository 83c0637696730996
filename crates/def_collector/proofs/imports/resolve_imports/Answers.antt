use Rattle.std.proofs.Common.{◌≡◌, ◌&&◌, ◌||◌, true, false, nat_lt, ap, ◌∙◌}
use Rattle.def_laws.proofs.StepsLaws.{leads_bare, leads_trans}
use Rattle.def_collector.proofs.TriesLemmas.{fewer_after_both, settled}
use Rattle.def_collector.proofs.imports.resolve_imports.Goals as goal

pub returns-then-indeterminate-clause-run : goal.returns-then-indeterminate-clause-run
returns-then-indeterminate-clause-run g c = leads_trans c.in_ok-unresolved.ensures.run c.in_ok-indeterminate.ensures.run

pub returns-then-indeterminate-clause-fewer : goal.returns-then-indeterminate-clause-fewer
returns-then-indeterminate-clause-fewer g c = λ more.
    let first = c.in_ok-unresolved.unresolved in
    let waiting = c.places-waiting.result in
    fewer_after_both c.args.session.now c.args.collector.now c.try_imports.new.collector c.try_imports-2.new.collector first c.in_ok-indeterminate.indeterminate waiting
    (ap (λ second. second || (first && nat_lt 0 waiting)) c.if-indeterminate.true)
    c.in_ok-unresolved.ensures.fewer c.in_ok-unresolved.ensures.same c.in_ok-indeterminate.ensures.fewer c.in_ok-indeterminate.ensures.same

pub returns-then-unresolved-clause-run : goal.returns-then-unresolved-clause-run
returns-then-unresolved-clause-run g c = leads_trans c.in_ok-unresolved.ensures.run c.in_ok-indeterminate.ensures.run

pub returns-then-unresolved-clause-settled : goal.returns-then-unresolved-clause-settled
returns-then-unresolved-clause-settled g c = λ none.
    let first = c.in_ok-unresolved.unresolved in
    let waiting = c.places-waiting.result in
    settled (g.D.SourceDatabase.oracle c.args.db.now) c.args.session.now c.args.collector.now c.try_imports.new.collector c.try_imports-2.new.collector first c.in_ok-indeterminate.indeterminate waiting
    c.places-waiting.ensures (ap (λ second. second || (first && nat_lt 0 waiting)) c.if-indeterminate.false ∙ ap (λ first. first && nat_lt 0 waiting) c.if-unresolved.true ∙ none)
    c.in_ok-unresolved.ensures.unready c.in_ok-unresolved.ensures.same c.in_ok-indeterminate.ensures.unready c.in_ok-indeterminate.ensures.same

pub returns-then-unresolved-clause-fewer : goal.returns-then-unresolved-clause-fewer
returns-then-unresolved-clause-fewer g c = λ more.
    let first = c.in_ok-unresolved.unresolved in
    let waiting = c.places-waiting.result in
    fewer_after_both c.args.session.now c.args.collector.now c.try_imports.new.collector c.try_imports-2.new.collector first c.in_ok-indeterminate.indeterminate waiting
    (ap (λ second. second || (first && nat_lt 0 waiting)) c.if-indeterminate.false ∙ ap (λ first. first && nat_lt 0 waiting) c.if-unresolved.true ∙ more)
    c.in_ok-unresolved.ensures.fewer c.in_ok-unresolved.ensures.same c.in_ok-indeterminate.ensures.fewer c.in_ok-indeterminate.ensures.same

pub returns-else-unresolved-clause-run : goal.returns-else-unresolved-clause-run
returns-else-unresolved-clause-run g c = leads_trans c.in_ok-unresolved.ensures.run c.in_ok-indeterminate.ensures.run

pub returns-else-unresolved-clause-settled : goal.returns-else-unresolved-clause-settled
returns-else-unresolved-clause-settled g c = λ none.
    let first = c.in_ok-unresolved.unresolved in
    let waiting = c.places-waiting.result in
    settled (g.D.SourceDatabase.oracle c.args.db.now) c.args.session.now c.args.collector.now c.try_imports.new.collector c.try_imports-2.new.collector first c.in_ok-indeterminate.indeterminate waiting
    c.places-waiting.ensures (ap (λ second. second || (first && nat_lt 0 waiting)) c.if-indeterminate.false ∙ ap (λ first. first && nat_lt 0 waiting) c.if-unresolved.false)
    c.in_ok-unresolved.ensures.unready c.in_ok-unresolved.ensures.same c.in_ok-indeterminate.ensures.unready c.in_ok-indeterminate.ensures.same

pub try_imports-requires-2 : goal.try_imports-requires-2
try_imports-requires-2 g c = leads_bare c.in_ok-unresolved.ensures.run c.requires
