use Rattle.std.proofs.Common.{ap, ◌∙◌, rules}
use Rattle.std.specs.Prelude.{unwrap_or}
use Rattle.def_database.proofs.ByMacroLemmas.{said-for, said-still}
use Rattle.def_database.proofs.FillingLemmas.{refused}
use Rattle.def_database.proofs.by_macro.write_for.Goals as goal

pub returns-clause-ok : goal.returns-clause-ok
returns-clause-ok g c =
    let eq = g.P.PartialEq.eq in
    let found = c.or_insert-of_place.ensures.value ∙ ap (λ o. unwrap_or o c.whichever.result) c.in_ok-written.ensures.value in
    said-for eq g.met.P.Exact.exact c.args.place c.args.written.now.entries _ c.whichever.result _ c.set.new.self c.args.macro_id c.args.answer (λ q. search rules) c.whichever.ensures found c.in_ok-set.ensures.ok

pub returns-in_err-set-clause-err : goal.returns-in_err-set-clause-err
returns-in_err-set-clause-err g c =
    let eq = g.P.PartialEq.eq in
    let found = c.or_insert-of_place.ensures.value ∙ ap (λ o. unwrap_or o c.whichever.result) c.in_ok-written.ensures.value in
    let same = said-still eq g.met.P.Exact.exact c.args.place c.args.written.now.entries _ c.whichever.result _ c.set.new.self (λ q. search rules) c.whichever.ensures found c.in_err-set.ensures.err in
    refused c.from_residual-in_err-set.result same
