use Rattle.std.proofs.Common.{take, ◌∙◌, arith, subst, sym}
use Rattle.std.proofs.lemmas.List.{take_all}
use Rattle.std.proofs.lemmas.Option.{IfSome_then}
use Rattle.def_calls.proofs.FallbackLemmas.{HasNoItem, no_item_more, no_item_yet, where_none}
use Rattle.def_calls.proofs.fallback.first_item.Goals as goal

pub directives-init : goal.directives-init
directives-init c = no_item_yet

pub directives-preserved : goal.directives-preserved
directives-preserved c =
    let all = c.args.directives.now.items in
    let long = c.args.directives.now.ok.0 in
    let end = c.len-at-end.ensures in
    let test = c.directives-test.true in
    let other = where_none c.item_at-item.result (sym c.if-is_some.false ∙ c.is_some.ensures) c.item_at-item.ensures.none in
    no_item_more all c.directives.at (omega (arith, test, end, long)) other c.directives.invariant

pub returns-then-is_some-clause-first : goal.returns-then-is_some-clause-first
returns-then-is_some-clause-first c =
    IfSome_then c.item_at-item.result c.item_at-item.ensures.place (λ item same. subst (λ at. HasNoItem (take at c.args.directives.now.items)) (sym same) c.directives.invariant)

pub returns-clause-none : goal.returns-clause-none
returns-clause-none c =
    let long = c.args.directives.now.ok.0 in
    let end = c.len-at-end.ensures in
    let test = c.directives-test.false in
    subst HasNoItem (take_all c.directives.at c.args.directives.now.items (omega (arith, test, end, long))) c.directives.invariant
