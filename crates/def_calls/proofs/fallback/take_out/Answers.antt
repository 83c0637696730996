use Rattle.std.proofs.Common.{arith, ap, ◌∙◌}
use Rattle.std.proofs.lemmas.Option.{slice_get_within}
use Rattle.def_calls.specs.Shown.{macros_in}
use Rattle.def_calls.proofs.WaitingLemmas.{between, some_then}
use Rattle.def_calls.proofs.fallback.take_out.Goals as goal

pub returns : goal.returns
returns c =
    let all = c.args.directives.now.items in
    let left = between all c.args.at c.args.directive c.requires in
    let within = slice_get_within all c.args.at c.args.directive c.requires in
    let long = c.args.directives.now.ok.0 in
    let items = some_then c.remove.result (c.remove.ensures.variant.1 (omega (arith, within, long))) c.remove.ensures.items in
    record { before = left.before; behind = left.behind; stands = left.stands; left = ap macros_in items ∙ left.left }
