use Rattle.std.proofs.Common.{None, ap, map, ◌∙◌}
use Rattle.std.proofs.lemmas.List.{take_all}
use Rattle.def_attrs.proofs.derives.no_calls.Goals as goal

pub paths-init : goal.paths-init
paths-init c = c.new-calls.ensures.items

pub returns : goal.returns
returns c = c.paths.invariant ∙ ap (map (λ path. None)) (take_all c.paths.path-index c.args.paths.now c.paths-test.false)
