use Rattle.std.proofs.Common.{refl, sym, ◌∙◌}
use Rattle.def_modules.specs.Maps.{helper_state}
use Rattle.def_attrs.proofs.HelpersLemmas.{helps_here, helps_later, helps_none}
use Rattle.def_attrs.proofs.attrs.helps.Goals as goal

pub helpers-init : goal.helpers-init
helpers-init c = refl

pub helpers-preserved : goal.helpers-preserved
helpers-preserved c = helps_later helper_state c.args.name c.args.helpers.now c.helpers.helper-index _ c.helpers-test.true (sym c.eq.ensures ∙ c.if-eq.false) c.helpers.invariant

pub returns-then-eq : goal.returns-then-eq
returns-then-eq c = helps_here helper_state c.args.name c.args.helpers.now c.helpers.helper-index _ c.helpers-test.true (sym c.eq.ensures ∙ c.if-eq.true) c.helpers.invariant

pub returns : goal.returns
returns c = helps_none helper_state c.args.name c.args.helpers.now c.helpers.helper-index c.helpers-test.false c.helpers.invariant
