use Rattle.std.proofs.Common.{sym, ◌∙◌}
use Rattle.def_bindings.proofs.SettledLemmas.{def-same}
use Rattle.def_steps.proofs.TargetsLemmas.{found_at, none_from, passed_at}
use Rattle.def_steps.proofs.targets.is_among.Goals as goal

pub returns-then-eq : goal.returns-then-eq
returns-then-eq c =
    found_at c.args.def c.args.defs.now c.defs.other-index _ c.defs-test.true (sym (def-same _ c.args.def) ∙ sym c.eq.ensures ∙ c.if-eq.true) c.defs.invariant

pub defs-preserved : goal.defs-preserved
defs-preserved c =
    passed_at c.args.def c.args.defs.now c.defs.other-index _ c.defs-test.true (sym (def-same _ c.args.def) ∙ sym c.eq.ensures ∙ c.if-eq.false) c.defs.invariant

pub returns : goal.returns
returns c = none_from c.args.def c.args.defs.now c.defs.other-index c.defs-test.false c.defs.invariant
