use Rattle.std.proofs.Common.{sym, ◌∙◌}
use Rattle.def_macros.proofs.ProcMacrosLemmas.{built_at, built_none, built_past}
use Rattle.def_macros.proofs.proc_macros.built_as.Goals as goal

pub returns-then-eq : goal.returns-then-eq
returns-then-eq c = built_at c.args.name c.args.built.now c.built.entry-index _ c.built-test.true (sym c.eq.ensures ∙ c.if-eq.true) c.built.invariant

pub built-preserved : goal.built-preserved
built-preserved c = built_past c.args.name c.args.built.now c.built.entry-index _ c.built-test.true (sym c.eq.ensures ∙ c.if-eq.false) c.built.invariant

pub returns : goal.returns
returns c = built_none c.args.name c.args.built.now c.built.entry-index c.built-test.false c.built.invariant
