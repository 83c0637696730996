use Rattle.std.proofs.Common.{arith, sym, ◌∙◌}
use Rattle.def_bindings.proofs.OwnChainLemmas.{decides, ends, goes-on}
use Rattle.def_bindings.proofs.module_tree.ModuleTree.is_own_in_chain.Goals as goal

pub up-preserved : goal.up-preserved
up-preserved c =
    let t = c.args.self.now in
    let is = sym c.parent.ensures ∙ c.in-Some.is in
    let lower = t.lower c.up.here c.in-Some.parent is in
    record {
      within = omega (arith, lower, c.up.invariant.within);
      rest = goes-on t c.args.target c.up.here c.in-Some.parent c.up.invariant.within c.up-test.true is ∙ c.up.invariant.rest;
    }

pub returns-in-None : goal.returns-in-None
returns-in-None c =
    sym (ends c.args.self.now c.args.target c.up.here c.up.invariant.within c.up-test.true (sym c.parent.ensures ∙ c.in-None.is)) ∙ c.up.invariant.rest

pub returns : goal.returns
returns c = decides c.args.self.now c.args.target c.up.here c.up.invariant.within (omega (arith, c.up-test.false)) ∙ c.up.invariant.rest
