use Rattle.std.proofs.Common.{◌++◌, ◌∷◌, [], subst, sym}
use Rattle.std.specs.Prelude.{IsPermutation}
use Rattle.def_calls.specs.Shown.{macros_in}
use Rattle.def_calls.proofs.FallbackLemmas.{last_fills, last_moved}
use Rattle.def_calls.proofs.fallback.fill_gap.Goals as goal

pub returns-clause-order : goal.returns-clause-order
returns-clause-order c =
    subst (λ ds. IsPermutation (macros_in ds) (macros_in c.insert.new.self.items)) (sym c.in-Some.ensures.items)
    (subst (λ ds. IsPermutation (macros_in (c.pop_back.new.self.items ++ c.in-Some.last ∷ [])) (macros_in ds)) (sym c.in_ok-insert.ensures.items) (last_moved c.pop_back.new.self.items c.in-Some.last c.args.at))

pub returns-clause-filled : goal.returns-clause-filled
returns-clause-filled c = λ before last stood within.
    last_fills before c.pop_back.new.self.items last c.in-Some.last c.args.at c.args.directives.now.items c.insert.new.self.items stood c.in-Some.ensures.items c.in_ok-insert.ensures.items
