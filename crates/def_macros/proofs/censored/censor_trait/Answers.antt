use Rattle.def_sources.specs.Tables.{bound_by}
use Rattle.def_laws.proofs.RecordLaws.{on_ok}
use Rattle.def_macros.proofs.CensoredLemmas.{trait_set, trait_stays}
use Rattle.def_macros.proofs.censored.censor_trait.Goals as goal

pub returns-then-is_hidden : goal.returns-then-is_hidden
returns-then-is_hidden c = trait_stays c.args.at (bound_by c.args.table.now) c.args.index c.args.held c.requires.there (c.is_hidden.ensures.same c.if-is_hidden.true)

pub returns : goal.returns
returns c = on_ok c.set_unnamed.result c.set_unnamed.ensures.done (λ set.
    trait_set c.args.at (bound_by c.args.table.now) c.args.index c.args.held c.requires.there (c.is_hidden.ensures.public c.if-is_hidden.false) c.requires.once (bound_by c.set_unnamed.new.self) set)
