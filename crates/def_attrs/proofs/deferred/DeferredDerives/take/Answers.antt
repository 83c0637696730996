use Rattle.std.proofs.Common.{[], ap, ◌∙◌}
use Rattle.std.specs.Prelude.{unwrap_or}
use Rattle.indexmap.specs.IndexMap.{get, swap_remove_entry}
use Rattle.def_modules.specs.EqualityLaws.{positions_same}
use Rattle.def_attrs.proofs.deferred.DeferredDerives.take.Goals as goal

pub returns-clause-taken : goal.returns-clause-taken
returns-clause-taken c = ap (λ o. unwrap_or o []) c.swap_remove.ensures.value ∙ (λ i. unwrap_or (get (positions_same i) c.args.self.now.by_item c.args.position) [])

pub returns-clause-left : goal.returns-clause-left
returns-clause-left c = c.swap_remove.ensures.entries ∙ (λ i. swap_remove_entry (positions_same i c.args.position) c.args.self.now.by_item.entries)
