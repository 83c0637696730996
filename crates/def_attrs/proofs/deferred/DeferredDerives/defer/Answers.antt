use Rattle.std.proofs.Common.{◌++◌, ◌∷◌, [], ◌∙◌}
use Rattle.std.specs.Prelude.{unwrap_or}
use Rattle.indexmap.specs.IndexMap.{get, insert_entry}
use Rattle.def_modules.specs.EqualityLaws.{positions_same}
use Rattle.def_attrs.proofs.deferred.DeferredDerives.defer.Goals as goal

pub returns : goal.returns
returns c =
    c.in_ok-push_derive.ensures
    ∙ (λ i. insert_entry (positions_same i) c.args.self.now.by_item.entries c.args.position (unwrap_or (get (positions_same i) c.args.self.now.by_item c.args.position) [] ++ c.args.derive ∷ []))
