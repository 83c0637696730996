use Rattle.std.specs.List.{zip}
use Rattle.std.proofs.Common.{refl, None, []}
use Rattle.def_tables.proofs.NamesLemmas.{once-none}
use Rattle.def_tables.proofs.NumberedTableLemmas.{bindings-empty, tied-same, content-none}
use Rattle.def_tables.specs.BoundNameLaws.{tied-listed}
use Rattle.def_tables.specs.NumberedTable.{content_of}
use Rattle.def_tables.proofs.numbered_table.NumberedTable.of_map.Goals as goal

pub invariant_of-result : goal.invariant_of-result
unfolding content_of
invariant_of-result g c =
    record { apart = λ m x h. rw c.new-2.ensures refl; listed = tied-listed g.K.Kept.meaning c.args.map (zip c.new.result.keys.keys c.new.result.values.items) (zip c.new-2.result.keys.keys c.new-2.result.values.items) _ (tied-same (λ m x n. None) _ (λ m. []) _ (bindings-empty g.K.Kept.meaning c.args.map (zip c.new.result.keys.keys c.new.result.values.items) (zip c.new-2.result.keys.keys c.new-2.result.values.items) c.new.ensures c.new-2.ensures) c.new-3.ensures (λ m x. refl)); once = once-none _ c.new-3.ensures }

pub returns : goal.returns
unfolding content_of
returns g c = content-none _ _ _ _ (bindings-empty g.K.Kept.meaning c.args.map (zip c.new.result.keys.keys c.new.result.values.items) (zip c.new-2.result.keys.keys c.new-2.result.values.items) c.new.ensures c.new-2.ensures) c.new-3.ensures c.new-4.ensures c.new-5.ensures
