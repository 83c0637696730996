use Rattle.std.proofs.Common.{◌≡◌, ◌++◌, length}
use Rattle.def_assoc.specs.ExpansionTrees.{attrs_read}
use Rattle.def_assoc.specs.Shown.{node_of, reading_of}
use Rattle.def_assoc.proofs.collector.read_attrs.Given as goal

-- what was read and what is read of the rest are all
abbrev pub invariant-attrs : goal.invariant-attrs
invariant-attrs g l =
    let r = reading_of g.D.SourceDatabase.oracle l.world l.module_id in
    let all = attrs_read r (node_of l.node) l.fn.attrs in
    let left = attrs_read r (node_of l.node) l.rest in
    record {
      call : left.call ≡ all.call;
      diagnostics : l.diagnostics ++ left.diagnostics ≡ l.fn.diagnostics ++ all.diagnostics;
    }

abbrev pub decreases-attrs : goal.decreases-attrs
decreases-attrs g l = length l.rest
