use Rattle.std.proofs.Common.{◌≡◌, false, ap, ◌∙◌}
use Rattle.def_bindings.specs.NameBindings.{is_unbound}
use Rattle.def_tables.proofs.RowEntriesLemmas.{bound-inserted, bound-with_bound}
use Rattle.def_tables.proofs.row.Row.set.Goals as goal

pub invariant_of-self : goal.invariant_of-self
invariant_of-self g c =
    let bound : is_unbound c.with-bindings.result ≡ false = ap is_unbound c.with-bindings.ensures ∙ bound-with_bound c.bindings.result c.args.ns c.args.binding in
    record { bound = bound-inserted c.insert.result c.args.self.now.names.entries c.insert.new.self.entries c.args.name c.with-bindings.result c.insert.ensures.entries c.insert.ensures.err c.args.self.now.bound bound }
