use Rattle.std.proofs.Common.{ap, rules, sym, ◌∙◌}
use Rattle.def_tables.specs.RowEntries.{are_bound}
use Rattle.def_tables.proofs.RowEntriesLemmas.{bound-remove_entry, bound-set_value}
use Rattle.def_tables.proofs.row.Row.remove.Goals as goal

pub invariant_of-self : goal.invariant_of-self
invariant_of-self g c =
    record { bound = ap are_bound c.shift_remove.ensures.entries ∙ bound-remove_entry c.args.self.now.names.entries c.args.name c.args.self.now.bound }

pub invariant_of-self-in-Some : goal.invariant_of-self-in-Some
invariant_of-self-in-Some g c =
    let after = c.get_mut-there.follows.holds c.with-bindings.result in
    record { bound = ap are_bound after.0 ∙ bound-set_value c.args.self.now.names.entries c.args.name c.with-bindings.result c.args.self.now.bound (sym c.is_unbound.ensures ∙ c.if-is_unbound.false) }

pub returns-in-Some-clause-bindings : goal.returns-in-Some-clause-bindings
returns-in-Some-clause-bindings g c = search rules
