use Rattle.std.proofs.Common.{ap, ◌∙◌}
use Rattle.std.specs.Prelude.{option_and_then}
use Rattle.def_bindings.specs.NameBindings.{bound_in}
use Rattle.def_tables.specs.Row.{row_binding}
use Rattle.def_tables.proofs.BoundNameLemmas.{bound_in-unbound}
use Rattle.def_tables.proofs.RowEntriesLemmas.{bound_in-or_unbound}
use Rattle.def_tables.proofs.scope_table.ScopeTableBindingTable.bindings.Goals as goal

pub returns-in-Some : goal.returns-in-Some
returns-in-Some g c =
    ap bound_in c.bindings.ensures ∙ bound_in-or_unbound _
    ∙ ap (λ o n. option_and_then (λ r. row_binding r c.args.name n) o) c.in-Some.ensures.value

pub returns-in-None : goal.returns-in-None
returns-in-None g c =
    ap bound_in c.unbound.ensures ∙ bound_in-unbound
    ∙ ap (λ o n. option_and_then (λ r. row_binding r c.args.name n) o) c.in-None.ensures.value
