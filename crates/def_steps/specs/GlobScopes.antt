-- What a glob sees of the module that it is of.
use Rattle.std.specs.Prelude.{Bool}
use Rattle.def_bindings.specs.ModuleTree.{chain_in}
use Rattle.def_bindings.specs.Visibility.{order_over}
use Rattle.def_bindings.specs.declared.visibility.Visibility.{Visibility}
use Rattle.def_bindings.specs.declared.visibility.Visibility.TheVariants.{Module}
use Rattle.def_rules.specs.Globs.{glob_sees}
use Rattle.def_steps.specs.declared.glob_scope.GlobScope.{GlobScope}

-- whether it sees a visibility
abbrev pub scope_sees : GlobScope → Visibility → Bool
scope_sees scope vis = glob_sees (order_over (chain_in scope.order.now)) scope.own scope.glob.importer vis

-- whether it sees what is visible in the module alone
abbrev pub sees_inside : GlobScope → Bool
sees_inside scope = scope_sees scope (Module scope.source)
