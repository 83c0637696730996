use Rattle.std.proofs.Common.{ap, map, ◌∙◌}
use Rattle.std.specs.Prelude.{string_bytes}
use Rattle.def_rules.specs.declared.diagnostics.DefDiagnosticKind.TheVariants.{UnresolvedModule}
use Rattle.def_collector.proofs.modules.unresolved_module.Goals as goal

pub returns : goal.returns
returns c = ap UnresolvedModule (c.in_ok-candidates.ensures ∙ ap (map string_bytes) c.as_slice.ensures.value)
