use Rattle.std.proofs.Common.{ap, ◌∙◌}
use Rattle.def_sources.specs.Tables.{bound_by}
use Rattle.def_collector.proofs.collector.DefCollector.into_collected.Goals as goal

pub returns-clause-map : goal.returns-clause-map
returns-clause-map c = c.from_parts.ensures.state

pub returns-clause-content : goal.returns-clause-content
returns-clause-content c = c.from_parts.ensures.content ∙ ap bound_by c.into_table.ensures
