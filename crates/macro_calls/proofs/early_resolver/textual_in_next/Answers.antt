use Rattle.std.proofs.Common.{sym, ◌∙◌}
use Rattle.def_map.specs.Asking.{world_lent}
use Rattle.def_sources.specs.Tables.{bound_by}
use Rattle.macro_calls.proofs.ResolverLemmas.{next-seen}
use Rattle.macro_calls.proofs.early_resolver.textual_in_next.Goals as goal

pub returns-then-is_map_among : goal.returns-then-is_map_among
returns-then-is_map_among g c = next-seen (world_lent g.D.SourceDatabase.oracle bound_by c.args.world.now) c.args.name c.args.before.now c.args.place (sym c.is_map_among.ensures ∙ c.if-is_map_among.true)
