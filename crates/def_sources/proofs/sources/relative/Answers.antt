use Rattle.std.proofs.Common.{rules}
use Rattle.def_sources.proofs.sources.relative.Goals as goal

pub returns-then-is_for_import : goal.returns-then-is_for_import
returns-then-is_for_import g c = search rules
