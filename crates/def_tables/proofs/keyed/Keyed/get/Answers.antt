use Rattle.std.proofs.Common.{◌∙◌}
use Rattle.def_tables.proofs.NumbersLemmas.{lookup-own_entries}
use Rattle.def_tables.proofs.keyed.Keyed.get.Goals as goal

pub returns : goal.returns
returns g c = c.copied.ensures ∙ c.get.ensures.value ∙ lookup-own_entries g.K.PartialEq.eq c.args.module c.args.key c.args.self.now.entries.entries
