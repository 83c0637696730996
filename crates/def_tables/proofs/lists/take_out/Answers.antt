use Rattle.std.proofs.Common.{rules, ◌∙◌}
use Rattle.def_tables.proofs.NamesLemmas.{without-absent, without-at}
use Rattle.def_tables.proofs.lists.take_out.Goals as goal

pub returns-in-Some : goal.returns-in-Some
returns-in-Some c =
    c.remove.ensures.items ∙ without-at c.args.names.now.items c.args.name c.in-Some.place c.args.name c.requires (search rules) (search rules)

pub returns-in_default : goal.returns-in_default
returns-in_default c = without-absent c.args.names.now.items c.args.name (search rules)
