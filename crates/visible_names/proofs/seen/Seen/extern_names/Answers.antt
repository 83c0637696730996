use Rattle.std.proofs.Common.{◌∙◌}
use Rattle.visible_names.proofs.NamesLemmas.{keys_once, lists_extern}
use Rattle.visible_names.proofs.seen.Seen.extern_names.Goals as goal

pub returns-clause-all : goal.returns-clause-all
returns-clause-all g c =
    let self = c.args.self.now in
    lists_extern (g.D.SourceDatabase.oracle self.db.now) self.local.now c.as_slice.result.now (c.as_slice.ensures ∙ c.keys.ensures.rest)

pub returns-clause-once : goal.returns-clause-once
returns-clause-once g c =
    keys_once c.args.self.now.local.now.extern_prelude c.as_slice.result.now (c.as_slice.ensures ∙ c.keys.ensures.rest) c.keys.ensures.unique
