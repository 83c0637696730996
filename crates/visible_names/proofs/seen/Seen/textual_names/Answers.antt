use Rattle.std.proofs.Common.{[], ◌∙◌}
use Rattle.def_modules.specs.Locals.{local_view}
use Rattle.visible_names.proofs.NamesLemmas.{keys_once, none_once, lists_textual, lists_no_textual}
use Rattle.visible_names.proofs.seen.Seen.textual_names.Goals as goal

pub returns-in-Some-clause-all : goal.returns-in-Some-clause-all
returns-in-Some-clause-all g c =
    let self = c.args.self.now in
    lists_textual (g.D.SourceDatabase.oracle self.db.now) (local_view self.local.now) self.map.now self.place c.requires
    c.legacy_macros.result.now c.as_slice.result.now c.in-Some.scope (c.as_slice.ensures ∙ c.keys.ensures.rest) c.legacy_macros.ensures c.in-Some.ensures

pub returns-in-None-clause-all : goal.returns-in-None-clause-all
returns-in-None-clause-all g c =
    let self = c.args.self.now in
    lists_no_textual (g.D.SourceDatabase.oracle self.db.now) (local_view self.local.now) self.map.now self.place c.requires [] c.in-None.ensures

pub returns-in-Some-clause-once : goal.returns-in-Some-clause-once
returns-in-Some-clause-once g c =
    keys_once c.legacy_macros.result.now c.as_slice.result.now (c.as_slice.ensures ∙ c.keys.ensures.rest) c.keys.ensures.unique

pub returns-in-None-clause-once : goal.returns-in-None-clause-once
returns-in-None-clause-once g c = none_once
