use Rattle.std.proofs.Common.{◌∙◌}
use Rattle.def_map.specs.DefMaps.{view_of}
use Rattle.visible_names.proofs.NamesLemmas.{keys_once, lists_macro_use}
use Rattle.visible_names.proofs.seen.Seen.macro_use_names.Goals as goal

pub returns-clause-all : goal.returns-clause-all
returns-clause-all g c =
    lists_macro_use (view_of c.args.self.now.map.now) c.macro_use_prelude.result.now c.as_slice.result.now (c.as_slice.ensures ∙ c.keys.ensures.rest) c.macro_use_prelude.ensures

pub returns-clause-once : goal.returns-clause-once
returns-clause-once g c = keys_once c.macro_use_prelude.result.now c.as_slice.result.now (c.as_slice.ensures ∙ c.keys.ensures.rest) c.keys.ensures.unique
