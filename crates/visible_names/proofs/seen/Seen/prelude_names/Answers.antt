use Rattle.std.proofs.Common.{Option, ap, ◌∙◌}
use Rattle.std.specs.Option.{option_and_then}
use Rattle.def_ids.specs.declared.ids.ModuleId.{ModuleId}
use Rattle.def_map.specs.DefMaps.{view_of}
use Rattle.def_modules.specs.Locals.{local_view}
use Rattle.def_sources.specs.Sources.{scope_source}
use Rattle.visible_names.specs.Visible.{asking}
use Rattle.visible_names.proofs.NamesLemmas.{none_once}
use Rattle.visible_names.proofs.seen.Seen.prelude_names.Goals as goal

pub returns-in-Some-clause-all : goal.returns-in-Some-clause-all
returns-in-Some-clause-all g c =
    let self = c.args.self.now in
    λ name ns item e. c.scope_names.ensures.all name ns item
    (ap (λ (at : Option ModuleId). option_and_then (λ (m : ModuleId). scope_source (asking (g.D.SourceDatabase.oracle self.db.now) (local_view self.local.now)) (view_of self.map.now) m name ns) at) c.in-Some.ensures ∙ e)

pub returns-in-None-clause-once : goal.returns-in-None-clause-once
returns-in-None-clause-once g c = none_once
