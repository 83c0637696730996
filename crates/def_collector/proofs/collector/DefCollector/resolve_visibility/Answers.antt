use Rattle.std.proofs.Common.{ap, ◌∙◌}
use Rattle.std.specs.Option.{unwrap_or}
use Rattle.def_bindings.specs.declared.visibility.Visibility.TheVariants.{Public}
use Rattle.def_map.specs.Paths.{resolve_visibility}
use Rattle.def_collector.proofs.collector.DefCollector.resolve_visibility.Goals as goal

pub returns : goal.returns
returns g c = c.visibility_in.ensures ∙ ap (λ w. unwrap_or (resolve_visibility w c.args.module_id c.args.visibility.now) Public) c.world.ensures
