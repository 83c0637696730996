use Rattle.std.proofs.Common.{ap, ◌∙◌}
use Rattle.def_imports.specs.PreludeModule.{prelude_in}
use Rattle.def_modules.specs.Maps.{crate_state}
use Rattle.def_collector.specs.Collector.{state_of}
use Rattle.def_rules.specs.Start.{head_of, with_head}
use Rattle.def_rules.specs.State.{State}
use Rattle.def_collector.proofs.prelude.inject_prelude.Goals as goal

pub returns : goal.returns
returns g c =
    let s : State = state_of c.args.collector.now c.args.session.now in
    ap (λ found. with_head s (record (head_of s) { prelude = found }))
    (c.in_ok-found.ensures ∙ ap (prelude_in (crate_state c.args.collector.now.def_map.krate)) c.world.ensures)
