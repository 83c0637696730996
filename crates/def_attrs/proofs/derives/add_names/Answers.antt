use Rattle.std.proofs.Common.{refl}
use Rattle.def_modules.specs.Maps.{map_state}
use Rattle.def_rules.specs.Derives.{helper_of}
use Rattle.def_attrs.proofs.HelpersLemmas.{helpers_all, helpers_more}
use Rattle.def_attrs.proofs.derives.add_names.Goals as goal

pub names-init : goal.names-init
names-init c = refl

pub names-preserved : goal.names-preserved
names-preserved c =
    helpers_more (helper_of c.args.found c.args.call) (map_state c.args.def_map.now) (map_state c.names.def_map) _ c.args.position c.args.names.now c.names.name-index _ c.names-test.true c.in_ok-add_derive_helper.ensures c.names.invariant

pub returns : goal.returns
returns c = helpers_all (helper_of c.args.found c.args.call) (map_state c.args.def_map.now) (map_state c.names.def_map) c.args.position c.args.names.now c.names.name-index c.names-test.false c.names.invariant
