use Rattle.std.proofs.Common.{refl}
use Rattle.def_parts.specs.Sites.{site_of}
use Rattle.def_laws.proofs.LocationsLaws.{own_proc_macro}
use Rattle.def_macros.proofs.proc_macros.number_proc_macro.Goals as goal

pub returns-clause-own : goal.returns-clause-own
returns-clause-own g c = λ raw kind.
    own_proc_macro (site_of c.args.site.now) c.args.node.now c.args.session.now c.intern.new.session _ c.args.name raw kind refl c.position.ensures c.in_ok-id.ensures.grown c.in_ok-id.ensures.others c.in_ok-id.ensures.adds
