use Rattle.std.proofs.Common.{Some, ap, ◌∙◌}
use Rattle.def_interner.specs.Session.{in_container}
use Rattle.def_parts.specs.Sites.{site_of}
use Rattle.def_laws.proofs.LocationsLaws.{own_function}
use Rattle.def_items.proofs.numbered.number_function.Goals as goal

pub returns-clause-numbered : goal.returns-clause-numbered
returns-clause-numbered c = c.in_ok-id.ensures.shown ∙ ap (λ p. Some (in_container c.args.site.now.container p)) c.position.ensures

pub returns-clause-own : goal.returns-clause-own
returns-clause-own c = λ kind.
    own_function (site_of c.args.site.now) c.args.node.now c.args.session.now c.intern.new.session (record { container = c.args.site.now.container; position = c.position.result }) kind
    (ap (λ p. in_container c.args.site.now.container p) c.position.ensures) c.in_ok-id.ensures.grown c.in_ok-id.ensures.others c.in_ok-id.ensures.adds
