use Rattle.std.proofs.Common.{Some, ap, refl, ◌∙◌}
use Rattle.def_parts.specs.Sites.{site_of}
use Rattle.def_laws.proofs.LocationsLaws.{own_macro2}
use Rattle.def_macros.proofs.MacrosLemmas.{placed}
use Rattle.def_macros.proofs.numbered.number_macro.Goals as goal

pub returns-clause-item : goal.returns-clause-item
returns-clause-item g c =
    let site = site_of c.args.site.now in
    let node = c.args.node.now in
    record {
      of = record { stands = refl; is = refl; called = refl };
      n = c.in_ok-id.id.0;
      id = refl;
      expander = c.item_expander-expander.ensures;
      numbered = c.in_ok-id.ensures.shown ∙ ap (λ loc. Some loc) (placed c.args.def_map.now.krate.edition site node c.item_expander-expander.result c.position.result c.item_flags.result _ c.position.ensures c.item_flags.ensures);
    }

pub returns-clause-own : goal.returns-clause-own
returns-clause-own g c = λ raw kind.
    own_macro2 (site_of c.args.site.now) c.args.node.now c.args.session.now c.intern.new.session _ c.args.name raw kind refl c.position.ensures c.in_ok-id.ensures.grown c.in_ok-id.ensures.others c.in_ok-id.ensures.adds
