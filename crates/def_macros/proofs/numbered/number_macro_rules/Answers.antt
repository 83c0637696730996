use Rattle.std.proofs.Common.{Some, ap, refl, subst, sym, ◌∙◌}
use Rattle.item_tree.specs.Attrs.{attrs_of}
use Rattle.def_parts.specs.Sites.{site_of}
use Rattle.def_rules.specs.Macros.{IsBuiltinName}
use Rattle.def_laws.proofs.LocationsLaws.{own_macro_rules}
use Rattle.def_macros.proofs.MacrosLemmas.{placed}
use Rattle.def_macros.proofs.numbered.number_macro_rules.Goals as goal

pub returns-clause-rules : goal.returns-clause-rules
returns-clause-rules g c =
    let site = site_of c.args.site.now in
    let node = c.args.node.now in
    let found = c.builtin_name-found.result in
    record {
      of = record { stands = refl; is = refl; called = refl };
      n = c.in_ok-id.id.0;
      found = found;
      looked_up = subst (λ t. IsBuiltinName t (attrs_of node.attrs) c.args.name found) (sym c.in_ok-id.ensures.adds.text) c.builtin_name-found.ensures;
      id = refl;
      expander = c.rules_expander-expander.ensures;
      numbered = c.in_ok-id.ensures.shown ∙ ap (λ loc. Some loc) (placed c.args.def_map.now.krate.edition site node c.rules_expander-expander.result c.position.result c.rules_flags.result _ c.position.ensures c.rules_flags.ensures);
    }

pub returns-clause-own : goal.returns-clause-own
returns-clause-own g c = λ kind.
    own_macro_rules (site_of c.args.site.now) c.args.node.now c.args.session.now c.intern.new.session _ c.args.name kind refl c.position.ensures c.in_ok-id.ensures.grown c.in_ok-id.ensures.others c.in_ok-id.ensures.adds
