use Rattle.std.proofs.Common.{Some, ap, refl, sym, ◌∙◌}
use Rattle.std.proofs.lemmas.Bool.{false≢true}
use Rattle.std.proofs.lemmas.Result.{IfOk-from_err}
use Rattle.def_ids.specs.declared.ids.Def.TheVariants as def
use Rattle.item_tree.specs.declared.items.ModItemKind.TheVariants.{Const}
use Rattle.def_interner.specs.Session.{ConstItem, StaticItem, in_container}
use Rattle.def_items.specs.Numbered.{is_declaring}
use Rattle.def_parts.specs.Sites.{site_of}
use Rattle.def_rules.specs.Locations.{number_kind}
use Rattle.def_laws.proofs.LocationsLaws.{own_const, own_static}
use Rattle.def_rules.specs.Rules.{rule_of}
use Rattle.def_items.proofs.numbered.number_value.Goals as goal

pub returns-in-Some : goal.returns-in-Some
returns-in-Some c = record {
  declared = λ _. (
    ConstItem,
    (λ n. def.Const (record { 0 = n })),
    c.in_ok-id-in-Const.id.0,
    refl,
    c.in_ok-id-in-Const.ensures.shown ∙ ap (λ p. Some (in_container c.args.site.now.container p)) c.position.ensures,
    ap rule_of (c.in-Const.is ∙ ap (λ o. Const o c.in-Const.visibility) c.in-Some.is),
  );
  same = λ none. absurd (false≢true (sym none ∙ ap is_declaring (c.in-Const.is ∙ ap (λ o. Const o c.in-Const.visibility) c.in-Some.is)));
  own = own_const (site_of c.args.site.now) c.args.node.now c.args.session.now c.intern.new.session (record { container = c.args.site.now.container; position = c.position.result }) (ap number_kind c.in-Const.is)
      (ap (λ p. in_container c.args.site.now.container p) c.position.ensures) c.in_ok-id-in-Const.ensures.grown c.in_ok-id-in-Const.ensures.others c.in_ok-id-in-Const.ensures.adds;
  session = c.in_ok-id-in-Const.ensures.adds;
}

pub returns-in_ok-id-in-Static : goal.returns-in_ok-id-in-Static
returns-in_ok-id-in-Static c = record {
  declared = λ _. (
    StaticItem,
    (λ n. def.Static (record { 0 = n })),
    c.in_ok-id-in-Static.id.0,
    refl,
    c.in_ok-id-in-Static.ensures.shown ∙ ap (λ p. Some (in_container c.args.site.now.container p)) c.position-in-Static.ensures,
    ap rule_of c.in-Static.is,
  );
  same = λ none. absurd (false≢true (sym none ∙ ap is_declaring c.in-Static.is));
  own = own_static (site_of c.args.site.now) c.args.node.now c.args.session.now c.intern-in-Static.new.session (record { container = c.args.site.now.container; position = c.position-in-Static.result }) (ap number_kind c.in-Static.is)
      (ap (λ p. in_container c.args.site.now.container p) c.position-in-Static.ensures) c.in_ok-id-in-Static.ensures.grown c.in_ok-id-in-Static.ensures.others c.in_ok-id-in-Static.ensures.adds;
  session = c.in_ok-id-in-Static.ensures.adds;
}

pub returns-in_default-name : goal.returns-in_default-name
returns-in_default-name c =
    let kind = c.in-Const.is ∙ ap (λ o. Const o c.in-Const.visibility) c.in_default-name.is in
    record {
      declared = λ _. (c.in_ok-id-in-Const.ensures.shown ∙ ap (λ p. Some (in_container c.args.site.now.container p)) c.position.ensures, ap rule_of kind);
      same = λ none. absurd (false≢true (sym none ∙ ap is_declaring kind));
      own = own_const (site_of c.args.site.now) c.args.node.now c.args.session.now c.intern.new.session (record { container = c.args.site.now.container; position = c.position.result }) (ap number_kind c.in-Const.is)
          (ap (λ p. in_container c.args.site.now.container p) c.position.ensures) c.in_ok-id-in-Const.ensures.grown c.in_ok-id-in-Const.ensures.others c.in_ok-id-in-Const.ensures.adds;
      session = c.in_ok-id-in-Const.ensures.adds;
    }

-- where nothing is numbered, locations alone were added

pub returns-in_err-id-in-Const : goal.returns-in_err-id-in-Const
returns-in_err-id-in-Const c = record { declared = IfOk-from_err _ _ c.from_residual.ensures.0; same = IfOk-from_err _ _ c.from_residual.ensures.0; own = IfOk-from_err _ _ c.from_residual.ensures.0; session = c.in_err-id-in-Const.ensures.adds }

pub returns-in_err-id-in-Static : goal.returns-in_err-id-in-Static
returns-in_err-id-in-Static c = record { declared = IfOk-from_err _ _ c.from_residual-in_err-id-in-Static.ensures.0; same = IfOk-from_err _ _ c.from_residual-in_err-id-in-Static.ensures.0; own = IfOk-from_err _ _ c.from_residual-in_err-id-in-Static.ensures.0; session = c.in_err-id-in-Static.ensures.adds }
