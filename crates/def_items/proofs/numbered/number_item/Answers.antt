use Rattle.std.proofs.Common.{Some, ap, refl, sym, ◌∙◌}
use Rattle.std.proofs.lemmas.Bool.{false≢true}
use Rattle.std.proofs.lemmas.Result.{IfOk-from_err}
use Rattle.def_ids.specs.declared.ids.Def.TheVariants as def
use Rattle.def_ids.specs.declared.ids.ItemContainerId.TheVariants as contained
use Rattle.def_interner.specs.Session.{EnumItem, TraitItem, TypeAliasItem, UnionItem, in_container}
use Rattle.def_items.specs.Numbered.{is_declaring}
use Rattle.def_parts.specs.Sites.{site_of}
use Rattle.def_rules.specs.Locations.{number_kind}
use Rattle.def_laws.proofs.LocationsLaws.{own_enum, own_trait, own_type_alias, own_union}
use Rattle.def_rules.specs.Rules.{rule_of}
use Rattle.def_items.proofs.numbered.number_item.Goals as goal

pub returns-in_ok-id-in-Union : goal.returns-in_ok-id-in-Union
returns-in_ok-id-in-Union c = record {
  declared = (
    UnionItem,
    (λ n. def.Union (record { 0 = n })),
    c.in_ok-id-in-Union.id.0,
    refl,
    c.in_ok-id-in-Union.ensures.shown ∙ ap (λ p. Some (in_container (contained.Module c.args.site.now.module_id) p)) c.position.ensures,
    ap rule_of c.in-Union.is,
  );
  same = λ none. absurd (false≢true (sym none ∙ ap is_declaring c.in-Union.is));
  own = own_union (site_of c.args.site.now) c.args.node.now c.args.session.now c.intern.new.session (record { container = c.args.site.now.module_id; position = c.position.result }) (ap number_kind c.in-Union.is)
      (ap (λ p. in_container (contained.Module c.args.site.now.module_id) p) c.position.ensures) c.in_ok-id-in-Union.ensures.grown c.in_ok-id-in-Union.ensures.others c.in_ok-id-in-Union.ensures.adds;
  session = c.in_ok-id-in-Union.ensures.adds;
}

pub returns-in_ok-id-in-Enum : goal.returns-in_ok-id-in-Enum
returns-in_ok-id-in-Enum c = record {
  declared = (
    EnumItem,
    (λ n. def.Enum (record { 0 = n })),
    c.in_ok-id-in-Enum.id.0,
    refl,
    c.in_ok-id-in-Enum.ensures.shown ∙ ap (λ p. Some (in_container (contained.Module c.args.site.now.module_id) p)) c.position-in-Enum.ensures,
    ap rule_of c.in-Enum.is,
  );
  same = λ none. absurd (false≢true (sym none ∙ ap is_declaring c.in-Enum.is));
  own = own_enum (site_of c.args.site.now) c.args.node.now c.args.session.now c.intern-in-Enum.new.session (record { container = c.args.site.now.module_id; position = c.position-in-Enum.result }) (ap number_kind c.in-Enum.is)
      (ap (λ p. in_container (contained.Module c.args.site.now.module_id) p) c.position-in-Enum.ensures) c.in_ok-id-in-Enum.ensures.grown c.in_ok-id-in-Enum.ensures.others c.in_ok-id-in-Enum.ensures.adds;
  session = c.in_ok-id-in-Enum.ensures.adds;
}

pub returns-in_ok-id-in-Trait : goal.returns-in_ok-id-in-Trait
returns-in_ok-id-in-Trait c = record {
  declared = (
    TraitItem,
    (λ n. def.Trait (record { 0 = n })),
    c.in_ok-id-in-Trait.id.0,
    refl,
    c.in_ok-id-in-Trait.ensures.shown ∙ ap (λ p. Some (in_container (contained.Module c.args.site.now.module_id) p)) c.position-in-Trait.ensures,
    ap rule_of c.in-Trait.is,
  );
  same = λ none. absurd (false≢true (sym none ∙ ap is_declaring c.in-Trait.is));
  own = own_trait (site_of c.args.site.now) c.args.node.now c.args.session.now c.intern-in-Trait.new.session (record { container = c.args.site.now.module_id; position = c.position-in-Trait.result }) (ap number_kind c.in-Trait.is)
      (ap (λ p. in_container (contained.Module c.args.site.now.module_id) p) c.position-in-Trait.ensures) c.in_ok-id-in-Trait.ensures.grown c.in_ok-id-in-Trait.ensures.others c.in_ok-id-in-Trait.ensures.adds;
  session = c.in_ok-id-in-Trait.ensures.adds;
}

pub returns-in_ok-id-in-TypeAlias : goal.returns-in_ok-id-in-TypeAlias
returns-in_ok-id-in-TypeAlias c = record {
  declared = (
    TypeAliasItem,
    (λ n. def.TypeAlias (record { 0 = n })),
    c.in_ok-id-in-TypeAlias.id.0,
    refl,
    c.in_ok-id-in-TypeAlias.ensures.shown ∙ ap (λ p. Some (in_container c.args.site.now.container p)) c.position-in-TypeAlias.ensures,
    ap rule_of c.in-TypeAlias.is,
  );
  same = λ none. absurd (false≢true (sym none ∙ ap is_declaring c.in-TypeAlias.is));
  own = own_type_alias (site_of c.args.site.now) c.args.node.now c.args.session.now c.intern-in-TypeAlias.new.session (record { container = c.args.site.now.container; position = c.position-in-TypeAlias.result }) (ap number_kind c.in-TypeAlias.is)
      (ap (λ p. in_container c.args.site.now.container p) c.position-in-TypeAlias.ensures) c.in_ok-id-in-TypeAlias.ensures.grown c.in_ok-id-in-TypeAlias.ensures.others c.in_ok-id-in-TypeAlias.ensures.adds;
  session = c.in_ok-id-in-TypeAlias.ensures.adds;
}

-- where nothing is numbered, locations alone were added

pub returns-in_err-id-in-Union : goal.returns-in_err-id-in-Union
returns-in_err-id-in-Union c = record { declared = IfOk-from_err _ _ c.from_residual.ensures.0; same = IfOk-from_err _ _ c.from_residual.ensures.0; own = IfOk-from_err _ _ c.from_residual.ensures.0; session = c.in_err-id-in-Union.ensures.adds }

pub returns-in_err-id-in-Enum : goal.returns-in_err-id-in-Enum
returns-in_err-id-in-Enum c = record { declared = IfOk-from_err _ _ c.from_residual-in_err-id-in-Enum.ensures.0; same = IfOk-from_err _ _ c.from_residual-in_err-id-in-Enum.ensures.0; own = IfOk-from_err _ _ c.from_residual-in_err-id-in-Enum.ensures.0; session = c.in_err-id-in-Enum.ensures.adds }

pub returns-in_err-id-in-Trait : goal.returns-in_err-id-in-Trait
returns-in_err-id-in-Trait c = record { declared = IfOk-from_err _ _ c.from_residual-in_err-id-in-Trait.ensures.0; same = IfOk-from_err _ _ c.from_residual-in_err-id-in-Trait.ensures.0; own = IfOk-from_err _ _ c.from_residual-in_err-id-in-Trait.ensures.0; session = c.in_err-id-in-Trait.ensures.adds }

pub returns-in_err-id-in-TypeAlias : goal.returns-in_err-id-in-TypeAlias
returns-in_err-id-in-TypeAlias c = record { declared = IfOk-from_err _ _ c.from_residual-in_err-id-in-TypeAlias.ensures.0; same = IfOk-from_err _ _ c.from_residual-in_err-id-in-TypeAlias.ensures.0; own = IfOk-from_err _ _ c.from_residual-in_err-id-in-TypeAlias.ensures.0; session = c.in_err-id-in-TypeAlias.ensures.adds }
