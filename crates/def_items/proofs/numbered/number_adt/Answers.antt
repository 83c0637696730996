use Rattle.std.proofs.Common.{Some, ap, refl, sym, subst, ◌∙◌}
use Rattle.std.proofs.lemmas.Result.{IfOk-from_err}
use Rattle.def_ids.specs.declared.ids.Adt.TheVariants as adt_of
use Rattle.def_ids.specs.declared.ids.ItemContainerId.TheVariants as contained
use Rattle.def_interner.specs.Session.{in_container, session_of}
use Rattle.def_parts.specs.Sites.{site_of}
use Rattle.def_rules.specs.Deferred.{IsAdt}
use Rattle.def_rules.specs.Locations.{number_kind}
use Rattle.def_laws.proofs.LocationsLaws.{own_enum, own_struct, own_union}
use Rattle.def_items.proofs.numbered.number_adt.Goals as goal

pub returns-in_ok-id-in-Struct : goal.returns-in_ok-id-in-Struct
returns-in_ok-id-in-Struct c = record {
  numbered = λ s.
      subst (λ k. IsAdt (record s { session = session_of c.intern.new.session }) (site_of c.args.site.now) c.args.node.now k (adt_of.Struct c.in_ok-id-in-Struct.id)) (sym c.in-Struct.is)
      (c.in_ok-id-in-Struct.id.0, c.in_ok-id-in-Struct.ensures.shown ∙ ap (λ p. Some (in_container (contained.Module c.args.site.now.module_id) p)) c.position-position.ensures, refl);
  other = tt;
  own = own_struct (site_of c.args.site.now) c.args.node.now c.args.session.now c.intern.new.session (record { container = c.args.site.now.module_id; position = c.position-position.result }) (ap number_kind c.in-Struct.is)
      (ap (λ p. in_container (contained.Module c.args.site.now.module_id) p) c.position-position.ensures) c.in_ok-id-in-Struct.ensures.grown c.in_ok-id-in-Struct.ensures.others c.in_ok-id-in-Struct.ensures.adds;
  session = c.in_ok-id-in-Struct.ensures.adds;
}

pub returns-in_ok-id-in-Union : goal.returns-in_ok-id-in-Union
returns-in_ok-id-in-Union c = record {
  numbered = λ s.
      subst (λ k. IsAdt (record s { session = session_of c.intern-in-Union.new.session }) (site_of c.args.site.now) c.args.node.now k (adt_of.Union c.in_ok-id-in-Union.id)) (sym c.in-Union.is)
      (c.in_ok-id-in-Union.id.0, c.in_ok-id-in-Union.ensures.shown ∙ ap (λ p. Some (in_container (contained.Module c.args.site.now.module_id) p)) c.position-position.ensures, refl);
  other = tt;
  own = own_union (site_of c.args.site.now) c.args.node.now c.args.session.now c.intern-in-Union.new.session (record { container = c.args.site.now.module_id; position = c.position-position.result }) (ap number_kind c.in-Union.is)
      (ap (λ p. in_container (contained.Module c.args.site.now.module_id) p) c.position-position.ensures) c.in_ok-id-in-Union.ensures.grown c.in_ok-id-in-Union.ensures.others c.in_ok-id-in-Union.ensures.adds;
  session = c.in_ok-id-in-Union.ensures.adds;
}

pub returns-in_ok-id-in-Enum : goal.returns-in_ok-id-in-Enum
returns-in_ok-id-in-Enum c = record {
  numbered = λ s.
      subst (λ k. IsAdt (record s { session = session_of c.intern-in-Enum.new.session }) (site_of c.args.site.now) c.args.node.now k (adt_of.Enum c.in_ok-id-in-Enum.id)) (sym c.in-Enum.is)
      (c.in_ok-id-in-Enum.id.0, c.in_ok-id-in-Enum.ensures.shown ∙ ap (λ p. Some (in_container (contained.Module c.args.site.now.module_id) p)) c.position-position.ensures, refl);
  other = tt;
  own = own_enum (site_of c.args.site.now) c.args.node.now c.args.session.now c.intern-in-Enum.new.session (record { container = c.args.site.now.module_id; position = c.position-position.result }) (ap number_kind c.in-Enum.is)
      (ap (λ p. in_container (contained.Module c.args.site.now.module_id) p) c.position-position.ensures) c.in_ok-id-in-Enum.ensures.grown c.in_ok-id-in-Enum.ensures.others c.in_ok-id-in-Enum.ensures.adds;
  session = c.in_ok-id-in-Enum.ensures.adds;
}

-- where nothing is numbered, locations alone were added

pub returns-in_err-id-in-Struct : goal.returns-in_err-id-in-Struct
returns-in_err-id-in-Struct c = record { numbered = IfOk-from_err _ _ c.from_residual.ensures.0; other = IfOk-from_err _ _ c.from_residual.ensures.0; own = IfOk-from_err _ _ c.from_residual.ensures.0; session = c.in_err-id-in-Struct.ensures.adds }

pub returns-in_err-id-in-Union : goal.returns-in_err-id-in-Union
returns-in_err-id-in-Union c = record { numbered = IfOk-from_err _ _ c.from_residual-in_err-id-in-Union.ensures.0; other = IfOk-from_err _ _ c.from_residual-in_err-id-in-Union.ensures.0; own = IfOk-from_err _ _ c.from_residual-in_err-id-in-Union.ensures.0; session = c.in_err-id-in-Union.ensures.adds }

pub returns-in_err-id-in-Enum : goal.returns-in_err-id-in-Enum
returns-in_err-id-in-Enum c = record { numbered = IfOk-from_err _ _ c.from_residual-in_err-id-in-Enum.ensures.0; other = IfOk-from_err _ _ c.from_residual-in_err-id-in-Enum.ensures.0; own = IfOk-from_err _ _ c.from_residual-in_err-id-in-Enum.ensures.0; session = c.in_err-id-in-Enum.ensures.adds }
