use Rattle.std.proofs.Common.{refl, sym, subst, ap, arith, inl, inr}
use Rattle.std.proofs.lemmas.Option.{slice_get_within}
use Rattle.def_calls.specs.Shown.{kind_of}
use Rattle.def_calls.proofs.FallbackLemmas.{no_attribute_at}
use Rattle.def_calls.proofs.WaitingLemmas.{read_at}
use Rattle.def_rules.specs.Settled.{IsNoAttribute}
use Rattle.def_calls.proofs.fallback.item_at.Goals as goal

pub returns-in-Attr : goal.returns-in-Attr
returns-in-Attr c = record {
  place = refl;
  here = read_at c.args.directives.now.items c.args.at _ c.in-Some.directive.now c.in-Some.ensures.item.3.0 c.in-Some.ensures.lookup refl;
  attr = ap kind_of c.in-Attr.is;
  none = tt;
}

pub returns-in-FnLike : goal.returns-in-FnLike
returns-in-FnLike c =
    let here = read_at c.args.directives.now.items c.args.at _ c.in-Some.directive.now c.in-Some.ensures.item.3.0 c.in-Some.ensures.lookup refl in
    let other : IsNoAttribute (kind_of c.in-Some.directive.now.kind) =
    elim c.in-FnLike.is [
      | inl call ↦ subst (λ k. IsNoAttribute (kind_of k)) (sym call.1) tt
      | inr derive ↦ subst (λ k. IsNoAttribute (kind_of k)) (sym derive.1) tt
    ] in
    record { place = tt; here = tt; attr = tt; none = no_attribute_at c.args.directives.now.items c.args.at c.in-Some.directive.now here other }

pub returns-in_default : goal.returns-in_default
returns-in_default c =
    let end = c.in_default.ensures.item.3 in
    record { place = tt; here = tt; attr = tt; none = λ d at. let within = slice_get_within c.args.directives.now.items c.args.at d at in absurd (omega (arith, within, end)) }
