use Rattle.std.proofs.Common.{Some, ap, refl, ◌∙◌}
use Rattle.def_tables.specs.declared.part.Part.TheVariants.{Whole}
use Rattle.def_tables.specs.BoundName.{with_namespace}
use Rattle.def_tables.specs.Parts.{parts_in}
use Rattle.def_tables.proofs.PartsLemmas.{parts-put, parts-vacant, some-put}
use Rattle.def_tables.proofs.bound_name.whole.Goals as goal

pub invariant_of-new : goal.invariant_of-new
invariant_of-new g c = record { some = some-put c.vacant-parts.result c.put.new.self c.args.ns (Whole c.in_ok-new.field-0) c.put.ensures refl }

pub returns : goal.returns
returns g c = λ map.
    let ns = c.args.ns in
    ap (λ e. parts_in g.K.Kept.meaning map e.parts) c.in_ok-new-2.ensures.ok
    ∙ parts-put g.K.Kept.meaning map c.vacant-parts.result c.put.new.self ns (Whole c.in_ok-new.field-0) c.put.ensures
    ∙ ap (λ b. with_namespace (parts_in g.K.Kept.meaning map c.vacant-parts.result) ns (Some b)) c.in_ok-new.ensures.ok
    ∙ ap (λ f. with_namespace f ns (Some c.args.binding.now)) (parts-vacant g.K.Kept.meaning map c.vacant-parts.result c.vacant-parts.ensures)
