use Rattle.std.proofs.Common.{None, ap, sym, ◌∙◌}
use Rattle.def_tables.specs.declared.part.Part.TheVariants.{Vacant}
use Rattle.def_tables.specs.BoundName.{stands_for, with_namespace}
use Rattle.def_tables.specs.Parts.{is_alone, parts_in}
use Rattle.def_tables.proofs.PartsLemmas.{parts-put, some-left}
use Rattle.def_tables.proofs.bound_name.BoundName.take.Goals as goal

pub invariant_of-deref_mut : goal.invariant_of-deref_mut
invariant_of-deref_mut g c =
    record {
      some = some-left c.deref_mut.result.now.parts c.put.new.self c.args.ns Vacant c.put.ensures
          (sym (c.is_alone.ensures ∙ ap (λ e. is_alone e.parts c.args.ns) (c.deref.ensures ∙ sym c.deref_mut.ensures.value)) ∙ c.if-is_alone.false);
    }

pub returns-else-is_alone-clause-left : goal.returns-else-is_alone-clause-left
returns-else-is_alone-clause-left g c = λ h.
    let map = c.args.map in
    parts-put g.K.Kept.meaning map c.deref_mut.result.now.parts c.put.new.self c.args.ns Vacant c.put.ensures
    ∙ ap (λ e. with_namespace (parts_in g.K.Kept.meaning map e.parts) c.args.ns None) c.deref_mut.ensures.value
    ∙ ap (λ s. with_namespace (stands_for g.K.Kept.meaning map s) c.args.ns None) (sym c.in-Each.is)
