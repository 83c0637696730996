use Rattle.std.proofs.Common.{◌≡◌, ◌||◌, subst}
use Rattle.std.specs.Prelude.{IfOk, OnErr, is_none}
use Rattle.def_bindings.specs.declared.bindings.Slot.TheVariants.{Named}
use Rattle.def_bindings.specs.Puts.{if_vacant, written}
use Rattle.def_tables.specs.NumberedTable.{content_of}
use Rattle.def_tables.proofs.numbered_table.NumberedTable.put_elsewhere.Goals as goal

pub returns-then-adopt-clause-done : goal.returns-then-adopt-clause-done
returns-then-adopt-clause-done g c =
    let p = c.args.put in
    let after = content_of g.K.Kept.meaning c.put_own.new.self in
    subst (λ d. IfOk c.put_own.result (λ wrote. (wrote ≡ (p.over || is_none (d.binding p.at p.name p.ns))) × (after ≡ written d p.at (Named p.name p.ns) (if_vacant wrote c.args.binding.now)))) c.adopt.ensures.content c.put_own.ensures.done

pub returns-then-adopt-clause-refused : goal.returns-then-adopt-clause-refused
returns-then-adopt-clause-refused g c =
    let after = content_of g.K.Kept.meaning c.put_own.new.self in
    subst (λ d. OnErr c.put_own.result (after ≡ d)) c.adopt.ensures.content c.put_own.ensures.refused

pub returns-else-adopt-clause-done : goal.returns-else-adopt-clause-done
returns-else-adopt-clause-done g c =
    let p = c.args.put in
    let after = content_of g.K.Kept.meaning c.put_other.new.self in
    subst (λ d. IfOk c.put_other.result (λ wrote. (wrote ≡ (p.over || is_none (d.binding p.at p.name p.ns))) × (after ≡ written d p.at (Named p.name p.ns) (if_vacant wrote c.args.binding.now)))) c.adopt.ensures.content c.put_other.ensures.done

pub returns-else-adopt-clause-refused : goal.returns-else-adopt-clause-refused
returns-else-adopt-clause-refused g c =
    let after = content_of g.K.Kept.meaning c.put_other.new.self in
    subst (λ d. OnErr c.put_other.result (after ≡ d)) c.adopt.ensures.content c.put_other.ensures.refused
