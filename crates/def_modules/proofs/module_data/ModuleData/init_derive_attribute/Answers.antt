use Rattle.std.proofs.Common.{Result, Ok, Err, ap, ◌∙◌}
use Rattle.std.specs.Result.{OnOk}
use Rattle.def_modules.specs.EqualityLaws.{derive_keys_same}
use Rattle.def_modules.specs.RareParts.{rare_state}
use Rattle.def_modules.specs.Scopes.{module_state}
use Rattle.def_modules.specs.ScopeMaps.{derive_recorded, derive_state}
use Rattle.def_modules.proofs.RareLemmas.{with_rare}
use Rattle.def_modules.proofs.ScopesLemmas.{derives-recorded}
use Rattle.def_modules.proofs.module_data.ModuleData.init_derive_attribute.Goals as goal

-- what follows from a value's fact
on_ok : {T E P Q : Type 0} (r : Result T E) → OnOk r P → (P → Q) → OnOk r Q
on_ok (Ok x) p f = f p
on_ok (Err e) p f = p

pub returns : goal.returns
returns c =
    let m = module_state c.args.self.now in
    let r = c.deref_mut.result.now in
    on_ok c.push_record.result c.push_record.ensures (λ pushed.
    let e = derives-recorded r.derives c.push_record.new.derives c.args.position c.args.attr c.args.derive _ derive_keys_same pushed in
    ap (λ d. with_rare (record (rare_state r) { derives = d }) m) e
    ∙ ap (λ s. with_rare (record s { derives = derive_recorded s.derives c.args.position c.args.attr (derive_state c.args.derive) }) m) (ap rare_state c.deref_mut.ensures.value ∙ c.in_ok-rare.ensures.value))
