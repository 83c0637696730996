use Rattle.std.proofs.Common.{ap, ◌∙◌}
use Rattle.def_modules.specs.EqualityLaws.{invocations_same}
use Rattle.def_modules.specs.RareParts.{rare_state}
use Rattle.def_modules.specs.Scopes.{module_state}
use Rattle.def_modules.specs.ScopeMaps.{invoked_with}
use Rattle.def_modules.proofs.RareLemmas.{with_rare}
use Rattle.def_modules.proofs.ScopesLemmas.{invoked-set}
use Rattle.def_modules.proofs.module_data.ModuleData.add_macro_invoc.Goals as goal

pub returns : goal.returns
returns c =
    let m = module_state c.args.self.now in
    let r = c.deref_mut.result.now in
    let e = invoked-set r.invocations c.insert.new.self c.args.position c.args.call _ invocations_same c.in_ok-insert.ensures.updates.0 in
    ap (λ i. with_rare (record (rare_state r) { invoked = i }) m) e
    ∙ ap (λ s. with_rare (record s { invoked = invoked_with s.invoked c.args.position c.args.call }) m) (ap rare_state c.deref_mut.ensures.value ∙ c.in_ok-rare_mut.ensures.value)
