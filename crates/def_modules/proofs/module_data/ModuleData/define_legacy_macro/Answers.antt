use Rattle.std.proofs.Common.{rules, ap, ◌≡◌, ◌∙◌}
use Rattle.std.proofs.lemmas.Result.{on_ok_weaker}
use Rattle.def_modules.specs.Scopes.{module_state}
use Rattle.def_modules.specs.ScopeMaps.{textual_of, with_first}
use Rattle.def_modules.proofs.ScopesLemmas.{own-textual, textual-shadowed}
use Rattle.def_modules.proofs.module_data.ModuleData.define_legacy_macro.Goals as goal

pub returns : goal.returns
returns c =
    let was = c.args.self.now.scope.legacy_macros.value in
    let lists = c.push_under.new.lists in
    let ends : (c.make_mut.follows.lender lists).value ≡ lists = c.make_mut.follows.holds lists (search rules) in
    on_ok_weaker c.push_under.result
    (λ pushed.
    ap (λ textual. record (module_state c.args.self.now) { textual = textual })
    (ap textual_of ends
    ∙ textual-shadowed c.in_ok-own.own.now lists c.args.name c.args.macro_id pushed
    ∙ ap (λ textual. with_first textual c.args.name c.args.macro_id) (own-textual was c.in_ok-own.own.now c.in_ok-own.ensures.value)))
    c.push_under.ensures
