use Rattle.std.proofs.Common.{◌≡◌, ap, ◌∙◌, rules}
use Rattle.std.specs.Prelude.{OnOk}
use Rattle.std.proofs.lemmas.Result.{on_ok_weaker}
use Rattle.def_modules.specs.Maps.{map_state, textual_at}
use Rattle.def_modules.specs.ScopeMaps.{defined_all}
use Rattle.def_modules.specs.Scopes.{module_state, brought, with_textual_of}
use Rattle.def_modules.proofs.MapsLemmas.{module_changed, module_missing}
use Rattle.def_modules.proofs.map.MapData.import_all_legacy_macros.Goals as goal

pub returns-in-Some : goal.returns-in-Some
returns-in-Some c =
    let from = textual_at (map_state c.args.self.now) c.args.from in
    let m = module_state c.in-Some.target.now in
    let pairs = ap (defined_all m.textual) c.as_slice.ensures.value ∙ c.in_ok-last.ensures m.textual in
    let done : OnOk c.define_legacy_macros.result (module_state c.define_legacy_macros.new.self ≡ brought from m) =
    on_ok_weaker c.define_legacy_macros.result (λ h. h ∙ ap (λ t. with_textual_of t m) pairs) c.define_legacy_macros.ensures in
    module_changed c.define_legacy_macros.result c.args.self.now c.args.into c.in-Some.target.now c.define_legacy_macros.new.self (brought from) (search rules) c.in-Some.ensures.value done

pub returns : goal.returns
returns c = module_missing c.args.self.now c.args.into (brought (textual_at (map_state c.args.self.now) c.args.from)) (search rules)
