use Rattle.std.proofs.Common.{◌≡◌, ◌++◌, ◌∷◌, [], map, ap, ◌∙◌}
use Rattle.std.proofs.lemmas.List.{map-append}
use Rattle.def_calls.specs.Shown.{expansion_shown, macro_directive_of, macros_in, with_waiting}
use Rattle.def_rules.specs.Directives.{expansion_of}
use Rattle.def_rules.specs.State.{State}
use Rattle.def_calls.proofs.directives.give_call.Goals as goal

pub returns : goal.returns
returns c = λ s.
    let d = macro_directive_of c.args.directive in
    let before : State = with_waiting s c.args.def_map.now c.args.directives.now.items c.args.expansions.now.items in
    let more : map expansion_shown c.push_back.new.self.items ≡ before.expansions ++ expansion_of d c.args.call ∷ [] =
    ap (map expansion_shown) c.in_ok-push_back.ensures.items
    ∙ map-append expansion_shown c.args.expansions.now.items (c.expansion.result ∷ [])
    ∙ ap (λ e. before.expansions ++ e ∷ []) c.expansion.ensures in
    record {
      others = macros_in c.leave.new.directives.items;
      stands = ap macros_in c.leave.ensures;
      is = λ i. record before { map = c.in_ok-add_macro_invoc.ensures i; macros = macros_in c.leave.new.directives.items; expansions = more i };
    }
