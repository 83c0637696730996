use Rattle.std.proofs.Common.{◌≡◌, ◌++◌, ◌∷◌, [], map, ap, ◌∙◌}
use Rattle.std.proofs.lemmas.List.{map-append}
use Rattle.def_calls.specs.Shown.{expansion_shown, macro_directive_of, macros_in, with_waiting, written_derive_of}
use Rattle.def_rules.specs.Derives.{derived}
use Rattle.def_rules.specs.Directives.{expanding, expansion_of}
use Rattle.def_rules.specs.State.{State}
use Rattle.def_attrs.proofs.given.call_waiting.Goals as goal

pub returns : goal.returns
returns g c = λ s.
    let oracle = g.D.SourceDatabase.oracle c.args.db.now in
    let before : State = with_waiting s c.args.def_map.now c.args.directives.now.items c.args.expansions.now.items in
    let d = macro_directive_of c.args.directive in
    let written = written_derive_of c.args.found.written in
    let call = c.in_ok-call.call in
    let others = macros_in c.leave.new.directives.items in
    let given = c.in_ok-call.ensures in
    let more : map expansion_shown c.push_back.new.self.items ≡ before.expansions ++ expansion_of d call ∷ [] =
    ap (map expansion_shown) c.in_ok-push_back.ensures.items
    ∙ map-append expansion_shown c.args.expansions.now.items (c.expansion.result ∷ [])
    ∙ ap (λ e. before.expansions ++ e ∷ []) c.expansion.ensures in
    record {
      others = others;
      stands = ap macros_in c.leave.ensures;
      is = (λ i. record before { map = given.1 i; macros = others; expansions = more i })
          ∙ ap (λ x. expanding (derived oracle before d written c.args.found.macro_def x) others d x) given.0;
    }
