use Rattle.std.proofs.Common.{◌≡◌, ◌++◌, ◌∷◌, [], length, map, Result, Ok, Err, ap, sym, ◌∙◌}
use Rattle.std.proofs.lemmas.List.{map-append}
use Rattle.std.specs.Result.{OnOk}
use Rattle.def_attrs.specs.Shown.{with_derives}
use Rattle.def_calls.specs.Shown.{expansion_shown, macro_directive_of, written_derive_of}
use Rattle.def_modules.specs.declared.map.HelpersRange.{HelpersRange}
use Rattle.def_modules.specs.Maps.{map_state}
use Rattle.def_modules.specs.MapState.{MapState}
use Rattle.def_rules.specs.Deferred.{added_helpers, deferral, with_deferred}
use Rattle.def_rules.specs.Derives.{derive_directive, with_shown_helpers}
use Rattle.def_rules.specs.Directives.{called_state, expansion_of}
use Rattle.def_rules.specs.State.{State}
use Rattle.def_attrs.proofs.given.call_tried.Goals as goal

-- what follows from a value's fact
on_ok : {T E P Q : Type 0} (r : Result T E) → OnOk r P → (P → Q) → OnOk r Q
on_ok (Ok x) p f = f p
on_ok (Err e) p f = p

pub returns-in_ok-push_back-in-None : goal.returns-in_ok-push_back-in-None
returns-in_ok-push_back-in-None g c = λ s.
    let oracle = g.D.SourceDatabase.oracle c.args.db.now in
    let before : State = with_derives s c.args.def_map.now c.args.deferred.now c.args.expansions.now.items in
    let d = macro_directive_of c.args.directive.now in
    let written = written_derive_of c.args.found.written in
    let call = c.in_ok-call-in-None.call in
    let given = c.in_ok-call-in-None.ensures in
    let more : map expansion_shown c.push_back.new.self.items ≡ before.expansions ++ expansion_of (derive_directive d written) call ∷ [] =
    ap (map expansion_shown) c.in_ok-push_back-in-None.ensures.items
    ∙ map-append expansion_shown c.args.expansions.now.items (c.expansion.result ∷ [])
    ∙ ap (λ e. before.expansions ++ e ∷ []) (c.expansion.ensures ∙ ap (λ x. expansion_of x call) c.derive-waiting.ensures) in
    (λ i. record before { map = given.1 i; expansions = more i })
    ∙ (λ i. called_state oracle before d written c.args.found.macro_def (given.0 i) ((sym c.in-None.is ∙ c.deferred_derive.ensures) i))

pub returns-in_ok-call-in-Some : goal.returns-in_ok-call-in-Some
returns-in_ok-call-in-Some g c =
    let oracle = g.D.SourceDatabase.oracle c.args.db.now in
    let d = macro_directive_of c.args.directive.now in
    let written = written_derive_of c.args.found.written in
    let call = c.in_ok-call-in-Some.call in
    let n = c.in-Some.derive in
    let given = c.in_ok-call-in-Some.ensures in
    let was : MapState = map_state c.args.def_map.now in
    let helped : MapState = with_shown_helpers oracle was d c.args.found.macro_def call in
    let helpers : HelpersRange = record { start = c.derive_helper_count-start.result; end = c.derive_helper_count-end.result } in
    let ended = c.derive_helper_count-end.ensures ∙ ap (λ (m : MapState). length (m.helpers d.position)) given.1 in
    let added : helpers ≡ added_helpers was helped d.position = λ i. record { start = c.derive_helper_count-start.ensures i; end = ended i } in
    let deferred = c.deferral-deferral.ensures ∙ ap (deferral d written call n) added in
    on_ok c.defer.result c.defer.ensures (λ more s.
    let before : State = with_derives s c.args.def_map.now c.args.deferred.now c.args.expansions.now.items in
    (λ i. record before { map = given.1 i; deferred = (more ∙ ap (with_deferred before.deferred d.position) deferred) i })
    ∙ (λ i. called_state oracle before d written c.args.found.macro_def (given.0 i) ((sym c.in-Some.is ∙ c.deferred_derive.ensures) i)))
