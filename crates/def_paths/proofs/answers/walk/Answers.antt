use Rattle.std.proofs.Common.{Some, add-one, ap, arith, drop, drop-cons, get_or, length, length-drop, sym, ◌+◌, ◌<◌, ◌||◌, ◌∙◌, ◌∷◌, ◌≡◌}
use Rattle.tree_ids.specs.declared.name.Name.{Name}
use Rattle.def_paths.specs.Answers.{is_elsewhere, missing, reached, walk}
use Rattle.def_sources.specs.Asking.{question_in, map_in}
use Rattle.def_sources.specs.PerNs.{in_types}
use Rattle.def_paths.proofs.AnswersLemmas.{walk-found, walk-lost, walk-nowhere}
use Rattle.def_paths.proofs.answers.walk.Goals as goal
use Rattle.def_paths.proofs.answers.walk.Goals.{then-crossed, else-crossed}

pub returns-in_default : goal.returns-in_default
returns-in_default g c =
    let q = question_in g.D.PathDatabase.oracle c.args.asking.now in
    let own = map_in g.T.BindingTable.content c.args.asking.now in
    let rest = drop (c.segments.i + 1) c.args.segments.now in
    let more : 0 < length rest = simp length-drop (omega (arith, c.if-i-segments.false, c.segments-test.true)) in
    let d : Name = record { 0 = 0 } in
    c.reached.ensures ∙ ap (λ found. reached found (Some c.segments.i) c.segments.crossed) c.of_type.ensures
    ∙ walk-nowhere q own c.segments.crossed c.segments.item c.segments.i (drop c.segments.i c.args.segments.now) rest (get_or c.args.segments.now c.segments.i d) c.step_in_types.result _
    (drop-cons c.args.segments.now c.segments.i d c.segments-test.true ∙ ap (λ j. get_or c.args.segments.now c.segments.i d ∷ drop j c.args.segments.now) (sym (add-one c.segments.i)))
    c.step_in_types.ensures more c.segments.invariant c.in_default.is

pub returns-in-None : goal.returns-in-None
returns-in-None g c =
    let q = question_in g.D.PathDatabase.oracle c.args.asking.now in
    let own = map_in g.T.BindingTable.content c.args.asking.now in
    let rest = drop (c.segments.i + 1) c.args.segments.now in
    let more : 0 < length rest = simp length-drop (omega (arith, c.if-i-segments.false, c.segments-test.true)) in
    let far = is_elsewhere own c.segments.item.def in
    let either : c.if-crossed.crossed ≡ (c.segments.crossed || far) = elim c.if-crossed.branch [
      | then-crossed w ↦ w.crossed-is ∙ w.if-crossed.true ∙ ap (λ b. b || far) (sym w.if-crossed.true)
      | else-crossed w ↦ w.crossed-is ∙ w.is_elsewhere-crossed.ensures (g.T.BindingTable.content c.args.asking.now.world.table.now) ∙ ap (λ b. b || far) (sym w.if-crossed.false)
    ] in
    let d : Name = record { 0 = 0 } in
    c.missing.ensures ∙ ap missing either ∙
    walk-lost q own c.segments.crossed c.segments.item c.segments.i (drop c.segments.i c.args.segments.now) rest (get_or c.args.segments.now c.segments.i d) c.step_in_types.result _
    (drop-cons c.args.segments.now c.segments.i d c.segments-test.true ∙ ap (λ j. get_or c.args.segments.now c.segments.i d ∷ drop j c.args.segments.now) (sym (add-one c.segments.i)))
    c.step_in_types.ensures more c.segments.invariant (c.in-Some.is ∙ ap Some c.in-None.is)

pub segments-preserved : goal.segments-preserved
segments-preserved g c =
    let q = question_in g.D.PathDatabase.oracle c.args.asking.now in
    let own = map_in g.T.BindingTable.content c.args.asking.now in
    let rest = drop (c.segments.i + 1) c.args.segments.now in
    let more : 0 < length rest = simp length-drop (omega (arith, c.if-i-segments.false, c.segments-test.true)) in
    let far = is_elsewhere own c.segments.item.def in
    let either : c.if-crossed.crossed ≡ (c.segments.crossed || far) = elim c.if-crossed.branch [
      | then-crossed w ↦ w.crossed-is ∙ w.if-crossed.true ∙ ap (λ b. b || far) (sym w.if-crossed.true)
      | else-crossed w ↦ w.crossed-is ∙ w.is_elsewhere-crossed.ensures (g.T.BindingTable.content c.args.asking.now.world.table.now) ∙ ap (λ b. b || far) (sym w.if-crossed.false)
    ] in
    let d : Name = record { 0 = 0 } in
    ap (λ b. walk q own b (in_types c.in-Some-next.found) (c.segments.i + 1) rest) either ∙
    walk-found q own c.segments.crossed c.segments.item c.segments.i (drop c.segments.i c.args.segments.now) rest (get_or c.args.segments.now c.segments.i d) c.step_in_types.result _
    (drop-cons c.args.segments.now c.segments.i d c.segments-test.true ∙ ap (λ j. get_or c.args.segments.now c.segments.i d ∷ drop j c.args.segments.now) (sym (add-one c.segments.i)))
    c.step_in_types.ensures more c.segments.invariant c.in-Some-next.found (c.in-Some.is ∙ ap Some c.in-Some-next.is)
