use Rattle.std.proofs.Common.{◌++◌, ◌∷◌, [], append-nil, ap, arith, rules, sym, ◌∙◌, take}
use Rattle.std.specs.Prelude.{filter, not}
use Rattle.std.specs.declared.collections.VecDeque.{VecDeque}
use Rattle.std.specs.declared.alloc.Global.{Global}
use Rattle.std.proofs.lemmas.Fn.{filter_same}
use Rattle.std.proofs.lemmas.List.{take_all}
use Rattle.def_calls.specs.declared.directives.MacroDirective.{MacroDirective}
use Rattle.def_calls.proofs.WaitingLemmas.{filter_more, filter_none, filter_one}
use Rattle.def_calls.proofs.directives.put_asked_first.Goals.{then-not-directive+in_ok-push_back, else-not-directive}
use Rattle.def_calls.proofs.directives.put_asked_first.Goals as goal

pub directives-preserved : goal.directives-preserved
directives-preserved c =
    let all = c.args.directives.now.items in
    let i = c.directives.i in
    let x = c.index-directive.result.now in
    let waits = λ (d : MacroDirective). not d.asked in
    let long = c.args.directives.now.ok.0 in
    let end = c.len-i-end.ensures in
    let test = c.directives-test.true in
    let more = filter_more waits all i x (omega (arith, test, end, long)) c.index-directive.ensures in
    elim c.if-not-directive.branch [
      | then-not-directive+in_ok-push_back w ↦
          ap (λ (q : VecDeque MacroDirective Global). q.items) w.queued-is
          ∙ w.in_ok-push_back.ensures.items
          ∙ ap (λ l. l ++ x ∷ []) c.directives.invariant
          ∙ ap (λ l. filter waits (take i all) ++ l) (sym (filter_one waits x (ap not w.if-not-directive.true)))
          ∙ sym more
      | else-not-directive w ↦
          ap (λ (q : VecDeque MacroDirective Global). q.items) w.queued-is
          ∙ c.directives.invariant
          ∙ sym (append-nil (filter waits (take i all)))
          ∙ ap (λ l. filter waits (take i all) ++ l) (sym (filter_none waits x (ap not w.if-not-directive.false)))
          ∙ sym more
    ]

pub returns : goal.returns
returns c =
    let all = c.args.directives.now.items in
    let long = c.args.directives.now.ok.0 in
    let end = c.len-i-end.ensures in
    let test = c.directives-test.false in
    let asked = filter_same _ (λ (d : MacroDirective). d.asked) _ (λ x b f' k. search rules) _ _ c.retain.ensures.filtered in
    c.in_ok-append.ensures.items
    ∙ ap (λ l. l ++ c.directives.queued.items) asked
    ∙ ap (λ l. filter (λ (d : MacroDirective). d.asked) all ++ l) (c.directives.invariant ∙ ap (filter (λ (d : MacroDirective). not d.asked)) (take_all c.directives.i all (omega (arith, test, end, long))))
