use Rattle.std.proofs.Common.{◌≡◌, Some, cond, is_some, slice_get, slice_set, refl, rules, sym, ap, ◌∙◌}
use Rattle.std.proofs.lemmas.Option.{slice_get_read}
use Rattle.def_steps.specs.Listed.{with_number}
use Rattle.def_steps.specs.Shown.{kept_with}
use Rattle.def_steps.proofs.ListedLaws.{retired-in-order, stands_there}
use Rattle.def_steps.proofs.import_lists.PendingImports.retire.Goals as goal

pub returns-in_ok-list_indeterminate-in-Some-kept-clause-order : goal.returns-in_ok-list_indeterminate-in-Some-kept-clause-order
returns-in_ok-list_indeterminate-in-Some-kept-clause-order c = λ d at.
    let imports = c.args.self.now in
    let number = c.in-Some.number.now in
    let stood = ap (λ ns. slice_get ns c.args.at.index) (sym c.numbers.ensures) ∙ slice_get_read c.numbers.result.now _ c.args.at.index number refl (search rules) (search rules) in
    let there : slice_get imports.directives.items number ≡ Some (Some d) = stands_there imports c.args.at number d stood at in
    let listed = c.in_ok-list_indeterminate-in-Some-kept.ensures in
    record {
      number = number;
      stood = stood;
      entries = c.keep.ensures.entry d (ap (λ es. slice_get es number) (ap (λ v. v.items) listed.directives) ∙ there) ∙ ap (λ v. slice_set v.items number (kept_with d.import c.args.kept)) listed.directives;
      unresolved = ap (λ v. v.items) (c.keep.ensures.unresolved ∙ listed.unresolved);
      indeterminate = ap (λ v. v.items) c.keep.ensures.indeterminate ∙ listed.last ∙ ap (λ k. cond (is_some k) (with_number c.args.at.list number imports.indeterminate.items) imports.indeterminate.items) (sym c.in-Some-kept.is);
    }

pub returns-in_ok-list_indeterminate-in-Some-kept-clause-retired : goal.returns-in_ok-list_indeterminate-in-Some-kept-clause-retired
returns-in_ok-list_indeterminate-in-Some-kept-clause-retired c = λ d at.
    retired-in-order c.args.self.now c.keep.new.self c.args.at d c.args.kept at (returns-in_ok-list_indeterminate-in-Some-kept-clause-order c d at)

pub returns-in-None-clause-order : goal.returns-in-None-clause-order
returns-in-None-clause-order c = λ d at.
    let imports = c.args.self.now in
    let number = c.in-Some.number.now in
    let stood = ap (λ ns. slice_get ns c.args.at.index) (sym c.numbers.ensures) ∙ slice_get_read c.numbers.result.now _ c.args.at.index number refl (search rules) (search rules) in
    let kept = c.keep-in-None.ensures in
    record {
      number = number;
      stood = stood;
      entries = kept.entry d (stands_there imports c.args.at number d stood at) ∙ ap (λ k. slice_set imports.directives.items number (kept_with d.import k)) (sym c.in-None.is);
      unresolved = ap (λ v. v.items) kept.unresolved;
      indeterminate = ap (λ v. v.items) kept.indeterminate ∙ ap (λ k. cond (is_some k) (with_number c.args.at.list number imports.indeterminate.items) imports.indeterminate.items) (sym c.in-None.is);
    }

pub returns-in-None-clause-retired : goal.returns-in-None-clause-retired
returns-in-None-clause-retired c = λ d at.
    retired-in-order c.args.self.now c.keep-in-None.new.self c.args.at d c.args.kept at (returns-in-None-clause-order c d at)
