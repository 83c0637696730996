use Rattle.std.proofs.Common.{◌≡◌, false, cond, Some, ◌++◌, ◌∷◌, [], length, refl, subst, sym, ap, ◌∙◌, vec_len, arith}
use Rattle.std.specs.Result.{is_ok}
use Rattle.def_steps.specs.declared.directive.ImportDirective.{ImportDirective}
use Rattle.def_steps.specs.Listed.{IsListed}
use Rattle.def_steps.specs.Shown.{directive_of}
use Rattle.def_steps.proofs.ImportListsLaws.{present_pushed}
use Rattle.def_steps.proofs.ListedLaws.{listed-pushed-if}
use Rattle.def_steps.proofs.import_lists.PendingImports.push.Goals as goal

pub invariant_of-self-2 : goal.invariant_of-self-2
invariant_of-self-2 c =
    let imports = c.args.self.now in
    let len : vec_len imports.directives ≡ length imports.directives.items = omega (arith, imports.directives.ok.0) in
    let numbers : c.push.new.self.items ≡ imports.unresolved.items ++ length imports.directives.items ∷ [] = c.in_ok-push.ensures.items ∙ ap (λ n. imports.unresolved.items ++ n ∷ []) (c.len.ensures ∙ len) in
    let d : ImportDirective = record { import = c.args.import; recorded = record { types = false; values = false; macros = false } } in
    let ok = is_ok c.push-2.result in
    record {
      listed = subst (λ es. IsListed es c.push.new.self.items imports.indeterminate.items) (sym c.push-2.ensures.items)
          (subst (λ us. IsListed (cond ok (imports.directives.items ++ Some d ∷ []) imports.directives.items) us imports.indeterminate.items) (sym numbers)
          (listed-pushed-if imports.directives.items imports.unresolved.items imports.indeterminate.items imports.listed ok d refl));
    }

pub returns : goal.returns
returns c = present_pushed directive_of _ _ _ c.in_ok-push-2.ensures.items
