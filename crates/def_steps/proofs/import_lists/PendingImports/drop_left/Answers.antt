use Rattle.std.proofs.Common.{◌≡◌, filter, rules, subst, sym, ap, ◌∙◌}
use Rattle.std.proofs.lemmas.Fn.{filter_same}
use Rattle.def_steps.specs.declared.import_lists.ImportList.TheVariants.{Unresolved, Indeterminate}
use Rattle.def_steps.specs.Listed.{IsListed, stands_in}
use Rattle.def_steps.proofs.ListedLaws.{listed-indeterminate, listed-unresolved}
use Rattle.def_steps.proofs.import_lists.PendingImports.drop_left.Goals as goal

pub invariant_of-self : goal.invariant_of-self
invariant_of-self c =
    let imports = c.args.self.now in
    let left : c.retain.new.self.items ≡ filter (stands_in Unresolved imports.directives.items) imports.unresolved.items =
    filter_same _ (stands_in Unresolved c.as_slice-directives.result.now) _ (λ x b f' k. search rules) _ _ c.retain.ensures.filtered
    ∙ ap (λ es. filter (stands_in Unresolved es) imports.unresolved.items) c.as_slice-directives.ensures.value in
    record {
      listed = subst (λ us. IsListed imports.directives.items us imports.indeterminate.items) (sym left)
          (listed-unresolved imports.directives.items imports.unresolved.items imports.indeterminate.items imports.listed);
    }

pub invariant_of-self-in-Indeterminate : goal.invariant_of-self-in-Indeterminate
invariant_of-self-in-Indeterminate c =
    let imports = c.args.self.now in
    let left : c.retain-in-Indeterminate.new.self.items ≡ filter (stands_in Indeterminate imports.directives.items) imports.indeterminate.items =
    filter_same _ (stands_in Indeterminate c.as_slice-directives.result.now) _ (λ x b f' k. search rules) _ _ c.retain-in-Indeterminate.ensures.filtered
    ∙ ap (λ es. filter (stands_in Indeterminate es) imports.indeterminate.items) c.as_slice-directives.ensures.value in
    record {
      listed = subst (λ is. IsListed imports.directives.items imports.unresolved.items is) (sym left)
          (listed-indeterminate imports.directives.items imports.unresolved.items imports.indeterminate.items imports.listed);
    }
