use Rattle.std.proofs.Common.{◌∷◌, [], subst, sym}
use Rattle.std.specs.Result.{is_ok}
use Rattle.def_steps.specs.Listed.{IsListed}
use Rattle.def_steps.proofs.ListedLaws.{listed-more-if}
use Rattle.def_steps.proofs.import_lists.PendingImports.list_indeterminate.Goals as goal

pub invariant_of-self : goal.invariant_of-self
invariant_of-self c =
    let imports = c.args.self.now in
    record {
      listed = subst (λ is. IsListed imports.directives.items imports.unresolved.items is) (sym c.push.ensures.items)
          (listed-more-if imports.directives.items imports.unresolved.items imports.indeterminate.items imports.listed (is_ok c.push.result) (c.args.number ∷ []));
    }
