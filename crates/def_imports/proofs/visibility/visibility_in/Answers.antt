use Rattle.std.proofs.Common.{ap, ◌∙◌}
use Rattle.std.specs.Option.{unwrap_or}
use Rattle.def_bindings.specs.declared.visibility.Visibility.TheVariants.{Public}
use Rattle.def_imports.proofs.visibility.visibility_in.Goals as goal

pub returns : goal.returns
returns g c = c.meant_or_public.ensures ∙ ap (λ seen. unwrap_or seen Public) c.resolve_visibility.ensures
