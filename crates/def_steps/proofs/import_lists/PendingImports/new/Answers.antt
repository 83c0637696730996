use Rattle.std.proofs.Common.{map, ap, ◌∙◌}
use Rattle.def_steps.specs.declared.directive.ImportDirective.{ImportDirective}
use Rattle.def_steps.specs.ImportLists.{directives_in}
use Rattle.def_steps.specs.Shown.{directive_of}
use Rattle.def_steps.proofs.ImportListsLaws.{present-nil}
use Rattle.def_steps.proofs.import_lists.PendingImports.new.Goals as goal

pub returns : goal.returns
returns c = ap directives_in c.new.ensures.items ∙ ap (map directive_of) (present-nil ImportDirective)
