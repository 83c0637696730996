-- What imports and edges stand for.
use Rattle.std.specs.Prelude.{List, [], ◌∷◌, Option, None, Some, option_map}
use Rattle.def_ids.specs.declared.ids.ModuleId.{ModuleId}
use Rattle.def_bindings.specs.declared.bindings.EdgeTo.{EdgeTo}
use Rattle.def_bindings.specs.declared.visibility.Visibility.{Visibility}
use Rattle.def_steps.specs.declared.directive.Import.{Import}
use Rattle.def_steps.specs.declared.directive.ImportDirective.{ImportDirective}
use Rattle.def_steps.specs.declared.directive.NamespaceSet.{NamespaceSet}
use Rattle.def_rules.specs.declared.outcome.Edge.{Edge}
use Rattle.def_rules.specs.Report.{listed_edge}
use Rattle.def_rules.specs.State as rules
use Rattle.def_rules.specs.State.{NsSet}

-- an import, with what it refers to in the place of the references
abbrev pub import_of : Import → rules.Import
import_of i = record { scope = i.module_id; position = i.position; use_id = i.use_id; written = i.written.now; vis = i.vis.now; is_prelude = i.is_prelude }

-- a set of namespaces
abbrev pub ns_set : NamespaceSet → NsSet
ns_set set = record { types = set.types; values = set.values; macros = set.macros }

-- the set that an import stays indeterminate with, if it does
abbrev pub kept_of : Option NamespaceSet → Option NsSet
kept_of kept = option_map ns_set kept

-- an import with the namespaces that it was recorded from so far
abbrev pub directive_of : ImportDirective → rules.ImportDirective
directive_of d = record { import = import_of d.import; recorded = ns_set d.recorded }

-- an import that stays with these namespaces, if it does
abbrev pub kept_with : Import → Option NamespaceSet → Option ImportDirective
kept_with import kept = option_map (λ recorded. record { import = import; recorded = recorded }) kept

-- what stays of an import, as a list
abbrev pub directives_kept : Option ImportDirective → List rules.ImportDirective
directives_kept None = []
directives_kept (Some d) = directive_of d ∷ []

-- an edge of a table with its source, as it is answered
abbrev pub shown_edge : ModuleId × EdgeTo Visibility → Edge
shown_edge e = listed_edge e.0 e.1
