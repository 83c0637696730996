-- What is seen at once of what an import gives.
use Rattle.std.specs.Prelude.{◌≡◌, false, None, ⊤}
use Rattle.def_bindings.specs.Content.{is_namespace}
use Rattle.def_bindings.specs.declared.bindings.Namespace.{Namespace}
use Rattle.def_imports.specs.declared.imports.Glance.{Glance}
use Rattle.def_imports.specs.declared.imports.Glance.TheVariants.{Unready, Lone, Unseen}
use Rattle.def_map.specs.Answers.{reached}
use Rattle.def_map.specs.PerNs.{per_namespace}
use Rattle.def_paths.specs.declared.path_result.ResolvePathResult.{ResolvePathResult}
use Rattle.def_sources.specs.Tables.{found_by}
use Rattle.def_rules.specs.Imports.{is_ready}
use Rattle.def_rules.specs.State.{NsSet}

-- that an import is not ready which was recorded from these namespaces and gives this answer, or that the answer is what a name stands for, in one namespace alone; nothing, where nothing is seen
abbrev pub Shows : NsSet → ResolvePathResult → Glance → Type 0
Shows recorded answer Unready = is_ready recorded answer ≡ false
Shows recorded answer (Lone ns found) = (answer ≡ reached (per_namespace (found_by found)) None false) × ((n : Namespace) → is_namespace ns n ≡ false → found_by found n ≡ None)
Shows recorded answer Unseen = ⊤
