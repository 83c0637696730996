-- What is to be done for globs.
use Rattle.std.specs.Prelude.{◌≡◌, ◌⊎◌, true, List, [], ◌∷◌, Option, None, Some}
use Rattle.def_ids.specs.declared.ids.GlobId.{GlobId}
use Rattle.def_ids.specs.declared.ids.ModuleId.{ModuleId}
use Rattle.def_bindings.specs.declared.bindings.ImportOrExternCrate.TheVariants.{Glob}
use Rattle.def_rules.specs.State.{Task}
use Rattle.def_laws.specs.Roles.{Role, puts, links, takes, stays, role_of, adds_edge}

-- what a task is followed by, by its role: where a glob leads to a module, its puts are followed by an edge, which begins there
abbrev pub IsFollowed : (GlobId → Option ModuleId) → Role → List Task → Type 0
IsFollowed target_of (puts at entry) tasks = (glob : GlobId) → entry.origin ≡ Some (Glob glob) → (target_of glob ≡ None) ⊎ (adds_edge tasks ≡ true)
IsFollowed target_of (links source edge) tasks = (target : ModuleId) → target_of edge.glob ≡ Some target → source ≡ target
IsFollowed target_of (takes at name function) tasks = Unit {0}
IsFollowed target_of stays tasks = Unit {0}

-- each task is followed so
abbrev pub AreFollowed : (GlobId → Option ModuleId) → List Task → Type 0
AreFollowed target_of [] = Unit {0}
AreFollowed target_of (task ∷ tasks) = IsFollowed target_of (role_of task) tasks × AreFollowed target_of tasks
