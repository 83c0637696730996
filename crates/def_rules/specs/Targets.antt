-- Where globs lead.
use Rattle.std.specs.Prelude.{Bool, cond, not, ◌&&◌, List, [], ◌∷◌, Option, None, Some, is_some, unwrap_or}
use Rattle.def_ids.specs.declared.ids.Def.{Def}
use Rattle.def_ids.specs.declared.ids.Def.TheVariants as def
use Rattle.def_ids.specs.declared.ids.GlobId.{GlobId}
use Rattle.def_ids.specs.declared.ids.MapId.{MapId}
use Rattle.def_ids.specs.declared.ids.ModuleId.{ModuleId}
use Rattle.def_ids.specs.Ids.{is_same_map, is_same_module}
use Rattle.def_rules.specs.Globs.{Targets}
use Rattle.def_rules.specs.State.{State, root}

-- a definition that is a module of this map
abbrev pub own_module : MapId → Def → Option ModuleId
own_module id (def.Module source) = cond (is_same_map source.map id) (Some source) None
own_module id _ = None

-- the module of this map that is the one definition of a list
abbrev pub own_target : MapId → List Def → Option ModuleId
own_target id [] = None
own_target id (d ∷ []) = own_module id d
own_target id (d ∷ e ∷ others) = None

-- the module of this map that a glob leads to, where it was recorded with this module alone
abbrev pub target_of : MapId → Targets → GlobId → Option ModuleId
target_of id targets glob = own_target id (unwrap_or (targets glob) [])

-- whether a module is the root of the map, and the crate is one of procedural macros
abbrev pub is_censored : State → ModuleId → Bool
is_censored s m = s.is_proc_macro && is_same_module (root s.map) m

-- whether a module is left out of what holds along globs: the root of a crate of procedural macros is, since functions are taken out of it; that of a block is not
abbrev pub leaves_out : State → ModuleId → Bool
leaves_out s m = is_censored s m && not (is_some s.map.id.block)
