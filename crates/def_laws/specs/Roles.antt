-- What a task is to the table of bindings, and where it is done.
use Rattle.std.specs.Prelude.{Bool, true, false, List, [], ◌∷◌, ◌||◌}
use Rattle.tree_ids.specs.declared.name.Name.{Name}
use Rattle.def_ids.specs.declared.ids.FunctionId.{FunctionId}
use Rattle.def_ids.specs.declared.ids.ModuleId.{ModuleId}
use Rattle.def_bindings.specs.declared.bindings.EdgeTo.{EdgeTo}
use Rattle.def_bindings.specs.declared.bindings.Entry.{Entry}
use Rattle.def_bindings.specs.declared.visibility.Visibility.{Visibility}
use Rattle.def_rules.specs.State.{Task, Enter, Visit, TryDerive, Put, Bring, AddEdge, TakeOut}

-- what a task is to the table
pub data Role : Type 0 where
  -- an entry is put in a module
  puts : ModuleId → Entry Visibility → Role
  -- an edge is added from a module
  links : ModuleId → EdgeTo Visibility → Role
  -- a function may be taken out of a module
  takes : ModuleId → Name → FunctionId → Role
  -- the table stays as it is
  stays : Role

-- the role of a task
abbrev pub role_of : Task → Role
role_of (Put at entry) = puts at entry
role_of (AddEdge source edge) = links source edge
role_of (TakeOut at name function) = takes at name function
role_of _ = stays

-- the module in which a task is done
abbrev pub place_of : Task → ModuleId
place_of (Enter at directory) = at
place_of (Visit site id) = site.scope
place_of (TryDerive directive written) = directive.scope
place_of (Put at entry) = at
place_of (Bring from into) = into
place_of (AddEdge source edge) = edge.importer
place_of (TakeOut at name function) = at

-- whether a role is to add an edge
abbrev pub is_link : Role → Bool
is_link (links source edge) = true
is_link _ = false

-- whether a role neither puts an entry nor adds an edge
abbrev pub is_still : Role → Bool
is_still stays = true
is_still (takes at name function) = true
is_still _ = false

-- whether an edge is to be added
abbrev pub adds_edge : List Task → Bool
adds_edge [] = false
adds_edge (task ∷ tasks) = is_link (role_of task) || adds_edge tasks
