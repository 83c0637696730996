-- What the code of a walk holds, as the definitions take it.
use Rattle.std.specs.Prelude.{List, [], ◌∷◌, ◌++◌}
use Rattle.def_ids.specs.declared.ids.ModuleId.{ModuleId}
use Rattle.def_map.specs.Asking.{world_lent}
use Rattle.def_modules.specs.Maps.{map_state}
use Rattle.def_oracle.specs.Oracle.{Oracle}
use Rattle.def_sources.specs.Tables.{bound_by}
use Rattle.def_sources.specs.declared.table.Table.{Table}
use Rattle.def_sources.specs.declared.world.World.{World}
use Rattle.def_assoc.specs.declared.collector.Found.{Found}
use Rattle.def_assoc.specs.declared.collector.ItemList.{ItemList}
use Rattle.def_assoc.specs.declared.collector.Node.{Node as LentNode}
use Rattle.def_assoc.specs.ExpansionTrees.{Lists, Node, Reading, nodes_in}

-- what items are read against, as it is lent
abbrev pub reading_of : {D : Type 0} → (D → Oracle) → World D Table → ModuleId → Reading
reading_of oracle w at = record { world = world_lent oracle bound_by w; map = map_state w.map.now; scope = at }

-- an item that is lent
abbrev pub node_of : LentNode → Node
node_of node = record { file = node.file; depth = node.depth; item = node.item.now }

-- the items of a list that are still to be read
abbrev pub nodes_of : ItemList → List Node
nodes_of list = nodes_in list.file list.depth list.rest.now

-- those of a stack of lists, the last one first
abbrev pub unread : List ItemList → List Node
unread [] = []
unread (list ∷ lists) = unread lists ++ nodes_of list

-- what a walk found
abbrev pub found_of : Found → Lists
found_of found = record { named = found.named.items; calls = found.macro_calls.items; diagnostics = found.diagnostics }
