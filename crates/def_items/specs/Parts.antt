-- Where items stand, and what the parts of the state that they change stand for.
use Rattle.std.specs.Prelude.{Option, option_map}
use Rattle.item_tree.specs.declared.tree.ItemTree.{ItemTree}
use Rattle.def_interner.specs.declared.interner.Interner.{Interner}
use Rattle.def_interner.specs.Session.{session_of}
use Rattle.def_items.specs.declared.lists.ItemList.{ItemList}
use Rattle.def_modules.specs.declared.map.MapData.{MapData}
use Rattle.def_modules.specs.Maps.{map_state}
use Rattle.def_modules.specs.MapView.{LocalView}
use Rattle.def_sources.specs.Tables.{Table, bound_by}
use Rattle.def_parts.specs.Sites.{site_of}
use Rattle.def_rules.specs.State.{Site, State}

-- where the items of a list stand
abbrev pub list_site : ItemList → Site
list_site list = site_of list.site

-- the tree that a list goes over, if there is one
abbrev pub tree_in : ItemList → Option ItemTree
tree_in list = option_map (λ t. t.now) list.tree

-- a state whose map and table are these
abbrev pub with_parts : State → MapData → Table → State
with_parts s def_map table = record s { map = map_state def_map; content = bound_by table }

-- a state whose session and map are these
abbrev pub with_session : State → Interner → MapData → State
with_session s session def_map = record s { session = session_of session; map = map_state def_map }

-- a state whose names of crates are these
abbrev pub with_local : State → LocalView → State
with_local s local = record s { local = local }
