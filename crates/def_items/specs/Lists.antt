-- The order in which the items of a list are visited, and what is done behind it.
use Rattle.std.specs.declared.alloc.Global.{Global}
use Rattle.std.specs.Prelude.{◌≡◌, List, [], ◌∷◌, ◌++◌, drop, Option, Some, None, Vec}
use Rattle.tree_ids.specs.declared.ids.ModItemId.{ModItemId}
use Rattle.def_ids.specs.declared.ids.ModuleId.{ModuleId}
use Rattle.def_modules.specs.Maps.{textual_at, with_module}
use Rattle.def_modules.specs.MapState.{MapState}
use Rattle.def_modules.specs.Scopes.{brought}
use Rattle.def_items.specs.declared.lists.Frame.{Frame}
use Rattle.def_items.specs.declared.lists.ItemList.{ItemList}
use Rattle.def_items.specs.Parts.{tree_in}
use Rattle.def_rules.specs.Items.{ordered}
use Rattle.def_rules.specs.State.{Task, Bring}

-- what is done behind a list: the textual macros of its module are brought into another one, if they are handed on
abbrev pub behind : ModuleId → Option ModuleId → List Task
behind from None = []
behind from (Some into) = Bring from into ∷ []

-- a map in which that is done
abbrev pub brought_into : ModuleId → Option ModuleId → MapState → MapState
brought_into from None m = m
brought_into from (Some into) m = with_module m into.index (brought (textual_at m from.index))

-- the items of a list in the order of their visits
abbrev pub listed_in : Option (Vec ModItemId Global) → List ModItemId → List ModItemId
listed_in None ids = ids
listed_in (Some sorted) ids = sorted.items

-- the items of a frame in the order of their visits
abbrev pub listed : Frame → List ModItemId
listed frame = listed_in frame.sorted frame.list.items.now

-- the items that a frame has left
abbrev pub left_of : Frame → List ModItemId
left_of frame = drop frame.next (listed frame)

-- a list begins to be walked: its frame stands last on the stack, and has all of its items left
pub record IsBegun (below : List Frame) (list : ItemList) (frames : List Frame) : Type 0 where
  pub frame : Frame
  pub pushed : frames ≡ below ++ frame ∷ []
  pub same : frame.list ≡ list
  pub left : left_of frame ≡ ordered (tree_in list) list.site.module_id list.items.now
