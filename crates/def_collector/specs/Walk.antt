-- Lists that are walked, and what they leave to be visited.
use Rattle.std.specs.Prelude.{◌≡◌, ◌<◌, ℕ, Bool, true, false, ◌+◌, ◌^◌, List, [], ◌∷◌, ◌++◌, length, Option, Some, None, Vec}
use Rattle.std.specs.declared.alloc.Global.{Global}
use Rattle.item_tree.specs.declared.items.ModItemKind.{ModItemKind}
use Rattle.item_tree.specs.declared.items.ModItemKind.TheVariants.{ExternBlock, MacroCall, Mod}
use Rattle.def_map.specs.Oracle.{Oracle}
use Rattle.def_parts.specs.Directories.{FoundFile}
use Rattle.def_modules.specs.declared.map.MapData.{MapData}
use Rattle.def_modules.specs.Maps.{map_state}
use Rattle.def_parts.specs.declared.mod_dirs.ModDirs.{ModDirs}
use Rattle.def_parts.specs.Sites.{directories_of}
use Rattle.def_sources.specs.Tables.{Table}
use Rattle.def_rules.specs.declared.diagnostics.DefDiagnostic.{DefDiagnostic}
use Rattle.def_rules.specs.Items.{visits, walk}
use Rattle.def_rules.specs.State.{State, Task, entered, with_map}
use Rattle.def_laws.specs.Work.{work}
use Rattle.def_items.specs.declared.lists.ItemList.{ItemList}
use Rattle.def_items.specs.Parts.{list_site, tree_in, with_parts}
use Rattle.def_collector.specs.declared.modules.FoundModule.{FoundModule}
use Rattle.def_items.specs.declared.lists.Frame.{Frame}
use Rattle.def_items.specs.Lists.{IsBegun, behind, brought_into, left_of}

-- a file that was found, as it is shown
abbrev pub found_in : FoundModule → FoundFile
found_in found = (found.file, found.is_mod_rs, found.dir)

-- a state whose map, table and reports are these
abbrev pub with_reports : State → MapData → Table → Vec DefDiagnostic Global → State
with_reports s def_map table diagnostics = record (with_parts s def_map table) { diagnostics = diagnostics.items }

-- an item of this kind opens a list of items: a module, an extern block, or a macro call
abbrev pub opens_list : ModItemKind → Bool
opens_list (Mod name raw contents) = true
opens_list (ExternBlock children) = true
opens_list (MacroCall path expand_to ctxt) = true
opens_list _ = false

-- the visits that a frame has left, and what is done behind them
abbrev pub frame_tasks : Frame → List Task
frame_tasks frame = visits (list_site frame.list) (left_of frame) ++ behind frame.list.site.module_id frame.list.into

-- the walk of a list, and what is done behind it
abbrev pub list_tasks : Oracle → ItemList → List Task
list_tasks oracle list = walk oracle (list_site list) list.items.now ++ behind list.site.module_id list.into

-- that of the list that an item opened, if it opened one
abbrev pub inner_of : Oracle → Option ItemList → List Task
inner_of oracle None = []
inner_of oracle (Some list) = list_tasks oracle list

-- what is to be visited, where the last frame comes first
unfoldable pub agenda_of : List Frame → List Task
agenda_of [] = []
agenda_of (frame ∷ above) = agenda_of above ++ frame_tasks frame

-- a list goes over the tree that the oracle has, or over none, and has fewer items than a machine can number
abbrev pub is_known : Oracle → ItemList → Type 0
is_known oracle list = (oracle.item_tree list.site.tree_id ≡ tree_in list) × (length list.items.now < 2 ^ 64)

-- so does the list of a frame
abbrev pub is_frame_known : Oracle → Frame → Type 0
is_frame_known oracle frame = is_known oracle frame.list

-- so does the list that an item opened
abbrev pub AreKnown : Oracle → Option ItemList → Type 0
AreKnown oracle None = Unit {0}
AreKnown oracle (Some list) = is_known oracle list

-- a state whose directories and map are these
abbrev pub with_lists : State → ModDirs → MapData → State
with_lists s mod_dirs def_map = record s { directories = directories_of mod_dirs; map = map_state def_map }

-- a turn of a walk, of a frame whose items were visited: the list that one of them opened begins above it, or it goes, and its macros are handed on
abbrev pub IsTurn : List Frame → Frame → Option ItemList → State → List Frame → State → Type 0
IsTurn below frame (Some list) s frames t = IsBegun (below ++ frame ∷ []) list frames × (t ≡ entered s list.site.module_id list.site.dir)
IsTurn below frame None s frames t = (frames ≡ below) × (t ≡ with_map s (brought_into frame.list.site.module_id frame.list.into s.map))

-- what is left of the walk: the work of its tasks, and a turn for the end of each frame
abbrev pub walk_measure : List Frame → ℕ
walk_measure frames = work (agenda_of frames) + length frames
