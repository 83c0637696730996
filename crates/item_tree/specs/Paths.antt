-- Paths.
use Rattle.std.specs.Prelude.{Option, None, Bool, false, Some, List}
use Rattle.tree_ids.specs.declared.name.Name.{Name}
use Rattle.item_tree.specs.declared.mod_path.PathKind.{PathKind}
use Rattle.item_tree.specs.declared.mod_path.PathKind.TheVariants.{Plain}
use Rattle.item_tree.specs.declared.mod_path.ModPath.{ModPath}
use Rattle.item_tree.specs.KnownNames.{name_eq}
use Rattle.item_tree.specs.Lists.{only_of_list}

-- the segment of a path of this kind, where it is plain and the segment stands alone
abbrev pub ident_of : PathKind → List Name → Option Name
ident_of Plain segments = only_of_list segments
ident_of _ segments = None

-- the segment of a plain path of one segment
abbrev pub as_ident : ModPath → Option Name
as_ident path = ident_of path.kind path.segments

-- whether an identifier is there, and is this name
abbrev pub is_ident : Option Name → Name → Bool
is_ident None name = false
is_ident (Some ident) name = name_eq ident name
