-- What is noted of items whose attributes are macros, as the rules see it.
use Rattle.std.specs.Prelude.{Bool, List, [], Option, unwrap_or}
use Rattle.tree_ids.specs.declared.ids.AttrId.{AttrId}
use Rattle.tree_ids.specs.declared.ids.FileAstId.{FileAstId}
use Rattle.tree_ids.specs.declared.ids.HirFileId.{HirFileId}
use Rattle.tree_ids.specs.declared.ids.InFile.{InFile}
use Rattle.tree_ids.specs.declared.ids.ModItemId.{ModItemId}
use Rattle.def_attrs.specs.declared.item_attrs.ItemAttrs.{ItemAttrs}
use Rattle.def_modules.specs.Equality.{position_eq}
use Rattle.def_rules.specs.Attributes.{is_item}
use Rattle.indexmap.specs.IndexMap.{get}

-- whether two items of files are one
abbrev pub item_eq : InFile ModItemId → InFile ModItemId → Bool
item_eq a b = is_item a.file a.value b.file b.value

-- the attribute of each item that was passed over
abbrev pub skipped_of : ItemAttrs → HirFileId → ModItemId → Option AttrId
skipped_of attrs file item = get item_eq attrs.skipped (record { file = file; value = item })

-- the attributes that expansions are not to see
abbrev pub active_of : ItemAttrs → InFile FileAstId → List AttrId
active_of attrs position = unwrap_or (get position_eq attrs.active position) []
