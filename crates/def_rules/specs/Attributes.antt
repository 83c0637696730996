-- Attributes of items: which one an item waits for, and what its macro does with the item.
use Rattle.std.specs.Prelude.{Bool, false, cond, nat_eq, nat_lt, ◌==◌, ◌&&◌, ◌||◌, List, [], ◌∷◌, ◌++◌, Option, None, Some}
use Rattle.item_tree.specs.declared.attrs.Attr.{Attr}
use Rattle.tree_ids.specs.declared.ids.AttrId.{AttrId}
use Rattle.tree_ids.specs.declared.ids.Crate.{Crate}
use Rattle.tree_ids.specs.declared.ids.FileAstId.{FileAstId}
use Rattle.tree_ids.specs.declared.ids.HirFileId.{HirFileId}
use Rattle.tree_ids.specs.declared.ids.InFile.{InFile}
use Rattle.tree_ids.specs.declared.ids.ModItemId.{ModItemId}
use Rattle.item_tree.specs.declared.items.ItemNode.{ItemNode}
use Rattle.item_tree.specs.declared.mod_path.ModPath.{ModPath}
use Rattle.tree_ids.specs.declared.name.Name.{Name}
use Rattle.item_tree.specs.Attrs.{attrs_of, iter_after}
use Rattle.item_tree.specs.KnownNames.{test_name}
use Rattle.item_tree.specs.Paths.{as_ident}
use Rattle.def_ids.specs.declared.ids.ModuleId.{ModuleId}
use Rattle.def_ids.specs.declared.expander.BuiltinAttr.{BuiltinAttr}
use Rattle.def_ids.specs.declared.expander.BuiltinAttr.TheVariants.{Test, Bench, TestCase, Derive, Other}
use Rattle.def_ids.specs.declared.expander.CustomProcMacroExpander.{CustomProcMacroExpander}
use Rattle.def_ids.specs.declared.expander.CustomProcMacroExpander.TheVariants.{Id, Missing, Disabled, DisabledAttr}
use Rattle.def_interner.specs.declared.macro_def.MacroDefId.{MacroDefId}
use Rattle.def_interner.specs.declared.macro_def.MacroDefKind.{MacroDefKind}
use Rattle.def_interner.specs.declared.macro_def.MacroDefKind.TheVariants.{BuiltInAttr, ProcMacro}
use Rattle.def_interner.specs.MacroKinds.{is_attribute}
use Rattle.def_bindings.specs.Content.{is_listed}
use Rattle.def_modules.specs.Equality.{file_eq, position_eq}
use Rattle.def_modules.specs.MapState.{ShownHelper}
use Rattle.def_modules.specs.Updates.{set_where}
use Rattle.def_oracle.specs.Oracle.{Oracle}
use Rattle.def_oracle.specs.Queries.{PlainAttrCall}
use Rattle.def_sources.specs.declared.asked.BuiltinShadowMode.TheVariants as shadow
use Rattle.def_sources.specs.declared.per_ns.MacroSubNs.TheVariants as sub
use Rattle.def_paths.specs.OuterMaps.{is_plain}
use Rattle.def_paths.specs.Paths.{resolver}
use Rattle.def_sources.specs.Sources.{World}
use Rattle.def_rules.specs.declared.diagnostics.DefDiagnosticKind.{DefDiagnosticKind}
use Rattle.def_rules.specs.declared.diagnostics.ExpandErrorKind.{ExpandErrorKind}
use Rattle.def_rules.specs.declared.diagnostics.ExpandErrorKind.TheVariants.{MissingProcMacroExpander, MacroDisabled, ProcMacroAttrExpansionDisabled}
use Rattle.def_rules.specs.Calls.{deepest, stored_directory}
use Rattle.def_rules.specs.State.{State, Site, reported}
use Rattle.def_rules.specs.Waiting.{MacroDirective, MacroDirectiveKind, Attr as ForAttr, WrittenAttr}

-- Which attribute an item waits for

-- whether segments name a builtin attribute, or one of these tools'
abbrev pub are_known : Oracle → List Name → List Name → Bool
are_known oracle tools [] = false
are_known oracle tools (name ∷ []) = is_listed tools name || oracle.is_builtin_attr name
are_known oracle tools (name ∷ next ∷ rest) = is_listed tools name

-- whether a path is that of a builtin attribute, or of one of these tools'
abbrev pub is_builtin_or_registered_attr : Oracle → List Name → ModPath → Bool
is_builtin_or_registered_attr oracle tools path = is_plain path.kind && are_known oracle tools path.segments

-- the first of these attributes that is neither builtin nor a tool's
abbrev pub first_unknown : Oracle → List Name → List (AttrId × Attr) → Option (AttrId × Attr)
first_unknown oracle tools [] = None
first_unknown oracle tools (attr ∷ attrs) = cond (is_builtin_or_registered_attr oracle tools attr.1.path) (first_unknown oracle tools attrs) (Some attr)

-- the attribute whose macro an item waits for, behind the one that was passed over; at the greatest depth there is none
abbrev pub awaited_attr : Oracle → State → Site → ModItemId → ItemNode → Option (AttrId × Attr)
awaited_attr oracle s site id item =
    cond (nat_lt site.depth deepest) (first_unknown oracle s.map.krate.tools (iter_after (s.skipped site.tree.file id) (attrs_of item.attrs))) None

-- what an item waits for where it does
abbrev pub awaiting : Site → ModItemId → AttrId × Attr → MacroDirectiveKind
awaiting site id attr = ForAttr (record { tree = site.tree; item = id; id = attr.0; attr = attr.1 })

-- What an attribute's macro does with the item

-- a macro counts only where it can be called by an attribute
abbrev pub if_attribute : Option MacroDefId → Option MacroDefId
if_attribute None = None
if_attribute (Some found) = cond (is_attribute found.kind) (Some found) None

-- the macro of an attribute, once imports are resolved
abbrev pub attr_macro : World → ModuleId → Attr → Option MacroDefId
attr_macro w at attr = if_attribute (resolver w shadow.Module sub.Attr at attr.path)

-- whether one of these helpers has this name
abbrev pub helps : List ShownHelper → Name → Bool
helps [] name = false
helps (helper ∷ helpers) name = nat_eq helper.name.0 name.0 || helps helpers name

-- whether a name is there, and is that of a helper
abbrev pub is_helper_name : List ShownHelper → Option Name → Bool
is_helper_name helpers None = false
is_helper_name helpers (Some name) = helps helpers name

-- whether an attribute of the item at a position is a helper of one of its derives
abbrev pub is_helper : State → InFile FileAstId → Attr → Bool
is_helper s position attr = is_helper_name (s.map.helpers position) (as_ident attr.path)

-- what a macro does with the item of its attribute
pub data AttrUse : Type 0 where
  -- nothing: the item is walked without the attribute
  PassesOver : AttrUse
  -- its list of derives is read, and the item is walked without the attribute
  ReadsDerives : AttrUse
  -- it is called, and its expansion stands in the item's place
  ReplacesItem : AttrUse
  -- nothing expands it: that is reported, and the item is walked without the attribute
  HasNoExpander : ExpandErrorKind → AttrUse

-- what a builtin macro does: tests stay as they are where tests are compiled
abbrev pub builtin_use : Oracle → Crate → BuiltinAttr → AttrUse
builtin_use oracle krate Test = cond (oracle.cfg_flag krate test_name) PassesOver ReplacesItem
builtin_use oracle krate Bench = cond (oracle.cfg_flag krate test_name) PassesOver ReplacesItem
builtin_use oracle krate TestCase = cond (oracle.cfg_flag krate test_name) PassesOver ReplacesItem
builtin_use oracle krate Derive = ReadsDerives
builtin_use oracle krate (Other n) = ReplacesItem

-- why a procedural macro gives nothing, by what would expand it
abbrev pub expand_error : CustomProcMacroExpander → Option ExpandErrorKind
expand_error (Id n) = None
expand_error Missing = Some MissingProcMacroExpander
expand_error Disabled = Some MacroDisabled
expand_error DisabledAttr = Some ProcMacroAttrExpansionDisabled

-- what a procedural macro does, unless it gives nothing
abbrev pub use_unless : Option ExpandErrorKind → AttrUse
use_unless None = ReplacesItem
use_unless (Some error) = HasNoExpander error

-- what a procedural macro does, by what expands it
abbrev pub expander_use : CustomProcMacroExpander → AttrUse
expander_use expander = use_unless (expand_error expander)

-- what a macro of a kind does
abbrev pub attr_use : Oracle → Crate → MacroDefKind → AttrUse
attr_use oracle krate (BuiltInAttr builtin) = builtin_use oracle krate builtin
attr_use oracle krate (ProcMacro expander called) = expander_use expander
attr_use oracle krate _ = ReplacesItem

-- the attributes that expansions are not to see, with one more of the item at a position
abbrev pub with_active : (InFile FileAstId → List AttrId) → InFile FileAstId → AttrId → InFile FileAstId → List AttrId
with_active active position id = set_where (position_eq position) (active position ++ id ∷ []) active

-- the state in which expansions of the item at a position are not to see one attribute more
abbrev pub activated : State → InFile FileAstId → AttrId → State
activated s position id = record s { active = with_active s.active position id }

-- what the macro of an attribute is asked with
abbrev pub attr_query : State → MacroDirective → WrittenAttr → MacroDefId → PlainAttrCall
attr_query s directive written found =
    record {
      krate = s.map.id.krate;
      macro_def = found;
      position = directive.position;
      attr_id = written.id;
      input = written.attr.input;
      ctxt = written.attr.ctxt;
      censored = s.active directive.position ++ written.id ∷ [];
      depth = directive.depth;
    }

-- the state in which a diagnostic on what waits joins
abbrev pub directive_reported : State → MacroDirective → DefDiagnosticKind → State
directive_reported s directive kind = reported s (record { «module» = directive.scope; ast_id = directive.position; kind = kind })

-- An item without one of its attributes

-- whether an item of a file is this one
abbrev pub is_item : HirFileId → ModItemId → HirFileId → ModItemId → Bool
is_item file item f i = file_eq file f && (item.0 == i.0)

-- the attributes that were passed over, with this one of an item
abbrev pub with_skipped : (HirFileId → ModItemId → Option AttrId) → HirFileId → ModItemId → AttrId → HirFileId → ModItemId → Option AttrId
with_skipped skipped file item id f i = cond (is_item file item f i) (Some id) (skipped f i)

-- the state in which an item's attribute was passed over
abbrev pub passed_over : State → HirFileId → WrittenAttr → State
passed_over s file written = record s { skipped = with_skipped s.skipped file written.item written.id }

-- where an item stands that waited: in its module's stored directory
abbrev pub item_site : State → MacroDirective → WrittenAttr → Site
item_site s directive written =
    record {
      scope = directive.scope;
      container = directive.container;
      tree = written.tree;
      depth = directive.depth;
      directory = stored_directory s.directories directive.scope;
    }
