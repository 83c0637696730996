-- What a database answers, as functions of the questions.
use Rattle.std.specs.Prelude.{ℕ, Bool, List, Option, Result}
use Rattle.either.specs.declared.Either.{Either}
use Rattle.tree_ids.specs.declared.ids.BlockId.{BlockId}
use Rattle.tree_ids.specs.declared.ids.Crate.{Crate}
use Rattle.tree_ids.specs.declared.ids.FileId.{FileId}
use Rattle.tree_ids.specs.declared.ids.HirFileId.{HirFileId}
use Rattle.tree_ids.specs.declared.ids.MacroCallId.{MacroCallId}
use Rattle.tree_ids.specs.declared.ids.TreeId.{TreeId}
use Rattle.tree_ids.specs.declared.macro_flags.MacroCallStyles.{MacroCallStyles}
use Rattle.item_tree.specs.declared.mod_path.ModPath.{ModPath}
use Rattle.tree_ids.specs.declared.name.Name.{Name}
use Rattle.item_tree.specs.declared.tree.ItemTree.{ItemTree}
use Rattle.def_ids.specs.declared.expander.BuiltinAttr.{BuiltinAttr}
use Rattle.def_interner.specs.declared.macro_def.MacroDefId.{MacroDefId}
use Rattle.def_interner.specs.Session.{ItemLoc}
use Rattle.def_oracle.specs.declared.source_database.AssocItemsOwner.{AssocItemsOwner}
use Rattle.def_oracle.specs.declared.source_database.AssocList.{AssocList}
use Rattle.def_oracle.specs.declared.source_database.CallAnswer.{CallAnswer}
use Rattle.def_oracle.specs.declared.source_database.CrateData.{CrateData}
use Rattle.def_oracle.specs.declared.source_database.DeriveCallQuery.{DeriveCallQuery}
use Rattle.def_oracle.specs.declared.source_database.EnumVariant.{EnumVariant}
use Rattle.def_oracle.specs.declared.source_database.UnresolvedMacro.{UnresolvedMacro}
use Rattle.def_modules.specs.MapState.{Position}
use Rattle.def_modules.specs.MapView.{MapView, LocalView}
use Rattle.def_oracle.specs.Queries.{PlainCall, PlainAttrCall}

-- which macro a resolver finds for each path
abbrev pub Meaning : Type 0
Meaning = ModPath → Option MacroDefId

-- all that a database answers
pub record Oracle : Type 0 where
  pub item_tree : TreeId → Option ItemTree
  pub crate_data : Crate → Option CrateData
  pub crate_def_map : Crate → Option MapView
  pub outer_map : BlockId → Option MapView
  pub local_def_map : Crate → Option LocalView
  pub resolve_path : FileId → List ℕ → Option FileId
  pub original_file : HirFileId → FileId
  pub expansion_depth : HirFileId → ℕ
  -- the paths that a call asks the resolver for
  pub asked_paths : PlainCall → List ModPath
  -- a call's answer, by what the resolver finds for those paths
  pub macro_call : PlainCall → List (Option MacroDefId) → Result CallAnswer UnresolvedMacro
  pub make_attr_call : PlainAttrCall → MacroCallId
  pub make_derive_call : DeriveCallQuery → MacroCallId
  pub is_include : MacroCallId → Bool
  pub enum_variants : ItemLoc → Option (List EnumVariant)
  pub assoc_items : AssocItemsOwner → Option AssocList
  pub rule_styles : Position → Crate → MacroCallStyles
  -- each macro's name and number, and whether it is switched off
  pub proc_macros : Crate → List (Name × ℕ × Bool)
  -- a builtin macro's number: of one that is expanded as it stands, or of an eager one
  pub find_builtin_macro : Name → Option (Either ℕ ℕ)
  pub find_builtin_derive : Name → Option ℕ
  pub find_builtin_attr : Name → Option BuiltinAttr
  pub builtin_type : Name → Option ℕ
  pub is_builtin_attr : Name → Bool
  pub has_builtin_derive_impl : ℕ → Bool
  pub derive_traits : ℕ → List ℕ
  pub cfg_flag : Crate → Name → Bool
  pub builtin_derive_fast_path : Bool
  pub expand_proc_attr_macros : Bool
