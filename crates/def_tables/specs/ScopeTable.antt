-- What a table of rows contains.
use Rattle.std.specs.Prelude.{Option, option_and_then}
use Rattle.indexmap.specs.IndexMap.{get}
use Rattle.def_ids.specs.declared.ids.ModuleId.{ModuleId}
use Rattle.def_ids.specs.Ids.{is_same_module}
use Rattle.def_tables.specs.declared.row.Row.{Row}
use Rattle.def_tables.specs.declared.scope_table.ScopeTable.{ScopeTable}
use Rattle.def_bindings.specs.Content.{Content, lists_by}
use Rattle.def_tables.specs.Row.{row_binding, row_names, row_unnamed, row_edges}

-- what rows contain, where a module without a row has nothing
abbrev pub content_by : {V : Type 0} → (ModuleId → Option (Row V)) → Content V
content_by rows = record {
  binding = λ m x n. option_and_then (λ r. row_binding r x n) (rows m);
  names = lists_by rows row_names;
  unnamed = lists_by rows row_unnamed;
  edges = lists_by rows row_edges;
}

abbrev pub rows_of : {V : Type 0} → ScopeTable V → ModuleId → Option (Row V)
rows_of t = get is_same_module t.rows

abbrev pub content_of : {V : Type 0} → ScopeTable V → Content V
content_of t = content_by (rows_of t)
