-- Tables that are written out, and tests on them that compute.
use Rattle.std.proofs.Common.{Bool, true, false, not, ◌&&◌, ◌||◌, Option, Some, None, is_some, List, [], ◌∷◌}
use Rattle.std.specs.List.{list_all}
use Rattle.std.specs.Prelude.{◌≡◌}
use Rattle.tree_ids.specs.declared.name.Name.{Name}
use Rattle.def_ids.specs.declared.ids.GlobId.{GlobId}
use Rattle.def_ids.specs.declared.ids.ModuleId.{ModuleId}
use Rattle.def_ids.specs.Equality.{def_eq}
use Rattle.def_ids.specs.Ids.{is_same_module}
use Rattle.def_bindings.specs.declared.bindings.Binding.{Binding}
use Rattle.def_bindings.specs.declared.bindings.EdgeTo.{EdgeTo}
use Rattle.def_bindings.specs.declared.bindings.Namespace.{Namespace}
use Rattle.def_bindings.specs.declared.visibility.Visibility.{Visibility}
use Rattle.def_bindings.specs.Content.{Content, bound_as, listed_as}
use Rattle.def_bindings.specs.Order.{Order, rises_to}
use Rattle.def_bindings.specs.Puts.{carried, glob_of}

-- one binding: the module, the name and the namespace, and what stands there
pub record Bound : Type 0 where
  pub at : ModuleId
  pub name : Name
  pub ns : Namespace
  pub held : Binding Visibility

-- the edges that leave one module
pub record Leaving : Type 0 where
  pub source : ModuleId
  pub edges : List (EdgeTo Visibility)

-- what is bound where these bindings stand, the last that was made first
abbrev pub bound_by : List Bound → ModuleId → Name → Namespace → Option (Binding Visibility)
bound_by [] = λ m x n. None
bound_by (r ∷ rs) = bound_as (bound_by rs) r.at r.name r.ns (Some r.held)

-- the edges of each module
abbrev pub edges_by : List Leaving → ModuleId → List (EdgeTo Visibility)
edges_by [] = λ m. []
edges_by (l ∷ ls) = listed_as (edges_by ls) l.source l.edges

-- a table has these bindings and these edges, and no unnamed trait
pub record IsTable (rows : List Bound) (leaving : List Leaving) (c : Content Visibility) : Type 0 where
  pub binding : c.binding ≡ bound_by rows
  pub unnamed : c.unnamed ≡ (λ m. [])
  pub edges : c.edges ≡ edges_by leaving

-- a test of bindings passes at each of a list
abbrev pub all_bound : (ModuleId → Name → Namespace → Binding Visibility → Bool) → List Bound → Bool
all_bound test rows = list_all (λ r. test r.at r.name r.ns r.held) rows

-- a test of edges passes at each of a list
abbrev pub all_leaving : (ModuleId → EdgeTo Visibility → Bool) → List Leaving → Bool
all_leaving test leaving = list_all (λ l. list_all (test l.source) l.edges) leaving

-- what the source of an edge binds and its importer sees is bound at the importer
abbrev pub is_carried : Order Visibility → List Bound → ModuleId → EdgeTo Visibility → ModuleId → Name → Namespace → Binding Visibility → Bool
is_carried o rows source edge m x n b = not (is_same_module source m && o.can_see edge.importer b.vis) || is_some (bound_by rows edge.importer x n)

-- so for each edge
abbrev pub is_closed : Order Visibility → List Bound → List Leaving → Bool
is_closed o rows leaving = all_leaving (λ source edge. all_bound (is_carried o rows source edge) rows) leaving

-- what a target binds is this definition, or the importer does not see it
abbrev pub is_def_or_unseen : Order Visibility → ModuleId → Binding Visibility → Option (Binding Visibility) → Bool
is_def_or_unseen o importer b None = false
is_def_or_unseen o importer b (Some there) = def_eq there.def b.def || not (o.can_see importer there.vis)

-- a target, if there is one, binds it so
abbrev pub is_at_target : Order Visibility → List Bound → ModuleId → Name → Namespace → Binding Visibility → Option ModuleId → Bool
is_at_target o rows importer x n b None = true
is_at_target o rows importer x n b (Some target) = is_def_or_unseen o importer b (bound_by rows target x n)

-- the target of the glob that made a binding, if one did, binds it so
abbrev pub is_at_target_of : Order Visibility → List Bound → (GlobId → Option ModuleId) → ModuleId → Name → Namespace → Binding Visibility → Option GlobId → Bool
is_at_target_of o rows target_of importer x n b None = true
is_at_target_of o rows target_of importer x n b (Some glob) = is_at_target o rows importer x n b (target_of glob)

-- so for each binding
abbrev pub is_coherent : Order Visibility → List Bound → (GlobId → Option ModuleId) → Bool
is_coherent o rows target_of = all_bound (λ importer x n b. is_at_target_of o rows target_of importer x n b (glob_of b.import)) rows

-- an edge would not raise what stands, by what its source binds
abbrev pub is_high_enough : Order Visibility → EdgeTo Visibility → Binding Visibility → Option (Binding Visibility) → Bool
is_high_enough o edge there None = true
is_high_enough o edge there (Some b) = not (rises_to o there.vis (carried o edge b).vis)

-- so at the importer of an edge
abbrev pub is_kept_by : Order Visibility → List Bound → ModuleId → EdgeTo Visibility → ModuleId → Name → Namespace → Binding Visibility → Bool
is_kept_by o rows source edge m x n there = not (is_same_module edge.importer m) || is_high_enough o edge there (bound_by rows source x n)

-- and for each edge
abbrev pub is_raised : Order Visibility → List Bound → List Leaving → Bool
is_raised o rows leaving = all_leaving (λ source edge. all_bound (is_kept_by o rows source edge) rows) leaving
