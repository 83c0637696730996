-- Names, edges and unnamed traits, after one is added or taken out.
use Rattle.std.proofs.Common.{◌≡◌, ℕ, Some, None, [], ◌∷◌, refl}
use Rattle.tree_ids.specs.declared.name.Name.{Name}
use Rattle.def_ids.specs.declared.ids.ModuleId.{ModuleId}
use Rattle.def_ids.specs.declared.ids.Def.TheVariants.{Struct}
use Rattle.def_bindings.specs.declared.bindings.Namespace.TheVariants.{Types, Values}
use Rattle.def_bindings.specs.declared.bindings.Binding.{Binding}
use Rattle.def_bindings.specs.declared.bindings.EdgeTo.{EdgeTo}
use Rattle.def_bindings.specs.Content.{Content, empty, with_name, without_name, with_binding, without_binding, with_unnamed, with_edge, vis_of, replaced}

abbrev name : ℕ → Name
name n = record { 0 = n }

-- a new name goes last, and one that is there keeps its place
new_name : with_name (name 1 ∷ name 2 ∷ []) (name 3) ≡ name 1 ∷ name 2 ∷ name 3 ∷ []
new_name = refl

known_name : with_name (name 1 ∷ name 2 ∷ []) (name 1) ≡ name 1 ∷ name 2 ∷ []
known_name = refl

name_out : without_name (name 1 ∷ name 2 ∷ name 3 ∷ []) (name 2) ≡ name 1 ∷ name 3 ∷ []
name_out = refl

absent_name_out : without_name (name 1 ∷ []) (name 2) ≡ name 1 ∷ []
absent_name_out = refl

abbrev root : ModuleId
root = record { map = record { krate = record { 0 = 0 }; block = None }; index = 0 }

abbrev bind : ℕ → Binding ℕ
bind n = record { def = Struct (record { 0 = n }); vis = 0; import = None }

abbrev both_namespaces : Content ℕ
both_namespaces = with_binding (with_binding (with_binding empty root (name 1) Types (bind 1)) root (name 2) Types (bind 2)) root (name 1) Values (bind 3)

-- a second namespace gives no second place
named_once : both_namespaces.names root ≡ name 1 ∷ name 2 ∷ []
named_once = refl

-- a name keeps its place with a binding in another namespace, and loses it with the last
name_kept : (without_binding both_namespaces root (name 1) Types).names root ≡ name 1 ∷ name 2 ∷ []
name_kept = refl

name_lost : (without_binding (without_binding both_namespaces root (name 1) Types) root (name 1) Values).names root ≡ name 2 ∷ []
name_lost = refl

-- a name that comes back goes last
name_back : (with_binding (without_binding (without_binding both_namespaces root (name 1) Types) root (name 1) Values) root (name 1) Types (bind 4)).names root ≡ name 2 ∷ name 1 ∷ []
name_back = refl

abbrev edge : ℕ → ℕ → EdgeTo ℕ
edge i v = record { importer = record { map = root.map; index = i }; vis = v; glob = record { use_id = record { 0 = v }; idx = 0 } }

-- an edge to another importer goes last, and one to an importer that is there takes its place
edge_added : replaced (edge 1 5 ∷ edge 2 5 ∷ []) (edge 3 6) ≡ edge 1 5 ∷ edge 2 5 ∷ edge 3 6 ∷ []
edge_added = refl

edge_replaced : replaced (edge 1 5 ∷ edge 2 5 ∷ []) (edge 1 6) ≡ edge 1 6 ∷ edge 2 5 ∷ []
edge_replaced = refl

-- an edge is recorded in its source alone, and the edge of an importer that has one takes its place there
abbrev two_edges : Content ℕ
two_edges = with_edge (with_edge both_namespaces root (edge 1 5)) root (edge 2 5)

edges_recorded : (two_edges.edges root ≡ edge 1 5 ∷ edge 2 5 ∷ []) × (two_edges.edges (record { map = root.map; index = 1 }) ≡ [])
edges_recorded = (refl, refl)

edge_recorded_again : (with_edge two_edges root (edge 1 6)).edges root ≡ edge 1 6 ∷ edge 2 5 ∷ []
edge_recorded_again = refl

-- names and bindings stay beside edges
names_beside_edges : (two_edges.names root ≡ both_namespaces.names root) × (two_edges.binding root (name 1) Values ≡ Some (bind 3))
names_beside_edges = (refl, refl)

-- an unnamed trait goes last, and one that is there keeps its place with the new visibility
abbrev two_traits : Content ℕ
two_traits = with_unnamed (with_unnamed both_namespaces root (record { 0 = 7 }) 5) root (record { 0 = 8 }) 5

trait_again : (with_unnamed two_traits root (record { 0 = 7 }) 6).unnamed root ≡ (record { 0 = 7 }, 6) ∷ (record { 0 = 8 }, 5) ∷ []
trait_again = refl

vis_of_a_trait : (vis_of (two_traits.unnamed root) (record { 0 = 8 }) ≡ Some 5) × (vis_of (two_traits.unnamed root) (record { 0 = 9 }) ≡ None)
vis_of_a_trait = (refl, refl)
