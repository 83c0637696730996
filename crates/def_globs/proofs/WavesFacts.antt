-- Slots of entries, rows of the put table on which waves rest, and climbs in a small order.
use Rattle.std.proofs.Common.{◌≡◌, ℕ, Option, Some, None, [], ◌∷◌, refl}
use Rattle.std.specs.Prelude.{nat_le}
use Rattle.tree_ids.specs.declared.name.Name.{Name}
use Rattle.def_ids.specs.declared.ids.ModuleId.{ModuleId}
use Rattle.def_ids.specs.declared.ids.GlobId.{GlobId}
use Rattle.def_ids.specs.declared.ids.Def.{Def}
use Rattle.def_ids.specs.declared.ids.Def.TheVariants.{Struct, Trait}
use Rattle.def_bindings.specs.declared.bindings.Namespace.TheVariants.{Types, Values}
use Rattle.def_bindings.specs.declared.bindings.ImportOrExternCrate.TheVariants.{Glob}
use Rattle.def_bindings.specs.declared.bindings.Binding.{Binding}
use Rattle.def_bindings.specs.declared.bindings.EdgeTo.{EdgeTo}
use Rattle.def_bindings.specs.declared.bindings.Entry.{Entry}
use Rattle.def_bindings.specs.declared.bindings.Slot.TheVariants.{Named, Unnamed}
use Rattle.def_bindings.specs.Order.{Order}
use Rattle.def_bindings.specs.Puts.{Origin, settled, joined, answer}
use Rattle.def_globs.specs.Waves.{slots_of}
use Rattle.def_globs.proofs.RiseLemmas.{climb}

-- a visibility is a number; a module sees those above its place
abbrev levels : Order ℕ
levels = record { at_most = nat_le; can_see = λ m v. nat_le m.index v }

abbrev place : ℕ → ModuleId
place n = record { map = record { krate = record { 0 = 0 }; block = None }; index = n }

abbrev glob : ℕ → GlobId
glob n = record { use_id = record { 0 = n }; idx = 0 }

abbrev by_glob : ℕ → Origin
by_glob n = Some (Glob (glob n))

abbrev item : ℕ → Def
item n = Struct (record { 0 = n })

abbrev bound : ℕ → ℕ → Origin → Binding ℕ
bound d v import = record { def = item d; vis = v; import = import }

abbrev edge : EdgeTo ℕ
edge = record { importer = place 2; vis = 5; glob = glob 1 }

abbrev name : Name
name = record { 0 = 40 }

vacant : settled levels None (bound 1 3 (by_glob 1)) ≡ Some (bound 1 3 (by_glob 1))
vacant = refl

explicit_stays : settled levels (Some (bound 1 3 None)) (bound 2 9 (by_glob 1)) ≡ None
explicit_stays = refl

explicit_replaces : settled levels (Some (bound 1 3 (by_glob 1))) (bound 2 0 None) ≡ Some (bound 2 0 None)
explicit_replaces = refl

raised_keeps_origin : settled levels (Some (bound 1 3 (by_glob 1))) (bound 1 4 (by_glob 2)) ≡ Some (bound 1 4 (by_glob 1))
raised_keeps_origin = refl

not_lowered : settled levels (Some (bound 1 3 (by_glob 1))) (bound 1 2 (by_glob 1)) ≡ None
not_lowered = refl

same_glob_follows : settled levels (Some (bound 1 3 (by_glob 1))) (bound 2 0 (by_glob 1)) ≡ Some (bound 2 0 (by_glob 1))
same_glob_follows = refl

first_glob_stays : settled levels (Some (bound 1 3 (by_glob 1))) (bound 2 9 (by_glob 2)) ≡ None
first_glob_stays = refl

-- a copy takes the lesser visibility and the edge's glob
copied_along : answer levels edge (Named name Values) (Some (bound 1 3 None)) None ≡ Some (bound 1 3 (by_glob 1))
copied_along = refl

lessened_by_edge : answer levels edge (Named name Values) (Some (bound 1 8 None)) None ≡ Some (bound 1 5 (by_glob 1))
lessened_by_edge = refl

-- what the importer does not see is not copied
unseen : answer levels edge (Named name Values) (Some (bound 1 1 None)) None ≡ None
unseen = refl

-- an edge keeps the first glob and the greater visibility
edge_raised : joined levels (Some edge) (record { importer = place 2; vis = 7; glob = glob 9 }) ≡ record { importer = place 2; vis = 7; glob = glob 1 }
edge_raised = refl

edge_kept : joined levels (Some edge) (record { importer = place 2; vis = 4; glob = glob 9 }) ≡ edge
edge_kept = refl

-- an entry without a name that is no trait has no slot
abbrev entry : Option Name → Def → Entry ℕ
entry n def = record { name = n; ns = Types; def = def; vis = 3; origin = None }

slots : slots_of (entry (Some name) (item 1) ∷ entry None (item 1) ∷ entry None (Trait (record { 0 = 6 })) ∷ []) ≡ Named name Types ∷ Unnamed (record { 0 = 6 }) ∷ []
slots = refl

-- from 0 two rises are left among these, from 2 none
from_least : climb levels (2 ∷ 0 ∷ 1 ∷ 0 ∷ []) 3 0 ≡ 2
from_least = refl

from_greatest : climb levels (2 ∷ 0 ∷ 1 ∷ 0 ∷ []) 3 2 ≡ 0
from_greatest = refl
