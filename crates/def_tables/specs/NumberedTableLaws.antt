-- The laws of a numbered table: where its edges are, that a name is listed exactly where it is bound, and that it is listed once.
use Rattle.std.specs.Prelude.{◌<◌, List, [], ◌∷◌, map, Contains}
use Rattle.std.proofs.Common.{arith, sym, subst, inl, inr}
use Rattle.std.proofs.lemmas.List.Elements.{Contains-append_left, Contains-append_right, Contains-push}
use Rattle.def_ids.specs.declared.ids.MapId.{MapId}
use Rattle.def_ids.specs.declared.ids.ModuleId.{ModuleId}
use Rattle.def_bindings.specs.declared.bindings.EdgeTo.{EdgeTo}
use Rattle.def_tables.specs.declared.link.Link.{Link}
use Rattle.def_tables.specs.declared.place.Placed.{Placed}
use Rattle.def_tables.specs.declared.numbered_table.NumberedTable.{NumberedTable}
use Rattle.def_bindings.specs.IdLaws.{cases_module}
use Rattle.def_bindings.specs.Content.{AreSources, AreTied}
use Rattle.def_tables.specs.Link.{edge_of}
use Rattle.def_tables.specs.Lists.{HaveOnce, lists_of}
use Rattle.def_tables.specs.Numbers.{own_entries}
use Rattle.def_tables.specs.NumberedTable.{content_of, other_rows, own_rows}
use Rattle.def_tables.specs.BoundNameLaws.{listed-tied}

-- the modules of the keys
abbrev pub modules_of : {K W : Type 0} → List (Placed K × W) → List ModuleId
modules_of es = map (λ e. e.0.at) es

among : {V : Type 0} (es : List (Placed ModuleId × Link V)) (m : ModuleId) (e : EdgeTo V) → Contains (map edge_of (own_entries es m)) e → Contains (modules_of es) m
among [] m e h = absurd (let k : h.0 < 0 = h.1 in omega arith)
among (p ∷ es) m e h =
    elim (cases_module m p.0.at) [
      | inl k ↦ subst (λ q. Contains (p.0.at ∷ modules_of es) q) (sym k.0) (Contains-append_left (p.0.at ∷ []) (modules_of es) p.0.at (Contains-push [] p.0.at))
      | inr k ↦ Contains-append_right (p.0.at ∷ []) (modules_of es) m (among es m e (rw k at h))
    ]

-- every module with an edge is that of a key
pub are_sources : {V K : Type 0} (meaning : MapId → K → V) (t : NumberedTable V K) → AreSources (content_of meaning t) (modules_of t.edges.entries.entries)
unfolding content_of
are_sources meaning t m e h = among t.edges.entries.entries m e h

-- names and bindings are tied
pub are_tied : {V K : Type 0} (meaning : MapId → K → V) (t : NumberedTable V K) → AreTied (content_of meaning t).binding (content_of meaning t).names
unfolding content_of
are_tied meaning t = listed-tied meaning t.map (own_rows t) (other_rows t) (lists_of t.names) t.listed

-- no module lists a name twice
pub are_once : {V K : Type 0} (meaning : MapId → K → V) (t : NumberedTable V K) → HaveOnce (content_of meaning t).names
unfolding content_of
are_once meaning t = t.once
