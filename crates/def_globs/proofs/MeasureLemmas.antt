-- The measure of a wave.
use Rattle.std.proofs.Common.{◌≡◌, ℕ, suc, ◌+◌, ◌-◌, ◌*◌, ◌<◌, ◌≤◌, Some, List, [], ◌∷◌, ◌++◌, length, refl, sym, ap, ◌∙◌, subst, arith}
use Rattle.std.specs.Prelude.{slice_get, Contains}
use Rattle.std.proofs.lemmas.Option.{slice_get_within, get_or_from_slice_get}
use Rattle.std.proofs.Math.Nat.{mul-le-mul_right}
use Rattle.def_ids.specs.declared.ids.ModuleId.{ModuleId}
use Rattle.def_bindings.specs.declared.bindings.EdgeTo.{EdgeTo}
use Rattle.def_bindings.specs.declared.bindings.Slot.{Slot}
use Rattle.def_globs.specs.declared.globs.wave.Frame.{Frame}
use Rattle.def_bindings.specs.Order.{Order, IsLawful}
use Rattle.def_bindings.specs.Content.{Content, AreSources}
use Rattle.def_bindings.specs.Puts.{held}
use Rattle.def_globs.specs.Pending.{copied_all, reached}
use Rattle.def_globs.specs.Waves.{def_at}
use Rattle.def_globs.proofs.CoheringLemmas.{HasDefs}
use Rattle.def_globs.proofs.ListLaws.{first_in}
use Rattle.def_globs.proofs.StepsLemmas.{all_copied}
use Rattle.def_globs.proofs.RoomLemmas.{HasVis, room, all_room}
use Rattle.def_globs.proofs.SumsLemmas.{total, total-push, total-le, total-lt, total-at, places, in_places, all_vis}

-- the edges that a frame has before it, and one
abbrev pub work : {V : Type 0} → (ModuleId → List (EdgeTo V)) → Frame → ℕ
work edges f = suc (length (edges f.source) - f.next)

-- more than the work of any new frame
abbrev pub most : {V : Type 0} → (ModuleId → List (EdgeTo V)) → List ModuleId → ℕ
most edges sources = suc (suc (total (λ m. length (edges m)) sources))

-- how often the places that a wave can reach can still change
abbrev pub room_left : {V : Type 0} → Order V → ℕ → ModuleId → List Slot → List ModuleId → Content V → Content V → ℕ
room_left o height home slots sources c0 c = total (λ p. room o height (all_vis c0 home slots sources) (def_at c0 home p.1) (held c p.0 p.1)) (places c0.edges sources slots)

abbrev pub measure : {V : Type 0} → Order V → ℕ → ModuleId → List Slot → List ModuleId → Content V → Content V → List Frame → ℕ
measure o height home slots sources c0 c frames = room_left o height home slots sources c0 c * most c0.edges sources + total (work c0.edges) frames

-- a frame that has no edge left goes
pub measure_ends : {V : Type 0} (o : Order V) (height : ℕ) (home : ModuleId) (slots : List Slot) (sources : List ModuleId) (c0 c : Content V) (rest : List Frame) (f : Frame)
    → measure o height home slots sources c0 c rest < measure o height home slots sources c0 c (rest ++ f ∷ [])
measure_ends o height home slots sources c0 c rest f = let h = total-push (work c0.edges) rest f in omega arith

finish : (r' r m w' w'' w : ℕ) → r' < r → w' < w'' + m → w'' < w → r' * m + w' < r * m + w
finish r' r m w' w'' w h i j =
    let b : suc r' * m ≤ r * m = mul-le-mul_right m h in
    omega arith

-- a module's edges are no more than those of all sources
few_edges_by : {V : Type 0} (c0 : Content V) (sources : List ModuleId) (m : ModuleId) (es : List (EdgeTo V)) → c0.edges m ≡ es → AreSources c0 sources → length (c0.edges m) ≤ total (λ n. length (c0.edges n)) sources
few_edges_by c0 sources m [] h are = let e : length (c0.edges m) ≡ 0 = ap length h in omega arith
few_edges_by c0 sources m (e ∷ es) h are =
    let at : Contains (c0.edges m) e = subst (λ (l : List (EdgeTo _)). Contains l e) (sym h) (first_in e es) in
    total-at (λ n. length (c0.edges n)) sources m (are m e at)

few_edges : {V : Type 0} (c0 : Content V) (sources : List ModuleId) (m : ModuleId) → AreSources c0 sources → length (c0.edges m) ≤ total (λ n. length (c0.edges n)) sources
few_edges c0 sources m are = few_edges_by c0 sources m (c0.edges m) refl are

pub at_index : {X : Type 0} (xs : List X) (k : ℕ) (x : X) → slice_get xs k ≡ Some x → Contains xs x
at_index xs k x h = (k, slice_get_within xs k x h, get_or_from_slice_get xs k x x h)

module _ {V : Type 0} (o : Order V) (height : ℕ) (lawful : IsLawful o height) (home : ModuleId) (slots : List Slot) (sources : List ModuleId) (c0 c : Content V)
    (rest : List Frame) (f next : Frame) (e : EdgeTo V)
    (same_edges : c.edges ≡ c0.edges)
    (at : slice_get (c.edges f.source) f.next ≡ Some e)
    (defs : HasDefs c f.source (Contains f.slots.items) (def_at c0 home))
    (vises : HasVis c f.source (Contains f.slots.items) (all_vis c0 home slots sources))
    (edge_vis : Contains (all_vis c0 home slots sources) e.vis)
    (source_next : next.source ≡ f.source) (next_next : next.next ≡ suc f.next) where
  at_first : slice_get (c0.edges f.source) f.next ≡ Some e
  at_first = ap (λ (g : ModuleId → List (EdgeTo _)). slice_get (g f.source) f.next) (sym same_edges) ∙ at

  goes_on_less : total (work c0.edges) (rest ++ next ∷ []) < total (work c0.edges) (rest ++ f ∷ [])
  goes_on_less =
      let a = total-push (work c0.edges) rest f in
      let b = total-push (work c0.edges) rest next in
      let n = slice_get_within (c0.edges f.source) f.next e at_first in
      let s : length (c0.edges next.source) ≡ length (c0.edges f.source) = ap (λ m. length (c0.edges m)) source_next in
      omega arith

  room_le : room_left o height home slots sources c0 (copied_all o f.source e f.slots.items c) ≤ room_left o height home slots sources c0 c
  room_le =
      let facts = all_room o height lawful (all_vis c0 home slots sources) f.source e edge_vis (def_at c0 home) f.slots.items c defs vises in
      total-le _ _ (places c0.edges sources slots) (λ p. facts.room_kept p.0 p.1)

  pub measure_goes_on : measure o height home slots sources c0 (copied_all o f.source e f.slots.items c) (rest ++ next ∷ []) < measure o height home slots sources c0 c (rest ++ f ∷ [])
  measure_goes_on =
      let a = goes_on_less in
      let b = mul-le-mul_right (most c0.edges sources) room_le in
      omega arith

  pub measure_reaches : (got : Frame) (y : Slot) → got.source ≡ e.importer → got.next ≡ 0 → AreSources c0 sources
      → ((x : Slot) → Contains f.slots.items x → Contains slots x)
      → Contains (reached o f.source e f.slots.items c) y
      → measure o height home slots sources c0 (copied_all o f.source e f.slots.items c) ((rest ++ next ∷ []) ++ got ∷ []) < measure o height home slots sources c0 c (rest ++ f ∷ [])
  measure_reaches got y source_got next_got are inside in_reached =
      let within = (all_copied o f.source e (def_at c0 home) f.slots.items c defs).within in
      let facts = all_room o height lawful (all_vis c0 home slots sources) f.source e edge_vis (def_at c0 home) f.slots.items c defs vises in
      let in_list : Contains (c0.edges f.source) e = at_index (c0.edges f.source) f.next e at_first in
      let at_place = in_places c0.edges sources slots f.source e y (are f.source e in_list) in_list (inside y (within y in_reached)) in
      let less : room_left o height home slots sources c0 (copied_all o f.source e f.slots.items c) < room_left o height home slots sources c0 c =
      total-lt _ _ (places c0.edges sources slots) (e.importer, y) (λ p. facts.room_kept p.0 p.1) at_place (facts.room_less y in_reached) in
      let a = goes_on_less in
      let b = mul-le-mul_right (most c0.edges sources) less in
      let t = total-push (work c0.edges) (rest ++ next ∷ []) got in
      let n = few_edges c0 sources got.source are in
      finish (room_left o height home slots sources c0 (copied_all o f.source e f.slots.items c)) (room_left o height home slots sources c0 c) (most c0.edges sources)
      (total (work c0.edges) ((rest ++ next ∷ []) ++ got ∷ [])) (total (work c0.edges) (rest ++ next ∷ [])) (total (work c0.edges) (rest ++ f ∷ [])) less (omega arith) a
