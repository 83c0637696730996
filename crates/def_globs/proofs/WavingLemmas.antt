-- What a wave keeps from one step to the next.
use Rattle.std.proofs.Common.{◌≡◌, ℕ, suc, ◌≤◌, zero, Bool, false, Option, Some, None, List, [], ◌∷◌, ◌++◌, length, refl, sym, ap, ◌∙◌, subst, inl, inr, ◌⊎◌, arith}
use Rattle.std.specs.Prelude.{slice_get, Contains}
use Rattle.std.proofs.lemmas.List.Elements.{Contains-append_left, Contains-push, Contains-push_cases}
use Rattle.std.proofs.lemmas.Bool.{cases_eq}
use Rattle.def_ids.specs.declared.ids.ModuleId.{ModuleId}
use Rattle.def_ids.specs.declared.ids.GlobId.{GlobId}
use Rattle.def_ids.specs.declared.ids.Def.{Def}
use Rattle.def_bindings.specs.declared.bindings.EdgeTo.{EdgeTo}
use Rattle.def_bindings.specs.declared.bindings.Slot.{Slot}
use Rattle.def_bindings.specs.declared.bindings.Slot.TheVariants.{Named}
use Rattle.def_globs.specs.declared.globs.wave.Frame.{Frame}
use Rattle.def_bindings.specs.Order.{Order, IsLawful}
use Rattle.def_bindings.specs.Content.{Content}
use Rattle.def_bindings.specs.Puts.{held}
use Rattle.def_globs.specs.Pending.{copied_all, reached, Pending, ClosedBut, CoherentBut, AllAt}
use Rattle.def_globs.specs.Waves.{Copies, none, BeginsAt, LedOrHome, def_at, def_or}
use Rattle.def_bindings.specs.Closure.{IsClosed, IsCoherent}
use Rattle.def_globs.proofs.CoheringLemmas.{HasDefs}
use Rattle.def_globs.proofs.ListLaws.{none_in, first_in, only_in}
use Rattle.def_globs.specs.Raised.{RaisedBut, RaisesPending}
use Rattle.def_globs.proofs.RaisingLemmas.{held_or, raised_all, raised_mono}
use Rattle.def_globs.proofs.StepsLemmas.{all_copied}
use Rattle.def_globs.proofs.RoomLemmas.{HasVis, all_room}
use Rattle.def_globs.proofs.SumsLemmas.{all_vis, in_held_vises}
use Rattle.def_globs.proofs.AlongLemmas.{With, closed_mono, coherent_mono, closed_all, coherent_all, copies_all}

-- a frame is to copy its slots along its module's edges from the next one on
abbrev pub PendingIn : List Frame → Pending
PendingIn frames = λ m j y. (f : Frame) × (Contains frames f) × (f.source ≡ m) × (f.next ≤ j) × Contains f.slots.items y

pub record Wave {V : Type 0} (o : Order V) (home : ModuleId) (slots : List Slot) (vs : List V) (c0 c : Content V) (frames : List Frame) : Type 0 where
  pub edges : c.edges ≡ c0.edges
  -- only these slots are copied, each with the definition that it has at home
  pub copies : Copies o slots (def_at c0 home) c0 c
  pub within : (f : Frame) → Contains frames f → (y : Slot) → Contains f.slots.items y → Contains slots y
  pub defs : (f : Frame) → Contains frames f → HasDefs c f.source (Contains f.slots.items) (def_at c0 home)
  pub home_defs : HasDefs c home (Contains slots) (def_at c0 home)
  -- and no visibility arises that is not in the list
  pub vises : (f : Frame) → Contains frames f → HasVis c f.source (Contains f.slots.items) vs
  -- what is not closed is pending in a frame
  pub closed : (left_out : ModuleId → Bool) → ClosedBut o left_out (AllAt home slots) c0 → ClosedBut o left_out (PendingIn frames) c
  -- what is not coherent is pending in a frame of its target
  pub coherent : (left_out : ModuleId → Bool) (target_of : GlobId → Option ModuleId) → BeginsAt target_of c0 → LedOrHome left_out target_of home c0
      → CoherentBut o left_out target_of (AllAt home slots) c0
      → CoherentBut o left_out target_of (PendingIn frames) c × LedOrHome left_out target_of home c
  -- what is not raised is pending in a frame
  pub raised : (left_out : ModuleId → Bool) → ClosedBut o left_out (AllAt home slots) c0 → (importer : ModuleId) (slot : Slot) → left_out importer ≡ false
      → RaisedBut o c0 (AllAt home slots) importer slot c0 → RaisedBut o c0 (PendingIn frames) importer slot c

-- what a wave's step makes of the frames: the others stay, one goes on to its next edge, and what was reached is taken up
pub record FramesAfter (rest new : List Frame) (s : ModuleId) (k : ℕ) (xs : List Slot) (importer : ModuleId) (r : List Slot) : Type 0 where
  pub stay : (h : Frame) → Contains rest h → Contains new h
  pub goes_on : (h : Frame) × (Contains new h × (h.source ≡ s) × (h.next ≡ suc k) × (h.slots.items ≡ xs))
  pub taken_up : (y : Slot) → Contains r y → (h : Frame) × (Contains new h × (h.source ≡ importer) × (h.next ≡ 0) × (h.slots.items ≡ r))
  pub no_other : (h : Frame) → Contains new h → Contains rest h ⊎ ((h.source ≡ s) × (h.slots.items ≡ xs)) ⊎ ((h.source ≡ importer) × (h.slots.items ≡ r))

module _ {V : Type 0} (o : Order V) (height : ℕ) (lawful : IsLawful o height) (home : ModuleId) (slots : List Slot) (vs : List V) (c0 c : Content V)
    (rest new : List Frame) (f : Frame) (e : EdgeTo V) where
  -- what was pending is pending, but for the slots along this edge
  still_pending : (r : List Slot) → FramesAfter rest new f.source f.next f.slots.items e.importer r
      → (m : ModuleId) (j : ℕ) (y : Slot) → PendingIn (rest ++ f ∷ []) m j y → With (PendingIn new) f.source f.next f.slots.items m j y
  still_pending r after m j y p =
      elim (Contains-push_cases rest f p.0 p.1) [
        | inl other ↦ inl (p.0, after.stay p.0 other, p.2, p.3, p.4)
        | inr same ↦
            let from : f.source ≡ m = ap (λ (h : Frame). h.source) same ∙ p.2 in
            let upto : f.next ≤ j = let n : f.next ≡ p.0.next = ap (λ (h : Frame). h.next) same in let q = p.3 in omega arith in
            let has : Contains f.slots.items y = subst (λ (h : Frame). Contains h.slots.items y) (sym same) p.4 in
            elim (cases_eq f.next j) [
              | inl now ↦ inr (sym from, sym now, has)
              | inr later ↦
                  let g = after.goes_on in
                  inl (g.0, g.1.0, g.1.1 ∙ from, (let n = g.1.2 in omega arith), subst (λ zs. Contains zs y) (sym g.1.3) has)
            ]
      ]

  taken : (r : List Slot) → FramesAfter rest new f.source f.next f.slots.items e.importer r → (y : Slot) → Contains r y → (j : ℕ) → PendingIn new e.importer j y
  taken r after y h j =
      let g = after.taken_up y h in
      (g.0, g.1.0, g.1.1, (let n = g.1.2 in omega arith), subst (λ zs. Contains zs y) (sym g.1.3) h)

  pub wave_step : Contains vs e.vis → slice_get (c.edges f.source) f.next ≡ Some e
      → FramesAfter rest new f.source f.next f.slots.items e.importer (reached o f.source e f.slots.items c)
      → Wave o home slots vs c0 c (rest ++ f ∷ []) → Wave o home slots vs c0 (copied_all o f.source e f.slots.items c) new
  wave_step edge_vis at after wave =
      let s = f.source in
      let xs : List Slot = f.slots.items in
      let def_of : Slot → Def = def_at c0 home in
      let sources : HasDefs c f.source (Contains f.slots.items) (def_at c0 home) = wave.defs f (Contains-push rest f) in
      let inside = wave.within f (Contains-push rest f) in
      let facts = all_copied o f.source e (def_at c0 home) f.slots.items c sources in
      let seen : HasVis c f.source (Contains f.slots.items) vs = wave.vises f (Contains-push rest f) in
      let rooms = all_room o height lawful vs f.source e edge_vis (def_at c0 home) f.slots.items c sources seen in
      record {
        edges = facts.edges ∙ wave.edges;
        copies = copies_all o f.source f.next e slots (def_at c0 home) c0 f.slots.items c at sources inside wave.copies;
        within = λ h q y t. elim (after.no_other h q) [
          | inl other ↦ wave.within h (Contains-append_left rest (f ∷ []) h other) y t
          | inr new_one ↦ elim new_one [
            | inl on ↦ inside y (subst (λ zs. Contains zs y) on.1 t)
            | inr got ↦ inside y (facts.within y (subst (λ zs. Contains zs y) got.1 t))
          ]
        ];
        defs = λ h q y t b z. elim (facts.defs h.source y b z) [
          | inr d ↦ d
          | inl was ↦ elim (after.no_other h q) [
            | inl other ↦ wave.defs h (Contains-append_left rest (f ∷ []) h other) y t b was
            | inr new_one ↦ elim new_one [
              | inl on ↦ sources y (subst (λ zs. Contains zs y) on.1 t) b (ap (λ n. held c n y) (sym on.0) ∙ was)
              | inr got ↦ facts.reached_defs y (subst (λ zs. Contains zs y) got.1 t) b (ap (λ n. held (copied_all o f.source e f.slots.items c) n y) (sym got.0) ∙ z)
            ]
          ]
        ];
        home_defs = λ y t b z. elim (facts.defs home y b z) [ inr d ↦ d | inl was ↦ wave.home_defs y t b was ];
        vises = λ h q y t b z. elim (rooms.vises h.source y b z) [
          | inr d ↦ d
          | inl was ↦ elim (after.no_other h q) [
            | inl other ↦ wave.vises h (Contains-append_left rest (f ∷ []) h other) y t b was
            | inr new_one ↦ elim new_one [
              | inl on ↦ seen y (subst (λ zs. Contains zs y) on.1 t) b (ap (λ n. held c n y) (sym on.0) ∙ was)
              | inr got ↦ rooms.reached_vises y (subst (λ zs. Contains zs y) got.1 t) b (ap (λ n. held (copied_all o f.source e f.slots.items c) n y) (sym got.0) ∙ z)
            ]
          ]
        ];
        closed = λ left_out start.
            closed_all o left_out (PendingIn new) f.source f.next e f.slots.items c at (taken _ after)
            (closed_mono o left_out (PendingIn (rest ++ f ∷ [])) (With (PendingIn new) f.source f.next f.slots.items) c (still_pending _ after) (wave.closed left_out start));
        coherent = λ left_out target_of begins led start.
            let now = wave.coherent left_out target_of begins led start in
            coherent_all o left_out (PendingIn new) f.source f.next e target_of home (Contains slots) (def_at c0 home) f.slots.items c at
            (λ source index edge target at' known. begins source index edge target (ap (λ (g : ModuleId → List (EdgeTo _)). slice_get (g source) index) (sym wave.edges) ∙ at') known)
            now.1 wave.home_defs sources inside (taken _ after)
            (coherent_mono o left_out target_of (PendingIn (rest ++ f ∷ [])) (With (PendingIn new) f.source f.next f.slots.items) c (still_pending _ after) now.0);
        raised = λ left_out closed importer slot left start.
            raised_all o lawful.is_order left_out c0 importer slot left (PendingIn new) f.source f.next e (def_at c0 home) f.slots.items c at
            sources (held_or o slots (def_at c0 home) wave.copies) (taken _ after)
            (closed_mono o left_out (PendingIn (rest ++ f ∷ [])) (With (PendingIn new) f.source f.next f.slots.items) c (still_pending _ after) (wave.closed left_out closed))
            (raised_mono o c0 (PendingIn (rest ++ f ∷ [])) (With (PendingIn new) f.source f.next f.slots.items) importer slot c (still_pending _ after) (wave.raised left_out closed importer slot left start));
      }

pub empty_in : {X : Type 0} (xs : List X) (x : X) → length xs ≡ 0 → Contains xs x → ⊥
empty_in [] x h at = none_in x at
empty_in (y ∷ xs) x h at = absurd (omega arith)

-- the first frame has all that is to be copied
pub wave_start : {V : Type 0} (o : Order V) (home : ModuleId) (slots : List Slot) (sources : List ModuleId) (c : Content V) (f : Frame)
    → f.source ≡ home → f.next ≡ 0 → f.slots.items ≡ slots → Wave o home slots (all_vis c home slots sources) c c (f ∷ [])
wave_start o home slots sources c f at_home first all =
    let held_def : HasDefs c home (Contains slots) (def_at c home) = λ y q b h. sym (ap (def_or {V = _}) h) in
    let only_f : (h : Frame) → Contains (f ∷ []) h → h ≡ f = λ h q. only_in f h q in
    let pending : (m : ModuleId) (j : ℕ) (y : Slot) → AllAt home slots m j y → PendingIn (f ∷ []) m j y =
    λ m j y p. (f, first_in f [], at_home ∙ sym p.0, (omega arith), subst (λ zs. Contains zs y) (sym all) p.1) in
    record {
      edges = refl;
      copies = none;
      within = λ h q y t. subst (λ zs. Contains zs y) (ap (λ (n : Frame). n.slots.items) (only_f h q) ∙ all) t;
      defs = λ h q y t b z. held_def y (subst (λ zs. Contains zs y) (ap (λ (n : Frame). n.slots.items) (only_f h q) ∙ all) t) b
          (ap (λ n. held c n y) (sym (ap (λ (n : Frame). n.source) (only_f h q) ∙ at_home)) ∙ z);
      home_defs = held_def;
      vises = λ h q y t b z.
          let has : Contains slots y = subst (λ zs. Contains zs y) (ap (λ (n : Frame). n.slots.items) (only_f h q) ∙ all) t in
          let is : held c home y ≡ Some b = ap (λ n. held c n y) (sym (ap (λ (n : Frame). n.source) (only_f h q) ∙ at_home)) ∙ z in
          Contains-append_left _ _ _ (in_held_vises c home slots y b has is);
      closed = λ left_out start. closed_mono o left_out (AllAt home slots) (PendingIn (f ∷ [])) c pending start;
      coherent = λ left_out target_of begins led start. (coherent_mono o left_out target_of (AllAt home slots) (PendingIn (f ∷ [])) c pending start, led);
      raised = λ left_out closed importer slot left start. raised_mono o c (AllAt home slots) (PendingIn (f ∷ [])) importer slot c pending start;
    }

-- where no frame is left, nothing is pending
pub wave_closed : {V : Type 0} (o : Order V) (home : ModuleId) (slots : List Slot) (vs : List V) (c0 c : Content V) (frames : List Frame)
    → length frames ≡ 0 → Wave o home slots vs c0 c frames
    → (left_out : ModuleId → Bool) → ClosedBut o left_out (AllAt home slots) c0 → IsClosed o left_out c
wave_closed o home slots vs c0 c frames over wave left_out start s k e x b at left h seen =
    elim (wave.closed left_out start s k e x b at left h seen) [ inl bound ↦ bound | inr p ↦ absurd (empty_in frames p.0 over p.1) ]

pub wave_coherent : {V : Type 0} (o : Order V) (home : ModuleId) (slots : List Slot) (vs : List V) (c0 c : Content V) (frames : List Frame)
    → length frames ≡ 0 → Wave o home slots vs c0 c frames
    → (left_out : ModuleId → Bool) (target_of : GlobId → Option ModuleId) → BeginsAt target_of c0 → LedOrHome left_out target_of home c0
    → CoherentBut o left_out target_of (AllAt home slots) c0
    → IsCoherent o left_out target_of c × LedOrHome left_out target_of home c
wave_coherent o home slots vs c0 c frames over wave left_out target_of begins led start =
    let now = wave.coherent left_out target_of begins led start in (
      λ i name ns b g m here by known li lm.
          elim (now.0 i name ns b g m here by known li lm) [ inl follows ↦ follows | inr p ↦ absurd (empty_in frames p.1.1.4.0 over p.1.1.4.1) ],
      now.1,
    )

pub wave_raised : {V : Type 0} (o : Order V) (home : ModuleId) (slots : List Slot) (vs : List V) (c0 c : Content V) (frames : List Frame)
    → length frames ≡ 0 → Wave o home slots vs c0 c frames → RaisesPending o home slots c0 c
wave_raised o home slots vs c0 c frames over wave left_out closed importer slot left keeps start s k e at to b there g own seen here by same =
    elim (wave.raised left_out closed importer slot left start keeps s k e b there g at to own (ap (λ n. o.can_see n b.vis) (sym to) ∙ seen) (ap (λ n. held c n slot) (sym to) ∙ here) by same) [
      | inl flat ↦ flat
      | inr p ↦ absurd (empty_in frames p.0 over p.1)
    ]

pub past_end : {X : Type 0} (xs : List X) (k j : ℕ) (x : X) → slice_get xs k ≡ None → k ≤ j → slice_get xs j ≡ Some x → ⊥
past_end [] k j x h le at = cc
past_end (y ∷ xs) zero j x h le at = cc
past_end (y ∷ xs) (suc k) zero x h le at = absurd (omega arith)
past_end (y ∷ xs) (suc k) (suc j) x h le at = past_end xs k j x h (omega arith) at

-- a frame without a further edge has nothing pending
module _ {V : Type 0} (c : Content V) (rest : List Frame) (f : Frame) (ends : slice_get (c.edges f.source) f.next ≡ None) where
  still_without : (m : ModuleId) (j : ℕ) (y : Slot) (e : EdgeTo V) → slice_get (c.edges m) j ≡ Some e → PendingIn (rest ++ f ∷ []) m j y → PendingIn rest m j y
  still_without m j y e at p =
      elim (Contains-push_cases rest f p.0 p.1) [
        | inl other ↦ (p.0, other, p.2, p.3, p.4)
        | inr same ↦
            let from : f.source ≡ m = ap (λ (h : Frame). h.source) same ∙ p.2 in
            let upto : f.next ≤ j = let n : f.next ≡ p.0.next = ap (λ (h : Frame). h.next) same in let q = p.3 in omega arith in
            absurd (past_end (c.edges f.source) f.next j e ends upto (ap (λ n. slice_get (c.edges n) j) from ∙ at))
      ]

  pub wave_without : (o : Order V) (home : ModuleId) (slots : List Slot) (vs : List V) (c0 : Content V) → Wave o home slots vs c0 c (rest ++ f ∷ []) → Wave o home slots vs c0 c rest
  wave_without o home slots vs c0 wave = record {
    edges = wave.edges;
    copies = wave.copies;
    within = λ h q. wave.within h (Contains-append_left rest (f ∷ []) h q);
    defs = λ h q. wave.defs h (Contains-append_left rest (f ∷ []) h q);
    home_defs = wave.home_defs;
    vises = λ h q. wave.vises h (Contains-append_left rest (f ∷ []) h q);
    closed = λ left_out start s k e x b at left h seen.
        elim (wave.closed left_out start s k e x b at left h seen) [ inl bound ↦ inl bound | inr p ↦ inr (still_without s k x e at p) ];
    coherent = λ left_out target_of begins led start.
        let now = wave.coherent left_out target_of begins led start in (
          λ i name ns b g m here by known li lm.
              elim (now.0 i name ns b g m here by known li lm) [
                | inl follows ↦ inl follows
                | inr p ↦ inr (p.0, (p.1.0, (p.1.1.0, p.1.1.1, p.1.1.2, p.1.1.3, still_without m p.1.0 (Named name ns) p.1.1.0 p.1.1.1 p.1.1.4)))
              ],
          now.1,
        );
    raised = λ left_out closed importer slot left start keeps s k e b there g at to own seen here by same.
        elim (wave.raised left_out closed importer slot left start keeps s k e b there g at to own seen here by same) [ inl flat ↦ inl flat | inr p ↦ inr (still_without s k slot e at p) ];
  }

-- a wave without slots is over as it begins
pub wave_still : {V : Type 0} (o : Order V) (home : ModuleId) (slots : List Slot) (c : Content V) → length slots ≡ 0 → Wave o home slots [] c c []
wave_still o home slots c empty =
    let pending : (m : ModuleId) (j : ℕ) (y : Slot) → AllAt home slots m j y → PendingIn [] m j y = λ m j y p. absurd (empty_in slots y empty p.1) in
    record {
      edges = refl;
      copies = none;
      within = λ h q. absurd (none_in h q);
      defs = λ h q. absurd (none_in h q);
      home_defs = λ y q. absurd (empty_in slots y empty q);
      vises = λ h q. absurd (none_in h q);
      closed = λ left_out start. closed_mono o left_out (AllAt home slots) (PendingIn []) c pending start;
      coherent = λ left_out target_of begins led start. (coherent_mono o left_out target_of (AllAt home slots) (PendingIn []) c pending start, led);
      raised = λ left_out closed importer slot left start. raised_mono o c (AllAt home slots) (PendingIn []) importer slot c pending start;
    }
