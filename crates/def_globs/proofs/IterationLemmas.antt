-- One iteration of a wave, by the equations that the code gives.
use Rattle.std.proofs.Common.{◌≡◌, ℕ, suc, ◌+◌, ◌<◌, Some, List, [], ◌∷◌, ◌++◌, length, refl, sym, ap, ◌∙◌, subst, inl, inr, arith}
use Rattle.std.specs.Prelude.{slice_get, take, drop, Contains}
use Rattle.std.proofs.lemmas.List.{take-append-drop, take_all}
use Rattle.std.proofs.lemmas.List.Elements.{Contains-append_left, Contains-append_right, Contains-push, Contains-push_cases}
use Rattle.def_ids.specs.declared.ids.ModuleId.{ModuleId}
use Rattle.def_bindings.specs.declared.bindings.EdgeTo.{EdgeTo}
use Rattle.def_bindings.specs.declared.bindings.Slot.{Slot}
use Rattle.def_globs.specs.declared.globs.wave.Frame.{Frame}
use Rattle.def_bindings.specs.Order.{Order, IsLawful}
use Rattle.def_bindings.specs.Content.{Content, AreSources}
use Rattle.def_globs.proofs.MeasureLemmas.{measure, measure_goes_on, measure_reaches, at_index}
use Rattle.def_globs.specs.Pending.{CopiesFirst, copied_all, reached}
use Rattle.def_globs.specs.Waves.{Copies, def_at}
use Rattle.def_globs.proofs.AlongLemmas.{copies_all}
use Rattle.def_globs.proofs.ListLaws.{first_in}
use Rattle.def_globs.proofs.SumsLemmas.{all_vis, in_edge_vises}
use Rattle.def_globs.proofs.WavingLemmas.{Wave, FramesAfter, wave_step, empty_in}

-- the next frame alone, where nothing was reached
frames_on : (rest : List Frame) (f next : Frame) (importer : ModuleId) (r : List Slot)
    → next.source ≡ f.source → next.next ≡ suc f.next → next.slots.items ≡ f.slots.items → length r ≡ 0
    → FramesAfter rest (rest ++ next ∷ []) f.source f.next f.slots.items importer r
frames_on rest f next importer r a b d empty = record {
  stay = λ h q. Contains-append_left rest (next ∷ []) h q;
  goes_on = (next, (Contains-push rest next, a, b, d));
  taken_up = λ y q. absurd (empty_in r y empty q);
  no_other = λ h q. elim (Contains-push_cases rest next h q) [
    | inl other ↦ inl other
    | inr same ↦ inr (inl (sym (ap (λ (n : Frame). n.source) same) ∙ a, sym (ap (λ (n : Frame). n.slots.items) same) ∙ d))
  ];
}

-- the next frame and one for what was reached
frames_reached : (rest : List Frame) (f next got : Frame) (importer : ModuleId) (r : List Slot)
    → next.source ≡ f.source → next.next ≡ suc f.next → next.slots.items ≡ f.slots.items
    → got.source ≡ importer → got.next ≡ 0 → got.slots.items ≡ r
    → FramesAfter rest ((rest ++ next ∷ []) ++ got ∷ []) f.source f.next f.slots.items importer r
frames_reached rest f next got importer r a b d a' b' d' = record {
  stay = λ h q. Contains-append_left (rest ++ next ∷ []) (got ∷ []) h (Contains-append_left rest (next ∷ []) h q);
  goes_on = (next, (Contains-append_left (rest ++ next ∷ []) (got ∷ []) next (Contains-push rest next), a, b, d));
  taken_up = λ y q. (got, (Contains-push (rest ++ next ∷ []) got, a', b', d'));
  no_other = λ h q. elim (Contains-push_cases (rest ++ next ∷ []) got h q) [
    | inr same ↦ inr (inr (sym (ap (λ (n : Frame). n.source) same) ∙ a', sym (ap (λ (n : Frame). n.slots.items) same) ∙ d'))
    | inl before ↦ elim (Contains-push_cases rest next h before) [
      | inl other ↦ inl other
      | inr same ↦ inr (inl (sym (ap (λ (n : Frame). n.source) same) ∙ a, sym (ap (λ (n : Frame). n.slots.items) same) ∙ d))
    ]
  ];
}

-- one iteration that reaches nothing new
pub wave_goes_on : {V : Type 0} (o : Order V) (height : ℕ) (lawful : IsLawful o height) (home : ModuleId) (slots : List Slot) (vs : List V) (c0 c : Content V) (rest : List Frame) (f next : Frame) (e : EdgeTo V)
    → Contains vs e.vis → next.source ≡ f.source → next.next ≡ suc f.next → next.slots.items ≡ f.slots.items
    → slice_get (c.edges f.source) f.next ≡ Some e → length (reached o f.source e f.slots.items c) ≡ 0
    → Wave o home slots vs c0 c (rest ++ f ∷ []) → Wave o home slots vs c0 (copied_all o f.source e f.slots.items c) (rest ++ next ∷ [])
wave_goes_on o height lawful home slots vs c0 c rest f next e edge_vis a b d at empty wave =
    wave_step o height lawful home slots vs c0 c rest (rest ++ next ∷ []) f e edge_vis at (frames_on rest f next e.importer _ a b d empty) wave

-- one iteration that reaches something
pub wave_reaches : {V : Type 0} (o : Order V) (height : ℕ) (lawful : IsLawful o height) (home : ModuleId) (slots : List Slot) (vs : List V) (c0 c : Content V) (rest : List Frame) (f next got : Frame) (e : EdgeTo V)
    → Contains vs e.vis → next.source ≡ f.source → next.next ≡ suc f.next → next.slots.items ≡ f.slots.items
    → got.source ≡ e.importer → got.next ≡ 0 → got.slots.items ≡ reached o f.source e f.slots.items c
    → slice_get (c.edges f.source) f.next ≡ Some e
    → Wave o home slots vs c0 c (rest ++ f ∷ []) → Wave o home slots vs c0 (copied_all o f.source e f.slots.items c) ((rest ++ next ∷ []) ++ got ∷ [])
wave_reaches o height lawful home slots vs c0 c rest f next got e edge_vis a b d a' b' d' at wave =
    wave_step o height lawful home slots vs c0 c rest ((rest ++ next ∷ []) ++ got ∷ []) f e edge_vis at (frames_reached rest f next got e.importer _ a b d a' b' d') wave

-- the first slots of a frame that were copied along its edge are copies of the wave
pub wave_copies : {V : Type 0} (o : Order V) (home : ModuleId) (slots : List Slot) (vs : List V) (c0 c c1 : Content V) (rest frames : List Frame) (f : Frame) (e : EdgeTo V) (ys : List Slot)
    → Some e ≡ slice_get (c.edges f.source) f.next → ys ≡ f.slots.items → frames ≡ rest ++ f ∷ []
    → CopiesFirst o f.source e ys c c1 → Wave o home slots vs c0 c frames → Copies o slots (def_at c0 home) c0 c1
wave_copies o home slots vs c0 c c1 rest frames f e ys at all popped (n, is) wave =
    let here : Contains frames f = subst (λ fs. Contains fs f) (sym popped) (Contains-push rest f) in
    let among : (y : Slot) → Contains (take n ys) y → Contains f.slots.items y =
    λ y h. subst (λ zs. Contains zs y) (take-append-drop n ys ∙ all) (Contains-append_left (take n ys) (drop n ys) y h) in
    subst (Copies o slots (def_at c0 home) c0) (sym is)
    (copies_all o f.source f.next e slots (def_at c0 home) c0 (take n ys) c (sym at) (λ y h. wave.defs f here y (among y h)) (λ y h. wave.within f here y (among y h)) wave.copies)

-- so are all
pub copies_whole : {V : Type 0} (o : Order V) (source : ModuleId) (edge : EdgeTo V) (ys : List Slot) (c c1 : Content V) → c1 ≡ copied_all o source edge ys c → CopiesFirst o source edge ys c c1
copies_whole o source edge ys c c1 is = (length ys, is ∙ ap (λ l. copied_all o source edge l c) (sym (take_all (length ys) ys (omega arith))))

-- one iteration, by the equations that the code gives
module _ {V : Type 0} (o : Order V) (height : ℕ) (lawful : IsLawful o height) (home : ModuleId) (slots : List Slot) (sources : List ModuleId) (c0 c c1 : Content V)
    (rest frames frames1 : List Frame) (f next : Frame) (e : EdgeTo V) (xs changed : List Slot)
    (at : Some e ≡ slice_get (c.edges f.source) f.next)
    (all : xs ≡ f.slots.items)
    (copies : (changed ≡ reached o f.source e xs c) × (c1 ≡ copied_all o f.source e xs c))
    (was : frames ≡ rest ++ f ∷ [])
    (pushed : frames1 ≡ rest ++ next ∷ [])
    (same_source : next.source ≡ f.source) (one_on : next.next ≡ f.next + 1) (same_slots : next.slots.items ≡ f.slots.items)
    (are : AreSources c0 sources)
    (wave : Wave o home slots (all_vis c0 home slots sources) c0 c frames) where
  abbrev waved : Wave o home slots (all_vis c0 home slots sources) c0 c (rest ++ f ∷ [])
  waved = subst (λ fs. Wave o home slots (all_vis c0 home slots sources) c0 c fs) was wave

  at_first : slice_get (c0.edges f.source) f.next ≡ Some e
  at_first = ap (λ (g : ModuleId → List (EdgeTo _)). slice_get (g f.source) f.next) (sym wave.edges) ∙ sym at

  edge_vis : Contains (all_vis c0 home slots sources) e.vis
  edge_vis =
      let in_list : Contains (c0.edges f.source) e = at_index (c0.edges f.source) f.next e at_first in
      Contains-append_right _ _ _ (in_edge_vises c0.edges sources f.source e (are f.source e in_list) in_list)

  abbrev copied_to : c1 ≡ copied_all o f.source e f.slots.items c
  copied_to = copies.1 ∙ ap (λ ys. copied_all o f.source e ys c) all

  abbrev reached_is : changed ≡ reached o f.source e f.slots.items c
  reached_is = copies.0 ∙ ap (λ ys. reached o f.source e ys c) all

  abbrev next_suc : next.next ≡ suc f.next
  next_suc = omega arith

  pub iterate_on : length changed ≡ 0 → Wave o home slots (all_vis c0 home slots sources) c0 c1 frames1
  iterate_on empty =
      let w = wave_goes_on o height lawful home slots (all_vis c0 home slots sources) c0 c rest f next e edge_vis same_source next_suc same_slots (sym at) (sym (ap length reached_is) ∙ empty) waved in
      subst (λ d. Wave o home slots (all_vis c0 home slots sources) c0 d frames1) (sym copied_to) (subst (λ fs. Wave o home slots (all_vis c0 home slots sources) c0 (copied_all o f.source e f.slots.items c) fs) (sym pushed) w)

  pub iterate_reached : (got : Frame) (frames2 : List Frame) → frames2 ≡ frames1 ++ got ∷ [] → got.source ≡ e.importer → got.next ≡ 0 → got.slots.items ≡ changed
      → Wave o home slots (all_vis c0 home slots sources) c0 c1 frames2
  iterate_reached got frames2 pushed2 source_got next_got slots_got =
      let w = wave_reaches o height lawful home slots (all_vis c0 home slots sources) c0 c rest f next got e edge_vis same_source next_suc same_slots source_got next_got (slots_got ∙ reached_is) (sym at) waved in
      let two : frames2 ≡ (rest ++ next ∷ []) ++ got ∷ [] = pushed2 ∙ ap (λ fs. fs ++ got ∷ []) pushed in
      subst (λ d. Wave o home slots (all_vis c0 home slots sources) c0 d frames2) (sym copied_to) (subst (λ fs. Wave o home slots (all_vis c0 home slots sources) c0 (copied_all o f.source e f.slots.items c) fs) (sym two) w)

  pub measure_on : measure o height home slots sources c0 c1 frames1 < measure o height home slots sources c0 c frames
  measure_on =
      let w = waved in
      let less = measure_goes_on o height lawful home slots sources c0 c rest f next e w.edges (sym at) (w.defs f (Contains-push rest f)) (w.vises f (Contains-push rest f)) edge_vis same_source next_suc in
      subst (λ d. measure o height home slots sources c0 d frames1 < measure o height home slots sources c0 c frames) (sym copied_to)
      (subst (λ fs. measure o height home slots sources c0 (copied_all o f.source e f.slots.items c) fs < measure o height home slots sources c0 c frames) (sym pushed)
      (subst (λ fs. measure o height home slots sources c0 (copied_all o f.source e f.slots.items c) (rest ++ next ∷ []) < measure o height home slots sources c0 c fs) (sym was) less))

  pub measure_reached : (got : Frame) (frames2 : List Frame) (y : Slot) → frames2 ≡ frames1 ++ got ∷ []
      → got.source ≡ e.importer → got.next ≡ 0 → Contains changed y
      → measure o height home slots sources c0 c1 frames2 < measure o height home slots sources c0 c frames
  measure_reached got frames2 y pushed2 source_got next_got has =
      let w = waved in
      let less = measure_reaches o height lawful home slots sources c0 c rest f next e w.edges (sym at) (w.defs f (Contains-push rest f)) (w.vises f (Contains-push rest f)) edge_vis same_source next_suc
      got y source_got next_got are (w.within f (Contains-push rest f)) (subst (λ ys. Contains ys y) reached_is has) in
      let two : frames2 ≡ (rest ++ next ∷ []) ++ got ∷ [] = pushed2 ∙ ap (λ fs. fs ++ got ∷ []) pushed in
      subst (λ d. measure o height home slots sources c0 d frames2 < measure o height home slots sources c0 c frames) (sym copied_to)
      (subst (λ fs. measure o height home slots sources c0 (copied_all o f.source e f.slots.items c) fs < measure o height home slots sources c0 c frames) (sym two)
      (subst (λ fs. measure o height home slots sources c0 (copied_all o f.source e f.slots.items c) ((rest ++ next ∷ []) ++ got ∷ []) < measure o height home slots sources c0 c fs) (sym was) less))

-- a list that is not empty has an element
pub some_slot : (xs : List Slot) → (length xs ≡ 0 → ⊥) → (y : Slot) × Contains xs y
some_slot [] h = absurd (h refl)
some_slot (x ∷ xs) h = (x, first_in x xs)
