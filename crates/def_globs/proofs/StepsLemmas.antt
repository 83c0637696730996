-- What copies along one edge keep.
use Rattle.std.proofs.Common.{◌≡◌, Bool, true, false, cond, Some, List, [], ◌∷◌, refl, sym, ap, ◌∙◌, subst, inl, inr, ◌⊎◌}
use Rattle.std.specs.Prelude.{Contains}
use Rattle.std.proofs.lemmas.Bool.{false≢true}
use Rattle.std.proofs.lemmas.List.Elements.{Contains-append_cases}
use Rattle.def_ids.specs.declared.ids.ModuleId.{ModuleId}
use Rattle.def_ids.specs.declared.ids.Def.{Def}
use Rattle.def_bindings.specs.declared.bindings.Binding.{Binding}
use Rattle.def_bindings.specs.declared.bindings.EdgeTo.{EdgeTo}
use Rattle.def_bindings.specs.declared.bindings.Slot.{Slot}
use Rattle.def_bindings.specs.Order.{Order}
use Rattle.def_bindings.specs.Content.{Content}
use Rattle.def_bindings.specs.Puts.{held, copied}
use Rattle.def_globs.specs.Pending.{is_changed, copied_all, reached}
use Rattle.def_globs.proofs.ListLaws.{first_in, later_in, none_in, only_in}
use Rattle.def_bindings.specs.HeldLaws.{cases_place}
use Rattle.def_globs.proofs.CopyingLaws.{copy_cases, edges_copied}
use Rattle.def_globs.proofs.CoheringLemmas.{HasDefs}

module _ {V : Type 0} (o : Order V) (s : ModuleId) (e : EdgeTo V) (x : Slot) (c : Content V) where
  module _ (def_of : Slot → Def) (source_def : (b : Binding V) → held c s x ≡ Some b → b.def ≡ def_of x) where
    -- what is held is as it was, or has the definition that is carried
    pub def_copied : (n : ModuleId) (y : Slot) (b : Binding V) → held (copied o s e x c) n y ≡ Some b → (held c n y ≡ Some b) ⊎ (b.def ≡ def_of y)
    def_copied n y b h =
        elim (copy_cases o s e x c) [
          | inl still ↦ inl (ap (λ d. held d n y) (sym still.1.same) ∙ h)
          | inr moved ↦ elim (cases_place e.importer x n y) [
            | inl here ↦
                let f : Some moved.1.now ≡ Some b = sym moved.1.now_is ∙ (ap (λ m. held (copied o s e x c) m x) here.0 ∙ (ap (λ z. held (copied o s e x c) n z) here.1 ∙ h)) in
                let is_b : moved.1.now ≡ b = cc in
                inr (sym (ap (λ (z : Binding _). z.def) is_b) ∙ (moved.1.now_def ∙ (source_def moved.1.own moved.1.own_is ∙ ap def_of here.1)))
            | inr apart ↦ inl (sym (moved.1.elsewhere n y apart) ∙ h)
          ]
        ]

    pub reached_def : is_changed o s e x c ≡ true → (b : Binding V) → held (copied o s e x c) e.importer x ≡ Some b → b.def ≡ def_of x
    reached_def changed b h =
        elim (copy_cases o s e x c) [
          | inl still ↦ absurd (false≢true (sym still.0 ∙ changed))
          | inr moved ↦
              let f : Some moved.1.now ≡ Some b = sym moved.1.now_is ∙ h in
              let is_b : moved.1.now ≡ b = cc in
              sym (ap (λ (z : Binding _). z.def) is_b) ∙ (moved.1.now_def ∙ source_def moved.1.own moved.1.own_is)
        ]

pub in_cond : (changed : Bool) (x y : Slot) → Contains (cond changed (x ∷ []) []) y → (changed ≡ true) × (y ≡ x)
in_cond true x y h = (refl, only_in x y h)
in_cond false x y h = absurd (none_in y h)

-- what copies of several slots along one edge keep, where each slot's source has the definition that is carried
pub record AllCopied {V : Type 0} (o : Order V) (def_of : Slot → Def) (importer : ModuleId) (xs : List Slot) (c c' : Content V) (r : List Slot) : Type 0 where
  pub edges : c'.edges ≡ c.edges
  pub defs : (n : ModuleId) (y : Slot) (b : Binding V) → held c' n y ≡ Some b → (held c n y ≡ Some b) ⊎ (b.def ≡ def_of y)
  pub reached_defs : HasDefs c' importer (Contains r) def_of
  pub within : (y : Slot) → Contains r y → Contains xs y

module _ {V : Type 0} (o : Order V) (s : ModuleId) (e : EdgeTo V) (def_of : Slot → Def) where
  pub defs_after : (x : Slot) (c : Content V) → ((b : Binding V) → held c s x ≡ Some b → b.def ≡ def_of x) → (n : ModuleId) (Q : Slot → Type 0)
      → HasDefs c n Q def_of → HasDefs (copied o s e x c) n Q def_of
  defs_after x c source_def n Q defs y q b h = elim (def_copied o s e x c def_of source_def n y b h) [ inl was ↦ defs y q b was | inr d ↦ d ]

module _ {V : Type 0} (o : Order V) (s : ModuleId) (e : EdgeTo V) (def_of : Slot → Def) where
  pub all_copied : (xs : List Slot) (c : Content V) → HasDefs c s (Contains xs) def_of
      → AllCopied o def_of e.importer xs c (copied_all o s e xs c) (reached o s e xs c)
  all_copied [] c sources = record {
    edges = refl;
    defs = λ n y b h. inl h;
    reached_defs = λ y q. absurd (none_in y q);
    within = λ y q. q;
  }
  all_copied (x ∷ xs) c sources =
      let source_def : (b : Binding V) → held c s x ≡ Some b → b.def ≡ def_of x = sources x (first_in x xs) in
      let rest : HasDefs c s (Contains xs) def_of = λ y q. sources y (later_in x xs y q) in
      let c1 : Content V = copied o s e x c in
      let changed : Bool = is_changed o s e x c in
      let ih = all_copied xs c1 (defs_after o s e def_of x c source_def s (Contains xs) rest) in
      let one = cond changed (x ∷ []) [] in
      record {
        edges = ih.edges ∙ edges_copied o s e x c;
        defs = λ n y b h. elim (ih.defs n y b h) [ inl was ↦ def_copied o s e x c def_of source_def n y b was | inr d ↦ inr d ];
        reached_defs = λ y q b h. elim (Contains-append_cases (cond (is_changed o s e x c) (x ∷ []) []) (reached o s e xs c1) y q) [
          | inl now ↦
              let p = in_cond (is_changed o s e x c) x y now in
              elim (ih.defs e.importer y b h) [
                | inl was ↦ reached_def o s e x c def_of source_def p.0 b (ap (λ z. held (copied o s e x c) e.importer z) (sym p.1) ∙ was) ∙ ap def_of (sym p.1)
                | inr d ↦ d
              ]
          | inr later ↦ ih.reached_defs y later b h
        ];
        within = λ y q. elim (Contains-append_cases (cond (is_changed o s e x c) (x ∷ []) []) (reached o s e xs c1) y q) [
          | inl now ↦ let p = in_cond (is_changed o s e x c) x y now in subst (Contains (x ∷ xs)) (sym p.1) (first_in x xs)
          | inr later ↦ later_in x xs y (ih.within y later)
        ];
      }
