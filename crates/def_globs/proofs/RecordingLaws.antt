-- A glob is recorded: its target's names are put in the importer, and then the edge that is added is closed.
use Rattle.std.specs.Prelude.{◌≡◌, true, Option, Some, None, List, [], ◌∷◌, ◌⊎◌, slice_get, Contains, refl}
use Rattle.std.proofs.Common.{sym, ap, ◌∙◌, subst, inl, inr}
use Rattle.std.proofs.lemmas.Bool.{false≢true, cases_Bool}
use Rattle.tree_ids.specs.declared.name.Name.{Name}
use Rattle.def_ids.specs.declared.ids.ModuleId.{ModuleId}
use Rattle.def_ids.specs.declared.ids.GlobId.{GlobId}
use Rattle.def_ids.specs.declared.ids.Def.{Def}
use Rattle.def_bindings.specs.declared.bindings.Namespace.{Namespace}
use Rattle.def_bindings.specs.declared.bindings.ImportOrExternCrate.TheVariants.{Glob}
use Rattle.def_bindings.specs.declared.bindings.Binding.{Binding}
use Rattle.def_bindings.specs.declared.bindings.EdgeTo.{EdgeTo}
use Rattle.def_bindings.specs.declared.bindings.Entry.{Entry}
use Rattle.def_bindings.specs.declared.bindings.Slot.{Slot}
use Rattle.def_bindings.specs.declared.bindings.Slot.TheVariants.{Named}
use Rattle.def_bindings.specs.Order.{Order}
use Rattle.def_bindings.specs.Content.{Content}
use Rattle.def_bindings.specs.Puts.{held, settled, puts, copied, carried as along}
use Rattle.def_bindings.specs.Closure.{IsBound}
use Rattle.def_globs.specs.Waves.{Copies, none, more, slots_of, IsClosedTo, ListsAll, HoldsBy, IsLed, KeepsGlobs}
use Rattle.def_globs.proofs.ListLaws.{first_in, later_in, none_in, in_cases}
use Rattle.def_bindings.specs.Slots.{is_same_slot}
use Rattle.def_bindings.specs.HeldLaws.{cases_place, slot-eq, slot-refl}
use Rattle.def_globs.proofs.SettlingLaws.{raised, replaced, settled_cases}
use Rattle.def_globs.proofs.CopyingLaws.{Moved, copy_cases, edges_copied, bound_copied}
use Rattle.def_globs.proofs.PuttingLaws.{edges_puts, outside_puts, puts_bind}
use Rattle.def_globs.proofs.BringingLaws.{globs_puts}

glob_is : (g h : GlobId) → Some (Glob g) ≡ Some (Glob h) → g ≡ h
glob_is g h e = cc

is_in : (xs : List Slot) (y : Slot) → Contains xs y ⊎ (Contains xs y → ⊥)
is_in [] y = inr (none_in y)
is_in (x ∷ xs) y =
    elim (cases_Bool (is_same_slot x y)) [
      | inl same ↦ inl (subst (Contains (x ∷ xs)) (slot-eq x y same) (first_in x xs))
      | inr other ↦ elim (is_in xs y) [
        | inl later ↦ inl (later_in x xs y later)
        | inr nowhere ↦ inr (λ h. elim (in_cases x xs y h) [
          | inl e ↦ absurd (false≢true (sym other ∙ subst (λ z. is_same_slot x z ≡ true) (sym e) (slot-refl x)))
          | inr later ↦ absurd (nowhere later)
        ])
      ]
    ]

-- slots that are not copied stay as they were
pub outside_copied : {V : Type 0} (o : Order V) (slots : List Slot) (def_of : Slot → Def) {c d : Content V} → Copies o slots def_of c d
    → (n : ModuleId) (y : Slot) → (Contains slots y → ⊥) → held d n y ≡ held c n y
outside_copied o slots def_of none n y out = refl
outside_copied o slots def_of (more {c} {d} s e x k before at within def) n y out =
    elim (copy_cases o s e x d) [
      | inl still ↦ ap (λ z. held z n y) still.1.same ∙ outside_copied o slots def_of before n y out
      | inr moved ↦ elim (cases_place e.importer x n y) [
        | inl here ↦ absurd (out (subst (Contains slots) here.1 within))
        | inr apart ↦ moved.1.elsewhere n y apart ∙ outside_copied o slots def_of before n y out
      ]
    ]

pub bound_copies : {V : Type 0} (o : Order V) (slots : List Slot) (def_of : Slot → Def) {c d : Content V} → Copies o slots def_of c d
    → (n : ModuleId) (y : Slot) → IsBound c n y → IsBound d n y
bound_copies o slots def_of none n y bound = bound
bound_copies o slots def_of (more {c} {d} s e x k before at within def) n y bound = bound_copied o s e x d n y (bound_copies o slots def_of before n y bound)

-- once all that the importer sees of the target was put, and copies travelled, an edge from the target is closed
pub recorded_closed : {V : Type 0} (o : Order V) (target importer : ModuleId) (list : List (Entry V)) (def_of : Slot → Def) (c c' : Content V)
    → ListsAll o list c target importer
    → Copies o (slots_of list) def_of (puts o importer list c) c'
    → IsClosedTo o c' target importer
recorded_closed o target importer list def_of c c' all copies slot b h seen =
    let bound : Contains (slots_of list) slot → IsBound c' importer slot = λ at. bound_copies o (slots_of list) def_of copies importer slot (puts_bind o importer list c slot at) in
    elim (is_in (slots_of list) slot) [
      | inl at ↦ bound at
      | inr out ↦
          let was : held c target slot ≡ Some b = sym (outside_puts o importer list c target slot out) ∙ (sym (outside_copied o (slots_of list) def_of copies target slot out) ∙ h) in
          bound (all slot b was seen)
    ]

pub edges_copies : {V : Type 0} (o : Order V) (slots : List Slot) (def_of : Slot → Def) {c d : Content V} → Copies o slots def_of c d → d.edges ≡ c.edges
edges_copies o slots def_of none = refl
edges_copies o slots def_of (more {c} {d} s e x k before at within def) = edges_copied o s e x d ∙ edges_copies o slots def_of before

module _ {V : Type 0} (o : Order V) (s : ModuleId) (e : EdgeTo V) (c c' : Content V) where
  origin_moved : (n : Name) (ns : Namespace) (g : GlobId) (moved : Moved o s e (Named n ns) c c') → moved.now.import ≡ Some (Glob g)
      → (there : Option (Binding V)) → c.binding e.importer n ns ≡ there → HoldsBy c e.importer n ns g ⊎ (e.glob ≡ g)
  origin_moved n ns g moved by None i =
      let r : settled o None (along o e moved.own) ≡ Some moved.now = subst (λ t. settled o t (along o e moved.own) ≡ Some moved.now) i moved.settles in
      let f : along o e moved.own ≡ moved.now = cc in
      inr (glob_is e.glob g (ap (λ z. z.import) f ∙ by))
  origin_moved n ns g moved by (Some t) i =
      let r : settled o (Some t) (along o e moved.own) ≡ Some moved.now = subst (λ t. settled o t (along o e moved.own) ≡ Some moved.now) i moved.settles in
      elim (settled_cases o t (along o e moved.own) moved.now e.glob refl r).2 [
        | replaced d eq f ↦ inr (glob_is e.glob g (sym (ap (λ z. z.import) f) ∙ by))
        | raised d rise f ↦ inl (t, i, sym (ap (λ z. z.import) f) ∙ by)
      ]

-- a binding by a glob was by that glob before the copies, or an edge of the glob leads there
pub origin_copies : {V : Type 0} (o : Order V) (slots : List Slot) (def_of : Slot → Def) {c d : Content V} → Copies o slots def_of c d
    → (i : ModuleId) (n : Name) (ns : Namespace) (g : GlobId) → HoldsBy d i n ns g → HoldsBy c i n ns g ⊎ IsLed c i g
origin_copies o slots def_of none i n ns g h = inl h
origin_copies o slots def_of (more {c} {d} s e x k before at within def) i n ns g h =
    elim (copy_cases o s e x d) [
      | inl still ↦ origin_copies o slots def_of before i n ns g (h.0, ap (λ (z : Content _). z.binding i n ns) (sym still.1.same) ∙ h.1, h.2)
      | inr moved ↦ elim (cases_place e.importer x i (Named n ns)) [
        | inr apart ↦ origin_copies o slots def_of before i n ns g (h.0, sym (moved.1.elsewhere i (Named n ns) apart) ∙ h.1, h.2)
        | inl here ↦
            let d' : Content _ = copied o s e x d in
            let moved' : Moved o s e (Named n ns) d (copied o s e x d) = subst (λ y. Moved o s e y d (copied o s e x d)) here.1 moved.1 in
            let f : Some moved'.now ≡ Some h.0 = sym moved'.now_is ∙ (ap (λ z. held (copied o s e x d) z (Named n ns)) here.0 ∙ h.1) in
            let is_b : moved'.now ≡ h.0 = cc in
            elim (origin_moved o s e d (copied o s e x d) n ns g moved' (ap (λ z. z.import) is_b ∙ h.2) (d.binding e.importer n ns) refl) [
              | inl old ↦ origin_copies o slots def_of before i n ns g (subst (λ z. HoldsBy d z n ns g) here.0 old)
              | inr own ↦ inr (s, (k, (e, ap (λ (z : ModuleId → List (EdgeTo _)). slice_get (z s) k) (sym (edges_copies o slots def_of before)) ∙ at, here.0, own)))
            ]
      ]
    ]

-- puts and then copies leave the edges
pub edges_updated : {V : Type 0} (o : Order V) (m : ModuleId) (list : List (Entry V)) (slots : List Slot) (def_of : Slot → Def) (c d : Content V)
    → Copies o slots def_of (puts o m list c) d → d.edges ≡ c.edges
edges_updated o m list slots def_of c d copies = edges_copies o slots def_of copies ∙ edges_puts o m list c

-- and keep what globs bind
pub globs_updated : {V : Type 0} (o : Order V) (m : ModuleId) (list : List (Entry V)) (slots : List Slot) (def_of : Slot → Def) (c d : Content V)
    → Copies o slots def_of (puts o m list c) d → KeepsGlobs m list c d
globs_updated o m list slots def_of c d copies n name ns g h =
    elim (origin_copies o slots def_of copies n name ns g h) [
      | inl placed ↦ elim (globs_puts o m list c n name ns g placed) [
        | inl old ↦ inl old
        | inr brought ↦ inr (inr brought)
      ]
      | inr led ↦ inr (inl (led.0, (led.1.0, (led.1.1.0, ap (λ (f : ModuleId → List (EdgeTo _)). slice_get (f led.0) led.1.0) (edges_copies o slots def_of copies) ∙ led.1.1.1, led.1.1.2, led.1.1.3))))
    ]
