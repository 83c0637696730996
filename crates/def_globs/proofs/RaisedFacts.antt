-- A wave that stops where an importer holds the same definition does not keep places raised, and nor does one that copies there and goes no further.
use Rattle.std.proofs.Common.{◌≡◌, ℕ, false, cond, Some, None, List, [], ◌∷◌, refl, sym, ap, ◌∙◌, inl, inr, arith}
use Rattle.std.specs.Prelude.{nat_le}
use Rattle.std.proofs.lemmas.Bool.{cases_Bool, false≢true}
use Rattle.tree_ids.specs.declared.name.Name.{Name}
use Rattle.def_ids.specs.Ids.{is_same_module}
use Rattle.def_ids.specs.declared.ids.ModuleId.{ModuleId}
use Rattle.def_ids.specs.declared.ids.GlobId.{GlobId}
use Rattle.def_ids.specs.declared.ids.Def.TheVariants.{Struct}
use Rattle.def_bindings.specs.declared.bindings.Namespace.TheVariants.{Types}
use Rattle.def_bindings.specs.declared.bindings.ImportOrExternCrate.TheVariants.{Glob}
use Rattle.def_bindings.specs.declared.bindings.Binding.{Binding}
use Rattle.def_bindings.specs.declared.bindings.EdgeTo.{EdgeTo}
use Rattle.def_bindings.specs.declared.bindings.Entry.{Entry}
use Rattle.def_bindings.specs.declared.bindings.Slot.TheVariants.{Named, Unnamed}
use Rattle.def_bindings.specs.Order.{Order, rises_to}
use Rattle.def_bindings.specs.Content.{Content}
use Rattle.def_bindings.specs.Puts.{lessened, puts, copied}
use Rattle.def_bindings.specs.Closure.{IsClosed}
use Rattle.def_globs.specs.Raised.{IsRaisedAt, KeepsRaised}
use Rattle.def_globs.proofs.RaisingLemmas.{rises_itself}

-- a visibility is a number; a module sees those above its place
abbrev levels : Order ℕ
levels = record { at_most = nat_le; can_see = λ m v. nat_le m.index v }

abbrev place : ℕ → ModuleId
place n = record { map = record { krate = record { 0 = 0 }; block = None }; index = n }

abbrev glob : GlobId
glob = record { use_id = record { 0 = 1 }; idx = 0 }

abbrev bound : ℕ → Binding ℕ
bound v = record { def = Struct (record { 0 = 1 }); vis = v; import = Some (Glob glob) }

abbrev edge : ℕ → EdgeTo ℕ
edge n = record { importer = place n; vis = 9; glob = glob }

abbrev name : Name
name = record { 0 = 40 }

-- each module binds each name with visibility 5, and edges lead from 2 to 3 and from 3 to 4
abbrev old : Content ℕ
old = record {
  binding = λ m n ns. Some (bound 5);
  names = λ m. [];
  unnamed = λ m. [];
  edges = λ m. cond (is_same_module (place 2) m) (edge 3 ∷ []) (cond (is_same_module (place 3) m) (edge 4 ∷ []) []);
}

-- the name is raised in 2
abbrev list : List (Entry ℕ)
list = record { name = Some name; ns = Types; def = Struct (record { 0 = 1 }); vis = 9; origin = Some (Glob glob) } ∷ []

-- nothing is copied, or one slot along one edge
abbrev stopped : Content ℕ
stopped = puts levels (place 2) list old

abbrev one_further : Content ℕ
one_further = copied levels (place 2) (edge 3) (Named name Types) stopped

-- what is carried is at most as visible
carried_less : (v w : ℕ) → rises_to levels v (lessened levels v w) ≡ false
carried_less v w =
    elim (cases_Bool (nat_le v w)) [
      | inl h ↦ rw h (rises_itself levels v)
      | inr h ↦ elim (cases_Bool (nat_le w v)) [
        | inl k ↦ rw (h, k) (rw h refl)
        | inr k ↦ rw (h, k) (rw h refl)
      ]
    ]

old_raised : (m : ModuleId) → IsRaisedAt levels old m (Named name Types)
old_raised m source index e at to b there g own seen here by same =
    let is_b : bound 5 ≡ b = cc in
    let is_there : bound 5 ≡ there = cc in
    ap (λ (z : Binding ℕ). rises_to levels there.vis (lessened levels z.vis e.vis)) (sym is_b)
    ∙ (ap (λ (z : Binding ℕ). rises_to levels z.vis (lessened levels 5 e.vis)) (sym is_there) ∙ carried_less 5 e.vis)

old_closed : IsClosed levels (λ _. false) old
old_closed source index e (Named n ns) b at left h seen = (bound 5, refl)
old_closed source index e (Unnamed t) b at left h seen = cc

not_kept : (new : Content ℕ) (n : ℕ) → (place n ≡ place 2 → ⊥)
    → (KeepsRaised levels (place 2) list old new → ((a b : Binding ℕ) → Some (bound 5) ≡ Some a → new.binding (place n) name Types ≡ Some b → a.def ≡ b.def) → IsRaisedAt levels new (place n) (Named name Types))
not_kept new n apart keeps same =
    keeps (λ _. false) old_closed (place n) (Named name Types) refl same (λ is. absurd (apart is)) (old_raised (place n))

-- the edge from 2 to 3 would raise the name
a_stopped_wave_is_refused : KeepsRaised levels (place 2) list old stopped → ⊥
a_stopped_wave_is_refused keeps =
    let after = not_kept stopped 3 (λ is. let n : 3 ≡ 2 = ap (λ (m : ModuleId). m.index) is in absurd (omega arith)) keeps
    (λ a b p q. let is_a : bound 5 ≡ a = cc in let is_b : bound 5 ≡ b = cc in ap (λ (z : Binding ℕ). z.def) (sym is_a ∙ is_b)) in
    false≢true (sym (after (place 2) 0 (edge 3) refl refl (bound 9) (bound 5) glob refl refl refl refl refl))

-- and the edge from 3 to 4
a_wave_that_goes_one_further_is_refused : KeepsRaised levels (place 2) list old one_further → ⊥
a_wave_that_goes_one_further_is_refused keeps =
    let after = not_kept one_further 4 (λ is. let n : 4 ≡ 2 = ap (λ (m : ModuleId). m.index) is in absurd (omega arith)) keeps
    (λ a b p q. let is_a : bound 5 ≡ a = cc in let is_b : bound 5 ≡ b = cc in ap (λ (z : Binding ℕ). z.def) (sym is_a ∙ is_b)) in
    false≢true (sym (after (place 3) 0 (edge 4) refl refl (bound 9) (bound 5) glob refl refl refl refl refl))
