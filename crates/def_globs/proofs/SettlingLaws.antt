-- What a glob's offer makes of a place.
use Rattle.std.specs.Prelude.{◌≡◌, Bool, true, false, cond, Option, Some, None, refl}
use Rattle.std.proofs.Common.{sym, ap, ◌∙◌, subst, inl, inr}
use Rattle.std.proofs.lemmas.Bool.{cases_Bool, and_from, eq-eqb}
use Rattle.def_ids.specs.declared.ids.GlobId.{GlobId}
use Rattle.def_ids.specs.Equality.{def_eq, glob_eq}
use Rattle.def_bindings.specs.declared.bindings.ImportOrExternCrate.TheVariants.{Import, Glob, ExternCrate}
use Rattle.def_bindings.specs.declared.bindings.Binding.{Binding}
use Rattle.def_bindings.specs.Order.{Order, rises_to}
use Rattle.def_bindings.specs.Puts.{Origin, glob_of, settled, settled_over, settled_by_glob}
use Rattle.def_bindings.specs.DefLaws.{def-eq}
use Rattle.def_bindings.specs.IdLaws.{glob-eq}

glob-itself : (a : GlobId) → glob_eq a a ≡ true
glob-itself a = and_from _ _ (eq-eqb a.use_id.0 a.use_id.0 refl) (eq-eqb a.idx a.idx refl)

-- a raise keeps all but the visibility, and a replacement is the offer of the same glob
pub data Settled {V : Type 0} (o : Order V) (there offer a : Binding V) (g h : GlobId) : Type 0 where
  raised : def_eq there.def offer.def ≡ true → rises_to o there.vis offer.vis ≡ true → a ≡ record there { vis = offer.vis } → Settled o there offer a g h
  replaced : def_eq there.def offer.def ≡ false → g ≡ h → a ≡ offer → Settled o there offer a g h

three : {V : Type 0} (o : Order V) (there offer a : Binding V) (g h : GlobId) (p q r : Bool)
    → def_eq there.def offer.def ≡ p → rises_to o there.vis offer.vis ≡ q → glob_eq g h ≡ r
    → cond p (cond q (Some (record there { vis = offer.vis })) None) (cond r (Some offer) None) ≡ Some a
    → Settled o there offer a g h
three o there offer a g h true true r i j k e = let f : a ≡ record there { vis = offer.vis } = cc in raised i j f
three o there offer a g h true false r i j k e = cc
three o there offer a g h false q true i j k e = let f : a ≡ offer = cc in replaced i (glob-eq g h k) f
three o there offer a g h false q false i j k e = cc

-- a binding is by the glob that it names
pub glob_of-some : (p : Origin) (g : GlobId) → glob_of p ≡ Some g → p ≡ Some (Glob g)
glob_of-some None g h = cc
glob_of-some (Some (Glob k)) g h = let e : k ≡ g = cc in ap (λ z. Some (Glob z)) e
glob_of-some (Some (Import n)) g h = cc
glob_of-some (Some (ExternCrate n)) g h = cc

-- a glob's offer changes only what a glob bound
over : {V : Type 0} (o : Order V) (there offer a : Binding V) (p q : Option GlobId) (h : GlobId) → q ≡ Some h
    → settled_over o there offer p q ≡ Some a → (g : GlobId) × (p ≡ Some g) × Settled o there offer a g h
over o there offer a (Some g) (Some k) h i e =
    let f : k ≡ h = cc in
    (g, refl, three o there offer a g h _ _ _ refl refl refl (subst (λ y. settled_by_glob o there offer g y ≡ Some a) f e))
over o there offer a (Some g) None h i e = cc
over o there offer a None q h i e = cc

pub settled_cases : {V : Type 0} (o : Order V) (there offer a : Binding V) (h : GlobId) → offer.import ≡ Some (Glob h)
    → settled o (Some there) offer ≡ Some a → (g : GlobId) × (there.import ≡ Some (Glob g)) × Settled o there offer a g h
settled_cases o there offer a h i e =
    let r = over o there offer a (glob_of there.import) (glob_of offer.import) h (ap glob_of i) e in
    (r.0, glob_of-some there.import r.0 r.1, r.2)

-- where the same glob's offer changes nothing, the definition is the offer's
unchanged : {V : Type 0} (o : Order V) (there offer : Binding V) (p q : Option GlobId) (h : GlobId) → p ≡ Some h → q ≡ Some h
    → settled_over o there offer p q ≡ None → there.def ≡ offer.def
unchanged o there offer (Some g) (Some k) h i j e =
    let f : g ≡ k = cc in
    elim (cases_Bool (def_eq there.def offer.def)) [
      | inl d ↦ def-eq _ _ d
      | inr d ↦ absurd (let s : glob_eq g k ≡ true = subst (λ z. glob_eq g z ≡ true) f (glob-itself g) in let z : None ≡ Some offer = sym (rw (d, s) at e) in cc)
    ]
unchanged o there offer (Some g) None h i j e = cc
unchanged o there offer None q h i j e = cc

pub settled_unchanged : {V : Type 0} (o : Order V) (there offer : Binding V) (h : GlobId) → there.import ≡ Some (Glob h) → offer.import ≡ Some (Glob h)
    → settled o (Some there) offer ≡ None → there.def ≡ offer.def
settled_unchanged o there offer h i j e = unchanged o there offer (glob_of there.import) (glob_of offer.import) h (ap glob_of i) (ap glob_of j) e

-- the definition that a glob's offer leaves where it changes a place
pub settled_def : {V : Type 0} (o : Order V) (there : Option (Binding V)) (offer a : Binding V) (h : GlobId) → offer.import ≡ Some (Glob h)
    → settled o there offer ≡ Some a → a.def ≡ offer.def
settled_def o None offer a h i e = let f : offer ≡ a = cc in sym (ap (λ y. y.def) f)
settled_def o (Some there) offer a h i e =
    elim (settled_cases o there offer a h i e).2 [
      | raised d r f ↦ ap (λ y. y.def) f ∙ def-eq _ _ d
      | replaced d r f ↦ ap (λ y. y.def) f
    ]

-- where a glob's offer changes a place, the visibility is the offer's
pub settled_vis : {V : Type 0} (o : Order V) (there : Option (Binding V)) (offer a : Binding V) (h : GlobId) → offer.import ≡ Some (Glob h)
    → settled o there offer ≡ Some a → a.vis ≡ offer.vis
settled_vis o None offer a h i e = let f : offer ≡ a = cc in sym (ap (λ y. y.vis) f)
settled_vis o (Some there) offer a h i e =
    elim (settled_cases o there offer a h i e).2 [
      | raised d r f ↦ ap (λ y. y.vis) f
      | replaced d r f ↦ ap (λ y. y.vis) f
    ]
