-- Places that are equal or apart.
use Rattle.std.proofs.Common.{◌≡◌, Bool, true, false, not, ◌&&◌, ◌||◌, cond, Option, Some, None, List, [], ◌∷◌, ◌++◌, refl, sym, ap, subst, ◌∙◌, inl, inr}
use Rattle.std.proofs.Common.{Result, Ok, Err}
use Rattle.std.specs.declared.alloc.AllocError.{AllocError}
use Rattle.std.specs.Prelude.{ℕ, IfOk, OnOk, OnErr, is_none, is_some, map, option_map, slice_get}
use Rattle.std.proofs.lemmas.Option.{slice_get-map}
use Rattle.def_tables.specs.declared.place.Placed.{Placed}
use Rattle.std.specs.Map.{keys_of}
use Rattle.indexmap.specs.IndexMap.{insert_entry}
use Rattle.def_tables.specs.Link.{edge_of, link_of}
use Rattle.def_tables.proofs.LinkLemmas.{edges-insert_entry}
use Rattle.std.specs.List.{IsDistinct}
use Rattle.def_tables.specs.IndexedVec.{get}
use Rattle.std.proofs.lemmas.Bool.{cases_Bool}
use Rattle.def_ids.specs.declared.ids.ModuleId.{ModuleId}
use Rattle.tree_ids.specs.declared.name.Name.{Name}
use Rattle.def_bindings.specs.declared.bindings.Namespace.{Namespace}
use Rattle.def_tables.specs.declared.bound_name.BoundName.{BoundName}
use Rattle.def_bindings.specs.declared.bindings.Binding.{Binding}
use Rattle.def_bindings.specs.declared.bindings.EdgeTo.{EdgeTo}
use Rattle.def_ids.specs.declared.ids.TraitId.{TraitId}
use Rattle.def_tables.specs.declared.link.Link.{Link}
use Rattle.def_bindings.specs.declared.bindings.Namespace.TheVariants.{Types, Values, Macros}
use Rattle.def_ids.specs.declared.ids.MapId.{MapId}
use Rattle.def_ids.specs.Ids.{is_same_map, is_same_module}
use Rattle.def_tables.specs.declared.place.OwnPlace.{OwnPlace}
use Rattle.def_bindings.specs.Content.{Content, is_name, is_namespace, bound_as, listed_as, is_bound, is_listed, with_name, without_name, without_binding, AreTied, replaced, empty}
use Rattle.def_tables.specs.BoundName.{meaning_of, with_namespace, written_in}
use Rattle.def_bindings.specs.declared.bindings.Slot.TheVariants.{Named}
use Rattle.def_bindings.specs.Puts.{if_vacant, written}
use Rattle.def_tables.specs.Numbers.{is_placed, placed_at}
use Rattle.def_tables.specs.Places.{name_of, bindings_of, is_own_place, own_at, AreListed, AreStrangers}
use Rattle.def_tables.specs.BoundNameLaws.{known-bound, listed-tied, tied-listed}
use Rattle.def_tables.proofs.ByModuleLemmas.{listed_as-same}
use Rattle.def_bindings.specs.IdLaws.{cases_module, cases_name, module-refl, name-refl, name-sym, same_map_equal, same_map_itself}

-- one name may have another meaning, and every other one has what it had
abbrev pub ChangesAt : {B : Type 0} → (ModuleId → Name → Namespace → Option B) → (ModuleId → Name → Namespace → Option B) → ModuleId → Name → Type 0
ChangesAt old new m x = (m' : ModuleId) (x' : Name) → (is_same_module m m' && is_name x x') ≡ false → new m' x' ≡ old m' x'

module _ {V K : Type 0} (meaning : MapId → K → V) (map : MapId) (own own' : List (OwnPlace × BoundName V K)) (others others' : List (Placed Name × BoundName V K)) (m : ModuleId) (x : Name) where
  -- a name of the map's own modules is changed
  pub own-changed : is_same_map m.map map ≡ true → ((q : OwnPlace) → is_own_place (own_at m.index x) q ≡ false → get is_own_place own' q ≡ get is_own_place own q)
      → ChangesAt (bindings_of meaning map own others) (bindings_of meaning map own' others) m x
  own-changed is apart m' x' h =
      elim (cases_Bool (is_same_map m'.map map)) [
        | inl k ↦
            let maps : is_same_map m.map m'.map ≡ true = ap (λ q. is_same_map q m'.map) (same_map_equal m.map map is ∙ sym (same_map_equal m'.map map k)) ∙ same_map_itself m'.map in
            rw k (ap (meaning_of meaning map) (apart (own_at m'.index x') (rw maps at h)))
        | inr k ↦ rw k refl
      ]

  -- and so one of another map
  pub other-changed : is_same_map m.map map ≡ false → ((q : Placed Name) → is_placed is_name (placed_at m x) q ≡ false → get (is_placed is_name) others' q ≡ get (is_placed is_name) others q)
      → ChangesAt (bindings_of meaning map own others) (bindings_of meaning map own others') m x
  other-changed is apart m' x' h =
      elim (cases_Bool (is_same_map m'.map map)) [
        | inl k ↦ rw k refl
        | inr k ↦ rw k (ap (meaning_of meaning map) (apart (placed_at m' x') h))
      ]

  pub own-here : is_same_map m.map map ≡ true → name_of map own others m x ≡ get is_own_place own (own_at m.index x)
  own-here is = rw is refl

  pub other-here : is_same_map m.map map ≡ false → name_of map own others m x ≡ get (is_placed is_name) others (placed_at m x)
  other-here is = rw is refl

-- what is put in a module of another map leaves those of the map out
pub strangers-kept : {B : Type 0} (map : MapId) (others others' : List (Placed Name × B)) (m : ModuleId) (x : Name) → AreStrangers map others → is_same_map m.map map ≡ false
    → ((q : Placed Name) → is_placed is_name (placed_at m x) q ≡ false → get (is_placed is_name) others' q ≡ get (is_placed is_name) others q) → AreStrangers map others'
strangers-kept map others others' m x strangers is apart m' x' h =
    let maps : is_same_map m.map m'.map ≡ false = ap (is_same_map m.map) (same_map_equal m'.map map h) ∙ is in
    apart (placed_at m' x') (rw maps refl) ∙ strangers m' x' h

-- where one name is changed in one namespace
pub changed-whole : {B : Type 0} (old new : ModuleId → Name → Namespace → Option B) (m : ModuleId) (x : Name) (n : Namespace) (w : Option B) → ChangesAt old new m x → new m x ≡ with_namespace (old m x) n w → new ≡ bound_as old m x n w
changed-whole old new m x n w apart here = λ i m' x' n'. at m' x' n' i
  where
    at : (m' : ModuleId) (x' : Name) (n' : Namespace) → new m' x' n' ≡ bound_as old m x n w m' x' n'
    at m' x' n' = elim (cases_module m m') [
      | inl e ↦ elim (cases_name x x') [
        | inl f ↦ rw (e.1, f.1) (ap (λ q. new q x' n') (sym e.0) ∙ ap (λ y. new m y n') (sym f.0) ∙ ap (λ g. g n') here ∙ ap (λ y. cond (is_namespace n n') w (old m y n')) f.0 ∙ ap (λ q. cond (is_namespace n n') w (old q x' n')) e.0)
        | inr f ↦ ap (λ g. g n') (apart m' x' (rw (e.1, f) refl)) ∙ rw (e.1, f) refl
      ]
      | inr e ↦ ap (λ g. g n') (apart m' x' (rw e refl)) ∙ rw e refl
    ]

pub unchanged-whole : {B : Type 0} (old new : ModuleId → Name → Namespace → Option B) (m : ModuleId) (x : Name) → ChangesAt old new m x → new m x ≡ old m x → new ≡ old
unchanged-whole old new m x apart here = λ i m' x'. at m' x' i
  where
    at : (m' : ModuleId) (x' : Name) → new m' x' ≡ old m' x'
    at m' x' = elim (cases_module m m') [
      | inl e ↦ elim (cases_name x x') [
        | inl f ↦ ap (λ q. new q x') (sym e.0) ∙ ap (new m) (sym f.0) ∙ here ∙ ap (old m) f.0 ∙ ap (λ q. old q x') e.0
        | inr f ↦ apart m' x' (rw (e.1, f) refl)
      ]
      | inr e ↦ apart m' x' (rw e refl)
    ]

-- what is bound in one namespace is bound
bound-in : {B : Type 0} (f : Namespace → Option B) (n : Namespace) → is_none (f n) ≡ false → (is_some (f Types) || (is_some (f Values) || is_some (f Macros))) ≡ true
bound-in f Types h = some (f Types) _ h
  where
    some : {B : Type 0} (o : Option B) (p : Bool) → is_none o ≡ false → (is_some o || p) ≡ true
    some None p h = cc
    some (Some b) p h = refl
bound-in f Values h = some (is_some (f Types)) (f Values) _ h
  where
    some : {B : Type 0} (a : Bool) (o : Option B) (p : Bool) → is_none o ≡ false → (a || (is_some o || p)) ≡ true
    some a None p h = cc
    some true (Some b) p h = refl
    some false (Some b) p h = refl
bound-in f Macros h = some (is_some (f Types)) (is_some (f Values)) (f Macros) h
  where
    some : {B : Type 0} (a b : Bool) (o : Option B) → is_none o ≡ false → (a || (b || is_some o)) ≡ true
    some a b None h = cc
    some true b (Some c) h = refl
    some false true (Some c) h = refl
    some false false (Some c) h = refl

listed-push : (ks : List Name) (x y : Name) → is_listed (ks ++ x ∷ []) y ≡ (is_listed ks y || is_name y x)
listed-push [] x y = or-false (is_name y x)
  where
    or-false : (b : Bool) → (b || false) ≡ (false || b)
    or-false true = refl
    or-false false = refl
listed-push (k ∷ ks) x y = ap (λ b. is_name y k || b) (listed-push ks x y) ∙ or-assoc (is_name y k) (is_listed ks y) (is_name y x)
  where
    or-assoc : (a b c : Bool) → (a || (b || c)) ≡ ((a || b) || c)
    or-assoc true b c = refl
    or-assoc false b c = refl

listed-without : (ks : List Name) (x y : Name) → is_listed (without_name ks x) y ≡ (not (is_name x y) && is_listed ks y)
listed-without [] x y = sym (and-false (not (is_name x y)))
  where
    and-false : (b : Bool) → (b && false) ≡ false
    and-false true = refl
    and-false false = refl
listed-without (k ∷ ks) x y =
    elim (cases_name x k) [
      | inl e ↦ rw e.1 (listed-without ks x y ∙ gone (is_name y k) (is_name x y) (is_listed ks y) (name-sym y k ∙ ap (λ z. is_name z y) (sym e.0)))
      | inr e ↦ rw e (ap (λ b. is_name y k || b) (listed-without ks x y) ∙ stays k e)
    ]
  where
    gone : (a b c : Bool) → a ≡ b → (not b && c) ≡ (not b && (a || c))
    gone a true c h = refl
    gone true false c h = cc
    gone false false c h = refl

    stays : (k : Name) → is_name x k ≡ false → (is_name y k || (not (is_name x y) && is_listed ks y)) ≡ (not (is_name x y) && (is_name y k || is_listed ks y))
    stays k e =
        elim (cases_name x y) [
          | inl f ↦ let g : is_name y k ≡ false = ap (λ z. is_name z k) (sym f.0) ∙ e in rw (f.1, g) refl
          | inr f ↦ rw f refl
        ]

or-self : (a b : Bool) → b ≡ true → (a || b) ≡ true
or-self true b h = refl
or-self false b h = h

set_bound : {B : Type 0} (p : ModuleId → Name → Namespace → Option B) (m : ModuleId) (x : Name) (n : Namespace) (b : B) → is_bound (bound_as p m x n (Some b)) m x ≡ true
set_bound p m x Types b = rw (module-refl m, name-refl x) refl
set_bound p m x Values b = rw (module-refl m, name-refl x) (or-self (is_some (p m x Types)) true refl)
set_bound p m x Macros b = rw (module-refl m, name-refl x) (or-self (is_some (p m x Types)) _ (or-self (is_some (p m x Values)) true refl))

-- what is left bound was bound
left_bound : {B : Type 0} (p : ModuleId → Name → Namespace → Option B) (m : ModuleId) (x : Name) (n : Namespace) → is_bound (bound_as p m x n None) m x ≡ true → is_bound p m x ≡ true
left_bound p m x n h = each (p m x Types) (p m x Values) (p m x Macros) (is_namespace n Types) (is_namespace n Values) (is_namespace n Macros) (rw (module-refl m, name-refl x) at h)
  where
    each : {B : Type 0} (a b c : Option B) (s t u : Bool) → (is_some (cond s None a) || (is_some (cond t None b) || is_some (cond u None c))) ≡ true → (is_some a || (is_some b || is_some c)) ≡ true
    each (Some a) b c s t u h = refl
    each None (Some b) c s t u h = refl
    each None None (Some c) s t u h = refl
    each None None None true true true h = h
    each None None None true true false h = h
    each None None None true false true h = h
    each None None None true false false h = h
    each None None None false true true h = h
    each None None None false true false h = h
    each None None None false false true h = h
    each None None None false false false h = h

with_name-here : (ks : List Name) (x : Name) → is_listed (with_name ks x) x ≡ true
with_name-here ks x =
    elim (cases_Bool (is_listed ks x)) [
      | inl h ↦ ap (λ b. is_listed (cond b ks (ks ++ x ∷ [])) x) h ∙ h
      | inr h ↦ ap (λ b. is_listed (cond b ks (ks ++ x ∷ [])) x) h ∙ listed-push ks x x ∙ or-self (is_listed ks x) (is_name x x) (name-refl x)
    ]

with_name-apart : (ks : List Name) (x y : Name) → is_name x y ≡ false → is_listed (with_name ks x) y ≡ is_listed ks y
with_name-apart ks x y f =
    elim (cases_Bool (is_listed ks x)) [
      | inl h ↦ ap (λ b. is_listed (cond b ks (ks ++ x ∷ [])) y) h
      | inr h ↦ ap (λ b. is_listed (cond b ks (ks ++ x ∷ [])) y) h ∙ listed-push ks x y ∙ ap (λ b. is_listed ks y || b) (name-sym y x ∙ f) ∙ or-none (is_listed ks y)
    ]
  where
    or-none : (b : Bool) → (b || false) ≡ b
    or-none true = refl
    or-none false = refl

module _ {B : Type 0} (p : ModuleId → Name → Namespace → Option B) (l : ModuleId → List Name) (tied : AreTied p l) (m : ModuleId) (x : Name) (n : Namespace) where
  set_here : (b : B) (y : Name) → is_listed (listed_as l m (with_name (l m) x) m) y ≡ is_bound (bound_as p m x n (Some b)) m y
  set_here b y =
      ap (λ c. is_listed (cond c (with_name (l m) x) (l m)) y) (module-refl m) ∙
      elim (cases_name x y) [
        | inl f ↦ subst (λ z. is_listed (with_name (l m) x) z ≡ is_bound (bound_as p m x n (Some b)) m z) f.0 (with_name-here (l m) x ∙ sym (set_bound p m x n b))
        | inr f ↦ with_name-apart (l m) x y f ∙ tied m y ∙ rw (module-refl m, f) refl
      ]

  pub tied-set : (b : B) → AreTied (bound_as p m x n (Some b)) (listed_as l m (with_name (l m) x))
  tied-set b q y =
      elim (cases_module m q) [
        | inl e ↦ subst (λ z. is_listed (listed_as l m (with_name (l m) x) z) y ≡ is_bound (bound_as p m x n (Some b)) z y) e.0 (set_here b y)
        | inr e ↦ rw e (tied q y)
      ]

  remove_here : (y : Name) → is_listed (listed_as l m (cond (is_bound (bound_as p m x n None) m x) (l m) (without_name (l m) x)) m) y ≡ is_bound (bound_as p m x n None) m y
  remove_here y =
      let left = bound_as p m x n None in
      let there = is_bound left m x in
      ap (λ c. is_listed (cond c (cond there (l m) (without_name (l m) x)) (l m)) y) (module-refl m) ∙
      elim (cases_name x y) [
        | inl f ↦ subst (λ z. is_listed (cond there (l m) (without_name (l m) x)) z ≡ is_bound left m z) f.0 (elim (cases_Bool there) [
          | inl h ↦ ap (λ c. is_listed (cond c (l m) (without_name (l m) x)) x) h ∙ tied m x ∙ left_bound p m x n h ∙ sym h
          | inr h ↦ ap (λ c. is_listed (cond c (l m) (without_name (l m) x)) x) h ∙ listed-without (l m) x x ∙ ap (λ c. not c && is_listed (l m) x) (name-refl x) ∙ sym h
        ])
        | inr f ↦ elim (cases_Bool there) [
          | inl h ↦ ap (λ c. is_listed (cond c (l m) (without_name (l m) x)) y) h ∙ tied m y ∙ rw (module-refl m, f) refl
          | inr h ↦ ap (λ c. is_listed (cond c (l m) (without_name (l m) x)) y) h ∙ listed-without (l m) x y ∙ ap (λ c. not c && is_listed (l m) y) f ∙ tied m y ∙ rw (module-refl m, f) refl
        ]
      ]

  pub tied-remove : AreTied (bound_as p m x n None) (listed_as l m (cond (is_bound (bound_as p m x n None) m x) (l m) (without_name (l m) x)))
  tied-remove q y =
      elim (cases_module m q) [
        | inl e ↦ subst (λ z. is_listed (listed_as l m (cond (is_bound (bound_as p m x n None) m x) (l m) (without_name (l m) x)) z) y ≡ is_bound (bound_as p m x n None) z y) e.0 (remove_here y)
        | inr e ↦ rw e (tied q y)
      ]

pub tied-same : {B : Type 0} (p p' : ModuleId → Name → Namespace → Option B) (l l' : ModuleId → List Name) → p' ≡ p → l' ≡ l → AreTied p l → AreTied p' l'
tied-same p p' l l' e f tied q y = ap (λ k. is_listed (k q) y) f ∙ tied q y ∙ ap (λ k. is_bound k q y) (sym e)

-- other lists with the same names
pub listed-same : {B : Type 0} (found : ModuleId → Name → Option B) (l l' : ModuleId → List Name) → l' ≡ l → AreListed found l → AreListed found l'
listed-same found l l' e listed m x = ap (λ k. is_listed (k m) x) e ∙ listed m x

pub content-parts : {V : Type 0} (c : Content V) (p p' : ModuleId → Name → Namespace → Option (Binding V)) (l l' : ModuleId → List Name) → p ≡ p' → l ≡ l'
    → record c { binding = p; names = l } ≡ record c { binding = p'; names = l' }
content-parts c p p' l l' e f = λ i. record c { binding = e i; names = f i }

module _ {B : Type 0} (p p' : ModuleId → Name → Namespace → Option B) (l : ModuleId → List Name) (tied : AreTied p l) (m : ModuleId) (x : Name) (n : Namespace) where
  -- a binding taken out: its name loses its place with the last one
  pub numbered-left : (l' : ModuleId → List Name) (stays : Bool) → p' ≡ bound_as p m x n None → stays ≡ is_bound p' m x → l' ≡ listed_as l m (cond stays (l m) (without_name (l m) x))
      → (l' ≡ listed_as l m (cond (is_bound (bound_as p m x n None) m x) (l m) (without_name (l m) x))) × AreTied p' l'
  numbered-left l' stays left is listed =
      let names = listed ∙ ap (λ c. listed_as l m (cond c (l m) (without_name (l m) x))) (is ∙ ap (λ f. is_bound f m x) left) in
      (names, tied-same _ _ _ _ left names (tied-remove p l tied m x n))

-- a binding is put at one name, and names and bindings stay tied
module _ {V : Type 0} (old new : ModuleId → Name → Namespace → Option (Binding V)) (l l' : ModuleId → List Name) (tied : AreTied old l) (m : ModuleId) (x : Name) (n : Namespace) (apart : ChangesAt old new m x) where
  pub put-whole : (c : Content V) (b : Binding V) (known wrote over : Bool) → known ≡ is_bound old m x → wrote ≡ (over || is_none (old m x n)) → new m x ≡ written_in (old m x) n (if_vacant wrote b)
      → l' ≡ cond known l (listed_as l m (l m ++ x ∷ []))
      → (record c { binding = new; names = l' } ≡ written (record c { binding = old; names = l }) m (Named x n) (if_vacant wrote b)) × AreTied new l'
  put-whole c b known true over bound vacant here listed =
      let set = changed-whole old new m x n (Some b) apart here in
      let names : l' ≡ listed_as l m (with_name (l m) x) = listed ∙ either known ∙ ap (λ k. listed_as l m (cond k (l m) (l m ++ x ∷ []))) (bound ∙ sym (tied m x)) in
      (content-parts c _ _ _ _ set names, tied-same _ _ _ _ set names (tied-set old l tied m x n b))
    where
      either : (k : Bool) → cond k l (listed_as l m (l m ++ x ∷ [])) ≡ listed_as l m (cond k (l m) (l m ++ x ∷ []))
      either true = sym (listed_as-same l m)
      either false = refl
  put-whole c b known false over bound vacant here listed =
      let same = unchanged-whole old new m x apart here in
      let there : known ≡ true = bound ∙ bound-in (old m x) n (neither over (is_none (old m x n)) (sym vacant)) in
      let names : l' ≡ l = listed ∙ ap (λ k. cond k l (listed_as l m (l m ++ x ∷ []))) there in
      (content-parts c _ _ _ _ same names, tied-same _ _ _ _ same names tied)
    where
      neither : (p q : Bool) → (p || q) ≡ false → q ≡ false
      neither true q h = cc
      neither false q h = h

  -- a refused put changes nothing
  pub kept-whole : (c : Content V) → new m x ≡ old m x → l' ≡ l → (record c { binding = new; names = l' } ≡ record c { binding = old; names = l }) × AreTied new l'
  kept-whole c here names =
      let same = unchanged-whole old new m x apart here in
      (content-parts c _ _ _ _ same names, tied-same _ _ _ _ same names tied)

  -- a binding is taken out, and with the last one the name
  pub taken-whole : (c : Content V) (stays : Bool) → stays ≡ is_bound new m x → new m x ≡ with_namespace (old m x) n None → l' ≡ cond stays l (listed_as l m (without_name (l m) x))
      → (record c { binding = new; names = l' } ≡ without_binding (record c { binding = old; names = l }) m x n) × AreTied new l'
  taken-whole c stays bound here listed =
      let left = changed-whole old new m x n None apart here in
      let names = numbered-left old new l tied m x n l' stays left bound (listed ∙ either stays) in
      (content-parts c _ _ _ _ left names.0, names.1)
    where
      either : (k : Bool) → cond k l (listed_as l m (without_name (l m) x)) ≡ listed_as l m (cond k (l m) (without_name (l m) x))
      either true = sym (listed_as-same l m)
      either false = refl

-- what a put answers, at a name that is found as it says
module _ {V : Type 0} (old new : ModuleId → Name → Namespace → Option (Binding V)) (l l' : ModuleId → List Name) (tied : AreTied old l) (m : ModuleId) (x : Name) (n : Namespace) (apart : ChangesAt old new m x) where
  put-answered : (c : Content V) (b : Binding V) (over known : Bool) (was now : Namespace → Option (Binding V)) → old m x ≡ was → new m x ≡ now → known ≡ is_bound old m x
      → (r : Result Bool AllocError) → IfOk r (λ wrote. wrote ≡ (over || is_none (was n))) → IfOk r (λ wrote. now ≡ written_in was n (if_vacant wrote b))
      → OnOk r (l' ≡ cond known l (listed_as l m (l m ++ x ∷ []))) → OnErr r ((now ≡ was) × (l' ≡ l))
      → IfOk r (λ wrote. (wrote ≡ (over || is_none (old m x n))) × (record c { binding = new; names = l' } ≡ written (record c { binding = old; names = l }) m (Named x n) (if_vacant wrote b)))
      × OnErr r (record c { binding = new; names = l' } ≡ record c { binding = old; names = l }) × AreTied new l'
  put-answered c b over known was now before after bound (Ok wrote) vacant done listed refused =
      let is : wrote ≡ (over || is_none (old m x n)) = vacant ∙ ap (λ f. over || is_none (f n)) (sym before) in
      let put = put-whole old new l l' tied m x n apart c b known wrote over bound is (after ∙ done ∙ ap (λ f. written_in f n (if_vacant wrote b)) (sym before)) listed in
      ((is, put.0), refused, put.1)
  put-answered c b over known was now before after bound (Err e) vacant done listed refused =
      let kept = kept-whole old new l l' tied m x n apart c (after ∙ refused.0 ∙ sym before) refused.1 in
      (vacant, kept.0, kept.1)

-- a put at a name of the map's own modules
pub put-own : {V K : Type 0} (meaning : MapId → K → V) (map : MapId) (own own' : List (OwnPlace × BoundName V K)) (others : List (Placed Name × BoundName V K)) (m : ModuleId) (x : Name) (n : Namespace) (l l' : ModuleId → List Name)
    → AreListed (name_of map own others) l → is_same_map m.map map ≡ true
    → ((q : OwnPlace) → is_own_place (own_at m.index x) q ≡ false → get is_own_place own' q ≡ get is_own_place own q)
    → (c : Content V) (b : Binding V) (over : Bool) (r : Result Bool AllocError)
    → IfOk r (λ wrote. wrote ≡ (over || is_none (meaning_of meaning map (get is_own_place own (own_at m.index x)) n)))
    → IfOk r (λ wrote. meaning_of meaning map (get is_own_place own' (own_at m.index x)) ≡ written_in (meaning_of meaning map (get is_own_place own (own_at m.index x))) n (if_vacant wrote b))
    → OnOk r (l' ≡ cond (is_some (get is_own_place own (own_at m.index x))) l (listed_as l m (l m ++ x ∷ [])))
    → OnErr r ((meaning_of meaning map (get is_own_place own' (own_at m.index x)) ≡ meaning_of meaning map (get is_own_place own (own_at m.index x))) × (l' ≡ l))
    → IfOk r (λ wrote. (wrote ≡ (over || is_none (bindings_of meaning map own others m x n)))
    × (record c { binding = bindings_of meaning map own' others; names = l' } ≡ written (record c { binding = bindings_of meaning map own others; names = l }) m (Named x n) (if_vacant wrote b)))
    × OnErr r (record c { binding = bindings_of meaning map own' others; names = l' } ≡ record c { binding = bindings_of meaning map own others; names = l }) × AreListed (name_of map own' others) l'
put-own meaning map own own' others m x n l l' listed is apart c b over r wrote done names refused =
    let before = ap (meaning_of meaning map) (own-here meaning map own own' others others m x is) in
    let put = put-answered (bindings_of meaning map own others) (bindings_of meaning map own' others) l l' (listed-tied meaning map own others l listed) m x n (own-changed meaning map own own' others others m x is apart) c b over
    (is_some (get is_own_place own (own_at m.index x))) _ _ before (ap (meaning_of meaning map) (own-here meaning map own' own others others m x is)) (known-bound meaning map _ (bindings_of meaning map own others m x) before) r wrote done names refused in
    (put.0, put.1, tied-listed meaning map own' others l' put.2)

-- a put at a name of another module
pub put-other : {V K : Type 0} (meaning : MapId → K → V) (map : MapId) (own : List (OwnPlace × BoundName V K)) (others others' : List (Placed Name × BoundName V K)) (m : ModuleId) (x : Name) (n : Namespace) (l l' : ModuleId → List Name)
    → AreListed (name_of map own others) l → is_same_map m.map map ≡ false
    → ((q : Placed Name) → is_placed is_name (placed_at m x) q ≡ false → get (is_placed is_name) others' q ≡ get (is_placed is_name) others q)
    → (c : Content V) (b : Binding V) (over : Bool) (r : Result Bool AllocError)
    → IfOk r (λ wrote. wrote ≡ (over || is_none (meaning_of meaning map (get (is_placed is_name) others (placed_at m x)) n)))
    → IfOk r (λ wrote. meaning_of meaning map (get (is_placed is_name) others' (placed_at m x)) ≡ written_in (meaning_of meaning map (get (is_placed is_name) others (placed_at m x))) n (if_vacant wrote b))
    → OnOk r (l' ≡ cond (is_some (get (is_placed is_name) others (placed_at m x))) l (listed_as l m (l m ++ x ∷ [])))
    → OnErr r ((meaning_of meaning map (get (is_placed is_name) others' (placed_at m x)) ≡ meaning_of meaning map (get (is_placed is_name) others (placed_at m x))) × (l' ≡ l))
    → IfOk r (λ wrote. (wrote ≡ (over || is_none (bindings_of meaning map own others m x n)))
    × (record c { binding = bindings_of meaning map own others'; names = l' } ≡ written (record c { binding = bindings_of meaning map own others; names = l }) m (Named x n) (if_vacant wrote b)))
    × OnErr r (record c { binding = bindings_of meaning map own others'; names = l' } ≡ record c { binding = bindings_of meaning map own others; names = l }) × AreListed (name_of map own others') l'
put-other meaning map own others others' m x n l l' listed is apart c b over r wrote done names refused =
    let before = ap (meaning_of meaning map) (other-here meaning map own own others others' m x is) in
    let put = put-answered (bindings_of meaning map own others) (bindings_of meaning map own others') l l' (listed-tied meaning map own others l listed) m x n (other-changed meaning map own own others others' m x is apart) c b over
    (is_some (get (is_placed is_name) others (placed_at m x))) _ _ before (ap (meaning_of meaning map) (other-here meaning map own own others' others m x is)) (known-bound meaning map _ (bindings_of meaning map own others m x) before) r wrote done names refused in
    (put.0, put.1, tied-listed meaning map own others' l' put.2)

-- a binding is taken out at a name of the map's own modules
pub taken-own : {V K : Type 0} (meaning : MapId → K → V) (map : MapId) (own own' : List (OwnPlace × BoundName V K)) (others : List (Placed Name × BoundName V K)) (m : ModuleId) (x : Name) (n : Namespace) (l l' : ModuleId → List Name)
    → AreListed (name_of map own others) l → is_same_map m.map map ≡ true
    → ((q : OwnPlace) → is_own_place (own_at m.index x) q ≡ false → get is_own_place own' q ≡ get is_own_place own q)
    → (c : Content V) → meaning_of meaning map (get is_own_place own' (own_at m.index x)) ≡ with_namespace (meaning_of meaning map (get is_own_place own (own_at m.index x))) n None
    → l' ≡ cond (is_some (get is_own_place own' (own_at m.index x))) l (listed_as l m (without_name (l m) x))
    → (record c { binding = bindings_of meaning map own' others; names = l' } ≡ without_binding (record c { binding = bindings_of meaning map own others; names = l }) m x n) × AreListed (name_of map own' others) l'
taken-own meaning map own own' others m x n l l' listed is apart c left names =
    let after = ap (meaning_of meaning map) (own-here meaning map own' own others others m x is) in
    let taken = taken-whole (bindings_of meaning map own others) (bindings_of meaning map own' others) l l' (listed-tied meaning map own others l listed) m x n (own-changed meaning map own own' others others m x is apart) c
    (is_some (get is_own_place own' (own_at m.index x))) (known-bound meaning map _ (bindings_of meaning map own' others m x) after)
    (after ∙ left ∙ ap (λ o. with_namespace (meaning_of meaning map o) n None) (sym (own-here meaning map own own' others others m x is))) names in
    (taken.0, tied-listed meaning map own' others l' taken.1)

-- and at one of another module
pub taken-other : {V K : Type 0} (meaning : MapId → K → V) (map : MapId) (own : List (OwnPlace × BoundName V K)) (others others' : List (Placed Name × BoundName V K)) (m : ModuleId) (x : Name) (n : Namespace) (l l' : ModuleId → List Name)
    → AreListed (name_of map own others) l → is_same_map m.map map ≡ false
    → ((q : Placed Name) → is_placed is_name (placed_at m x) q ≡ false → get (is_placed is_name) others' q ≡ get (is_placed is_name) others q)
    → (c : Content V) → meaning_of meaning map (get (is_placed is_name) others' (placed_at m x)) ≡ with_namespace (meaning_of meaning map (get (is_placed is_name) others (placed_at m x))) n None
    → l' ≡ cond (is_some (get (is_placed is_name) others' (placed_at m x))) l (listed_as l m (without_name (l m) x))
    → (record c { binding = bindings_of meaning map own others'; names = l' } ≡ without_binding (record c { binding = bindings_of meaning map own others; names = l }) m x n) × AreListed (name_of map own others') l'
taken-other meaning map own others others' m x n l l' listed is apart c left names =
    let after = ap (meaning_of meaning map) (other-here meaning map own own others' others m x is) in
    let taken = taken-whole (bindings_of meaning map own others) (bindings_of meaning map own others') l l' (listed-tied meaning map own others l listed) m x n (other-changed meaning map own own others others' m x is apart) c
    (is_some (get (is_placed is_name) others' (placed_at m x))) (known-bound meaning map _ (bindings_of meaning map own others' m x) after)
    (after ∙ left ∙ ap (λ o. with_namespace (meaning_of meaning map o) n None) (sym (other-here meaning map own own others others' m x is))) names in
    (taken.0, tied-listed meaning map own others' l' taken.1)

pub bindings-empty : {V K : Type 0} (meaning : MapId → K → V) (map : MapId) (own : List (OwnPlace × BoundName V K)) (others : List (Placed Name × BoundName V K)) → own ≡ [] → others ≡ [] → bindings_of meaning map own others ≡ (λ m x n. None)
bindings-empty meaning map own others e f = λ i m x n. at m x n i
  where
    at : (m : ModuleId) (x : Name) (n : Namespace) → bindings_of meaning map own others m x n ≡ None
    at m x n = elim (cases_Bool (is_same_map m.map map)) [ inl k ↦ rw (k, e) refl | inr k ↦ rw (k, f) refl ]

pub content-none : {V : Type 0} (p : ModuleId → Name → Namespace → Option (Binding V)) (l : ModuleId → List Name) (u : ModuleId → List (TraitId × V)) (d : ModuleId → List (ModuleId × Link V))
    → p ≡ (λ m x n. None) → l ≡ (λ m. []) → u ≡ (λ m. []) → d ≡ (λ m. []) → record { binding = p; names = l; unnamed = u; edges = λ m. map edge_of (d m) } ≡ empty
content-none p l u d e f g h = λ i. record { binding = e i; names = f i; unnamed = g i; edges = λ m. map edge_of (h i m) }

-- edges by source, after one is set
pub edges-set : {V : Type 0} (old new : ModuleId → List (ModuleId × Link V)) (m : ModuleId) (e : EdgeTo V) → IsDistinct is_same_module (keys_of (old m))
    → new ≡ listed_as old m (insert_entry is_same_module (old m) e.importer (link_of e))
    → (λ q. map edge_of (new q)) ≡ listed_as (λ q. map edge_of (old q)) m (replaced (map edge_of (old m)) e)
edges-set old new m e distinct set = λ i q. one q i
  where
    one : (q : ModuleId) → map edge_of (new q) ≡ listed_as (λ q. map edge_of (old q)) m (replaced (map edge_of (old m)) e) q
    one q = ap (λ f. map edge_of (f q)) set ∙ elim (cases_module m q) [
      | inl k ↦ rw k.1 (edges-insert_entry (old m) e distinct)
      | inr k ↦ rw k refl
    ]

pub content-edges : {V : Type 0} (c : Content V) (f g : ModuleId → List (EdgeTo V)) → f ≡ g → record c { edges = f } ≡ record c { edges = g }
content-edges c f g e = λ i. record c { edges = e i }

pub content-unnamed : {V : Type 0} (c : Content V) (f g : ModuleId → List (TraitId × V)) → f ≡ g → record c { unnamed = f } ≡ record c { unnamed = g }
content-unnamed c f g e = λ i. record c { unnamed = e i }

-- a source and an edge from their parts
abbrev as_edge : {V : Type 0} → ModuleId × ModuleId × Link V → ModuleId × EdgeTo V
as_edge t = (t.0, edge_of (t.1, t.2))

as_edges : {V : Type 0} (x : Option (Placed ModuleId × Link V)) → option_map as_edge (option_map (λ e. (e.0.at, e.0.key, e.1)) x) ≡ option_map (λ e. (e.0.at, edge_of (e.0.key, e.1))) x
as_edges None = refl
as_edges (Some e) = refl

-- an edge by its number among all
pub edge_numbered : {V : Type 0} (es : List (Placed ModuleId × Link V)) (n : ℕ) (found : Option (ModuleId × ModuleId × Link V)) → found ≡ option_map (λ e. (e.0.at, e.0.key, e.1)) (slice_get es n)
    → option_map as_edge found ≡ slice_get (map (λ e. (e.0.at, edge_of (e.0.key, e.1))) es) n
edge_numbered es n found h = ap (option_map as_edge) h ∙ as_edges (slice_get es n) ∙ sym (slice_get-map (λ e. (e.0.at, edge_of (e.0.key, e.1))) es n)
