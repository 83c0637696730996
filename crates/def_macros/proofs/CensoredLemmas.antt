-- How a module is censored step by step.
use Rattle.std.proofs.Common.{◌≡◌, ◌∙◌, ◌+◌, ℕ, zero, suc, Bool, true, false, cond, ◌&&◌, ◌||◌, List, [], ◌∷◌, map, length, drop, Option, Some, None, option_map, refl, sym, ap, subst, inl, inr, add-one}
use Rattle.std.specs.Prelude.{slice_get, is_some}
use Rattle.std.specs.Cmp.{nat_eq_equiv}
use Rattle.std.specs.List.{AllByRecursion, IsDistinct}
use Rattle.std.specs.Map.{keys_of}
use Rattle.std.proofs.lemmas.Bool.{cases_Bool}
use Rattle.indexmap.specs.IndexMap.{insert_entry}
use Rattle.tree_ids.specs.declared.name.Name.{Name}
use Rattle.def_ids.specs.declared.ids.ModuleId.{ModuleId}
use Rattle.def_ids.specs.declared.ids.TraitId.{TraitId}
use Rattle.def_ids.specs.Ids.{is_same_module}
use Rattle.def_bindings.specs.declared.bindings.Binding.{Binding}
use Rattle.def_bindings.specs.declared.bindings.Namespace.{Namespace}
use Rattle.def_bindings.specs.declared.bindings.Namespace.TheVariants.{Macros, Types, Values}
use Rattle.def_bindings.specs.declared.visibility.Visibility.{Visibility}
use Rattle.def_bindings.specs.declared.visibility.Visibility.TheVariants.{Module, PubCrate, Public}
use Rattle.def_bindings.specs.Content.{AreTied, Content, is_bound, is_listed, is_name, is_namespace, is_trait, with_binding, with_unnamed}
use Rattle.def_bindings.specs.IdLaws.{both, cases_module, module-refl, name-eq, name-sym, namespace-eq, same_module_equal, trait-refl}
use Rattle.def_tables.proofs.ContentLemmas.{content_ext}
use Rattle.def_rules.specs.ProcMacros.{censored_binding, crate_only, is_declared_macro}
use Rattle.def_steps.proofs.GatherLemmas.{from_index, past_index}
use Rattle.def_macros.specs.Censored.{ListsOnce, censored_name, censored_names, censored_place, censored_trait, censored_traits, censored_where, with_censored_at, with_traits}

-- Bindings

abbrev Held : Type 0
Held = Option (Binding Visibility)

-- what is censored stays so
crate_only_twice : (vis : Visibility) → crate_only (crate_only vis) ≡ crate_only vis
crate_only_twice (Module m) = refl
crate_only_twice PubCrate = refl
crate_only_twice Public = refl

binding_twice : (b : Binding Visibility) → censored_binding (censored_binding b) ≡ censored_binding b
binding_twice b = by (is_declared_macro b) refl
  where
    by : (spared : Bool) → is_declared_macro b ≡ spared → censored_binding (censored_binding b) ≡ censored_binding b
    by true is = let once : censored_binding b ≡ b = ap (λ d. cond d b (record b { vis = crate_only b.vis })) is in ap censored_binding once
    by false is =
        let r : Binding Visibility = record b { vis = crate_only b.vis } in
        let once : censored_binding b ≡ r = ap (λ d. cond d b r) is in
        let again : censored_binding r ≡ record r { vis = crate_only r.vis } = ap (λ d. cond d r (record r { vis = crate_only r.vis })) is in
        ap censored_binding once ∙ again ∙ ap (λ v. record b { vis = v }) (crate_only_twice b.vis) ∙ sym once

twice : (o : Held) → option_map censored_binding (option_map censored_binding o) ≡ option_map censored_binding o
twice None = refl
twice (Some b) = ap (λ z. Some z) (binding_twice b)

-- two steps are one
joined_by : (here first second : Bool) (o : Held)
    → cond (here && second) (option_map censored_binding (cond (here && first) (option_map censored_binding o) o)) (cond (here && first) (option_map censored_binding o) o)
    ≡ cond (here && (second || first)) (option_map censored_binding o) o
joined_by false first second o = refl
joined_by true true true o = twice o
joined_by true false true o = refl
joined_by true true false o = refl
joined_by true false false o = refl

-- contents whose bindings agree
rebound : (c : Content Visibility) (f g : ModuleId → Name → Namespace → Held) → ((m : ModuleId) (x : Name) (n : Namespace) → f m x n ≡ g m x n) → record c { binding = f } ≡ record c { binding = g }
rebound c f g same = content_ext (record c { binding = f }) (record c { binding = g }) same (λ m. refl) (λ m. refl) (λ m. refl)

module _ (at : ModuleId) (c : Content Visibility) where
  pub joined : (first second whole : Name → Namespace → Bool) → ((x : Name) (n : Namespace) → (second x n || first x n) ≡ whole x n) → censored_where at second (censored_where at first c) ≡ censored_where at whole c
  joined first second whole both_are =
      rebound c (censored_where at second (censored_where at first c)).binding (censored_where at whole c).binding
      (λ m x n. joined_by (is_same_module at m) (first x n) (second x n) (c.binding m x n) ∙ ap (λ t. cond (is_same_module at m && t) (option_map censored_binding (c.binding m x n)) (c.binding m x n)) (both_are x n))

-- One place

module _ (at : ModuleId) (name : Name) (ns : Namespace) (c : Content Visibility) where
  -- a place that passes the test is this one
  moved : (m : ModuleId) (x : Name) (n : Namespace) → (is_same_module at m && (is_name name x && is_namespace ns n)) ≡ true → c.binding at name ns ≡ c.binding m x n
  moved m x n here =
      let p = both (is_same_module at m) (is_name name x && is_namespace ns n) here in
      let q = both (is_name name x) (is_namespace ns n) p.1 in
      ap (λ k. c.binding k name ns) (same_module_equal at m p.0) ∙ ap (λ k. c.binding m k ns) (name-eq name x q.0) ∙ ap (λ k. c.binding m x k) (namespace-eq ns n q.1)

  -- what is censored already stays
  pub place_stays : option_map censored_binding (c.binding at name ns) ≡ c.binding at name ns → c ≡ censored_place at name ns c
  place_stays same =
      rebound c c.binding (censored_place at name ns c).binding
      (λ m x n. elim (cases_Bool (is_same_module at m && (is_name name x && is_namespace ns n))) [
        | inl here ↦ rw here (sym (moved m x n here) ∙ sym same ∙ ap (option_map censored_binding) (moved m x n here))
        | inr apart ↦ rw apart refl
      ])

  pub place_empty : None ≡ c.binding at name ns → c ≡ censored_place at name ns c
  place_empty none = place_stays (ap (option_map censored_binding) (sym none) ∙ none)

  pub place_kept : (held : Binding Visibility) → Some held ≡ c.binding at name ns → censored_binding held ≡ held → c ≡ censored_place at name ns c
  place_kept held is same = place_stays (ap (option_map censored_binding) (sym is) ∙ ap (λ b. Some b) same ∙ is)

  -- the name of what is bound is listed
  or_true : (b : Bool) → (b || true) ≡ true
  or_true true = refl
  or_true false = refl

  bound_there : (k : Namespace) → is_some (c.binding at name k) ≡ true → is_bound c.binding at name ≡ true
  bound_there Types is = rw is refl
  bound_there Values is = rw is (or_true (is_some (c.binding at name Types)))
  bound_there Macros is = rw is (ap (λ b. is_some (c.binding at name Types) || b) (or_true (is_some (c.binding at name Values))) ∙ or_true (is_some (c.binding at name Types)))

  pub place_set : AreTied c.binding c.names → (held : Binding Visibility) → Some held ≡ c.binding at name ns → (b : Binding Visibility) → censored_binding held ≡ b → with_binding c at name ns b ≡ censored_place at name ns c
  place_set tied held is b becomes =
      let listed : is_listed (c.names at) name ≡ true = tied at name ∙ bound_there ns (ap (λ o. is_some o) (sym is)) in
      content_ext (with_binding c at name ns b) (censored_place at name ns c)
      (λ m x n. elim (cases_Bool (is_same_module at m && (is_name name x && is_namespace ns n))) [
        | inl here ↦ rw here (ap (λ z. Some z) (sym becomes) ∙ ap (option_map censored_binding) (is ∙ moved m x n here))
        | inr apart ↦ rw apart refl
      ])
      (λ m. elim (cases_module at m) [
        | inl e ↦ rw (e.1, listed) (ap c.names e.0)
        | inr apart ↦ rw apart refl
      ])
      (λ m. refl)
      (λ m. refl)

-- One name

three : (b : Bool) (n : Namespace) → ((b && is_namespace Macros n) || ((b && is_namespace Values n) || (b && is_namespace Types n))) ≡ b
three false n = refl
three true Types = refl
three true Values = refl
three true Macros = refl

pub name_whole : (at : ModuleId) (name : Name) (c : Content Visibility) → censored_place at name Macros (censored_place at name Values (censored_place at name Types c)) ≡ censored_name at name c
name_whole at name c =
    let types : Name → Namespace → Bool = λ x n. is_name name x && is_namespace Types n in
    let values : Name → Namespace → Bool = λ x n. is_name name x && is_namespace Values n in
    let macros : Name → Namespace → Bool = λ x n. is_name name x && is_namespace Macros n in
    ap (censored_where at macros) (joined at c types values (λ x n. values x n || types x n) (λ x n. refl))
    ∙ joined at c (λ x n. values x n || types x n) macros (λ x n. is_name name x) (λ x n. three (is_name name x) n)

-- All names

-- what the names from an index on stand for is censored
abbrev pub names_from : ModuleId → ℕ → Content Visibility → Content Visibility
names_from at index c = censored_where at (λ x n. is_listed (drop index (c.names at)) x) c

or_comm : (a b : Bool) → (a || b) ≡ (b || a)
or_comm true true = refl
or_comm true false = refl
or_comm false true = refl
or_comm false false = refl

module _ (at : ModuleId) (c : Content Visibility) (index : ℕ) where
  pub names_step : (name : Name) (new whole : Content Visibility) → Some name ≡ slice_get (c.names at) index → new ≡ censored_name at name c → names_from at index c ≡ whole → names_from at (index + 1) new ≡ whole
  names_step name new whole there is so_far =
      ap (names_from at (index + 1)) is
      ∙ joined at c (λ x n. is_name name x) (λ x n. is_listed (drop (index + 1) (c.names at)) x) (λ x n. is_listed (drop index (c.names at)) x)
      (λ x n.
      ap (λ k. is_listed (drop k (c.names at)) x || is_name name x) (add-one index)
      ∙ or_comm (is_listed (drop (suc index) (c.names at)) x) (is_name name x)
      ∙ ap (λ b. b || is_listed (drop (suc index) (c.names at)) x) (name-sym name x)
      ∙ ap (λ names. is_listed names x) (sym (from_index (c.names at) index name there)))
      ∙ so_far

  and_false : (b : Bool) → (b && false) ≡ false
  and_false true = refl
  and_false false = refl

  names_past : None ≡ slice_get (c.names at) index → c ≡ names_from at index c
  names_past past =
      rebound c c.binding (names_from at index c).binding
      (λ m x n. sym (
      ap (λ names. cond (is_same_module at m && is_listed names x) (option_map censored_binding (c.binding m x n)) (c.binding m x n)) (past_index (c.names at) index past)
      ∙ ap (λ b. cond b (option_map censored_binding (c.binding m x n)) (c.binding m x n)) (and_false (is_same_module at m))
      ))

-- what is bound has a name that is listed
module _ (at : ModuleId) (c : Content Visibility) (tied : AreTied c.binding c.names) where
  none_of : (a b d : Held) (n : Namespace) → (is_some a || (is_some b || is_some d)) ≡ false → (a ≡ None) × (b ≡ None) × (d ≡ None)
  none_of None None None n h = (refl, refl, refl)
  none_of (Some a) b d n h = cc
  none_of None (Some b) d n h = cc
  none_of None None (Some d) n h = cc

  unbound : (x : Name) (n : Namespace) → is_listed (c.names at) x ≡ false → c.binding at x n ≡ None
  unbound x n h = by n
    where
      all : (c.binding at x Types ≡ None) × (c.binding at x Values ≡ None) × (c.binding at x Macros ≡ None)
      all = none_of (c.binding at x Types) (c.binding at x Values) (c.binding at x Macros) n (sym (tied at x) ∙ h)

      by : (k : Namespace) → c.binding at x k ≡ None
      by Types = all.0
      by Values = all.1
      by Macros = all.2

  names_listed : names_from at 0 c ≡ censored_names at c
  names_listed =
      rebound c (names_from at 0 c).binding (censored_names at c).binding
      (λ m x n. elim (cases_module at m) [
        | inr apart ↦ rw apart refl
        | inl e ↦ elim (cases_Bool (is_listed (c.names at) x)) [
          | inl listed ↦ rw (e.1, listed) refl
          | inr unlisted ↦ rw (e.1, unlisted) (let none : c.binding m x n ≡ None = ap (λ k. c.binding k x n) (sym e.0) ∙ unbound x n unlisted in none ∙ ap (option_map censored_binding) (sym none))
        ]
      ])

pub names_all : (at : ModuleId) (c old : Content Visibility) (index : ℕ) → AreTied old.binding old.names → None ≡ slice_get (c.names at) index → names_from at index c ≡ names_from at 0 old → c ≡ censored_names at old
names_all at c old index tied past so_far = names_past at c index past ∙ so_far ∙ names_listed at old tied

-- Unnamed traits

abbrev Traits : Type 0
Traits = List (TraitId × Visibility)

-- those from an index on are censored
abbrev pub censored_from : ℕ → Traits → Traits
censored_from zero ts = map (λ t. (t.0, crate_only t.1)) ts
censored_from (suc i) [] = []
censored_from (suc i) (t ∷ ts) = t ∷ censored_from i ts

from_more : (i : ℕ) (ts : Traits) → censored_from (suc i) (with_censored_at i ts) ≡ censored_from i ts
from_more zero [] = refl
from_more zero (t ∷ ts) = refl
from_more (suc i) [] = refl
from_more (suc i) (t ∷ ts) = ap (λ l. t ∷ l) (from_more i ts)

from_end : (i : ℕ) (ts : Traits) → None ≡ slice_get ts i → ts ≡ censored_from i ts
from_end zero [] h = refl
from_end zero (t ∷ ts) h = cc
from_end (suc i) [] h = refl
from_end (suc i) (t ∷ ts) h = ap (λ l. t ∷ l) (from_end i ts h)

length_at : (i : ℕ) (ts : Traits) → length (with_censored_at i ts) ≡ length ts
length_at zero [] = refl
length_at zero (t ∷ ts) = refl
length_at (suc i) [] = refl
length_at (suc i) (t ∷ ts) = ap suc (length_at i ts)

stays_at : (i : ℕ) (ts : Traits) (held : TraitId × Visibility) → Some held ≡ slice_get ts i → crate_only held.1 ≡ held.1 → ts ≡ with_censored_at i ts
stays_at i [] held h same = refl
stays_at zero (t ∷ ts) held h same = let e : held ≡ t = cc in ap (λ v. (t.0, v) ∷ ts) (ap (λ (z : TraitId × Visibility). z.1) (sym e) ∙ sym same ∙ ap (λ (z : TraitId × Visibility). crate_only z.1) e)
stays_at (suc i) (t ∷ ts) held h same = ap (λ l. t ∷ l) (stays_at i ts held h same)

-- the traits stay where they are
keys_at : (i : ℕ) (ts : Traits) → keys_of (with_censored_at i ts) ≡ keys_of ts
keys_at zero [] = refl
keys_at zero (t ∷ ts) = refl
keys_at (suc i) [] = refl
keys_at (suc i) (t ∷ ts) = ap (λ l. t.0 ∷ l) (keys_at i ts)

-- what holds of each trait of a list holds of that at an index
each_at : (P : TraitId → Type 0) (i : ℕ) (ts : Traits) (held : TraitId × Visibility) → Some held ≡ slice_get ts i → AllByRecursion P (keys_of ts) → P held.0
each_at P i [] held h all = absurd (cc h)
each_at P zero (t ∷ ts) held h all = let e : held ≡ t = cc in subst (λ (z : TraitId × Visibility). P z.0) (sym e) all.0
each_at P (suc i) (t ∷ ts) held h all = each_at P i ts held h all.1

-- where each trait stands once, setting the one at an index changes that alone
set_at : (i : ℕ) (ts : Traits) (item : TraitId) → Some (item, Public) ≡ slice_get ts i → IsDistinct is_trait (keys_of ts) → insert_entry is_trait ts item PubCrate ≡ with_censored_at i ts
unfolding IsDistinct
set_at i [] item h once = absurd (cc h)
set_at zero (t ∷ ts) item h once =
    let held : TraitId × Visibility = (item, Public) in
    let e : held ≡ t = cc in
    let same : is_trait item t.0 ≡ true = ap (λ (z : TraitId × Visibility). is_trait item z.0) (sym e) ∙ trait-refl item in
    rw same (ap (λ v. (t.0, v) ∷ ts) (ap (λ (z : TraitId × Visibility). crate_only z.1) e))
set_at (suc i) (t ∷ ts) item h once =
    let apart : is_trait item t.0 ≡ false = nat_eq_equiv.symm item.0 t.0.0 ∙ each_at (λ y. is_trait t.0 y ≡ false) i ts (item, Public) h once.0 in
    rw apart (ap (λ l. t ∷ l) (set_at i ts item h once.1))

-- contents whose unnamed traits agree
retraited : (c : Content Visibility) (f g : ModuleId → Traits) → ((m : ModuleId) → f m ≡ g m) → record c { unnamed = f } ≡ record c { unnamed = g }
retraited c f g same = content_ext (record c { unnamed = f }) (record c { unnamed = g }) (λ m x n. refl) (λ m. refl) same (λ m. refl)

abbrev pub traits_from : ModuleId → ℕ → Content Visibility → Content Visibility
traits_from at index = with_traits at (censored_from index)

module _ (at : ModuleId) (c : Content Visibility) (index : ℕ) where
  pub trait_stays : (held : TraitId × Visibility) → Some held ≡ slice_get (c.unnamed at) index → crate_only held.1 ≡ held.1 → c ≡ censored_trait at index c
  trait_stays held there same =
      retraited c c.unnamed (censored_trait at index c).unnamed
      (λ m. elim (cases_module at m) [
        | inl e ↦ rw e.1 (stays_at index (c.unnamed m) held (there ∙ ap (λ k. slice_get (c.unnamed k) index) e.0) same)
        | inr apart ↦ rw apart refl
      ])

  pub trait_set : (held : TraitId × Visibility) → Some held ≡ slice_get (c.unnamed at) index → held.1 ≡ Public
      → ListsOnce c at → (new : Content Visibility) → new ≡ with_unnamed c at held.0 PubCrate → new ≡ censored_trait at index c
  trait_set held there public once new set =
      let ts = insert_entry is_trait (c.unnamed at) held.0 PubCrate in
      let there' : Some (held.0, Public) ≡ slice_get (c.unnamed at) index = ap (λ v. Some (held.0, v)) (sym public) ∙ there in
      let is : ts ≡ with_censored_at index (c.unnamed at) = set_at index (c.unnamed at) held.0 there' once in
      set ∙ retraited c (with_unnamed c at held.0 PubCrate).unnamed (censored_trait at index c).unnamed
      (λ m. elim (cases_module at m) [
        | inl e ↦ rw e.1 (is ∙ ap (λ k. with_censored_at index (c.unnamed k)) e.0)
        | inr apart ↦ rw apart refl
      ])

  pub traits_length : (new : Content Visibility) → new ≡ censored_trait at index c → length (new.unnamed at) ≡ length (c.unnamed at)
  traits_length new is =
      ap (λ (k : Content Visibility). length (k.unnamed at)) is
      ∙ ap (λ b. length (cond b (with_censored_at index (c.unnamed at)) (c.unnamed at))) (module-refl at)
      ∙ length_at index (c.unnamed at)

  pub traits_once : (new : Content Visibility) → new ≡ censored_trait at index c → ListsOnce c at → ListsOnce new at
  traits_once new is once =
      subst (IsDistinct is_trait)
      (sym (ap (λ (k : Content Visibility). keys_of (k.unnamed at)) is ∙ ap (λ b. keys_of (cond b (with_censored_at index (c.unnamed at)) (c.unnamed at))) (module-refl at) ∙ keys_at index (c.unnamed at))) once

  more_by : (here : Bool) (ts : Traits) → cond here (censored_from (index + 1) (cond here (with_censored_at index ts) ts)) (cond here (with_censored_at index ts) ts) ≡ cond here (censored_from index ts) ts
  more_by true ts = ap (λ k. censored_from k (with_censored_at index ts)) (add-one index) ∙ from_more index ts
  more_by false ts = refl

  pub traits_step : (new whole : Content Visibility) → new ≡ censored_trait at index c → traits_from at index c ≡ whole → traits_from at (index + 1) new ≡ whole
  traits_step new whole is so_far =
      ap (traits_from at (index + 1)) is
      ∙ retraited c (traits_from at (index + 1) (censored_trait at index c)).unnamed (traits_from at index c).unnamed (λ m. more_by (is_same_module at m) (c.unnamed m))
      ∙ so_far

  pub traits_all : (old : Content Visibility) → None ≡ slice_get (c.unnamed at) index → traits_from at index c ≡ traits_from at 0 old → c ≡ censored_traits at old
  traits_all old past so_far =
      retraited c c.unnamed (traits_from at index c).unnamed
      (λ m. elim (cases_module at m) [
        | inl e ↦ rw e.1 (from_end index (c.unnamed m) (past ∙ ap (λ k. slice_get (c.unnamed k) index) e.0))
        | inr apart ↦ rw apart refl
      ])
      ∙ so_far
