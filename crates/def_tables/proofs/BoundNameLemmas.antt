-- Names that are kept small.
use Rattle.std.proofs.Common.{◌≡◌, Bool, true, false, cond, Option, None, refl, ap}
use Rattle.def_bindings.specs.declared.bindings.Namespace.{Namespace}
use Rattle.def_bindings.specs.declared.bindings.Namespace.TheVariants.{Types, Values, Macros}
use Rattle.def_bindings.specs.declared.bindings.Binding.{Binding}
use Rattle.def_bindings.specs.declared.name_bindings.NameBindings.{NameBindings}
use Rattle.def_bindings.specs.Content.{is_namespace}
use Rattle.def_bindings.specs.NameBindings.{bound_in, with_bound, unbound}
use Rattle.def_tables.specs.BoundName.{with_namespace}
use Rattle.def_bindings.specs.IdLaws.{namespace-eq}

module _ {V : Type 0} where
  -- a record of three changed in one namespace
  pub bound_in-with : (s : NameBindings V) (n : Namespace) (b : Option (Binding V)) → bound_in (with_bound s n b) ≡ with_namespace (bound_in s) n b
  bound_in-with s n b = λ i k. at n k i
    where
      at : (n k : Namespace) → bound_in (with_bound s n b) k ≡ with_namespace (bound_in s) n b k
      at Types Types = refl
      at Types Values = refl
      at Types Macros = refl
      at Values Types = refl
      at Values Values = refl
      at Values Macros = refl
      at Macros Types = refl
      at Macros Values = refl
      at Macros Macros = refl

  pub bound_in-unbound : bound_in {V = V} unbound ≡ (λ n. None)
  bound_in-unbound = λ i k. at k i
    where
      at : (k : Namespace) → bound_in {V = V} unbound k ≡ None
      at Types = refl
      at Values = refl
      at Macros = refl

  -- each namespace by itself
  pub bound_in-each : (s : NameBindings V) (f : Namespace → Option (Binding V)) → s.types ≡ f Types → s.values ≡ f Values → s.macros ≡ f Macros → bound_in s ≡ f
  bound_in-each s f types values macros = λ i k. at k i
    where
      at : (k : Namespace) → bound_in s k ≡ f k
      at Types = types
      at Values = values
      at Macros = macros

  -- what is written over what was written
  pub written-over : (f : Namespace → Option (Binding V)) (n : Namespace) (b : Option (Binding V)) → with_namespace (with_namespace f n None) n b ≡ with_namespace f n b
  written-over f n b = λ i k. at (is_namespace n k) (f k) i
    where
      at : (p : Bool) (o : Option (Binding V)) → cond p b (cond p None o) ≡ cond p b o
      at true o = refl
      at false o = refl

  -- taken out of its own, nothing is left
  pub alone-left : (own n : Namespace) (b : Option (Binding V)) → is_namespace own n ≡ true
      → with_namespace (λ k. cond (is_namespace own k) b None) n None ≡ (λ k. None)
  alone-left own n b same = λ i k. at k i
    where
      inner : (p q : Bool) → q ≡ p → cond p None (cond q b None) ≡ None
      inner true q h = refl
      inner false true h = cc
      inner false false h = refl

      at : (k : Namespace) → with_namespace (λ k. cond (is_namespace own k) b None) n None k ≡ None
      at k = inner (is_namespace n k) (is_namespace own k) (ap (λ m. is_namespace m k) (namespace-eq own n same))
