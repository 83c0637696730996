-- What is seen at once of what an import gives.
use Rattle.std.proofs.Common.{◌≡◌, Bool, true, false, not, ◌&&◌, Option, Some, None, ap, refl, sym, ◌∙◌}
use Rattle.def_bindings.specs.Content.{is_namespace}
use Rattle.def_bindings.specs.declared.bindings.Namespace.{Namespace}
use Rattle.def_bindings.specs.declared.bindings.Namespace.TheVariants.{Types, Values, Macros}
use Rattle.def_map.specs.Answers.{reached}
use Rattle.def_map.specs.PerNs.{Item, alone, per_namespace}
use Rattle.def_rules.specs.Imports.{given_set, is_extended, is_missing, is_ready}
use Rattle.def_rules.specs.State.{NsSet}

module _ (recorded : NsSet) where
  -- an import of a name that stands nowhere is not ready
  pub nothing-unready : (found : Namespace → Option Item) → (λ n. None) ≡ found → is_ready recorded (reached (per_namespace found) None false) ≡ false
  nothing-unready found is = ap (λ f. is_ready recorded (reached (per_namespace f) None false)) (sym is)

  none-more : (a b : Bool) → b ≡ false → (a && b) ≡ false
  none-more true b is = is
  none-more false b is = refl

  -- nor one of a name that stands in no namespace but those from which it was recorded
  pub known-unready : (found there : Namespace → Option Item) (given : NsSet) (extends : Bool) → found ≡ there → given ≡ given_set (per_namespace found) → extends ≡ is_extended recorded given → extends ≡ false
      → is_ready recorded (reached (per_namespace there) None false) ≡ false
  known-unready found there given extends same gives asks none =
      none-more (not (is_missing (reached (per_namespace there) None false))) (is_extended recorded (given_set (per_namespace there)))
      (ap (λ f. is_extended recorded (given_set (per_namespace f))) (sym same) ∙ ap (is_extended recorded) (sym gives) ∙ sym asks ∙ none)

-- a name that stands in one namespace, and not there, stands nowhere
nowhere : (found : Namespace → Option Item) (ns : Namespace) → ((n : Namespace) → is_namespace ns n ≡ false → found n ≡ None) → None ≡ found ns → (n : Namespace) → None ≡ found n
nowhere found Types none is Types = is
nowhere found Types none is Values = sym (none Values refl)
nowhere found Types none is Macros = sym (none Macros refl)
nowhere found Values none is Types = sym (none Types refl)
nowhere found Values none is Values = is
nowhere found Values none is Macros = sym (none Macros refl)
nowhere found Macros none is Types = sym (none Types refl)
nowhere found Macros none is Values = sym (none Values refl)
nowhere found Macros none is Macros = is

-- so an import that leads to it is not ready
pub nowhere-unready : (recorded : NsSet) (found : Namespace → Option Item) (ns : Namespace) → ((n : Namespace) → is_namespace ns n ≡ false → found n ≡ None) → None ≡ found ns → is_ready recorded (reached (per_namespace found) None false) ≡ false
nowhere-unready recorded found ns none is = nothing-unready recorded found (λ i n. nowhere found ns none is n i)

-- a name that stands in one namespace gives what it is there
pub given-alone : (found : Namespace → Option Item) (ns : Namespace) (item : Item) → ((n : Namespace) → is_namespace ns n ≡ false → found n ≡ None) → Some item ≡ found ns → per_namespace found ≡ alone ns item
given-alone found Types item none is = λ i. record { types = sym is i; values = none Values refl i; macros = none Macros refl i }
given-alone found Values item none is = λ i. record { types = none Types refl i; values = sym is i; macros = none Macros refl i }
given-alone found Macros item none is = λ i. record { types = none Types refl i; values = none Values refl i; macros = sym is i }
