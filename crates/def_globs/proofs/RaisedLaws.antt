-- What the clauses of an update and of an added edge give together.
use Rattle.std.specs.Prelude.{◌≡◌, Bool, false, List}
use Rattle.std.proofs.Common.{sym, ap, ◌∙◌, subst}
use Rattle.def_ids.specs.declared.ids.ModuleId.{ModuleId}
use Rattle.def_bindings.specs.declared.bindings.EdgeTo.{EdgeTo}
use Rattle.def_bindings.specs.declared.bindings.Entry.{Entry}
use Rattle.def_bindings.specs.declared.bindings.Slot.{Slot}
use Rattle.def_bindings.specs.Order.{Order}
use Rattle.def_bindings.specs.Content.{Content}
use Rattle.def_bindings.specs.Puts.{held}
use Rattle.def_bindings.specs.Closure.{IsClosed}
use Rattle.def_globs.specs.Raised.{IsRaised, IsRaisedAt, KeepsDef, KeepsDefs, HasOneDef, KeepsRaised, KeepsRaisedWith, ListsCarried, RaisesTo}

module _ {V : Type 0} (o : Order V) (at : ModuleId) (list : List (Entry V)) (old new : Content V) (kept : KeepsRaised o at list old new) where
  -- where all places keep their definitions, all stay raised
  pub raised_updated : (left_out : ModuleId → Bool) → IsClosed o left_out old
      → ((importer : ModuleId) (slot : Slot) → left_out importer ≡ false → KeepsDef old new importer slot)
      → ((slot : Slot) → left_out at ≡ false → KeepsDefs o at list old slot)
      → IsRaised o left_out old → IsRaised o left_out new
  raised_updated left_out closed keeps one raised importer slot left =
      kept left_out closed importer slot left (keeps importer slot left) (λ is. one slot (ap left_out (sym is) ∙ left)) (raised importer slot left)

  -- a glob is recorded: a place that keeps its definition stays raised, where the target's binding stays
  pub raised_recorded : (target : ModuleId) (edge : EdgeTo V) (last : Content V) → edge.importer ≡ at
      → RaisesTo o at list old new → KeepsRaisedWith o target edge new last
      → (left_out : ModuleId → Bool) → IsClosed o left_out old → (importer : ModuleId) (slot : Slot) → left_out importer ≡ false
      → KeepsDef old new importer slot → KeepsDefs o at list old slot → HasOneDef list slot → ListsCarried o list old target edge slot → held new target slot ≡ held old target slot
      → IsRaisedAt o old importer slot → IsRaisedAt o last importer slot
  raised_recorded target edge last to raises added left_out closed importer slot left keeps steps one listed stays raised =
      added importer slot
      (λ is. raises target edge slot to listed one (subst (λ m. KeepsDef old new m slot) (sym is ∙ to) keeps) stays)
      (kept left_out closed importer slot left keeps (λ _. steps) raised)
