use Rattle.std.proofs.Common.{ap, sym, ◌∙◌}
use Rattle.std.specs.Map.{keys_of}
use Rattle.def_tables.specs.Numbers.{numbers_from}
use Rattle.def_tables.proofs.keyed.Keyed.new.Goals as goal

pub invariant_of-result : goal.invariant_of-result
invariant_of-result g c =
    record { numbered = λ m. ap (λ l. l m) c.new-2.ensures ∙ sym (ap (λ es. numbers_from m 0 (keys_of es)) c.new.ensures.empty) }
