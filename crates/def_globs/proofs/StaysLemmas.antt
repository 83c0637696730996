-- What puts and copies leave standing.
use Rattle.std.proofs.Common.{List, refl, ◌∙◌}
use Rattle.def_ids.specs.declared.ids.ModuleId.{ModuleId}
use Rattle.def_ids.specs.declared.ids.Def.{Def}
use Rattle.def_bindings.specs.declared.bindings.EdgeTo.{EdgeTo}
use Rattle.def_bindings.specs.declared.bindings.Entry.{Entry}
use Rattle.def_bindings.specs.declared.bindings.Slot.{Slot}
use Rattle.def_bindings.specs.Order.{Order}
use Rattle.def_bindings.specs.Content.{Content}
use Rattle.def_bindings.specs.Puts.{put_entry, copied}
use Rattle.def_bindings.specs.PutsLaws.{explicit_stays-put_entry, bound_stays-put_entry, edges_stay-put_entry, explicit_stays-copied, bound_stays-copied, edges_stay-copied}
use Rattle.def_globs.specs.Waves.{Copies, none, more}
use Rattle.def_globs.specs.Globs.{Stays}

module _ {V : Type 0} where
  pub stays_still : (c : Content V) → Stays c c
  stays_still c = record { edges = refl; explicit = λ m name ns b there explicit. there; bound = λ m slot bound. bound }

  pub stays_then : (a b c : Content V) → Stays a b → Stays b c → Stays a c
  stays_then a b c first next = record {
    edges = next.edges ∙ first.edges;
    explicit = λ m name ns x there explicit. next.explicit m name ns x (first.explicit m name ns x there explicit) explicit;
    bound = λ m slot bound. next.bound m slot (first.bound m slot bound);
  }

  pub stays_put : (o : Order V) (at : ModuleId) (e : Entry V) (c : Content V) → Stays c (put_entry o at e c)
  stays_put o at e c = record {
    edges = edges_stay-put_entry o at e c;
    explicit = λ m name ns b there explicit. explicit_stays-put_entry o at e c m name ns b there explicit;
    bound = λ m slot bound. bound_stays-put_entry o at e c m slot bound;
  }

  pub stays_copied : (o : Order V) (source : ModuleId) (edge : EdgeTo V) (slot : Slot) (c : Content V) → Stays c (copied o source edge slot c)
  stays_copied o source edge slot c = record {
    edges = edges_stay-copied o source edge slot c;
    explicit = λ m name ns b there explicit. explicit_stays-copied o source edge slot c m name ns b there explicit;
    bound = λ m y bound. bound_stays-copied o source edge slot c m y bound;
  }

  pub stays_copies : (o : Order V) (slots : List Slot) (def_of : Slot → Def) {c d : Content V} → Copies o slots def_of c d → Stays c d
  stays_copies o slots def_of (none {c}) = stays_still c
  stays_copies o slots def_of (more {c} {d} source edge slot index before at within def) =
      stays_then c d (copied o source edge slot d) (stays_copies o slots def_of before) (stays_copied o source edge slot d)
