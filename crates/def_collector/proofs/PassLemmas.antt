-- What a pass over a list of imports keeps.
use Rattle.std.proofs.Common.{◌≡◌, ◌<◌, ◌+◌, ℕ, Bool, false, true, [], arith, refl, sym, subst, below_more}
use Rattle.def_map.specs.Oracle.{Oracle}
use Rattle.def_interner.specs.declared.interner.Interner.{Interner}
use Rattle.def_collector.specs.declared.collector.DefCollector.{DefCollector}
use Rattle.def_laws.specs.Turns.{Moves, turns_left}
use Rattle.def_collector.specs.Passes.{IsUnready}
use Rattle.def_collector.specs.Collector.{state_of}
use Rattle.def_steps.specs.declared.import_lists.ImportList.{ImportList}
use Rattle.def_laws.specs.Runs.{Leads}
use Rattle.def_laws.proofs.StepsLaws.{leads_refl, leads_trans}

-- what holds once the first of a list of imports were tried
pub record TriedSoFar (oracle : Oracle) (session : Interner) (list : ImportList) (old new : DefCollector) (moved : Bool) (count : ℕ) : Type 0 where
  pub leads : Leads oracle [] (state_of old session) [] (state_of new session)
  pub unready : moved ≡ false → (index : ℕ) → index < count → IsUnready oracle session old (record { list = list; index = index })
  pub same : moved ≡ false → new ≡ old
  pub fewer : moved ≡ true → turns_left (state_of new session) < turns_left (state_of old session)

module _ (oracle : Oracle) (session : Interner) (list : ImportList) where
  pub tried_none : (c : DefCollector) → TriedSoFar oracle session list c c false 0
  tried_none c = record {
    leads = leads_refl [] (state_of c session);
    unready = λ _ index h. absurd (omega arith);
    same = λ _. refl;
    fewer = λ h. absurd cc;
  }

  fewer_than_before : (old now next : DefCollector) (moved : Bool) (count : ℕ) → TriedSoFar oracle session list old now moved count
      → turns_left (state_of next session) < turns_left (state_of now session) → turns_left (state_of next session) < turns_left (state_of old session)
  fewer_than_before old now next true count tried less = let before = tried.fewer refl in omega arith
  fewer_than_before old now next false count tried less = subst (λ c. turns_left (state_of next session) < turns_left (state_of c session)) (tried.same refl) less

  pub tried_moved : (old now next : DefCollector) (moved : Bool) (count : ℕ) → TriedSoFar oracle session list old now moved count
      → Moves oracle (state_of now session) (state_of next session) → TriedSoFar oracle session list old next true (count + 1)
  tried_moved old now next moved count tried moves = record {
    leads = leads_trans tried.leads moves.leads;
    unready = λ h. absurd cc;
    same = λ h. absurd cc;
    fewer = λ _. fewer_than_before old now next moved count tried moves.fewer;
  }

  pub tried_unready : (old now next : DefCollector) (moved : Bool) (count : ℕ) → TriedSoFar oracle session list old now moved count
      → next ≡ now → IsUnready oracle session now (record { list = list; index = count }) → TriedSoFar oracle session list old next moved (count + 1)
  tried_unready old now next moved count tried same stays = subst (λ c. TriedSoFar oracle session list old c moved (count + 1)) (sym same) (record {
    leads = tried.leads;
    unready = λ h. below_more (λ index. IsUnready oracle session old (record { list = list; index = index })) count (tried.unready h) (subst (λ c. IsUnready oracle session c (record { list = list; index = count })) (tried.same h) stays);
    same = tried.same;
    fewer = tried.fewer;
  })
