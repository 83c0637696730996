-- What is answered ends a run of the machine.
use Rattle.std.proofs.Common.{◌≡◌, ◌<◌, ℕ, Bool, true, false, ◌&&◌, not, is_some, [], refl, sym, ap, subst, ◌∙◌}
use Rattle.def_interner.specs.Session.{Session}
use Rattle.def_bindings.specs.Closure.{IsClosed, IsCoherent}
use Rattle.def_globs.specs.Raised.{IsRaisedAt}
use Rattle.def_laws.specs.Sound.{IsSoundWith}
use Rattle.def_ids.specs.declared.ids.ModuleId.{ModuleId}
use Rattle.def_rules.specs.Targets.{is_censored, leaves_out, target_of}
use Rattle.def_rules.specs.Headline.{Answers}
use Rattle.def_rules.specs.Report.{Answer, with_macro_reports}
use Rattle.def_laws.specs.Finished.{NoneFailed, IsAtRest, IsFinished}
use Rattle.def_rules.specs.Rounds.{round_limit}
use Rattle.def_rules.specs.Settled.{IsSettled}
use Rattle.def_rules.specs.Start.{first_tasks, seeded_state, start, started}
use Rattle.def_rules.specs.State.{IsBare, Setting, State, Moment, order}
use Rattle.def_laws.specs.Runs.{Collects, HoldRounds, LeaveInTurn, at}
use Rattle.def_rules.specs.Steps.{Reaches}
use Rattle.def_laws.proofs.CensoredLaws.{censored_closed, censored_coherent, censored_raised}
use Rattle.def_laws.proofs.LeftOutLaws.{leaves_alike, left_out_along}
use Rattle.def_laws.proofs.DeclaredLaws.{declared_along, was_put_along}
use Rattle.def_laws.proofs.DeferredLeftLaws.{none_deferred_along}
use Rattle.def_laws.proofs.EveryNamespaceLaws.{every_namespace_along}
use Rattle.def_laws.proofs.FailedLaws.{none_failed_along}
use Rattle.def_laws.proofs.StaysLaws.{explicit_stays_along}

-- where a run from the seeded map leads to an end at which nothing is left to do, macros leave in turn in it, and either it holds more rounds than the limit or no import or macro gives anything, what is answered of that end,
-- with its macros reported, is right
pub answers : (w : Setting) (before after : Session) (answer : Answer) (t : State) (limit_met : Bool)
    (collects : Collects w.oracle (first_tasks w.oracle w.seeded w.tree) (started w.oracle w.tree (seeded_state w before)) [] t)
    → LeaveInTurn collects.runs → (rounds : ℕ) → HoldRounds collects.runs rounds → (limit_met ≡ true → round_limit < rounds) → (limit_met ≡ false → IsAtRest w.oracle t)
    → IsBare t → t.session ≡ after → NoneFailed w.seeded
    → IsSoundWith (first_tasks w.oracle w.seeded w.tree) (started w.oracle w.tree (seeded_state w before)) → IsSoundWith [] t
    → IsFinished (with_macro_reports w.oracle t) limit_met answer → Answers w before after answer
answers w before after answer t limit_met collects in_turn rounds holds over rest bare session clean begun ended finished =
    record {
      run = record { end = end; runs = runs; done = refl; bare = bare };
      session = session;
      answered = record {
        map = finished.map (none_failed_along runs clean);
        content = finished.content;
        local = finished.local;
        outcome = record { imports = finished.outcome.imports; macros = finished.outcome.macros; edges = finished.outcome.edges; targets = finished.outcome.targets };
      };
      closed = subst (IsClosed (order t) (leaves_out t)) (sym finished.content) (censored_closed t (leaves_out t) ended.sound.closed);
      coherent = subst (IsCoherent (order t) (leaves_out t) (target_of t.map.id t.targets)) (sym finished.content) (censored_coherent t (leaves_out t) (target_of t.map.id t.targets) ended.sound.coherent);
      raised = λ importer slot shown kept. subst (λ c. IsRaisedAt (order t) c importer slot) (sym finished.content)
          (censored_raised t importer slot shown (collects.raised begun.stands begun.sound [] importer slot (kept_in importer shown) kept (λ source index edge at. absurd cc)));
      declared = declared_along runs refl refl;
      was_put = was_put_along runs refl refl;
      explicit_stays = λ a b run. explicit_stays_along run.goes_on;
      in_turn = in_turn [];
      limit = λ met. record { rounds = rounds; holds = holds []; more = over (sym finished.limit ∙ met) };
      settled = λ met. settled (rest (sym finished.limit ∙ met));
      every_namespace = λ met. every_namespace_along runs refl refl refl (rest (sym finished.limit ∙ met)).imports;
      reported = finished.reported;
    }
  where
    end : Moment
    end = at [] t (collects.runs []).0

    runs : Reaches w.oracle (start w before) end
    runs = (collects.runs []).1

    -- what is not censored at the end was not left out at the start
    kept_in : (importer : ModuleId) → is_censored t importer ≡ false → leaves_out (started w.oracle w.tree (seeded_state w before)) importer ≡ false
    kept_in importer shown = sym (leaves_alike (left_out_along runs) importer) ∙ ap (λ is. is && not (is_some t.map.id.block)) shown

    settled : IsAtRest w.oracle t → IsSettled w.oracle t
    settled last = record { imports = last.imports; macros = last.macros; attributes = last.attributes; deferred = none_deferred_along w before end runs refl last.attributes }
