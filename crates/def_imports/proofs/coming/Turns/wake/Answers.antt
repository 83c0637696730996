use Rattle.std.proofs.Common.{◌∙◌, ◌++◌, Some, ap, arith, refl}
use Rattle.def_imports.specs.Sweeps.{swept}
use Rattle.def_imports.proofs.TurnsLemmas.{comes-after, put-after, there-left}
use Rattle.def_imports.proofs.coming.Turns.wake.Goals as goal
use Rattle.def_imports.proofs.coming.Turns.wake.Goals.{in-Some+else-has, in_default}

pub returns-then-has : goal.returns-then-has
returns-then-has c =
    let t = c.args.self.now in
    let on = t.swept c.in-Some.sweep c.in-Some.is in
    record {
      woken = record {
        turn = c.turn_after-turn.result;
        wakes = c.turn_after-turn.ensures;
        comes = rw c.in-Some.is (there-left c.in-Some.sweep c.turn_after-turn.result t.coming.keys on.left (c.if-has.ensures.there refl));
        last = refl;
      };
    }

pub returns : goal.returns
returns c =
    let t = c.args.self.now in
    let turn = c.turn_after-turn.result in
    record {
      woken = record {
        turn = turn;
        wakes = c.turn_after-turn.ensures;
        comes = elim c.match-self.branch [
          | in-Some+else-has w ↦
              let on = t.swept w.in-Some.sweep w.in-Some.is in
              rw w.in-Some.is (ap (λ keys. swept (Some w.in-Some.sweep) ++ keys) c.in_ok-insert.ensures.keys
              ∙ put-after w.in-Some.sweep turn t.coming.keys on.left (comes-after t.last c.args.import turn w.in-Some.sweep (omega (arith, c.well_formed)) on c.turn_after-turn.ensures (w.if-has.ensures.gone refl)))
          | in_default w ↦ rw w.in_default.is c.in_ok-insert.ensures.keys
        ];
        last = refl;
      };
    }
