use Rattle.std.proofs.Common.{ap, ◌∙◌}
use Rattle.std.specs.Prelude.{is_some, slice_get}
use Rattle.def_tables.proofs.NumbersLemmas.{first-number}
use Rattle.def_tables.proofs.keyed.Keyed.has.Goals as goal

pub returns : goal.returns
returns g c =
    let t = c.args.self.now in
    let m = c.args.module in
    c.is_some.ensures ∙ ap is_some c.at.ensures.item ∙ ap (λ ns. is_some (slice_get ns 0)) (t.numbered m) ∙ first-number t.entries.entries m 0
