use Rattle.std.proofs.Common.{◌≡◌, ◌+◌, ℕ, drop, false}
use Rattle.def_ids.specs.declared.ids.Def.TheVariants.{Module}
use Rattle.def_paths.specs.Answers.{walk}
use Rattle.def_sources.specs.PerNs.{Item, in_types}
use Rattle.def_sources.specs.Asking.{question_in, map_in}
use Rattle.def_paths.proofs.short.scope_reached.Given as goal

-- what is left leads on from the module that was reached, whichever items the modules stand in
abbrev pub invariant-segments : goal.invariant-segments
invariant-segments g l =
    let q = question_in g.D.PathDatabase.oracle l.asking in
    let own = map_in g.T.BindingTable.content l.asking in
    (item from : Item) (k : ℕ) → item.def ≡ Module l.fn.first → from.def ≡ Module l.place
    → walk q own false (in_types item) k l.segments ≡ walk q own false (in_types from) (k + l.i) (drop l.i l.segments)
