use Rattle.std.proofs.Common.{◌≡◌, ◌∙◌, ◌-◌, ◌<◌, None, ap, arith, false, get_or, length, sym, ℕ}
use Rattle.tree_ids.specs.declared.name.Name.{Name}
use Rattle.def_ids.specs.declared.ids.Def.TheVariants.{Module}
use Rattle.def_paths.specs.Answers.{is_elsewhere, reached, walk}
use Rattle.def_sources.specs.Asking.{question_in, map_in}
use Rattle.def_sources.specs.PerNs.{Item, in_types, per_namespace}
use Rattle.def_sources.specs.Sources.{scope_source}
use Rattle.def_paths.proofs.AnswersLemmas.{module-begin, module-last, module-next}
use Rattle.def_paths.proofs.short.scope_reached.Goals as goal

pub segments-init : goal.segments-init
segments-init g c item from k stands begins =
    let q = question_in g.D.PathDatabase.oracle c.args.asking.now in
    let own = map_in g.T.BindingTable.content c.args.asking.now in
    module-begin q own c.args.segments.now (omega (arith, c.if-len-eq0.false)) item from c.args.first k stands begins

pub segments-preserved : goal.segments-preserved
segments-preserved g c item from k stands begins =
    let q = question_in g.D.PathDatabase.oracle c.args.asking.now in
    let own = map_in g.T.BindingTable.content c.args.asking.now in
    let segments = c.args.segments.now in
    let i = c.segments.i in
    let d : Name = record { 0 = 0 } in
    let here : is_elsewhere own (Module c.segments.place) ≡ false = sym (c.is_elsewhere.ensures (g.T.BindingTable.content c.args.asking.now.world.table.now)) ∙ c.if-is_elsewhere.false in
    let inside : i < length segments = omega (arith, c.segments-test.true) in
    module-next q own (walk q own false (in_types item) k segments) segments i d inside k c.segments.place here
    (λ (x : Item) y. c.segments.invariant item x k stands y) (omega (arith, c.segments-test.true))
    c.in_ok-place.place (sym c.scope_module.ensures ∙ c.in_ok-place.was) from begins

pub returns : goal.returns
returns g c item k stands =
    let q = question_in g.D.PathDatabase.oracle c.args.asking.now in
    let own = map_in g.T.BindingTable.content c.args.asking.now in
    let segments = c.args.segments.now in
    let i = c.segments.i in
    let d : Name = record { 0 = 0 } in
    let here : is_elsewhere own (Module c.segments.place) ≡ false = sym (c.is_elsewhere-2.ensures (g.T.BindingTable.content c.args.asking.now.world.table.now)) ∙ c.if-is_elsewhere-2.false in
    let more : 0 < length segments = omega (arith, c.if-len-eq0.false) in
    let end : i ≡ length segments - 1 = omega (arith, c.segments.auto.i-end, c.segments-test.false) in
    module-last q own (walk q own false (in_types item) k segments) segments i d (omega (arith, more, end)) k c.segments.place here
    (λ (x : Item) y. c.segments.invariant item x k stands y) (omega (arith, more, end))
    ∙ ap (λ (j : ℕ). reached (per_namespace (scope_source q own c.segments.place (get_or segments j d))) None false) end
