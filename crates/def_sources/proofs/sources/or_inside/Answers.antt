use Rattle.def_sources.specs.Asking.{question_in, map_in}
use Rattle.def_sources.specs.Items.{is_fitting}
use Rattle.def_sources.specs.Sources.{scope_source, without_modules, builtin_source}
use Rattle.def_sources.proofs.SourcesLemmas.{with_two, with_three}
use Rattle.def_sources.proofs.sources.or_inside.Goals as goal

pub returns-then-is_builtin_first : goal.returns-then-is_builtin_first
returns-then-is_builtin_first g c before e =
    let q = question_in g.D.PathDatabase.oracle c.args.asking.now in
    let own = map_in g.T.BindingTable.content c.args.asking.now in
    let scope = scope_source q own c.args.segment.place in
    rw c.if-is_builtin_first.true
    (with_three (is_fitting q.kind_of c.args.segment.sub) before (without_modules scope) (builtin_source q own) scope c.args.segment.name
    c.args.found c.or.result c.or_builtin.result c.or-then-is_builtin_first.result e
    (rw (c.or.ensures, c.fitting-no_module.ensures, c.without_modules.ensures, c.scope-bound.ensures))
    c.or_builtin.ensures
    (rw (c.or-then-is_builtin_first.ensures, c.fitting-fitting.ensures, c.scope-bound.ensures)))

pub returns-else-is_builtin_first : goal.returns-else-is_builtin_first
returns-else-is_builtin_first g c before e =
    let q = question_in g.D.PathDatabase.oracle c.args.asking.now in
    let own = map_in g.T.BindingTable.content c.args.asking.now in
    let scope = scope_source q own c.args.segment.place in
    rw c.if-is_builtin_first.false
    (with_two (is_fitting q.kind_of c.args.segment.sub) before scope (builtin_source q own) c.args.segment.name
    c.args.found c.or-else-is_builtin_first.result c.or_builtin-else-is_builtin_first.result e
    (rw (c.or-else-is_builtin_first.ensures, c.fitting-fitting.ensures, c.scope-bound.ensures))
    c.or_builtin-else-is_builtin_first.ensures)
