use Rattle.std.proofs.Common.{get_or, take, refl, subst, sym, ◌∙◌, arith}
use Rattle.std.proofs.lemmas.List.{take_all}
use Rattle.def_calls.specs.Shown.{macro_directive_of}
use Rattle.def_collector.specs.Collector.{state_of}
use Rattle.def_laws.specs.Performs.{Tried}
use Rattle.def_laws.proofs.PassLaws.{tried_more, tried_none}
use Rattle.def_rules.specs.Derives.{derives_from}
use Rattle.def_rules.specs.State.{State}
use Rattle.def_collector.proofs.DeriveLemmas.{derive_at, derives_more}
use Rattle.def_collector.proofs.macro_pass.try_derives.Goals as goal

pub derives-init : goal.derives-init
derives-init g c = record { tried = tried_none (g.D.SourceDatabase.oracle c.args.db.now) (macro_directive_of c.args.directive) (state_of c.args.collector.now c.args.session.now); dirs = refl }

pub derives-preserved : goal.derives-preserved
derives-preserved g c =
    let oracle = g.D.SourceDatabase.oracle c.args.db.now in
    let d = macro_directive_of c.args.directive in
    let start : State = state_of c.args.collector.now c.args.session.now in
    let s : State = state_of c.derives.collector c.args.session.now in
    let t : State = state_of c.try_derive.new.collector c.args.session.now in
    let id = c.args.list.written.attr_id in
    let call = c.args.list.call in
    let paths = c.args.list.paths.now in
    let pos = c.derives.pos in
    let before = derives_from id call 0 (take pos paths) in
    let item = c.index-list-pos.result in
    let more = derives_more id call paths pos item (omega (arith, c.derives-test.true, c.derives.auto.pos-end)) in
    let one = tried_more oracle d (omega (arith, c.try_derive.ensures.depth)) before (derive_at id call pos (get_or paths pos item)) start s t _ c.derives.invariant.tried refl c.in_ok-try_derive.ensures.tried in
    record {
      tried = subst (λ derives. Tried oracle d derives start t) (sym more) one;
      dirs = c.try_derive.ensures.dirs ∙ c.derives.invariant.dirs;
    }

pub returns-clause-tried : goal.returns-clause-tried
returns-clause-tried g c =
    let oracle = g.D.SourceDatabase.oracle c.args.db.now in
    let d = macro_directive_of c.args.directive in
    let start : State = state_of c.args.collector.now c.args.session.now in
    let t : State = state_of c.derives.collector c.args.session.now in
    let paths = c.args.list.paths.now in
    let all = take_all c.derives.pos paths (omega (arith, c.derives-test.false, c.derives.auto.pos-end)) in
    subst (λ ps. Tried oracle d (derives_from c.args.list.written.attr_id c.args.list.call 0 ps) start t) all c.derives.invariant.tried
