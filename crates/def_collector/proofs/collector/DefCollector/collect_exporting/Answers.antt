use Rattle.std.proofs.Common.{Some, None, refl, subst, sym, ◌∙◌}
use Rattle.def_interner.specs.Session.{FunctionItem, session_of}
use Rattle.def_parts.specs.ProcMacros.{decl_of}
use Rattle.def_parts.specs.Sites.{site_of}
use Rattle.def_collector.specs.Collector.{state_of}
use Rattle.def_rules.specs.State.{State}
use Rattle.def_laws.proofs.RecordLaws.{on_ok}
use Rattle.def_macros.specs.ProcMacros.{IsNumbered}
use Rattle.def_macros.proofs.ProcMacrosLemmas.{exports_declared, handled_exported, handled_function}
use Rattle.def_collector.proofs.collector.DefCollector.collect_exporting.Goals as goal

pub returns-in-Some-clause-handled : goal.returns-in-Some-clause-handled
returns-in-Some-clause-handled g c = on_ok c.define_exported.result c.define_exported.ensures (λ defined kind.
    let oracle = g.D.SourceDatabase.oracle c.args.db.now in
    let before : State = state_of c.args.self.now c.args.session.now in
    let session = session_of c.number_proc_macro.new.session in
    let site = site_of c.args.site.now in
    let node = c.args.node.now in
    let name = c.args.written.name in
    let kept : State = record before { session = session } in
    let exported = c.in-Some.exported in
    let numbered : IsNumbered oracle before.map session site node name (Some exported) = subst (IsNumbered oracle before.map session site node name) c.in-Some.is c.in_ok-exported.ensures.numbered in
    handled_exported oracle before _ session site node name c.args.written.visibility.now c.args.id _ kind (c.in_ok-exported.ensures.own c.args.written.visibility.now kind) (c.number_proc_macro.ensures.session.grows.item FunctionItem c.args.id.0 _ c.requires.numbered) c.resolve_visibility-vis.ensures
    (decl_of exported.def) exported.id (exports_declared kept site node name c.requires.root ∙ sym numbered.declared) numbered.numbered (defined oracle kept c.requires.root))

pub returns-in-None-clause-handled : goal.returns-in-None-clause-handled
returns-in-None-clause-handled g c = on_ok c.declare.result c.declare.ensures (λ declared kind.
    let oracle = g.D.SourceDatabase.oracle c.args.db.now in
    let before : State = state_of c.args.self.now c.args.session.now in
    let session = session_of c.number_proc_macro.new.session in
    let site = site_of c.args.site.now in
    let node = c.args.node.now in
    let name = c.args.written.name in
    let kept : State = record before { session = session } in
    let numbered : IsNumbered oracle before.map session site node name None = subst (IsNumbered oracle before.map session site node name) c.in-None.is c.in_ok-exported.ensures.numbered in
    handled_function oracle before _ session site node name c.args.written.visibility.now c.args.id _ kind (c.in_ok-exported.ensures.own c.args.written.visibility.now kind) (c.number_proc_macro.ensures.session.grows.item FunctionItem c.args.id.0 _ c.requires.numbered) refl
    (exports_declared kept site node name c.requires.root ∙ sym numbered.declared) declared)
