use Rattle.std.proofs.Common.{◌≡◌, ◌∙◌, [], ap, false, subst, sym, true}
use Rattle.def_interner.specs.Session.{session_of}
use Rattle.def_items.specs.Numbered.{IsDeclared, is_declaring}
use Rattle.def_parts.specs.Sites.{site_of}
use Rattle.def_collector.specs.Collector.{state_of}
use Rattle.def_rules.specs.State.{State, with_map}
use Rattle.def_laws.specs.Performs.{Handled}
use Rattle.def_laws.proofs.RecordLaws.{on_ok}
use Rattle.def_items.proofs.NumberedLemmas.{handled_name, handled_unnamed, name_declares, unnamed_declares}
use Rattle.def_collector.proofs.collector.DefCollector.collect_declaration.Goals as goal

pub returns-in-Name-clause-handled : goal.returns-in-Name-clause-handled
returns-in-Name-clause-handled g c = on_ok c.declare.result c.declare.ensures (λ declared declares.
    let session = session_of c.number_item.new.session in
    let site = site_of c.args.site.now in
    handled_name (g.D.SourceDatabase.oracle c.args.db.now) (state_of c.args.self.now c.args.session.now) _ session site c.args.node.now c.in_ok-declared.ensures.own c.in-Name.declaration
    (subst (IsDeclared session site c.args.node.now) c.in-Name.is c.in_ok-declared.ensures.declared) declared)

pub returns-in-UnnamedConst-clause-handled : goal.returns-in-UnnamedConst-clause-handled
returns-in-UnnamedConst-clause-handled g c = on_ok c.define_unnamed_const.result c.define_unnamed_const.ensures (λ defined declares.
    let session = session_of c.number_item.new.session in
    let site = site_of c.args.site.now in
    let before : State = state_of c.args.self.now c.args.session.now in
    handled_unnamed (g.D.SourceDatabase.oracle c.args.db.now) before _ session site c.args.node.now c.in_ok-declared.ensures.own c.in-UnnamedConst.id
    (subst (IsDeclared session site c.args.node.now) c.in-UnnamedConst.is c.in_ok-declared.ensures.declared)
    (ap (with_map (record before { session = session })) defined))

pub returns-in-Nothing-clause-handled : goal.returns-in-Nothing-clause-handled
returns-in-Nothing-clause-handled g c = λ declares.
    let none : is_declaring c.args.node.now.kind ≡ false = subst (IsDeclared (session_of c.number_item.new.session) (site_of c.args.site.now) c.args.node.now) c.in-Nothing.is c.in_ok-declared.ensures.declared in
    let both : false ≡ true = sym none ∙ declares in
    absurd {A = Handled (g.D.SourceDatabase.oracle c.args.db.now) (state_of c.args.self.now c.args.session.now) (state_of c.args.self.now c.number_item.new.session) (site_of c.args.site.now) c.args.node.now []} cc

pub returns-in-Name-clause-others : goal.returns-in-Name-clause-others
returns-in-Name-clause-others g c = on_ok c.declare.result c.declare.ensures (λ declared other.
    let session = session_of c.number_item.new.session in
    let site = site_of c.args.site.now in
    let both : false ≡ true = sym other ∙ name_declares session site c.args.node.now c.in-Name.declaration (subst (IsDeclared session site c.args.node.now) c.in-Name.is c.in_ok-declared.ensures.declared) in
    absurd cc)

pub returns-in-UnnamedConst-clause-others : goal.returns-in-UnnamedConst-clause-others
returns-in-UnnamedConst-clause-others g c = on_ok c.define_unnamed_const.result c.define_unnamed_const.ensures (λ defined other.
    let session = session_of c.number_item.new.session in
    let site = site_of c.args.site.now in
    let both : false ≡ true = sym other ∙ unnamed_declares session site c.args.node.now c.in-UnnamedConst.id (subst (IsDeclared session site c.args.node.now) c.in-UnnamedConst.is c.in_ok-declared.ensures.declared) in
    absurd cc)

pub returns-in-Nothing-clause-others : goal.returns-in-Nothing-clause-others
returns-in-Nothing-clause-others g c = λ other. ap (λ s. state_of c.args.self.now s) (c.in_ok-declared.ensures.same other)
