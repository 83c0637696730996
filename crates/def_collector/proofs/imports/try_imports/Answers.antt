use Rattle.std.proofs.Common.{◌+◌, false, sym, subst, ◌∙◌, inl, inr}
use Rattle.std.proofs.lemmas.Bool.{cases_lt}
use Rattle.def_collector.specs.declared.collector.DefCollector.{DefCollector}
use Rattle.def_collector.proofs.PassLemmas.{TriedSoFar, tried_moved, tried_none, tried_unready}
use Rattle.def_laws.proofs.StepsLaws.{leads_bare}
use Rattle.def_collector.proofs.TriesLemmas.{dropped, unready_past}
use Rattle.def_collector.proofs.imports.try_imports.Goals as goal
use Rattle.def_collector.proofs.imports.try_imports.Goals.{then-branch, else-branch}

pub tried-init : goal.tried-init
tried-init g c = tried_none (g.D.SourceDatabase.oracle c.args.db.now) c.args.session.now c.args.list c.args.collector.now

pub tried-preserved : goal.tried-preserved
tried-preserved g c =
    let session = c.args.session.now in
    let list = c.args.list in
    let oracle = g.D.SourceDatabase.oracle c.args.db.now in
    let next : DefCollector = c.try_import.new.collector in
    elim c.if-branch.branch [
      | then-branch w ↦ subst (λ moved. TriedSoFar oracle session list c.args.collector.now next moved (c.tried.index + 1)) (sym w.moved-is)
          (tried_moved oracle session list c.args.collector.now c.tried.collector next c.tried.moved c.tried.index c.tried.invariant (c.in_ok-try_import.ensures.moved w.if-branch.true))
      | else-branch w ↦ subst (λ moved. TriedSoFar oracle session list c.args.collector.now next moved (c.tried.index + 1)) (sym w.moved-is)
          (tried_unready oracle session list c.args.collector.now c.tried.collector next c.tried.moved c.tried.index c.tried.invariant
          (c.in_ok-try_import.ensures.same w.if-branch.false) (c.in_ok-try_import.ensures.unready w.if-branch.false))
    ]

pub try_import-requires : goal.try_import-requires
try_import-requires g c = leads_bare c.tried.invariant.leads c.requires
