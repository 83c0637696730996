use Rattle.std.proofs.Common.{refl}
use Rattle.def_steps.proofs.ImportListsLaws.{queued_more}
use Rattle.def_steps.proofs.import_lists.PendingImports.queue.Goals as goal

pub imports-preserved : goal.imports-preserved
imports-preserved c =
    queued_more _ _ _ c.args.module_id c.args.written c.args.imports.now c.imports.import-index c.import-item.result _
    c.imports.invariant c.imports-test.true c.import-item.is refl
    c.in_ok-push.ensures
