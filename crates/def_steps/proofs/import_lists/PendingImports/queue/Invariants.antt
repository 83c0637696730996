use Rattle.std.proofs.Common.{◌≡◌, ◌++◌, take}
use Rattle.def_steps.specs.ImportLists.{pending, queued}
use Rattle.def_steps.proofs.import_lists.PendingImports.queue.Given as goal

abbrev pub invariant-imports : goal.invariant-imports
invariant-imports l = pending l.self ≡ pending l.initial.self ++ queued l.module_id l.written (take l.import-index l.imports)
