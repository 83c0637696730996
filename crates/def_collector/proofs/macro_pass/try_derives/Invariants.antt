use Rattle.std.proofs.Common.{◌≡◌, take}
use Rattle.def_calls.specs.Shown.{macro_directive_of}
use Rattle.def_collector.specs.Collector.{state_of}
use Rattle.def_laws.specs.Performs.{Tried}
use Rattle.def_rules.specs.Derives.{derives_from}
use Rattle.def_collector.proofs.macro_pass.try_derives.Given as goal

abbrev pub invariant-derives : goal.invariant-derives
invariant-derives g l = record {
  tried : Tried (g.D.SourceDatabase.oracle l.db) (macro_directive_of l.directive) (derives_from l.list.written.attr_id l.list.call 0 (take l.pos l.list.paths.now)) (state_of l.fn.collector l.session) (state_of l.collector l.session);
  dirs : l.collector.mod_dirs ≡ l.fn.collector.mod_dirs;
}
