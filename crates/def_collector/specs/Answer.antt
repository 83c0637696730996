-- What is seen of an answer.
use Rattle.def_map.specs.DefMaps as whole
use Rattle.def_modules.specs.Locals.{local_view}
use Rattle.def_rules.specs.Report.{Answer}
use Rattle.def_collector.specs.declared.answer.Collected.{Collected}

-- all that is answered
abbrev pub shown : Collected → Answer
shown c =
    record {
      map = whole.state_of c.def_map;
      content = whole.content_of c.def_map;
      local = local_view c.local_def_map;
      outcome = c.outcome;
      diagnostics = c.diagnostics;
    }
