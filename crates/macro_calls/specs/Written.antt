-- Calls as they are written, as the rules see them.
use Rattle.macro_calls.specs.declared.call_queries.WrittenCall.{WrittenCall}
use Rattle.def_rules.specs.Waiting as waits

-- a call, with its path in the place of the reference
abbrev pub written_of : WrittenCall → waits.WrittenCall
written_of call = record { path = call.path.now; expand_to = call.expand_to; ctxt = call.ctxt }
