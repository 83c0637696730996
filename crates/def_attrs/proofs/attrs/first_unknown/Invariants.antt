use Rattle.std.proofs.Common.{◌≡◌, length}
use Rattle.def_rules.specs.Attributes as rules
use Rattle.def_attrs.proofs.attrs.first_unknown.Given as goal

-- all so far are known: the rest is asked
abbrev pub invariant-attrs : goal.invariant-attrs
invariant-attrs g l = rules.first_unknown (g.D.SourceDatabase.oracle l.db) l.tools l.rest ≡ rules.first_unknown (g.D.SourceDatabase.oracle l.db) l.tools l.fn.attrs

abbrev pub decreases-attrs : goal.decreases-attrs
decreases-attrs g l = length l.rest
