use Rattle.std.proofs.Common.{◌≡◌, drop, map}
use Rattle.def_modules.specs.Maps.{helper_state}
use Rattle.def_rules.specs.Attributes as rules
use Rattle.def_attrs.proofs.attrs.helps.Given as goal

-- none so far has the name: the rest is asked
abbrev pub invariant-helpers : goal.invariant-helpers
invariant-helpers l = rules.helps (map helper_state (drop l.helper-index l.helpers)) l.name ≡ rules.helps (map helper_state l.helpers) l.name
