use Rattle.std.proofs.Common.{rules}
use Rattle.std.specs.Prelude.{IsTrue}
use Rattle.def_map.proofs.def_map.DefMap.is_fresh.Goals as goal

pub returns-then-not-is_empty : goal.returns-then-not-is_empty
returns-then-not-is_empty c = (search rules, λ h. let there = c.is_empty.ensures.1 h.bindings in cc)

pub returns : goal.returns
returns c =
    let table : IsTrue c.is_empty.result = cc in (
      λ h. record { state = c.is_fresh_data.ensures.0 h; bindings = c.is_empty.ensures.0 table },
      λ h. c.is_fresh_data.ensures.1 h.state,
    )
