use Rattle.std.proofs.Common.{◌≡◌, bytes_eq, drop}
use Rattle.std.specs.List.{list_any}
use Rattle.def_scripted.proofs.named.first_named.Given as goal

-- those that are left decide
abbrev pub invariant-loop-place : goal.invariant-loop-place
invariant-loop-place l = list_any (λ known. bytes_eq known.now l.name) (drop l.place l.names) ≡ list_any (λ known. bytes_eq known.now l.name) l.names
