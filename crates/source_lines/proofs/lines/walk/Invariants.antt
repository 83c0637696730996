use Rattle.std.proofs.Common.{◌≡◌, ◌+◌, ◌≤◌, length, take}
use Rattle.source_lines.specs.Lines.{newlines}
use Rattle.source_lines.proofs.lines.walk.Given as goal

abbrev pub invariant-loop-byte : goal.invariant-loop-byte
invariant-loop-byte l = l.fn.mark.line + length l.bytes ≤ 0xffff_ffff_ffff_ffff → l.here.line ≡ l.fn.mark.line + newlines (take l.byte-index l.bytes)
