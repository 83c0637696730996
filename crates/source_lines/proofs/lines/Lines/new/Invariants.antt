use Rattle.std.proofs.Common.{◌≡◌, ◌+◌, All, take}
use Rattle.source_lines.specs.Lines.{IsMarkOf, newlines}
use Rattle.source_lines.proofs.lines.Lines.new.Given as goal

abbrev pub invariant-loop-byte : goal.invariant-loop-byte
invariant-loop-byte l = record {
  bytes : l.byte-items ≡ l.text;
  byte : l.here.byte ≡ l.byte-index;
  line : l.here.line ≡ newlines (take l.byte-index l.text) + 1;
  marks : All (IsMarkOf l.text) l.marks.items;
}
