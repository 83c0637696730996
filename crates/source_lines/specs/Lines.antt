use Rattle.std.specs.Prelude.{◌≡◌, ℕ, ◌+◌, ◌≤◌, List, All, length, take, ◌==◌}
use Rattle.std.specs.List.{count_by}
use Rattle.source_lines.specs.declared.lines.Lines.{Lines}
use Rattle.source_lines.specs.declared.lines.Mark.{Mark}

-- How many newlines are among these bytes.
abbrev pub newlines : List ℕ → ℕ
newlines bytes = count_by (λ b. b == 10) bytes

-- The line of a byte of a text is one more than the newlines before it.
abbrev pub line_of : List ℕ → ℕ → ℕ
line_of text byte = newlines (take byte text) + 1

-- A mark is in the text, and its line is that of its byte.
pub record IsMarkOf (text : List ℕ) (mark : Mark) : Type 0 where
  pub within : mark.byte ≤ length text
  pub line : mark.line ≡ line_of text mark.byte

-- The marks are those of a text.
abbrev pub AreLinesOf : List ℕ → Lines → Type 0
AreLinesOf text lines = All (IsMarkOf text) lines.marks.items
