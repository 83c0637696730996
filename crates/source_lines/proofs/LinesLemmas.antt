use Rattle.std.proofs.Common.{ℕ, ◌≡◌, ◌+◌, ◌-◌, ◌<◌, ◌≤◌, ◌^◌, ◌++◌, ◌∙◌, ap, sym, List, length, take, drop, cond, ◌==◌, arith}
use Rattle.std.proofs.lemmas.List.{take-append-drop, take-take, length-take-le}
use Rattle.std.proofs.lemmas.List.Edits.{length-between}
use Rattle.std.proofs.lemmas.List.Sums.{sum_by-append, count_by-le-length}
use Rattle.std.proofs.lemmas.Slice.{between_is}
use Rattle.std.specs.List.{between}
use Rattle.source_lines.specs.Lines.{newlines}

whole : (text : List ℕ) (i j : ℕ) → i ≤ j → take i text ++ drop i (take j text) ≡ take j text
whole text i j ordered = ap (λ t. t ++ drop i (take j text)) (sym (take-take i j text ordered)) ∙ take-append-drop i (take j text)

-- The newlines before a byte, and those between it and a later one, are those before that.
newlines_between : (text : List ℕ) (i j : ℕ) → i ≤ j → newlines (take i text) + newlines (between i j text) ≡ newlines (take j text)
newlines_between text i j ordered =
    ap (λ t. newlines (take i text) + newlines t) (between_is text i j)
    ∙ sym (sum_by-append (λ b. cond (b == 10) 1 0) (take i text) (drop i (take j text)))
    ∙ ap newlines (whole text i j ordered)

-- What a walk from a mark on counts is the line of the byte at which it ends.
pub walked : (text bytes : List ℕ) (mark line byte result : ℕ) → length text < 2 ^ 63 → mark ≤ byte → byte ≤ length text
    → line ≡ newlines (take mark text) + 1 → bytes ≡ between mark byte text
    → (line + length bytes ≤ 0xffff_ffff_ffff_ffff → result ≡ line + newlines bytes) → result ≡ newlines (take byte text) + 1
walked text bytes mark line byte result short ordered within at parted counted =
    let few : newlines (take mark text) ≤ length (take mark text) = count_by-le-length (λ b. b == 10) (take mark text) in
    let inside : mark ≤ length text = omega arith in
    let left : length (take mark text) ≡ mark = length-take-le mark text inside in
    let size : length (between mark byte text) ≡ byte - mark = length-between text mark byte within in
    let same : length bytes ≡ length (between mark byte text) = ap length parted in
    let fits : line + length bytes ≤ 0xffff_ffff_ffff_ffff = omega arith in
    let parts : newlines (take mark text) + newlines bytes ≡ newlines (take byte text) = ap (λ t. newlines (take mark text) + newlines t) parted ∙ newlines_between text mark byte ordered in
    let reached : result ≡ line + newlines bytes = counted fits in
    omega arith
