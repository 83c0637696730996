use Rattle.std.proofs.Common.{◌<◌, ◌^◌, rules, length}
use Rattle.source_lines.proofs.LinesLemmas.{walked}
use Rattle.source_lines.proofs.lines.Lines.place.Goals as goal

-- the mark is one of the text
pub returns : goal.returns
returns c marks within =
    let mark = c.mark_before-mark.ensures.mark c.args.text.now marks in
    let short : length c.args.text.now < 2 ^ 63 = search rules in
    walked c.args.text.now c.bytes_between.result.now c.mark_before-mark.result.byte c.mark_before-mark.result.line c.args.byte c.walk-line.result.line
    short c.mark_before-mark.ensures.before within mark.line
    (c.bytes_between.ensures c.mark_before-mark.ensures.before within) c.walk-line.ensures
