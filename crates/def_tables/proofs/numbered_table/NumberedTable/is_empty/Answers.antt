use Rattle.std.proofs.Common.{rules}
use Rattle.std.specs.Prelude.{IsTrue}
use Rattle.def_tables.proofs.EmptyLemmas.{empty_parts, empty_whole}
use Rattle.def_tables.specs.NumberedTable.{content_of}
use Rattle.def_tables.proofs.numbered_table.NumberedTable.is_empty.Goals as goal

pub returns-then-not-is_empty : goal.returns-then-not-is_empty
unfolding content_of
returns-then-not-is_empty g c =
    let t = c.args.self.now in
    (search rules, λ h. let there = c.is_empty.ensures.1 (empty_parts g.K.Kept.meaning t h).0 in cc)

pub returns-then-not-is_empty-2 : goal.returns-then-not-is_empty-2
unfolding content_of
returns-then-not-is_empty-2 g c =
    let t = c.args.self.now in
    (search rules, λ h. let there = c.is_empty-2.ensures.1 (empty_parts g.K.Kept.meaning t h).1 in cc)

pub returns-then-not-is_empty-3 : goal.returns-then-not-is_empty-3
unfolding content_of
returns-then-not-is_empty-3 g c =
    let t = c.args.self.now in
    (search rules, λ h. let there = c.is_empty-3.ensures.1 (empty_parts g.K.Kept.meaning t h).2 in cc)

pub returns : goal.returns
unfolding content_of
returns g c =
    let t = c.args.self.now in
    let own : IsTrue c.is_empty.result = cc in
    let others : IsTrue c.is_empty-2.result = cc in
    let unnamed : IsTrue c.is_empty-3.result = cc in (
      λ h. empty_whole g.K.Kept.meaning t (c.is_empty.ensures.0 own) (c.is_empty-2.ensures.0 others) (c.is_empty-3.ensures.0 unnamed) (c.is_empty-4.ensures.0 h),
      λ h. c.is_empty-4.ensures.1 (empty_parts g.K.Kept.meaning t h).3,
    )
