use Rattle.std.proofs.Common.{arith, sym, ◌∙◌, ◌≡◌, length}
use Rattle.item_tree.proofs.TokenTreesLemmas.{innermost_in_range, innermost_is_open, begun_close, text_close, earlier_is}
use Rattle.item_tree.proofs.tt.close_innermost.Goals as goal

pub overflow_sub-len : goal.overflow_sub-len
overflow_sub-len c = omega (arith, c.len.ensures, innermost_in_range _ _ c.requires.0 c.requires.1)

pub index-requires : goal.index-requires
index-requires c = omega (arith, c.requires.1, innermost_in_range _ _ c.requires.0 c.requires.1)

pub unreachable-requires : goal.unreachable-requires
unreachable-requires c = c.in_default.not-Open _ (c.index.ensures ∙ innermost_is_open _ _ _ c.requires.0 c.requires.1)

pub index_mut-requires : goal.index_mut-requires
index_mut-requires c = omega (arith, c.requires.1, innermost_in_range _ _ c.requires.0 c.requires.1, c.in_ok-push.ensures.len)

pub returns-clause-ok : goal.returns-clause-ok
returns-clause-ok c =
    let same = earlier_is _ _ _ _ c.requires.0 c.requires.1 (sym c.index.ensures ∙ c.in-Open.is) in
    let len : c.len.result ≡ length c.args.tokens.now.items = omega (arith, c.len.ensures) in
    rw (c.in_ok-push.ensures.items, len, ← same) (begun_close _ _ c.requires.0 c.requires.1)

pub returns-clause-text : goal.returns-clause-text
returns-clause-text c = rw c.in_ok-push.ensures.items (text_close _ _ _ c.requires.0 c.requires.1)
