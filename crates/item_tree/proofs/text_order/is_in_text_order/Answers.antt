use Rattle.std.proofs.Common.{sym, ◌∙◌}
use Rattle.std.proofs.lemmas.Bool.{false≢true}
use Rattle.item_tree.proofs.text_order.is_in_text_order.Goals as goal

pub returns-then-not-are_rising : goal.returns-then-not-are_rising
returns-then-not-are_rising c = (λ yes. absurd (false≢true yes), λ order. sym c.if-not-are_rising.true ∙ c.are_rising.ensures.1 order.rising)

pub returns-then-not-is_rising : goal.returns-then-not-is_rising
returns-then-not-is_rising c = (λ yes. absurd (false≢true yes), λ order. sym c.if-not-is_rising.true ∙ c.is_rising.ensures.1 order.top_rising)

pub are_cut-requires : goal.are_cut-requires
are_cut-requires c = c.are_rising.ensures.0 c.if-not-are_rising.false

pub returns-then-not-are_cut : goal.returns-then-not-are_cut
returns-then-not-are_cut c = (λ yes. absurd (false≢true yes), λ order. sym c.if-not-are_cut.true ∙ c.are_cut.ensures.1 order.cut)

pub is_cut-requires : goal.is_cut-requires
is_cut-requires c = record {
  rising = c.are_rising.ensures.0 c.if-not-are_rising.false;
  cut = c.are_cut.ensures.0 c.if-not-are_cut.false;
  list_rising = c.is_rising.ensures.0 c.if-not-is_rising.false;
}

pub returns : goal.returns
returns c = (
  λ yes. record {
    rising = c.are_rising.ensures.0 c.if-not-are_rising.false;
    top_rising = c.is_rising.ensures.0 c.if-not-is_rising.false;
    cut = c.are_cut.ensures.0 c.if-not-are_cut.false;
    top_cut = c.is_cut.ensures.0 yes;
  },
  λ order. c.is_cut.ensures.1 order.top_cut,
)
