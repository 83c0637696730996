use Rattle.macro_by_example.proofs.WrittenLemmas.{one_more}
use Rattle.macro_by_example.proofs.origins.push.Goals as goal

pub returns-in_ok-push : goal.returns-in_ok-push
returns-in_ok-push c =
    rw c.in_ok-push.ensures.items
    (one_more c.args.templates.now c.args.call.now c.args.source c.args.tokens.now.items c.in-Some.token c.requires c.in-Some.ensures)
