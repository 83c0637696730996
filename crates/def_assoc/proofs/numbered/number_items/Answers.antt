use Rattle.def_interner.specs.Session.{session_of}
use Rattle.def_assoc.proofs.NumberedLemmas.{named_next, numbered_next}
use Rattle.def_assoc.proofs.numbered.number_items.Goals as goal

pub returns-in_err-id-clause-adds : goal.returns-in_err-id-clause-adds
returns-in_err-id-clause-adds c =
    named_next c.args.container c.args.named.now (session_of c.args.session.now) (session_of c.items.session) (session_of c.number_item.new.session) c.items.item-index _ c.items-test.true c.items.invariant.adds c.number_item.ensures.adds

pub returns-in_err-push-clause-adds : goal.returns-in_err-push-clause-adds
returns-in_err-push-clause-adds c =
    named_next c.args.container c.args.named.now (session_of c.args.session.now) (session_of c.items.session) (session_of c.number_item.new.session) c.items.item-index _ c.items-test.true c.items.invariant.adds c.number_item.ensures.adds

pub items-preserved : goal.items-preserved
items-preserved c =
    record {
      numbered = numbered_next c.args.container (session_of c.items.session) (session_of c.number_item.new.session) c.args.named.now c.items.item-index _ c.items.items.items c.push.new.self.items _ c.items-test.true
          c.number_item.ensures.adds c.items.invariant.numbered c.in_ok-id.ensures.numbered c.in_ok-push.ensures.items;
      adds = named_next c.args.container c.args.named.now (session_of c.args.session.now) (session_of c.items.session) (session_of c.number_item.new.session) c.items.item-index _ c.items-test.true c.items.invariant.adds c.number_item.ensures.adds;
    }
