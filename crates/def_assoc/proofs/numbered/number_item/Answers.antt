use Rattle.std.proofs.Common.{ap, sym}
use Rattle.def_assoc.specs.Numbered.{item_kind}
use Rattle.def_assoc.proofs.NumberedLemmas.{adds_alias, adds_const, adds_function}
use Rattle.def_assoc.proofs.numbered.number_item.Goals as goal

pub returns-in_ok-intern-in-Function-clause-adds : goal.returns-in_ok-intern-in-Function-clause-adds
returns-in_ok-intern-in-Function-clause-adds c =
    adds_function c.args.container c.args.item c.args.session.now c.intern.new.session (sym (ap item_kind c.in-Function.is)) c.in_ok-intern-in-Function.ensures.grown c.in_ok-intern-in-Function.ensures.others c.in_ok-intern-in-Function.ensures.adds

pub returns-in_ok-intern-in-Const-clause-adds : goal.returns-in_ok-intern-in-Const-clause-adds
returns-in_ok-intern-in-Const-clause-adds c =
    adds_const c.args.container c.args.item c.args.session.now c.intern-in-Const.new.session (sym (ap item_kind c.in-Const.is)) c.in_ok-intern-in-Const.ensures.grown c.in_ok-intern-in-Const.ensures.others c.in_ok-intern-in-Const.ensures.adds

pub returns-in_ok-intern-in-TypeAlias-clause-adds : goal.returns-in_ok-intern-in-TypeAlias-clause-adds
returns-in_ok-intern-in-TypeAlias-clause-adds c =
    adds_alias c.args.container c.args.item c.args.session.now c.intern-in-TypeAlias.new.session (sym (ap item_kind c.in-TypeAlias.is)) c.in_ok-intern-in-TypeAlias.ensures.grown c.in_ok-intern-in-TypeAlias.ensures.others c.in_ok-intern-in-TypeAlias.ensures.adds
