use Rattle.std.proofs.Common.{ap, refl}
use Rattle.std.specs.Prelude.{option_map}
use Rattle.def_interner.specs.Session.{shown_item}
use Rattle.def_interner.proofs.InternLemmas.{interned, refused}
use Rattle.def_interner.proofs.TableLemmas.{grows_enums}
use Rattle.def_interner.proofs.location.items.EnumLocLocation.intern.Goals as goal

pub returns : goal.returns
unfolding shown_item
returns c =
    let s = c.args.session.now in
    interned (λ xs. record s { enums = xs }) c.in_ok-number.field-0 c.in_ok-number.ensures (ap (option_map _)) refl (grows_enums s c.args.self c.number.new.self)

pub returns-in_err-number : goal.returns-in_err-number
returns-in_err-number c = refused (λ xs. record c.args.session.now { enums = xs }) c.from_residual.result _ _ c.from_residual.ensures.0 c.in_err-number.ensures
