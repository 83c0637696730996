use Rattle.std.proofs.Common.{ap, refl}
use Rattle.std.specs.Prelude.{option_map}
use Rattle.def_interner.specs.Session.{shown_macro}
use Rattle.def_interner.proofs.InternLemmas.{interned, refused}
use Rattle.def_interner.proofs.TableLemmas.{grows_macro2s}
use Rattle.def_interner.proofs.location.macros.Macro2LocLocation.intern.Goals as goal

pub returns : goal.returns
unfolding shown_macro
returns c =
    let s = c.args.session.now in
    interned (λ xs. record s { macro2s = xs }) c.in_ok-number.field-0 c.in_ok-number.ensures (ap (option_map _)) refl (grows_macro2s s c.args.self c.number.new.self)

pub returns-in_err-number : goal.returns-in_err-number
returns-in_err-number c = refused (λ xs. record c.args.session.now { macro2s = xs }) c.from_residual.result _ _ c.from_residual.ensures.0 c.in_err-number.ensures
