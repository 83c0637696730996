use Rattle.std.proofs.Common.{refl}
use Rattle.def_interner.proofs.InternLemmas.{interned, refused}
use Rattle.def_interner.proofs.TableLemmas.{grows_builtin_derive_impls}
use Rattle.def_interner.proofs.location.macros.BuiltinDeriveImplLocLocation.intern.Goals as goal

pub returns : goal.returns
returns c =
    let s = c.args.session.now in
    interned (λ xs. record s { builtin_derive_impls = xs }) c.in_ok-number.field-0 c.in_ok-number.ensures (λ at. at) refl (grows_builtin_derive_impls s c.args.self c.number.new.self)

pub returns-in_err-number : goal.returns-in_err-number
returns-in_err-number c = refused (λ xs. record c.args.session.now { builtin_derive_impls = xs }) c.from_residual.result _ _ c.from_residual.ensures.0 c.in_err-number.ensures
