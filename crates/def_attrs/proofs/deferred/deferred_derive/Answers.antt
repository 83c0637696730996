use Rattle.std.proofs.Common.{rules}
use Rattle.def_attrs.proofs.deferred.deferred_derive.Goals as goal

pub returns-then-has_builtin_derive_impl : goal.returns-then-has_builtin_derive_impl
returns-then-has_builtin_derive_impl g c = search rules
