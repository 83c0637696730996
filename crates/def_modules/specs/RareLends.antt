-- How a scope lends the parts that few modules have.
use Rattle.std.specs.Prelude.{Some, Result, Box}
use Rattle.std.specs.Global.{Global}
use Rattle.std.specs.Borrow.{LendsIfOk, MutBor, Fml}
use Rattle.std.specs.contracts.boxed.Box as boxed
use Rattle.std.specs.contracts.alloc.Global as global
use Rattle.std.below.std_heap.specs.contracts.GlobalAllocator.TheImpl.{ghosts}
use Rattle.def_modules.specs.declared.module_data.RareParts.{RareParts}
use Rattle.def_modules.specs.declared.module_data.ScopeData.{ScopeData}
use Rattle.def_modules.specs.contracts.module_data.RareParts as parts
use Rattle.def_modules.specs.contracts.module_data.ScopeData as scope

-- the scope ends with the last parts behind r
abbrev pub LendsRare : {E : Type 0} → MutBor ScopeData → Result (MutBor (Box RareParts Global)) E → Fml
LendsRare s r = LendsIfOk scope.the_row (boxed.the_row parts.the_row global.the_row ghosts) s r (λ rare. record s.now { rare = Some rare }) s.now
