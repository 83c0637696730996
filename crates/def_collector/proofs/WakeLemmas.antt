-- A watch leaves the state.
use Rattle.std.proofs.Common.{◌≡◌, ap, subst, sym}
use Rattle.def_interner.specs.declared.interner.Interner.{Interner}
use Rattle.def_sources.specs.Tables.{Table, bound_by}
use Rattle.def_steps.specs.ImportLists.{pending}
use Rattle.def_steps.specs.declared.import_lists.PendingImports.{PendingImports}
use Rattle.def_collector.specs.declared.collector.DefCollector.{DefCollector}
use Rattle.def_collector.specs.Collector.{state_of}
use Rattle.def_map.specs.Oracle.{Oracle}
use Rattle.def_laws.specs.Turns.{Moves}

pub with_table : (session : Interner) (c : DefCollector) (table : Table) → table ≡ c.table → state_of (record c { table = table }) session ≡ state_of c session
with_table session c table same = ap (λ t. state_of (record c { table = t }) session) same

-- what moved has moved too where its table is watched no longer
pub moved_unwatched : (oracle : Oracle) (session : Interner) (before at after : DefCollector) (table : Table) → at ≡ before → table ≡ after.table → Moves oracle (state_of at session) (state_of after session)
    → Moves oracle (state_of before session) (state_of (record after { table = table }) session)
moved_unwatched oracle session before at after table first same moves =
    subst (λ k. Moves oracle (state_of k session) (state_of (record after { table = table }) session)) first
    (subst (λ s. Moves oracle (state_of at session) s) (sym (with_table session after table same)) moves)

-- so does the end of it, where what stands there no longer is dropped from the lists of imports
pub with_imports : (session : Interner) (c : DefCollector) (table : Table) (imports : PendingImports) → table ≡ c.table → pending imports ≡ pending c.imports → state_of (record c { table = table; imports = imports }) session ≡ state_of c session
with_imports session c table imports same left = λ i. record (state_of c session) { content = bound_by (same i); imports = left i }
