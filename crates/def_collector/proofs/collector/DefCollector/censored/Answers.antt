use Rattle.std.proofs.Common.{◌∙◌, ap, subst, sym}
use Rattle.def_ids.specs.declared.ids.ModuleId.{ModuleId}
use Rattle.def_macros.specs.Censored.{ListsOnce}
use Rattle.def_ids.specs.Ids.{is_same_module}
use Rattle.def_rules.specs.ProcMacros.{censored_in}
use Rattle.def_rules.specs.State.{State, root, with_content}
use Rattle.def_sources.specs.Tables.{Table, bound_by}
use Rattle.def_collector.specs.Collector.{state_of}
use Rattle.def_collector.proofs.CensorLemmas.{censored_none, censored_root}
use Rattle.def_collector.proofs.collector.DefCollector.censored.Goals as goal

pub censor-requires : goal.censor-requires
censor-requires c = let at : ModuleId = record { map = c.args.self.def_map.tree.map; index = 0 } in subst (λ (t : Table). ListsOnce (bound_by t) at) (sym c.into_table-table.ensures) (c.requires at)

pub returns-then-not-self : goal.returns-then-not-self
returns-then-not-self c = λ session. censored_none (state_of c.args.self session) c.if-not-self.true

pub returns : goal.returns
returns c = λ session.
    let s : State = state_of c.args.self session in
    ap (λ (t : Table). with_content s (bound_by t)) c.new.ensures
    ∙ censored_root s (bound_by c.censor.new.table) c.if-not-self.false
    (c.in_ok-censor.ensures ∙ ap (λ (t : Table). censored_in (is_same_module (root s.map)) (bound_by t)) c.into_table-table.ensures)
