use Rattle.std.proofs.Common.{ap, sym, ◌∙◌}
use Rattle.def_calls.specs.Shown.{macro_directive_of, written_attr_of}
use Rattle.def_collector.specs.Collector.{state_of}
use Rattle.def_laws.proofs.ResultLaws.{if_ok}
use Rattle.def_rules.specs.Derives.{derive_paths, may_derive}
use Rattle.def_rules.specs.Directives.{WalksItem, list_told}
use Rattle.def_rules.specs.State.{State}
use Rattle.def_collector.proofs.DeriveLemmas.{node_there}
use Rattle.def_collector.proofs.MacroPassLemmas.{both_ok}
use Rattle.def_collector.proofs.macro_pass.read_derives.Goals as goal

pub returns-in-Ok-clause-read : goal.returns-in-Ok-clause-read
returns-in-Ok-clause-read g c = if_ok c.call_list.result c.call_list.ensures.told (λ list told session.
    let oracle = g.D.SourceDatabase.oracle c.args.db.now in
    let s : State = state_of c.args.collector.now session in
    let d = macro_directive_of c.args.directive in
    let written = written_attr_of c.args.written in
    let node = node_there oracle written.tree written.item c.item_tree.result _ c.item_tree.ensures c.item_in-node.ensures in
    ap (λ n. list_told oracle s d written c.args.found (derive_paths written (may_derive n))) node
    ∙ ap (list_told oracle s d written c.args.found) c.in-Ok.ensures.ok
    ∙ told s)

pub returns-in-Err-clause-read : goal.returns-in-Err-clause-read
returns-in-Err-clause-read g c = both_ok c.refuse_list.result c.refuse_list.ensures.reported c.refuse_list.ensures.derives (λ list reported none session.
    let oracle = g.D.SourceDatabase.oracle c.args.db.now in
    let s : State = state_of c.args.collector.now session in
    let d = macro_directive_of c.args.directive in
    let written = written_attr_of c.args.written in
    let node = node_there oracle written.tree written.item c.item_tree.result _ c.item_tree.ensures c.item_in-node.ensures in
    ap (λ n. list_told oracle s d written c.args.found (derive_paths written (may_derive n))) node
    ∙ ap (list_told oracle s d written c.args.found) c.in-Err.ensures.err
    ∙ sym (λ i. record { state = record s { diagnostics = reported i }; turn = WalksItem (none i) written }))
