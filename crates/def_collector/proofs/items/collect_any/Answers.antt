use Rattle.std.proofs.Common.{◌≡◌, ◌∙◌, sym, false, true}
use Rattle.def_items.proofs.ItemsLemmas.{handled_module}
use Rattle.def_laws.proofs.CallsLaws.{handled_call}
use Rattle.def_laws.proofs.ResultLaws.{if_ok}
use Rattle.def_parts.specs.Sites.{site_of}
use Rattle.def_collector.specs.Collector.{state_of}
use Rattle.def_rules.specs.State.{State}
use Rattle.def_collector.proofs.VisitLemmas.{opens_none}
use Rattle.def_collector.proofs.items.collect_any.Goals as goal

pub returns-in-Mod-clause-handled : goal.returns-in-Mod-clause-handled
returns-in-Mod-clause-handled g c =
    let oracle = g.D.SourceDatabase.oracle c.args.db.now in
    let before : State = state_of c.args.collector.now c.args.session.now in
    if_ok c.collect_module.result c.collect_module.ensures.done (λ opened done opens.
    handled_module oracle before _ (site_of c.args.site.now) c.args.node.now _ _ _ c.resolve_visibility.result _ c.in-Mod.is c.resolve_visibility.ensures (done before c.name_text.ensures))

pub returns-in-ExternBlock-clause-handled : goal.returns-in-ExternBlock-clause-handled
returns-in-ExternBlock-clause-handled g c =
    if_ok c.collect_extern_block.result c.collect_extern_block.ensures.handled (λ opened handled opens. handled (state_of c.args.collector.now c.args.session.now) c.in-ExternBlock.is)

pub returns-in-MacroCall-clause-handled : goal.returns-in-MacroCall-clause-handled
returns-in-MacroCall-clause-handled g c =
    let oracle = g.D.SourceDatabase.oracle c.args.db.now in
    let before : State = state_of c.args.collector.now c.args.session.now in
    if_ok c.collect_macro_call.result c.collect_macro_call.ensures.done (λ opened done opens.
    handled_call oracle before _ (site_of c.args.site.now) c.args.node.now c.in-MacroCall.path c.in-MacroCall.expand_to c.in-MacroCall.ctxt _ c.in-MacroCall.is done)

pub returns-in_default-clause-handled : goal.returns-in_default-clause-handled
returns-in_default-clause-handled g c = λ opens.
    absurd (let wrong : false ≡ true = sym (opens_none c.args.node.now.kind c.in_default.not-Mod c.in_default.not-ExternBlock c.in_default.not-MacroCall) ∙ opens in cc)
