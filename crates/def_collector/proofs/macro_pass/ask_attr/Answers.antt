use Rattle.std.proofs.Common.{[], ap, arith, refl, subst, sym, ◌∙◌}
use Rattle.std.specs.declared.alloc.Global.{Global}
use Rattle.std.specs.declared.collections.VecDeque.{VecDeque}
use Rattle.def_calls.specs.declared.directives.MacroDirective.{MacroDirective}
use Rattle.def_attrs.specs.Shown.{attr_use_of, derives_in}
use Rattle.def_calls.specs.Shown.{macro_directive_of, macros_in, written_attr_of}
use Rattle.def_collector.specs.Collector.{state_of}
use Rattle.def_collector.specs.Passes.{IsAsked}
use Rattle.def_map.specs.Asking.{world_lent}
use Rattle.def_sources.specs.Tables.{bound_by}
use Rattle.def_rules.specs.Attributes.{HasNoExpander, PassesOver, ReadsDerives, ReplacesItem}
use Rattle.def_rules.specs.Directives.{Told, WalksItem, attr_told, item_told, use_told}
use Rattle.def_rules.specs.State.{State}
use Rattle.def_collector.proofs.DeriveLemmas.{derives_long, listed, unlisted}
use Rattle.def_collector.proofs.MacroPassLemmas.{both_ok, few_macros}
use Rattle.def_collector.proofs.TurnLemmas.{attr_is, had_nothing, item_is, left_not_kept, told_left, turn_replaced, turn_walked, use_is}
use Rattle.def_collector.proofs.macro_pass.ask_attr.Goals as goal

pub returns-then-is_helper-clause-asked : goal.returns-then-is_helper-clause-asked
returns-then-is_helper-clause-asked g c =
    let oracle = g.D.SourceDatabase.oracle c.args.db.now in
    let s : State = state_of c.args.collector.now c.args.session.now in
    let d = macro_directive_of c.args.directive in
    let written = written_attr_of c.args.written in
    let is = item_is oracle s d written c.requires.kind c.is_helper.result (c.is_helper.ensures s) ∙ ap (item_told oracle s d written) c.if-is_helper.true in
    let t : State = state_of c.walk_without.new.collector c.walk_without.new.session in
    told_left (λ left. IsAsked oracle s d left t) c.walk_without.result c.walk_without.ensures.walked c.walk_without.ensures.few c.walk_without.ensures.left (λ walked few.
    turn_walked oracle s s t d [] written is refl (unlisted oracle s t d c.args.written c.empty-list.result c.empty-list.ensures.written walked c.empty-list.ensures.derives)
    (omega (arith, c.walk_without.ensures.depth)) (omega arith) (few_macros c.walk_without.new.collector.unresolved_macros))

pub returns-then-is_helper-clause-same : goal.returns-then-is_helper-clause-same
returns-then-is_helper-clause-same g c = left_not_kept _ c.walk_without.result c.walk_without.ensures.left

pub returns-in_default-clause-asked : goal.returns-in_default-clause-asked
returns-in_default-clause-asked g c =
    let oracle = g.D.SourceDatabase.oracle c.args.db.now in
    let s : State = state_of c.args.collector.now c.args.session.now in
    let d = macro_directive_of c.args.directive in
    let written = written_attr_of c.args.written in
    let is = attr_is oracle s d written c.requires.kind c.is_helper.result (c.is_helper.ensures s) c.if-is_helper.false (world_lent g.D.SourceDatabase.oracle bound_by c.world-world.result) c.attr_macro.result c.world-world.ensures c.attr_macro.ensures in
    had_nothing oracle s d (ap (λ (x : Told). x.turn) (is ∙ ap (attr_told oracle s d written) c.in_default.is))

pub returns-in-PassesOver-clause-asked : goal.returns-in-PassesOver-clause-asked
returns-in-PassesOver-clause-asked g c =
    let oracle = g.D.SourceDatabase.oracle c.args.db.now in
    let s : State = state_of c.args.collector.now c.args.session.now in
    let d = macro_directive_of c.args.directive in
    let written = written_attr_of c.args.written in
    let known = attr_is oracle s d written c.requires.kind c.is_helper.result (c.is_helper.ensures s) c.if-is_helper.false (world_lent g.D.SourceDatabase.oracle bound_by c.world-world.result) c.attr_macro.result c.world-world.ensures c.attr_macro.ensures in
    let is = use_is oracle s d written c.requires.kind c.in-Some.found c.attr_macro.result PassesOver known c.in-Some.is (sym c.attr_use.ensures ∙ ap attr_use_of c.in-PassesOver.is) in
    let t : State = state_of c.walk_without-in-PassesOver.new.collector c.walk_without-in-PassesOver.new.session in
    told_left (λ left. IsAsked oracle s d left t) c.walk_without-in-PassesOver.result c.walk_without-in-PassesOver.ensures.walked c.walk_without-in-PassesOver.ensures.few c.walk_without-in-PassesOver.ensures.left (λ walked few.
    turn_walked oracle s s t d [] written is refl (unlisted oracle s t d c.args.written c.empty-list-in-PassesOver.result c.empty-list-in-PassesOver.ensures.written walked c.empty-list-in-PassesOver.ensures.derives)
    (omega (arith, c.walk_without-in-PassesOver.ensures.depth)) (omega arith) (few_macros c.walk_without-in-PassesOver.new.collector.unresolved_macros))

pub returns-in-PassesOver-clause-same : goal.returns-in-PassesOver-clause-same
returns-in-PassesOver-clause-same g c = left_not_kept _ c.walk_without-in-PassesOver.result c.walk_without-in-PassesOver.ensures.left

pub returns-in_ok-list-in-ReadsDerives-clause-asked : goal.returns-in_ok-list-in-ReadsDerives-clause-asked
returns-in_ok-list-in-ReadsDerives-clause-asked g c =
    let oracle = g.D.SourceDatabase.oracle c.args.db.now in
    let s : State = state_of c.args.collector.now c.args.session.now in
    let d = macro_directive_of c.args.directive in
    let written = written_attr_of c.args.written in
    let known = attr_is oracle s d written c.requires.kind c.is_helper.result (c.is_helper.ensures s) c.if-is_helper.false (world_lent g.D.SourceDatabase.oracle bound_by c.world-world.result) c.attr_macro.result c.world-world.ensures c.attr_macro.ensures in
    let is = use_is oracle s d written c.requires.kind c.in-Some.found c.attr_macro.result ReadsDerives known c.in-Some.is (sym c.attr_use.ensures ∙ ap attr_use_of c.in-ReadsDerives.is) in
    let list = c.in_ok-list-in-ReadsDerives.list in
    let read = c.in_ok-list-in-ReadsDerives.ensures.read c.args.session.now in
    let t : State = state_of c.walk_without-in-ReadsDerives.new.collector c.walk_without-in-ReadsDerives.new.session in
    told_left (λ left. IsAsked oracle s d left t) c.walk_without-in-ReadsDerives.result c.walk_without-in-ReadsDerives.ensures.walked c.walk_without-in-ReadsDerives.ensures.few c.walk_without-in-ReadsDerives.ensures.left (λ walked few.
    turn_walked oracle s (state_of c.read_derives.new.collector c.args.session.now) t d (derives_in list) written (is ∙ read) (ap (λ (v : VecDeque MacroDirective Global). macros_in v.items) c.read_derives.ensures.same)
    (listed oracle _ _ d c.args.written list c.in_ok-list-in-ReadsDerives.ensures.written walked)
    (omega (arith, c.walk_without-in-ReadsDerives.ensures.depth)) (let long = derives_long list.written.attr_id list.call 0 list.paths.now in omega (arith, long, few)) (few_macros c.walk_without-in-ReadsDerives.new.collector.unresolved_macros))

pub returns-in_ok-list-in-ReadsDerives-clause-same : goal.returns-in_ok-list-in-ReadsDerives-clause-same
returns-in_ok-list-in-ReadsDerives-clause-same g c = left_not_kept _ c.walk_without-in-ReadsDerives.result c.walk_without-in-ReadsDerives.ensures.left

pub returns-in-ReplacesItem-clause-asked : goal.returns-in-ReplacesItem-clause-asked
returns-in-ReplacesItem-clause-asked g c =
    let oracle = g.D.SourceDatabase.oracle c.args.db.now in
    let s : State = state_of c.args.collector.now c.args.session.now in
    let d = macro_directive_of c.args.directive in
    let written = written_attr_of c.args.written in
    let known = attr_is oracle s d written c.requires.kind c.is_helper.result (c.is_helper.ensures s) c.if-is_helper.false (world_lent g.D.SourceDatabase.oracle bound_by c.world-world.result) c.attr_macro.result c.world-world.ensures c.attr_macro.ensures in
    let is = use_is oracle s d written c.requires.kind c.in-Some.found c.attr_macro.result ReplacesItem known c.in-Some.is (sym c.attr_use.ensures ∙ ap attr_use_of c.in-ReplacesItem.is) in
    both_ok c.replace_item.result c.replace_item.ensures.turned c.replace_item.ensures.left (λ left turned yes.
    subst (λ l. IsAsked oracle s d l (state_of c.replace_item.new.collector c.args.session.now)) (sym yes)
    (turn_replaced oracle s _ _ d (use_told oracle s d written c.in-Some.found ReplacesItem) (sym is) refl (turned c.args.session.now) _ refl))

pub returns-in-ReplacesItem-clause-same : goal.returns-in-ReplacesItem-clause-same
returns-in-ReplacesItem-clause-same g c = left_not_kept _ c.replace_item.result c.replace_item.ensures.left

pub returns-in_ok-report_no_expander-in-HasNoExpander-clause-asked : goal.returns-in_ok-report_no_expander-in-HasNoExpander-clause-asked
returns-in_ok-report_no_expander-in-HasNoExpander-clause-asked g c =
    let oracle = g.D.SourceDatabase.oracle c.args.db.now in
    let s : State = state_of c.args.collector.now c.args.session.now in
    let d = macro_directive_of c.args.directive in
    let written = written_attr_of c.args.written in
    let known = attr_is oracle s d written c.requires.kind c.is_helper.result (c.is_helper.ensures s) c.if-is_helper.false (world_lent g.D.SourceDatabase.oracle bound_by c.world-world.result) c.attr_macro.result c.world-world.ensures c.attr_macro.ensures in
    let is = use_is oracle s d written c.requires.kind c.in-Some.found c.attr_macro.result (HasNoExpander c.in-HasNoExpander.err) known c.in-Some.is (sym c.attr_use.ensures ∙ ap attr_use_of c.in-HasNoExpander.is) in
    let u : State = record s { diagnostics = c.report_no_expander.new.diagnostics.items } in
    let walks : State → Told = λ x. record { state = x; turn = WalksItem [] written } in
    let t : State = state_of c.walk_without-in-HasNoExpander.new.collector c.walk_without-in-HasNoExpander.new.session in
    told_left (λ left. IsAsked oracle s d left t) c.walk_without-in-HasNoExpander.result c.walk_without-in-HasNoExpander.ensures.walked c.walk_without-in-HasNoExpander.ensures.few c.walk_without-in-HasNoExpander.ensures.left (λ walked few.
    turn_walked oracle s u t d [] written (is ∙ ap walks (sym (c.in_ok-report_no_expander-in-HasNoExpander.ensures s))) refl (unlisted oracle u t d c.args.written c.empty-list-in-HasNoExpander.result c.empty-list-in-HasNoExpander.ensures.written walked c.empty-list-in-HasNoExpander.ensures.derives)
    (omega (arith, c.walk_without-in-HasNoExpander.ensures.depth)) (omega arith) (few_macros c.walk_without-in-HasNoExpander.new.collector.unresolved_macros))

pub returns-in_ok-report_no_expander-in-HasNoExpander-clause-same : goal.returns-in_ok-report_no_expander-in-HasNoExpander-clause-same
returns-in_ok-report_no_expander-in-HasNoExpander-clause-same g c = left_not_kept _ c.walk_without-in-HasNoExpander.result c.walk_without-in-HasNoExpander.ensures.left
