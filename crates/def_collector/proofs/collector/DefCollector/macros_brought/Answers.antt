use Rattle.std.proofs.Common.{◌≡◌, ◌∙◌, [], List, ap, cond, subst, sym}
use Rattle.std.specs.Prelude.{IfOk}
use Rattle.tree_ids.specs.declared.name.Name.{Name}
use Rattle.def_ids.specs.declared.ids.MacroId.{MacroId}
use Rattle.def_collector.specs.Collector.{state_of}
use Rattle.def_rules.specs.Macros.{macros_brought, taken_by}
use Rattle.item_tree.specs.Attrs.{attrs_of}
use Rattle.def_rules.specs.State.{world}
use Rattle.def_collector.proofs.collector.DefCollector.macros_brought.Goals as goal

pub returns : goal.returns
returns g c =
    let oracle = g.D.SourceDatabase.oracle c.args.db.now in
    let s = state_of c.args.self.now c.args.session.now in
    let taken : List (Name × MacroId) = taken_by (world oracle s) c.in-Some.root (attrs_of c.args.node.now.attrs) in
    let brought : taken ≡ macros_brought oracle s c.args.node.now c.args.name c.args.root =
    sym (ap (λ root. macros_brought oracle s c.args.node.now c.args.name root) c.in-Some.is ∙ ap (λ b. cond b [] taken) (sym c.if-eq.ensures)) in
    subst (λ (list : List (Name × MacroId)). IfOk c.macros_brought.result (λ found. found.items ≡ list))
    (ap (λ w. taken_by w c.in-Some.root (attrs_of c.args.node.now.attrs)) c.world.ensures ∙ brought) c.macros_brought.ensures
