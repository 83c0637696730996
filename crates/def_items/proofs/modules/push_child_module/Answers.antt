use Rattle.std.proofs.Common.{◌∷◌, [], ap, refl, subst, sym}
use Rattle.def_items.specs.Parts.{with_parts}
use Rattle.def_items.proofs.ItemsLemmas.{module_put}
use Rattle.def_items.proofs.modules.push_child_module.Goals as goal
use Rattle.def_laws.specs.Performs.{Updated}
use Rattle.def_rules.specs.State.{State}

pub returns-clause-added : goal.returns-clause-added
returns-clause-added c = λ s.
    let between : State = with_parts s c.declare.new.self c.args.table.now in
    let after : State = with_parts s c.declare.new.self c.put.new.table in
    subst (Updated c.args.added.parent _ _) (ap (λ content. record between { content = content }) (sym c.expect_names.ensures))
    (module_put (with_parts s c.args.def_map.now c.args.table.now) between after c.args.added.parent c.args.added.name c.args.added.vis _ _ c.in_ok-push_module.field-0 _ _ _
    c.in_ok-data.ensures c.in_ok-push_module.ensures.index c.in_ok-push_module.ensures.state c.in_ok-set_child.ensures c.in_ok-declare.ensures refl
    (subst (λ e. Updated c.args.added.parent (e ∷ []) between after) c.entry.ensures (c.in_ok-put.ensures s)))
