use Rattle.std.proofs.Common.{List, Some, [], ap, subst, sym, ◌∙◌, ◌∷◌}
use Rattle.def_bindings.specs.declared.bindings.Entry.{Entry}
use Rattle.def_bindings.specs.declared.bindings.ImportOrExternCrate.{ImportOrExternCrate}
use Rattle.def_bindings.specs.declared.visibility.Visibility.{Visibility}
use Rattle.def_items.specs.Parts.{with_parts}
use Rattle.def_laws.specs.Performs.{Updated}
use Rattle.def_map.specs.PathAnswer.{whole}
use Rattle.def_rules.specs.Imports.{named_entries}
use Rattle.def_rules.specs.State.{State, order}
use Rattle.def_steps.specs.Shown.{import_of}
use Rattle.def_imports.proofs.imports.record_named.Goals as goal

pub returns-in-Some-lone_given : goal.returns-in-Some-lone_given
returns-in-Some-lone_given c = λ s.
    let before : State = with_parts s c.args.def_map.now c.args.table.now in
    let after : State = with_parts s c.args.def_map.now c.put.new.table in
    let lone = ap (named_entries (order before) (import_of c.args.import.now) c.args.vis (whole c.args.answer.now)) (sym c.in-Some.ensures) ∙ c.in-Some-lone_given.ensures c.in-Some.name in
    let entry : ImportOrExternCrate → List (Entry Visibility) = λ o. record { name = c.in-Some.name; ns = c.in-Some-lone_given.ns; def = c.in-Some-lone_given.def; vis = c.in-Some-lone_given.vis; origin = Some o } ∷ [] in
    subst (λ list. Updated c.args.import.now.module_id list before after) (sym (lone ∙ ap entry (sym c.origin.ensures))) (c.in_ok-put.ensures s)

pub returns : goal.returns
returns c = λ s.
    let before : State = with_parts s c.args.def_map.now c.args.table.now in
    let after : State = with_parts s c.args.def_map.now c.put-2.new.table in
    subst (λ list. Updated c.args.import.now.module_id list before after) (c.as_slice.ensures.value ∙ c.in_ok-entries.ensures) (c.in_ok-put-2.ensures s)
