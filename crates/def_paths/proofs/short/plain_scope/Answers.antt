use Rattle.std.proofs.Common.{None, ap, arith, drop, false, length, length-drop, sym, ◌<◌, ◌∙◌}
use Rattle.std.proofs.lemmas.List.{take_rest}
use Rattle.std.proofs.lemmas.Option.{IfSome_then}
use Rattle.tree_ids.specs.declared.name.Name.{Name}
use Rattle.def_paths.specs.Answers.{reached, walk}
use Rattle.def_sources.specs.Asking.{question_in, map_in}
use Rattle.def_sources.specs.PerNs.{in_types, per_namespace}
use Rattle.def_sources.specs.Sources.{scope_source}
use Rattle.def_paths.proofs.AnswersLemmas.{is-module, plain-longer, prefix-some}
use Rattle.def_paths.proofs.short.plain_scope.Goals as goal

pub returns-in_ok-first-in-len1-up : goal.returns-in_ok-first-in-len1-up
returns-in_ok-first-in-len1-up g c =
    let q = question_in g.D.PathDatabase.oracle c.args.asking.now in
    let own = map_in g.T.BindingTable.content c.args.asking.now in
    let segments = c.args.segments.now in
    let rest = drop 1 segments in
    let more : 0 < length rest = simp length-drop (omega (arith, c.in-len1-up.len_at_least)) in
    let d : Name = record { 0 = 0 } in
    let here = is-module c.in_ok-item-in-len1-up.item.def c.in_ok-first-in-len1-up.first (sym c.as_module.ensures ∙ c.in_ok-first-in-len1-up.was) in
    IfSome_then c.scope_reached.result c.scope_reached.ensures (λ there leads.
    sym (plain-longer q own c.args.place c.args.asking.now.asked.sub segments segments d c.relative_type.result
    (reached (per_namespace (scope_source q own there.0 there.1)) None false) (λ i. segments) c.in-len1-up.len_at_least c.relative_type.ensures
    (λ all e. sym (leads c.in_ok-item-in-len1-up.item 1 here)
    ∙ ap (walk q own false (in_types c.in_ok-item-in-len1-up.item) 1) (take_rest segments 1)
    ∙ prefix-some q own all c.in_ok-item-in-len1-up.item rest more (e ∙ c.in_ok-item-in-len1-up.was))))
