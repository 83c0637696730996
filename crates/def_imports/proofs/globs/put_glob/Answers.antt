use Rattle.std.proofs.Common.{ap, subst, sym, ◌∙◌}
use Rattle.def_items.specs.Parts.{with_parts}
use Rattle.def_laws.specs.Performs.{Updated}
use Rattle.def_rules.specs.State.{State, with_content}
use Rattle.def_imports.proofs.GlobLemmas.{put_alone, put_linked}
use Rattle.def_imports.proofs.globs.put_glob.Goals as goal

pub returns-in_default : goal.returns-in_default
returns-in_default c = λ oracle s brings.
    let before : State = with_parts s c.args.def_map.now c.args.table.now in
    put_alone oracle before (with_parts s c.args.def_map.now c.put.new.table) c.args.glob c.args.entries.items c.args.def
    (sym c.edge_source.ensures ∙ c.in_default.is) brings (subst (λ list. Updated c.args.glob.importer list (with_parts s c.args.def_map.now c.args.table.now) (with_parts s c.args.def_map.now c.put.new.table)) c.as_slice.ensures.value (c.in_ok-put.ensures s))

pub returns : goal.returns
returns c = λ oracle s brings.
    let before : State = with_parts s c.args.def_map.now c.args.table.now in
    let put : State = with_parts s c.args.def_map.now c.put.new.table in
    put_linked oracle before put c.args.glob c.args.entries.items (with_parts s c.args.def_map.now c.add_edge.new.self) c.in-Some.source
    (ap (with_content put) c.in_ok-add_edge.ensures.edge) c.args.def (sym c.edge_source.ensures ∙ c.in-Some.is) brings (subst (λ list. Updated c.args.glob.importer list (with_parts s c.args.def_map.now c.args.table.now) (with_parts s c.args.def_map.now c.put.new.table)) c.as_slice.ensures.value (c.in_ok-put.ensures s))
