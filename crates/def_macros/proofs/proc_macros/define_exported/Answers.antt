use Rattle.std.proofs.Common.{◌≡◌, ap, refl, ◌∙◌}
use Rattle.def_ids.specs.declared.ids.Def.TheVariants as def
use Rattle.def_ids.specs.declared.ids.MacroId.TheVariants as macro_of
use Rattle.def_items.specs.Parts.{with_parts}
use Rattle.def_modules.specs.MapState.{MapState}
use Rattle.def_modules.specs.Maps.{map_state, with_module}
use Rattle.def_modules.specs.Scopes.{declared_in}
use Rattle.def_parts.specs.ProcMacros.{decl_of, kind_of}
use Rattle.def_parts.specs.Sites.{site_of}
use Rattle.def_rules.specs.ProcMacros.{exported_effect, paired_at}
use Rattle.def_rules.specs.State.{State, with_map}
use Rattle.def_macros.proofs.ProcMacrosLemmas.{exported_performed}
use Rattle.def_macros.proofs.proc_macros.define_exported.Goals as goal

pub returns : goal.returns
returns c = λ oracle s left.
    let before : State = with_parts s c.args.def_map.now c.args.table.now in
    let site = site_of c.args.site.now in
    let w = c.args.written in
    let decl = decl_of c.args.exported.def in
    let id = c.args.exported.id in
    let map : map_state c.declare-2.new.self ≡ (exported_effect before site c.args.node.now w.name w.vis w.id decl id).state.map =
    c.in_ok-declare-2.ensures ∙ ap (λ m. with_module m 0 (declared_in (def.Macro (macro_of.ProcMacro id)))) (c.in_ok-pair.ensures ∙ ap (λ m. paired_at m site c.args.node.now w.id id (kind_of c.args.exported.def.kind)) c.in_ok-declare.ensures) in
    exported_performed oracle before (with_parts s c.declare-2.new.self c.args.table.now) (with_parts s c.declare-2.new.self c.put.new.table) (with_parts s c.declare-2.new.self c.put-2.new.table)
    (with_parts s c.declare-2.new.self c.take_out.new.table) site c.args.node.now w.name w.vis w.id decl id c.entry-values.result c.entry-macros.result (ap (with_map before) map) c.entry-values.ensures c.entry-macros.ensures
    (c.in_ok-put.ensures s) (c.in_ok-put-2.ensures s) (record { is_proc_macro = refl; id = ap (λ (m : MapState). m.id) map }) left (ap (λ content. record (with_parts s c.declare-2.new.self c.args.table.now) { content = content }) c.take_out.ensures)
