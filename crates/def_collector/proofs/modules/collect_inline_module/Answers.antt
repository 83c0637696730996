use Rattle.std.proofs.Common.{ap, subst, sym, ◌∙◌}
use Rattle.def_parts.specs.Directories.{descend, text_in}
use Rattle.def_modules.specs.declared.module_data.ModuleOrigin.TheVariants as origin
use Rattle.def_parts.specs.Sites.{site_of}
use Rattle.item_tree.specs.Attrs.{attrs_of}
use Rattle.def_items.specs.Lists.{behind}
use Rattle.def_items.specs.Parts.{with_parts}
use Rattle.def_rules.specs.Modules.{bring_if, is_macro_use, name_text}
use Rattle.def_rules.specs.State.{State}
use Rattle.def_laws.proofs.ModulesLaws.{inline_opened, inline_too_deep, IsPushed}
use Rattle.def_collector.proofs.modules.collect_inline_module.Goals as goal

pub returns-in_default-clause-done : goal.returns-in_default-clause-done
returns-in_default-clause-done g c = λ s named.
    let before : State = with_parts s c.args.def_map.now c.args.table.now in
    let after : State = with_parts s c.push_module.new.def_map c.push_module.new.table in
    let site = site_of c.args.item.site.now in
    inline_too_deep (g.D.SourceDatabase.oracle c.args.db.now) before after site c.args.item.name c.args.item.vis (origin.Inline c.args.item.node.now.ast_id site.tree) (is_macro_use (attrs_of c.args.item.node.now.attrs)) c.args.children.now _
    (subst (IsPushed before after site c.args.item.name c.args.item.vis) c.inline_origin-origin.ensures (c.in_ok-child.ensures.added s))
    (sym c.in_default.is ∙ c.in_ok-dir.ensures ∙ ap (λ text. descend site.directory text (text_in c.path_attr-attr.result)) named
    ∙ ap (λ attr. descend site.directory (name_text s.session c.args.item.name) attr) c.path_attr-attr.ensures)

pub returns-clause-done : goal.returns-clause-done
returns-clause-done g c = λ s named.
    let before : State = with_parts s c.args.def_map.now c.args.table.now in
    let after : State = with_parts s c.push_module.new.def_map c.push_module.new.table in
    let site = site_of c.args.item.site.now in
    inline_opened (g.D.SourceDatabase.oracle c.args.db.now) before after site c.args.item.name c.args.item.vis (origin.Inline c.args.item.node.now.ast_id site.tree) (is_macro_use (attrs_of c.args.item.node.now.attrs)) c.args.children.now _
    (subst (IsPushed before after site c.args.item.name c.args.item.vis) c.inline_origin-origin.ensures (c.in_ok-child.ensures.added s))
    c.in_ok-child.child c.in-Some.dir (λ m. behind m c.into_if.result) (c.in_ok-child.ensures.child s)
    (sym c.in-Some.is ∙ c.in_ok-dir.ensures ∙ ap (λ text. descend site.directory text (text_in c.path_attr-attr.result)) named
    ∙ ap (λ attr. descend site.directory (name_text s.session c.args.item.name) attr) c.path_attr-attr.ensures)
    (c.into_if.ensures c.in_ok-child.child ∙ ap (λ b. bring_if b c.in_ok-child.child site.scope) c.is_macro_use.ensures)
