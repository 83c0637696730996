use Rattle.std.proofs.Common.{◌≡◌, sym, ap, subst, ◌∙◌}
use Rattle.std.specs.Prelude.{if◌then◌else◌}
use Rattle.def_ids.specs.Ids.{is_block_root}
use Rattle.def_map.specs.DefMaps.{view_of}
use Rattle.def_modules.specs.Locals.{local_view}
use Rattle.def_sources.specs.declared.per_ns.PerNs.{PerNs}
use Rattle.def_sources.specs.PerNs.{nothing}
use Rattle.def_sources.specs.Sources.{extern_source, prelude_source}
use Rattle.visible_names.specs.declared.brought.BroughtBy.{BroughtBy}
use Rattle.visible_names.specs.Visible.{asking, has}
use Rattle.visible_names.proofs.NamesLemmas.{outside_is}
use Rattle.visible_names.proofs.seen.Seen.has.Goals as goal

pub returns-in-TextualMacro : goal.returns-in-TextualMacro
returns-in-TextualMacro g c =
    let self = c.args.self.now in
    let q = asking (g.D.SourceDatabase.oracle self.db.now) (local_view self.local.now) in
    subst (λ (by : BroughtBy). c.textual.result ≡ has q (view_of self.map.now) self.place by c.args.name) (sym c.in-TextualMacro.is) c.textual.ensures

pub returns-in-Scope : goal.returns-in-Scope
returns-in-Scope g c =
    let self = c.args.self.now in
    let q = asking (g.D.SourceDatabase.oracle self.db.now) (local_view self.local.now) in
    subst (λ (by : BroughtBy). c.scope.result ≡ has q (view_of self.map.now) self.place by c.args.name) (sym c.in-Scope.is) c.scope.ensures

pub returns-in-ExternPrelude : goal.returns-in-ExternPrelude
returns-in-ExternPrelude g c =
    let self = c.args.self.now in
    let q = asking (g.D.SourceDatabase.oracle self.db.now) (local_view self.local.now) in
    subst (λ (by : BroughtBy). c.outside.result ≡ has q (view_of self.map.now) self.place by c.args.name) (sym c.in-ExternPrelude.is) (
    c.outside.ensures ∙ ap (λ (found : PerNs). if is_block_root self.place then nothing else found) c.extern_crate.ensures
    ∙ outside_is (is_block_root self.place) (extern_source q c.args.name))

pub returns-in-MacroUsePrelude : goal.returns-in-MacroUsePrelude
returns-in-MacroUsePrelude g c =
    let self = c.args.self.now in
    let q = asking (g.D.SourceDatabase.oracle self.db.now) (local_view self.local.now) in
    subst (λ (by : BroughtBy). c.macro_use.result ≡ has q (view_of self.map.now) self.place by c.args.name) (sym c.in-MacroUsePrelude.is) c.macro_use.ensures

pub returns-in-Prelude : goal.returns-in-Prelude
returns-in-Prelude g c =
    let self = c.args.self.now in
    let q = asking (g.D.SourceDatabase.oracle self.db.now) (local_view self.local.now) in
    subst (λ (by : BroughtBy). c.outside-in-Prelude.result ≡ has q (view_of self.map.now) self.place by c.args.name) (sym c.in-Prelude.is) (
    c.outside-in-Prelude.ensures ∙ ap (λ (found : PerNs). if is_block_root self.place then nothing else found) c.prelude.ensures
    ∙ outside_is (is_block_root self.place) (prelude_source q (view_of self.map.now) c.args.name))
