use Rattle.std.proofs.Common.{sym, subst}
use Rattle.def_map.specs.DefMaps.{view_of}
use Rattle.def_modules.specs.Locals.{local_view}
use Rattle.def_sources.specs.Sources.{extern_source, prelude_source}
use Rattle.visible_names.specs.declared.brought.BroughtBy.{BroughtBy}
use Rattle.visible_names.specs.Visible.{asking, source_of, Lists}
use Rattle.visible_names.proofs.NamesLemmas.{lists_unless}
use Rattle.visible_names.proofs.seen.Seen.names.Goals as goal

pub returns-in-TextualMacro-clause-all : goal.returns-in-TextualMacro-clause-all
returns-in-TextualMacro-clause-all g c =
    let self = c.args.self.now in
    let q = asking (g.D.SourceDatabase.oracle self.db.now) (local_view self.local.now) in
    subst (λ (by : BroughtBy). Lists (source_of q (view_of self.map.now) self.place by) c.textual_names.result.now) (sym c.in-TextualMacro.is) c.textual_names.ensures.all

pub returns-in-Scope-clause-all : goal.returns-in-Scope-clause-all
returns-in-Scope-clause-all g c =
    let self = c.args.self.now in
    let q = asking (g.D.SourceDatabase.oracle self.db.now) (local_view self.local.now) in
    subst (λ (by : BroughtBy). Lists (source_of q (view_of self.map.now) self.place by) c.scope_names.result.now) (sym c.in-Scope.is) c.scope_names.ensures.all

pub returns-in-ExternPrelude-clause-all : goal.returns-in-ExternPrelude-clause-all
returns-in-ExternPrelude-clause-all g c =
    let self = c.args.self.now in
    let q = asking (g.D.SourceDatabase.oracle self.db.now) (local_view self.local.now) in
    subst (λ (by : BroughtBy). Lists (source_of q (view_of self.map.now) self.place by) c.extern_names.result.now) (sym c.in-ExternPrelude.is) (lists_unless self.place (extern_source q) c.extern_names.result.now c.extern_names.ensures.all)

pub returns-in-MacroUsePrelude-clause-all : goal.returns-in-MacroUsePrelude-clause-all
returns-in-MacroUsePrelude-clause-all g c =
    let self = c.args.self.now in
    let q = asking (g.D.SourceDatabase.oracle self.db.now) (local_view self.local.now) in
    subst (λ (by : BroughtBy). Lists (source_of q (view_of self.map.now) self.place by) c.macro_use_names.result.now) (sym c.in-MacroUsePrelude.is) c.macro_use_names.ensures.all

pub returns-in-Prelude-clause-all : goal.returns-in-Prelude-clause-all
returns-in-Prelude-clause-all g c =
    let self = c.args.self.now in
    let q = asking (g.D.SourceDatabase.oracle self.db.now) (local_view self.local.now) in
    subst (λ (by : BroughtBy). Lists (source_of q (view_of self.map.now) self.place by) c.prelude_names.result.now) (sym c.in-Prelude.is) (lists_unless self.place (prelude_source q (view_of self.map.now)) c.prelude_names.result.now c.prelude_names.ensures.all)
