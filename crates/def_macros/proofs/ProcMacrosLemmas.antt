-- What a function leads to that exports a procedural macro.
use Rattle.std.proofs.Common.{◌≡◌, ◌∙◌, ◌<◌, ◌≤◌, ◌+◌, ℕ, drop, get_or, length, Bool, true, false, cond, ◌&&◌, List, [], ◌∷◌, Option, Some, None, refl, sym, ap, subst, append-nil}
use Rattle.std.proofs.lemmas.List.{at_drop_all, at_drop_more}
use Rattle.tree_ids.specs.declared.name.Name.{Name}
use Rattle.item_tree.specs.KnownNames.{name_eq}
use Rattle.item_tree.specs.declared.items.ItemNode.{ItemNode}
use Rattle.item_tree.specs.declared.items.ModItemKind.TheVariants.{Function}
use Rattle.item_tree.specs.declared.items.RawVisibility.{RawVisibility}
use Rattle.item_tree.specs.Attrs.{attrs_of}
use Rattle.def_ids.specs.declared.ids.Def.TheVariants as def
use Rattle.def_ids.specs.declared.ids.FunctionId.{FunctionId}
use Rattle.def_ids.specs.declared.ids.MacroId.TheVariants as macro_of
use Rattle.def_ids.specs.declared.ids.ModuleId.{ModuleId}
use Rattle.def_ids.specs.declared.ids.ProcMacroId.{ProcMacroId}
use Rattle.def_bindings.specs.declared.bindings.Entry.{Entry}
use Rattle.def_bindings.specs.declared.bindings.Namespace.TheVariants.{Macros, Values}
use Rattle.def_bindings.specs.declared.visibility.Visibility.{Visibility}
use Rattle.def_bindings.specs.declared.visibility.Visibility.TheVariants.{Public}
use Rattle.def_bindings.specs.Content.{without_binding}
use Rattle.def_interner.specs.Session.{FunctionItem, Session}
use Rattle.def_map.specs.Oracle.{Oracle}
use Rattle.def_readings.specs.ProcMacros.{MacroDecl, proc_macro_of}
use Rattle.def_rules.specs.Items.{declared_effect, declared_entry, loc_of, written_vis}
use Rattle.def_rules.specs.ProcMacros.{DeclaresFunction, binds_function, built_as, exported_effect, exported_macro, proc_loc, taken_out, takes_out}
use Rattle.def_rules.specs.Locations.{AddsOwn}
use Rattle.def_laws.proofs.LocationsLaws.{own_trans}
use Rattle.def_rules.specs.Rules.{Handles}
use Rattle.def_rules.specs.State.{State, Effect, Site, Task, root, with_content}
use Rattle.def_rules.specs.Targets.{leaves_out}
use Rattle.def_laws.specs.Performs.{Handled, Performs, Updated}
use Rattle.def_laws.proofs.ExportedLaws.{performs_exported}
use Rattle.def_laws.proofs.LeftOutLaws.{LeavesAlike, leaves_alike}

-- a search for a macro that was built under a name, from an index on
module _ (name : Name) (built : List (Name × ℕ × Bool)) (i : ℕ) where
  -- it is the one at the index
  pub built_at : (other : Name × ℕ × Bool) → i < length built → name_eq (get_or built i other).0 name ≡ true → built_as name (drop i built) ≡ built_as name built
      → Some ((get_or built i other).1, (get_or built i other).2) ≡ built_as name built
  built_at other within same so_far =
      let here : Name × ℕ × Bool = get_or built i other in
      sym (ap (λ b. cond b (Some (here.1, here.2)) (built_as name (drop (i + 1) built))) same) ∙ sym (at_drop_more (built_as name) built i other within) ∙ so_far

  -- it is another one
  pub built_past : (other : Name × ℕ × Bool) → i < length built → name_eq (get_or built i other).0 name ≡ false → built_as name (drop i built) ≡ built_as name built → built_as name (drop (i + 1) built) ≡ built_as name built
  built_past other within apart so_far =
      let here : Name × ℕ × Bool = get_or built i other in
      sym (ap (λ b. cond b (Some (here.1, here.2)) (built_as name (drop (i + 1) built))) apart) ∙ sym (at_drop_more (built_as name) built i other within) ∙ so_far

  -- none is left
  pub built_none : length built ≤ i → built_as name (drop i built) ≡ built_as name built → None ≡ built_as name built
  built_none past so_far = sym (at_drop_all (built_as name) built i past) ∙ so_far

-- the state in which a function is taken out, or is not there
taken_state : (u : State) (at : ModuleId) (name : Name) (function : FunctionId) (takes : Bool) → (taken_out u at name function takes).state ≡ with_content u (cond takes (without_binding u.content at name Values) u.content)
taken_state u at name function true = refl
taken_state u at name function false = refl

-- a function was put, its macro was put, and it was taken out
pub exported_performed : (oracle : Oracle) (before first t u v : State) (site : Site) (node : ItemNode) (name : Name) (vis : Visibility) (function : FunctionId) (decl : MacroDecl) (id : ProcMacroId) (values macros : Entry Visibility)
    → (let effect = exported_effect before site node name vis function decl id in first ≡ effect.state) → values ≡ declared_entry name Values (def.Function function) vis → macros ≡ declared_entry decl.name Macros (def.Macro (macro_of.ProcMacro id)) Public
    → Updated site.scope (values ∷ []) first t → Updated (root before.map) (macros ∷ []) t u → LeavesAlike before u → leaves_out before site.scope ≡ true
    → v ≡ with_content u (cond (binds_function u.content site.scope name function) (without_binding u.content site.scope name Values) u.content)
    → (let effect = exported_effect before site node name vis function decl id in Performs oracle effect.tasks effect.state v)
exported_performed oracle before first t u v site node name vis function decl id values macros begins is_values is_macros put_values put_macros alike left is =
    let effect : Effect = exported_effect before site node name vis function decl id in
    let at : ModuleId = site.scope in
    let takes : Bool = binds_function u.content at name function in
    let gone : v ≡ (taken_out u at name function (takes_out u at name function)).state = is ∙ sym (taken_state u at name function takes) ∙ ap (λ out. (taken_out u at name function (out && takes)).state) (sym (leaves_alike alike at ∙ left)) in
    performs_exported at (root before.map) (declared_entry name Values (def.Function function) vis) (declared_entry decl.name Macros (def.Macro (macro_of.ProcMacro id)) Public) name function effect.state t u v refl refl
    (subst (λ s. Updated at (declared_entry name Values (def.Function function) vis ∷ []) s t) begins (subst (λ e. Updated at (e ∷ []) first t) is_values put_values))
    (subst (λ e. Updated (root before.map) (e ∷ []) t u) is_macros put_macros) gone

module _ (oracle : Oracle) (s t : State) (session : Session) (site : Site) (node : ItemNode) (name : Name) (raw : RawVisibility) (function : FunctionId) (vis : Visibility)
    (kind : node.kind ≡ Function name raw) (own : AddsOwn site node s.session session) (numbered : session.item FunctionItem function.0 ≡ Some (loc_of site FunctionItem node)) where
  -- the state in the session that has grown
  abbrev kept : State
  kept = record s { session = session }

  module _ (seen : vis ≡ written_vis oracle kept site.scope raw) where
    -- by what it exports
    handled_by : (exported : Option MacroDecl) (effect : Effect) → exported_macro kept site node name ≡ exported → DeclaresFunction oracle kept site node name vis function exported effect → Performs oracle effect.tasks effect.state t → Handled oracle s t site node []
    handled_by exported effect is declares after =
        record {
          effect = effect;
          handled = (
            session,
            own,
            subst (λ k. Handles oracle kept site node k effect) (sym kind) (
              function.0,
              numbered,
              subst (λ e. DeclaresFunction oracle kept site node name (written_vis oracle kept site.scope raw) function e effect) (sym is) (subst (λ v. DeclaresFunction oracle kept site node name v function exported effect) seen declares),
            ),
          );
          done = record { puts = effect.tasks; tasks = sym (append-nil effect.tasks); performs = after };
        }

    -- a function that exports nothing was declared
    pub handled_function : exported_macro kept site node name ≡ None → (let effect = declared_effect kept site.scope name Values (def.Function function) vis in Performs oracle effect.tasks effect.state t) → Handled oracle s t site node []
    handled_function is after = handled_by None (declared_effect kept site.scope name Values (def.Function function) vis) is refl after

    -- one that exports a macro was
    pub handled_exported : (decl : MacroDecl) (id : ProcMacroId) → exported_macro kept site node name ≡ Some decl → session.macro_at (macro_of.ProcMacro id) ≡ Some (proc_loc oracle s.map site node decl)
        → (let effect = exported_effect kept site node name vis function decl id in Performs oracle effect.tasks effect.state t) → Handled oracle s t site node []
    handled_exported decl id is stands after = handled_by (Some decl) (exported_effect kept site node name vis function decl id) is (id, stands, refl) after

-- what is handled in a session that has grown is handled
pub handled_grown : (oracle : Oracle) (s t : State) (session : Session) (site : Site) (node : ItemNode) (inner : List Task) → AddsOwn site node s.session session → Handled oracle (record s { session = session }) t site node inner → Handled oracle s t site node inner
handled_grown oracle s t session site node inner own handled =
    record { effect = handled.effect; handled = (handled.handled.0, own_trans site node s.session session handled.handled.0 own handled.handled.1, handled.handled.2); done = handled.done }

-- in a module that is not left out a function exports nothing
pub exports_nothing : (s : State) (site : Site) (node : ItemNode) (name : Name) → leaves_out s site.scope ≡ false → exported_macro s site node name ≡ None
exports_nothing s site node name left = ap (λ out. cond out (proc_macro_of (attrs_of node.attrs) name) None) left

-- in one that is, what it declares
pub exports_declared : (s : State) (site : Site) (node : ItemNode) (name : Name) → leaves_out s site.scope ≡ true → exported_macro s site node name ≡ proc_macro_of (attrs_of node.attrs) name
exports_declared s site node name left = ap (λ out. cond out (proc_macro_of (attrs_of node.attrs) name) None) left
