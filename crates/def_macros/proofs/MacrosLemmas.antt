-- What handling an item leads to that defines a macro.
use Rattle.std.proofs.Common.{◌≡◌, false, List, [], Option, Some, Result, Ok, Err, refl, sym, ap, subst, ◌∙◌, append-nil}
use Rattle.std.specs.Option.{option_map_or}
use Rattle.std.specs.Prelude.{IfOk, if◌then◌else◌}
use Rattle.item_tree.specs.declared.attrs.Attr.{Attr}
use Rattle.tree_ids.specs.declared.ids.FileAstId.{FileAstId}
use Rattle.tree_ids.specs.declared.ids.InFile.{InFile}
use Rattle.item_tree.specs.declared.items.ItemNode.{ItemNode}
use Rattle.item_tree.specs.declared.items.ModItemKind.TheVariants.{MacroRules, Macro2}
use Rattle.item_tree.specs.declared.items.RawVisibility.{RawVisibility}
use Rattle.tree_ids.specs.declared.macro_flags.MacroRulesLocFlags.{MacroRulesLocFlags}
use Rattle.tree_ids.specs.declared.name.Name.{Name}
use Rattle.item_tree.specs.Attrs.{attrs_of, has_attr}
use Rattle.item_tree.specs.KnownNames.{macro_export_name}
use Rattle.def_ids.specs.declared.ids.MacroId.{MacroId}
use Rattle.def_ids.specs.declared.ids.MacroId.TheVariants as macro_of
use Rattle.def_ids.specs.declared.ids.ModuleId.{ModuleId}
use Rattle.def_ids.specs.Ids.{is_same_map}
use Rattle.def_ids.specs.declared.edition.Edition.{Edition}
use Rattle.def_ids.specs.declared.expander.MacroExpander.{MacroExpander}
use Rattle.def_interner.specs.MacroKinds.{kind_of_expander}
use Rattle.def_interner.specs.Session.{MacroLoc, Session}
use Rattle.def_bindings.specs.declared.visibility.Visibility.{Visibility}
use Rattle.def_bindings.specs.Content.{Content}
use Rattle.def_parts.specs.Sites.{site_of}
use Rattle.def_macros.specs.declared.numbered.MacroItem.{MacroItem}
use Rattle.def_macros.specs.Numbered.{IsItem, IsRules}
use Rattle.def_map.specs.Oracle.{Oracle}
use Rattle.def_map.specs.Sources.{World, finished_map}
use Rattle.def_modules.specs.MapView.{MapView}
use Rattle.def_laws.specs.Performs.{Handled, Performs}
use Rattle.def_rules.specs.Items.{position_of, written_vis}
use Rattle.def_rules.specs.Macros.{defined_effect, export_effect, item_effect, item_expander, item_flags, macro_loc, rules_effect, rules_expander, rules_flags, taken_by, taken_in, textual_state, unimplemented_reported}
use Rattle.def_rules.specs.Locations.{AddsOwn}
use Rattle.def_rules.specs.Rules.{Handles}
use Rattle.def_rules.specs.State.{State, Effect, Site}

-- what holds of a value and follows from it
pub if_ok : {T E : Type 0} {P Q : T → Type 0} (r : Result T E) → IfOk r P → ((x : T) → P x → Q x) → IfOk r Q
if_ok (Ok x) p f = f x p
if_ok (Err e) p f = p

-- the macros that are taken of a module of a finished map
pub taken_elsewhere : (w : World) (at : ModuleId) (attrs known : List Attr) (content : Content Visibility) (map : MapView) → known ≡ attrs → is_same_map at.map w.map.facts.id ≡ false → Some map ≡ finished_map w.oracle at.map
    → content ≡ map.content → taken_in content at known ≡ taken_by w at attrs
taken_elsewhere w at attrs known content map same other there bound =
    ap (taken_in content at) same
    ∙ ap (λ c. taken_in c at attrs) bound
    ∙ ap (λ (m : Option MapView). option_map_or (λ (x : MapView). taken_in x.content at attrs) m []) there
    ∙ ap (λ b. option_map_or (λ (x : MapView). taken_in x.content at attrs) (if b then Some w.map else finished_map w.oracle at.map) []) (sym other)

-- where a macro stands, as the code says it
pub placed : (edition : Edition) (site : Site) (node : ItemNode) (expander : MacroExpander) (position : InFile FileAstId) (flags known : MacroRulesLocFlags) → position ≡ position_of site node → flags ≡ known
    → record { container = site.scope; position = position; kind = kind_of_expander expander; flags = flags; edition = edition } ≡ macro_loc edition site node expander known
placed edition site node expander position flags known at same =
    let loc : InFile FileAstId → MacroRulesLocFlags → MacroLoc = λ p f. record { container = site.scope; position = p; kind = kind_of_expander expander; flags = f; edition = edition } in
    ap (λ p. loc p flags) at ∙ ap (loc (position_of site node)) same

module _ (oracle : Oracle) (s t u : State) (session : Session) (site : Site) (node : ItemNode) (name : Name) (m : MacroItem) (own : AddsOwn site node s.session session) (told : u ≡ unimplemented_reported (record s { session = session }) (site_of m.site.now) m.node.now m.expander) where
  abbrev kept : State
  kept = record s { session = session }

  performed_same : (e f : Effect) → e ≡ f → Performs oracle e.tasks e.state t → Performs oracle f.tasks f.state t
  performed_same e f same done = subst (λ (x : Effect). Performs oracle x.tasks x.state t) same done

  -- a macro by rules was defined
  pub handled_rules : node.kind ≡ MacroRules name → IsRules oracle s.map session site node name m
      → (let effect = export_effect (textual_state u (site_of m.site.now) m.node.now m.name m.id) (has_attr macro_export_name (attrs_of m.node.now.attrs)) m.name m.id in Performs oracle effect.tasks effect.state t)
      → Handled oracle s t site node []
  handled_rules kind rules after =
      let id : MacroId = macro_of.MacroRules (record { 0 = rules.n }) in
      let effect : Effect = rules_effect kept site node name (rules_expander oracle s.map.id.krate site node rules.found) id in
      let made : Effect = export_effect (textual_state u (site_of m.site.now) m.node.now m.name m.id) (has_attr macro_export_name (attrs_of m.node.now.attrs)) m.name m.id in
      let of_site : site_of m.site.now ≡ site = rules.of.stands in
      let of_node : m.node.now ≡ node = rules.of.is in
      let of_name : m.name ≡ name = rules.of.called in
      let by : m.id ≡ id = rules.id in
      let by_this = rules.expander in
      let first : made ≡ rules_effect kept (site_of m.site.now) m.node.now m.name m.expander m.id =
      ap (λ x. export_effect (textual_state x (site_of m.site.now) m.node.now m.name m.id) (has_attr macro_export_name (attrs_of m.node.now.attrs)) m.name m.id) told in
      let second : rules_effect kept (site_of m.site.now) m.node.now m.name m.expander m.id ≡ effect =
      ap (λ x. rules_effect kept x m.node.now m.name m.expander m.id) of_site
      ∙ ap (λ x. rules_effect kept site x m.name m.expander m.id) of_node
      ∙ ap (λ x. rules_effect kept site node x m.expander m.id) of_name
      ∙ ap (λ x. rules_effect kept site node name x m.id) by_this
      ∙ ap (λ x. rules_effect kept site node name (rules_expander oracle s.map.id.krate site node rules.found) x) by in
      let number : session.macro_at id ≡ Some (macro_loc s.map.krate.edition site node (rules_expander oracle s.map.id.krate site node rules.found) (rules_flags node)) =
      ap (λ x. session.macro_at x) (sym by) ∙ rules.numbered ∙ ap (λ x. Some (macro_loc s.map.krate.edition site node x (rules_flags node))) by_this in
      record {
        effect = effect;
        handled = (session, own, subst (λ k. Handles oracle kept site node k effect) (sym kind) (rules.n, rules.found, rules.looked_up, number, refl));
        done = record { puts = effect.tasks; tasks = sym (append-nil effect.tasks); performs = performed_same made effect (first ∙ second) after };
      }

  -- a `macro` item was defined
  pub handled_item : (raw : RawVisibility) (vis : Visibility) → node.kind ≡ Macro2 name raw → vis ≡ written_vis oracle kept site.scope raw → IsItem oracle s.map session site node name m
      → (let effect = defined_effect u (site_of m.site.now) m.node.now m.name vis m.expander m.id in Performs oracle effect.tasks effect.state t)
      → Handled oracle s t site node []
  handled_item raw vis kind seen item after =
      let id : MacroId = macro_of.Macro2 (record { 0 = item.n }) in
      let seen_vis : Visibility = written_vis oracle kept site.scope raw in
      let effect : Effect = item_effect kept site node name seen_vis (item_expander oracle s.map.id.krate site node name) id in
      let made : Effect = defined_effect u (site_of m.site.now) m.node.now m.name vis m.expander m.id in
      let of_site : site_of m.site.now ≡ site = item.of.stands in
      let of_node : m.node.now ≡ node = item.of.is in
      let of_name : m.name ≡ name = item.of.called in
      let by : m.id ≡ id = item.id in
      let by_this = item.expander in
      let first : made ≡ item_effect kept (site_of m.site.now) m.node.now m.name vis m.expander m.id =
      ap (λ x. defined_effect x (site_of m.site.now) m.node.now m.name vis m.expander m.id) told in
      let second : item_effect kept (site_of m.site.now) m.node.now m.name vis m.expander m.id ≡ effect =
      ap (λ x. item_effect kept x m.node.now m.name vis m.expander m.id) of_site
      ∙ ap (λ x. item_effect kept site x m.name vis m.expander m.id) of_node
      ∙ ap (λ x. item_effect kept site node x vis m.expander m.id) of_name
      ∙ ap (λ x. item_effect kept site node name x m.expander m.id) seen
      ∙ ap (λ x. item_effect kept site node name seen_vis x m.id) by_this
      ∙ ap (λ x. item_effect kept site node name seen_vis (item_expander oracle s.map.id.krate site node name) x) by in
      let number : session.macro_at id ≡ Some (macro_loc s.map.krate.edition site node (item_expander oracle s.map.id.krate site node name) (item_flags node)) =
      ap (λ x. session.macro_at x) (sym by) ∙ item.numbered ∙ ap (λ x. Some (macro_loc s.map.krate.edition site node x (item_flags node))) by_this in
      record {
        effect = effect;
        handled = (session, own, subst (λ k. Handles oracle kept site node k effect) (sym kind) (item.n, number, refl));
        done = record { puts = effect.tasks; tasks = sym (append-nil effect.tasks); performs = performed_same made effect (first ∙ second) after };
      }
