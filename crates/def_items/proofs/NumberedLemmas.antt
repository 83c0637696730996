-- What an item leads to that declares at most one name.
use Rattle.std.proofs.Common.{◌≡◌, [], ap, append-nil, refl, subst, sym, true}
use Rattle.item_tree.specs.declared.items.ItemNode.{ItemNode}
use Rattle.def_ids.specs.declared.ids.ConstId.{ConstId}
use Rattle.def_ids.specs.declared.ids.Def.{Def}
use Rattle.def_interner.specs.Session.{Session}
use Rattle.def_items.specs.declared.numbered.Declaration.{Declaration}
use Rattle.def_items.specs.declared.numbered.Declared.TheVariants.{Name, UnnamedConst}
use Rattle.def_items.specs.Numbered.{IsDeclared, declares_one, is_declaring}
use Rattle.def_laws.proofs.StepsLaws.{performs_none}
use Rattle.def_laws.specs.Performs.{Handled, Performs}
use Rattle.def_map.specs.Oracle.{Oracle}
use Rattle.def_modules.specs.Scopes.{with_unnamed_const}
use Rattle.def_rules.specs.Items.{declared_effect, noted_in, written_vis}
use Rattle.def_rules.specs.Locations.{AddsOwn}
use Rattle.def_rules.specs.Rules.{Follows}
use Rattle.def_rules.specs.State.{Effect, Site, State, only}

module _ (session : Session) (site : Site) (item : ItemNode) where
  -- an item that declares a name is of a kind that does
  pub name_declares : (d : Declaration) → IsDeclared session site item (Name d) → is_declaring item.kind ≡ true
  name_declares d declared = ap declares_one declared.5

  -- so is a constant without one
  pub unnamed_declares : (id : ConstId) → IsDeclared session site item (UnnamedConst id) → is_declaring item.kind ≡ true
  unnamed_declares id declared = ap declares_one declared.1

module _ (oracle : Oracle) (s t : State) (session : Session) (site : Site) (item : ItemNode) (own : AddsOwn site item s.session session) where
  -- the state in the session that has grown
  abbrev grown : State
  grown = record s { session = session }

  -- what a definition leads to
  abbrev effect_of : Declaration → Def → Effect
  effect_of d def = declared_effect grown site.scope d.name d.ns def (written_vis oracle grown site.scope d.vis.now)

  -- an item that declares a name
  pub handled_name : (d : Declaration) → IsDeclared session site item (Name d) → Performs oracle (effect_of d d.def).tasks (effect_of d d.def).state t → Handled oracle s t site item []
  handled_name d declared after =
      let effect : Effect = effect_of d (declared.1 declared.2) in
      record {
        effect = effect;
        handled = (session, own, subst (λ r. Follows oracle grown site item r effect) (sym declared.5) (declared.2, declared.4, refl));
        done = record { puts = effect.tasks; tasks = sym (append-nil effect.tasks); performs = subst (λ def. Performs oracle (effect_of d def).tasks (effect_of d def).state t) declared.3 after };
      }

  -- a constant without a name
  pub handled_unnamed : (id : ConstId) → IsDeclared session site item (UnnamedConst id) → t ≡ noted_in grown site.scope (with_unnamed_const id) → Handled oracle s t site item []
  handled_unnamed id declared after =
      let effect : Effect = only (noted_in grown site.scope (with_unnamed_const id)) in
      record {
        effect = effect;
        handled = (session, own, subst (λ r. Follows oracle grown site item r effect) (sym declared.1) (id.0, declared.0, refl));
        done = record { puts = []; tasks = refl; performs = subst (λ u. Performs oracle [] effect.state u) (sym after) (performs_none effect.state) };
      }
