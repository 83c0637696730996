-- What a macro call leads to.
use Rattle.std.proofs.Common.{◌≡◌, List, [], refl, sym, ap, subst}
use Rattle.tree_ids.specs.declared.ids.SyntaxContext.{SyntaxContext}
use Rattle.item_tree.specs.declared.items.ExpandTo.{ExpandTo}
use Rattle.item_tree.specs.declared.items.ItemNode.{ItemNode}
use Rattle.item_tree.specs.declared.items.ModItemKind.TheVariants.{MacroCall}
use Rattle.item_tree.specs.declared.mod_path.ModPath.{ModPath}
use Rattle.def_oracle.specs.Oracle.{Oracle}
use Rattle.def_rules.specs.Calls.{call_effect}
use Rattle.def_laws.proofs.LocationsLaws.{own_refl}
use Rattle.def_rules.specs.Rules.{Handles}
use Rattle.def_rules.specs.State.{State, Effect, followed_by, Site, Task}
use Rattle.def_laws.specs.Performs.{Handled, IsDone, Performs}
use Rattle.def_laws.proofs.StepsLaws.{performs_none}

-- an effect whose tasks are left was followed
pub left_done : (oracle : Oracle) (effect : Effect) (t : State) (inner : List Task) → effect ≡ followed_by t inner → IsDone oracle effect t inner
left_done oracle effect t inner is = record {
  puts = [];
  tasks = ap (λ (e : Effect). e.tasks) is;
  performs = subst (λ (e : Effect). Performs oracle [] e.state t) (sym is) (performs_none t);
}

-- a macro call was handled
pub handled_call : (oracle : Oracle) (s t : State) (site : Site) (item : ItemNode) (path : ModPath) (expand_to : ExpandTo) (ctxt : SyntaxContext) (inner : List Task)
    → item.kind ≡ MacroCall path expand_to ctxt → IsDone oracle (call_effect oracle s site item (record { path = path; expand_to = expand_to; ctxt = ctxt })) t inner → Handled oracle s t site item inner
handled_call oracle s t site item path expand_to ctxt inner kind done = record {
  effect = call_effect oracle s site item (record { path = path; expand_to = expand_to; ctxt = ctxt });
  handled = (s.session, own_refl site item s.session, subst (λ k. Handles oracle s site item k (call_effect oracle s site item (record { path = path; expand_to = expand_to; ctxt = ctxt }))) (sym kind) refl);
  done = done;
}
