-- The seeded map: nothing is bound, so all is of the map and names are sound.
use Rattle.std.proofs.Common.{◌≡◌, zero, suc, Bool, List, [], ◌∷◌, length, Option, Some, None, refl, sym, subst, arith, inl, inr}
use Rattle.tree_ids.specs.declared.ids.BlockId.{BlockId}
use Rattle.tree_ids.specs.declared.ids.CfgExpr.{CfgExpr}
use Rattle.tree_ids.specs.declared.ids.ModItemId.{ModItemId}
use Rattle.def_ids.specs.declared.ids.ModuleId.{ModuleId}
use Rattle.def_interner.specs.Session.{Session}
use Rattle.def_bindings.specs.declared.bindings.Binding.{Binding}
use Rattle.def_bindings.specs.declared.bindings.Slot.{Slot}
use Rattle.def_bindings.specs.declared.bindings.Slot.TheVariants.{Named, Unnamed}
use Rattle.def_bindings.specs.declared.visibility.Visibility.{Visibility}
use Rattle.def_bindings.specs.Content.{Content, empty}
use Rattle.def_bindings.specs.Puts.{held}
use Rattle.def_bindings.specs.Tree.{AreParentsLower}
use Rattle.def_modules.specs.Fresh.{IsFresh, fresh_by}
use Rattle.def_modules.specs.MapState.{MapState}
use Rattle.def_globs.proofs.ListLaws.{none_in}
use Rattle.def_oracle.specs.Oracle.{Oracle}
use Rattle.def_laws.specs.Own.{AreOwn, AreOwnTasks, IsOwn}
use Rattle.def_laws.specs.Sound.{AreSound, IsSoundWith}
use Rattle.def_rules.specs.Globs.{Targets}
use Rattle.def_rules.specs.Items.{top_items, tree_cfg}
use Rattle.def_rules.specs.Start.{first_site, first_tasks, first_tree, first_walk, seeded_state, started}
use Rattle.def_rules.specs.State.{Setting, Site}
use Rattle.def_laws.proofs.PlainLaws.{own_walk}

-- what the map of a fresh crate or block has of modules
pub record HasRoot (m : MapState) : Type 0 where
  pub one : length m.parents ≡ 1
  pub even : length m.parents ≡ length m.modules
  pub lower : AreParentsLower m.parents

lower_root : AreParentsLower (None ∷ [])
lower_root zero p h = cc
lower_root (suc i) p h = cc

root_of : (block : Option BlockId) (s : MapState) → HasRoot (fresh_by block s)
root_of None s = record { one = refl; even = refl; lower = lower_root }
root_of (Some block) s = record { one = refl; even = refl; lower = lower_root }

fresh_root : (s : MapState) (content : Content Visibility) → IsFresh s content → HasRoot s
fresh_root s content fresh = subst HasRoot (sym fresh.state) (root_of s.id.block s)

-- nothing is bound in an empty table
unbound : (at : ModuleId) (slot : Slot) (b : Binding Visibility) → held empty at slot ≡ Some b → ⊥
unbound at (Named name ns) b h = cc
unbound at (Unnamed t) b h = cc

-- names are sound in an empty table
sound_empty : (left_out : ModuleId → Bool) (m : MapState) (targets : Targets) → AreSound left_out m targets empty
sound_empty left_out m targets = record {
  closed = λ source index edge slot b at. absurd cc;
  coherent = λ importer name ns b glob target at. absurd cc;
  begins = λ source index edge target at. absurd cc;
  led = λ importer name ns b glob target at. absurd cc;
  single = λ source i j e f at. absurd cc;
}

own_empty : (m : MapState) (targets : Targets) → HasRoot m → AreOwn m targets empty []
own_empty m targets has = record {
  even = has.even;
  lower = has.lower;
  imports = λ d h. absurd (none_in d h);
  bound = λ at slot h. absurd (unbound at slot h.0 h.1);
  edges = λ source index edge at. absurd cc;
  globs = λ at name ns glob h. absurd (let wrong = h.1 in cc);
  listed = λ at name ns b h. absurd cc;
}

walk_own : (oracle : Oracle) (m : MapState) (targets : Targets) (site : Site) (ids : List ModItemId) (cfg : Option CfgExpr) → IsOwn m site.scope → AreOwnTasks m targets (first_walk oracle site ids cfg)
walk_own oracle m targets site ids None own = own_walk oracle m targets site ids own
walk_own oracle m targets site ids (Some cfg) own = tt

-- what a run begins with is sound in the seeded map, whatever is known of the crate
pub begins_sound : (w : Setting) (before : Session) (content : Content Visibility) → IsFresh w.seeded content → IsSoundWith (first_tasks w.oracle w.seeded w.tree) (started w.oracle w.tree (seeded_state w before))
begins_sound w before content fresh =
    let m : MapState = (started w.oracle w.tree (seeded_state w before)).map in
    let root : HasRoot w.seeded = fresh_root w.seeded content fresh in
    let one : length m.parents ≡ 1 = root.one in
    record {
      stands = record {
        state = own_empty m (λ glob. None) (record { one = one; even = root.even; lower = root.lower });
        tasks = walk_own w.oracle m (λ glob. None) (first_site w.oracle w.seeded w.tree) (top_items w.oracle (first_tree w.oracle w.seeded.id w.tree)) (tree_cfg w.oracle (first_tree w.oracle w.seeded.id w.tree)) (refl, omega arith);
        waiting = λ at waits. elim waits [ inl macro ↦ absurd (none_in macro.0 macro.1) | inr later ↦ elim later [ inl expansion ↦ absurd (none_in expansion.0 expansion.1) | inr deferred ↦ absurd (none_in deferred.0 deferred.2) ] ];
      };
      sound = sound_empty _ m (λ glob. None);
    }
