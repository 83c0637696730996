-- Tasks that put for no glob and add no edge, and walks, which are such.
use Rattle.std.proofs.Common.{◌≡◌, List, [], ◌∷◌, ◌++◌, Option, Some, None, sym, ap, ◌∙◌}
use Rattle.tree_ids.specs.declared.ids.ModItemId.{ModItemId}
use Rattle.def_ids.specs.declared.ids.GlobId.{GlobId}
use Rattle.def_ids.specs.declared.ids.ModuleId.{ModuleId}
use Rattle.def_bindings.specs.declared.bindings.ImportOrExternCrate.TheVariants.{Glob}
use Rattle.def_bindings.specs.Puts.{IsExplicit, Origin, glob_of}
use Rattle.def_modules.specs.MapState.{MapState}
use Rattle.def_oracle.specs.Oracle.{Oracle}
use Rattle.def_laws.specs.Followed.{AreFollowed, IsFollowed}
use Rattle.def_laws.specs.Roles.{Role, puts, links, takes, stays, role_of}
use Rattle.def_laws.specs.Own.{AreOwnTasks, IsOwn}
use Rattle.def_rules.specs.Globs.{Targets}
use Rattle.def_rules.specs.Items.{ordered, visits, walk}
use Rattle.def_rules.specs.State.{Site, Task}

-- what a role puts is for no glob, and it adds no edge
abbrev pub IsPlain : Role → Type 0
IsPlain (puts at entry) = IsExplicit entry.origin
IsPlain (links source edge) = ⊥
IsPlain (takes at name function) = Unit {0}
IsPlain stays = Unit {0}

-- no task is for a glob
abbrev pub ArePlain : List Task → Type 0
ArePlain [] = Unit {0}
ArePlain (task ∷ tasks) = IsPlain (role_of task) × ArePlain tasks

-- the first of plain tasks are plain
pub plain_first : (xs ys : List Task) → ArePlain (xs ++ ys) → ArePlain xs
plain_first [] ys h = tt
plain_first (task ∷ xs) ys h = (h.0, plain_first xs ys h.1)

pub explicit_by : (origin : Origin) (g : GlobId) → IsExplicit origin → origin ≡ Some (Glob g) → ⊥
explicit_by origin g explicit by = let wrong : None ≡ Some g = sym explicit ∙ ap glob_of by in cc

-- tasks of which each is plain, one list behind another
pub plain_both : (xs ys : List Task) → ArePlain xs → ArePlain ys → ArePlain (xs ++ ys)
plain_both [] ys h k = k
plain_both (task ∷ xs) ys h k = (h.0, plain_both xs ys h.1 k)

-- and need no edge
pub plain_followed : (T : GlobId → Option ModuleId) (tasks : List Task) → ArePlain tasks → AreFollowed T tasks
plain_followed T [] h = tt
plain_followed T (task ∷ tasks) h = (by_role (role_of task) h.0, plain_followed T tasks h.1)
  where
    by_role : (role : Role) → IsPlain role → IsFollowed T role tasks
    by_role (puts at entry) plain = λ g by. absurd (explicit_by entry.origin g plain by)
    by_role (links source edge) plain = absurd plain
    by_role (takes at name function) plain = tt
    by_role stays plain = tt

plain_visits : (site : Site) (ids : List ModItemId) → ArePlain (visits site ids)
plain_visits site [] = tt
plain_visits site (id ∷ ids) = (tt, plain_visits site ids)

own_visits : (m : MapState) (targets : Targets) (site : Site) (ids : List ModItemId) → IsOwn m site.scope → AreOwnTasks m targets (visits site ids)
own_visits m targets site [] own = tt
own_visits m targets site (id ∷ ids) own = ((own, tt), own_visits m targets site ids own)

-- a walk in a module of the map
pub own_walk : (oracle : Oracle) (m : MapState) (targets : Targets) (site : Site) (ids : List ModItemId) → IsOwn m site.scope → AreOwnTasks m targets (walk oracle site ids)
own_walk oracle m targets site ids own = ((own, tt), own_visits m targets site (ordered (oracle.item_tree site.tree) site.scope ids) own)

-- and a plain one
pub plain_walk : (oracle : Oracle) (site : Site) (ids : List ModItemId) → ArePlain (walk oracle site ids)
plain_walk oracle site ids = (tt, plain_visits site (ordered (oracle.item_tree site.tree) site.scope ids))
