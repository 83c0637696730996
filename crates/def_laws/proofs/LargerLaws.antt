-- Maps that grow by modules.
use Rattle.std.proofs.Common.{◌≡◌, ◌⊎◌, ◌<◌, ◌+◌, ℕ, zero, suc, Bool, true, false, cond, List, [], ◌∷◌, ◌++◌, map, length, slice_get, Option, Some, None, refl, sym, ap, ◌∙◌, subst, arith, inl, inr, length-append, append-nil, append_assoc}
use Rattle.std.specs.Prelude.{nat_lt}
use Rattle.std.specs.Option.{option_and_then}
use Rattle.std.proofs.lemmas.Bool.{ltb-true}
use Rattle.either.specs.declared.Either.TheVariants.{Right}
use Rattle.tree_ids.specs.declared.ids.FileAstId.{FileAstId}
use Rattle.tree_ids.specs.declared.ids.InFile.{InFile}
use Rattle.tree_ids.specs.declared.ids.MacroCallId.{MacroCallId}
use Rattle.tree_ids.specs.declared.ids.ModItemId.{ModItemId}
use Rattle.tree_ids.specs.declared.ids.TreeId.{TreeId}
use Rattle.item_tree.specs.declared.items.ItemNode.{ItemNode}
use Rattle.tree_ids.specs.declared.name.Name.{Name}
use Rattle.def_ids.specs.declared.ids.Adt.{Adt}
use Rattle.def_ids.specs.declared.ids.BuiltinDeriveImplId.{BuiltinDeriveImplId}
use Rattle.def_ids.specs.declared.ids.MacroId.{MacroId}
use Rattle.def_ids.specs.declared.ids.ModuleId.{ModuleId}
use Rattle.def_interner.specs.declared.macro_def.MacroDefId.{MacroDefId}
use Rattle.def_interner.specs.Session.{Session}
use Rattle.def_bindings.specs.declared.visibility.Visibility.{Visibility}
use Rattle.def_bindings.specs.Tree.{AreParentsLower}
use Rattle.def_modules.specs.declared.module_data.ModuleOrigin.{ModuleOrigin}
use Rattle.def_modules.specs.MapState.{MapState, ModuleState, ShownHelper}
use Rattle.def_modules.specs.Maps.{known_parent, pushed, with_helper, with_macro_use, with_module, with_renamed_helpers}
use Rattle.def_modules.specs.Scopes.{called_at, with_derive_impl, with_invocation}
use Rattle.def_modules.specs.Updates.{update_at}
use Rattle.def_oracle.specs.Oracle.{Oracle}
use Rattle.def_readings.specs.DeriveNames.{NameAndHelpers}
use Rattle.def_laws.specs.Own.{IsOwn}
use Rattle.def_rules.specs.declared.inner_calls.InnerCall.{InnerCall}
use Rattle.def_rules.specs.Calls.{each_helped, expansion_tree, helped, invoking, recording_inner, replaced_by, with_helpers}
use Rattle.def_rules.specs.Derives.{derived_map, helper_names, helper_of, with_derive_call, with_shown_helpers}
use Rattle.def_rules.specs.Items.{node_at, top_items}
use Rattle.def_rules.specs.Macros.{showing_helpers, taking}
use Rattle.def_rules.specs.Recording.{with_new_prelude}
use Rattle.def_rules.specs.Modules.{add_module, fresh_module, next_module}
use Rattle.def_rules.specs.declared.deferred.DeferredDerive.{DeferredDerive}
use Rattle.def_rules.specs.Deferred.{AreGiven, giving_impls, last_of, naming_impl, with_impls}
use Rattle.def_rules.specs.State.{State, root}
use Rattle.def_rules.specs.Waiting.{MacroDirective, WrittenDerive}
use Rattle.def_laws.proofs.SoundLaws.{IsLarger}

length-update_at : {X : Type 0} (xs : List X) (i : ℕ) (f : X → X) → length (update_at xs i f) ≡ length xs
length-update_at [] i f = refl
length-update_at (x ∷ xs) zero f = refl
length-update_at (x ∷ xs) (suc i) f = ap suc (length-update_at xs i f)

last_cases : {X : Type 0} (xs : List X) (y x : X) (i : ℕ) → slice_get (xs ++ y ∷ []) i ≡ Some x → (slice_get xs i ≡ Some x) ⊎ ((i ≡ length xs) × (x ≡ y))
last_cases [] y x zero h = inr (refl, cc)
last_cases [] y x (suc i) h = cc
last_cases (z ∷ xs) y x zero h = inl h
last_cases (z ∷ xs) y x (suc i) h = elim (last_cases xs y x i h) [ inl old ↦ inl old | inr last ↦ inr (ap suc last.0, last.1) ]

-- a map is as large as itself
pub larger_refl : (m : MapState) → IsLarger m m
larger_refl m = record { id = refl; containing = refl; more = []; parents = sym (append-nil m.parents); even = λ even. even; lower = λ lower. lower }

-- a map that differs in nothing that is said of its modules is no smaller
pub larger_same : (m m' : MapState) → m'.id ≡ m.id → m'.containing ≡ m.containing → m'.parents ≡ m.parents → m'.modules ≡ m.modules → IsLarger m m'
larger_same m m' id containing parents modules = record {
  id = id;
  containing = containing;
  more = [];
  parents = parents ∙ sym (append-nil m.parents);
  even = λ even. ap length parents ∙ even ∙ sym (ap length modules);
  lower = λ lower. subst AreParentsLower (sym parents) lower;
}

-- a map with another prelude has the same modules
pub larger_prelude : (made : Option ModuleId) (m : MapState) → IsLarger m (with_new_prelude made m)
larger_prelude made m = larger_same m (with_new_prelude made m) refl refl refl refl

pub larger_trans : (a b c : MapState) → IsLarger a b → IsLarger b c → IsLarger a c
larger_trans a b c p q =
    record {
      id = q.id ∙ p.id;
      containing = q.containing ∙ p.containing;
      more = p.more ++ q.more;
      parents = q.parents ∙ ap (λ l. l ++ q.more) p.parents ∙ append_assoc a.parents p.more q.more;
      even = λ even. q.even (p.even even);
      lower = λ lower. q.lower (p.lower lower);
    }

-- a module that is changed is none more
pub larger_with_module : (m : MapState) (i : ℕ) (f : ModuleState → ModuleState) → IsLarger m (with_module m i f)
larger_with_module m i f =
    record { id = refl; containing = refl; more = []; parents = sym (append-nil m.parents); even = λ even. even ∙ sym (length-update_at m.modules i f); lower = λ lower. lower }

module _ (parents : List (Option ℕ)) (parent : ℕ) where
  known_below : (known : Bool) → nat_lt parent (length parents) ≡ known → (p : ℕ) → cond known (Some parent) None ≡ Some p → p < length parents
  known_below true is p h = let same : parent ≡ p = cc in let l = ltb-true parent (length parents) is in subst (λ n. n < length parents) same l
  known_below false is p h = cc

  stored : (o : Option (Option ℕ)) (p : ℕ) → option_and_then (λ parent. parent) o ≡ Some p → o ≡ Some (Some p)
  stored None p h = cc
  stored (Some x) p h = ap Some h

  lower_pushed : AreParentsLower parents → AreParentsLower (parents ++ known_parent parents parent ∷ [])
  lower_pushed lower i p h =
      elim (last_cases parents (known_parent parents parent) (Some p) i (stored _ p h)) [
        | inl old ↦ lower i p (ap (option_and_then (λ parent. parent)) old)
        | inr last ↦
            let below = known_below (nat_lt parent (length parents)) refl p (sym last.1) in
            let at : i ≡ length parents = last.0 in
            omega arith
      ]

-- a module that is pushed is one more
larger_pushed : (m : MapState) (parent : ℕ) (d : ModuleState) → IsLarger m (pushed m parent d)
larger_pushed m parent d =
    record {
      id = refl;
      containing = refl;
      more = known_parent m.parents parent ∷ [];
      parents = refl;
      even = λ even. length-append m.parents (known_parent m.parents parent ∷ []) ∙ ap (λ n. n + 1) even ∙ sym (length-append m.modules (d ∷ []));
      lower = lower_pushed m.parents parent;
    }

pub larger_add_module : (s : State) (at : ModuleId) (name : Name) (vis : Visibility) (o : ModuleOrigin) → IsLarger s.map (add_module s at name vis o).map
larger_add_module s at name vis o =
    larger_trans s.map _ _ (larger_pushed s.map at.index (fresh_module s.map at.index name vis o)) (larger_trans _ _ _ (larger_with_module _ at.index _) (larger_with_module _ at.index _))

-- a module of a map is one of a larger map
pub own_larger : (m m' : MapState) (at : ModuleId) → IsLarger m m' → IsOwn m at → IsOwn m' at
own_larger m m' at larger own =
    let long : length m'.parents ≡ length m.parents + length larger.more = ap length larger.parents ∙ length-append m.parents larger.more in
    let below : at.index < length m.parents = own.1 in
    (own.0 ∙ sym larger.id, omega arith)

-- where a module is of a map, the root is
pub own_root : (m : MapState) (at : ModuleId) → IsOwn m at → IsOwn m (root m)
own_root m at own = let below : at.index < length m.parents = own.1 in (refl, omega arith)

-- macros that are taken add no module
pub larger_taking : (brought : List (Name × MacroId)) (m : MapState) → IsLarger m (taking brought m)
larger_taking [] m = larger_refl m
larger_taking (one ∷ rest) m =
    let first : MapState = with_macro_use m one.0 one.1 in
    larger_trans m first (taking rest first) (larger_same m first refl refl refl refl) (larger_taking rest first)

-- nor do calls that are made
pub larger_invoking : (at : ℕ) (calls : List (InFile FileAstId × MacroCallId)) (m : MapState) → IsLarger m (invoking at calls m)
larger_invoking at [] m = larger_refl m
larger_invoking at (call ∷ calls) m =
    let first : MapState = with_module m at (with_invocation call.0 call.1) in
    larger_trans m first (invoking at calls first) (larger_with_module m at (with_invocation call.0 call.1)) (larger_invoking at calls first)

-- nor those that were made for arguments
pub larger_inner : (calls : List InnerCall) (m : MapState) → IsLarger m (recording_inner calls m)
larger_inner [] m = larger_refl m
larger_inner (made ∷ calls) m =
    let at : ℕ = made.module_id.index in
    let first : MapState = with_module m at (with_invocation made.position made.call) in
    larger_trans m first (recording_inner calls first) (larger_with_module m at (with_invocation made.position made.call)) (larger_inner calls first)

-- nor do helpers that are exported
pub larger_showing : (in_block : Bool) (id : MacroId) (read : Option NameAndHelpers) (m : MapState) → IsLarger m (showing_helpers in_block id read m)
larger_showing in_block id None m = larger_refl m
larger_showing true id (Some read) m = larger_refl m
larger_showing false id (Some read) m = larger_same m (showing_helpers false id (Some read) m) refl refl refl refl

-- nor do helpers of a derive, and its call
larger_helpers : (position : InFile FileAstId) (helpers : List ShownHelper) (m : MapState) → IsLarger m (with_helpers m position helpers)
larger_helpers position [] m = larger_refl m
larger_helpers position (helper ∷ helpers) m =
    let first : MapState = with_helper m position helper in
    larger_trans m first (with_helpers first position helpers) (larger_same m first refl refl refl refl) (larger_helpers position helpers first)

larger_helped : (tree : TreeId) (helpers : List ShownHelper) (item : Option ItemNode) (m : MapState) → IsLarger m (helped m tree helpers item)
larger_helped tree helpers None m = larger_refl m
larger_helped tree helpers (Some item) m = larger_helpers (record { file = tree.file; value = item.ast_id }) helpers m

larger_each : (oracle : Oracle) (tree : TreeId) (helpers : List ShownHelper) (ids : List ModItemId) (m : MapState) → IsLarger m (each_helped oracle m tree helpers ids)
larger_each oracle tree helpers [] m = larger_refl m
larger_each oracle tree helpers (id ∷ ids) m =
    let first : MapState = helped m tree helpers (node_at oracle tree id) in
    larger_trans m first (each_helped oracle first tree helpers ids) (larger_helped tree helpers (node_at oracle tree id) m) (larger_each oracle tree helpers ids first)

pub larger_replaced : (oracle : Oracle) (call : MacroCallId) (replaces : Option (InFile FileAstId)) (m : MapState) → IsLarger m (replaced_by oracle m call replaces)
larger_replaced oracle call None m = larger_refl m
larger_replaced oracle call (Some position) m = larger_each oracle (expansion_tree call) (m.helpers position) (top_items oracle (expansion_tree call)) m

pub larger_shown : (oracle : Oracle) (m : MapState) (d : MacroDirective) (found : MacroDefId) (call : MacroCallId) → IsLarger m (with_shown_helpers oracle m d found call)
larger_shown oracle m d found call = larger_helpers d.position (map (helper_of found call) (helper_names oracle m.id.krate found)) m

pub larger_derived : (oracle : Oracle) (m : MapState) (d : MacroDirective) (written : WrittenDerive) (found : MacroDefId) (call : MacroCallId) → IsLarger m (derived_map oracle m d written found call)
larger_derived oracle m d written found call =
    let placed : ModuleState → ModuleState = with_derive_call d written call in
    let first : MapState = with_shown_helpers oracle m d found call in
    larger_trans m first (with_module first d.scope.index placed) (larger_shown oracle m d found call) (larger_with_module first d.scope.index placed)

-- impls of deferred derives are recorded
larger_impls : (at : ModuleId) (ids : List BuiltinDeriveImplId) (m : MapState) → IsLarger m (with_impls m at ids)
larger_impls at [] m = larger_refl m
larger_impls at (id ∷ ids) m =
    let first : MapState = with_module m at.index (with_derive_impl id) in
    larger_trans m first (with_impls first at ids) (larger_with_module m at.index (with_derive_impl id)) (larger_impls at ids first)

larger_naming : (at : ModuleId) (position : InFile FileAstId) (derive : DeferredDerive) (last : Option BuiltinDeriveImplId) (m : MapState) → IsLarger m (naming_impl m at position derive last)
larger_naming at position derive None m = larger_refl m
larger_naming at position derive (Some id) m =
    let placed : ModuleState → ModuleState = called_at position derive.attr_id derive.pos (Right id) in
    let first : MapState = with_module m at.index placed in
    larger_trans m first (with_renamed_helpers first position derive.helpers id) (larger_with_module m at.index placed) (larger_same first (with_renamed_helpers first position derive.helpers id) refl refl refl refl)

pub larger_given : (oracle : Oracle) (session : Session) (at : ModuleId) (position : InFile FileAstId) (adt : Adt) (derives : List DeferredDerive) (m new : MapState) → AreGiven oracle session at position adt derives m new → IsLarger m new
larger_given oracle session at position adt [] m new same = subst (IsLarger m) (sym same) (larger_refl m)
larger_given oracle session at position adt (derive ∷ derives) m new (ids, are, rest) =
    let first : MapState = with_impls m at ids in
    let second : MapState = giving_impls m at position derive ids in
    larger_trans m second new (larger_trans m first second (larger_impls at ids m) (larger_naming at position derive (last_of None ids) first)) (larger_given oracle session at position adt derives second new rest)

pub own_next : (s : State) (at : ModuleId) (name : Name) (vis : Visibility) (o : ModuleOrigin) → length s.map.parents ≡ length s.map.modules → IsOwn (add_module s at name vis o).map (next_module s)
own_next s at name vis o even =
    let long : length (s.map.parents ++ known_parent s.map.parents at.index ∷ []) ≡ length s.map.parents + 1 = length-append s.map.parents (known_parent s.map.parents at.index ∷ []) in
    let even' : length s.map.parents ≡ length s.map.modules = even in
    (refl, omega arith)
