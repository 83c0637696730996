-- What a recorded import leads to: tasks within the map, which end by the edge of its glob.
use Rattle.std.proofs.Common.{◌≡◌, Bool, true, false, cond, List, [], ◌∷◌, ◌++◌, Option, Some, None, Contains, refl, sym, ap, ◌∙◌, subst, inl, inr, append-nil}
use Rattle.std.specs.List.{flat_map}
use Rattle.std.proofs.lemmas.Bool.{and_parts, false≢true}
use Rattle.std.proofs.lemmas.List.Elements.{Contains-append_cases}
use Rattle.item_tree.specs.declared.items.ImportKind.{ImportKind}
use Rattle.item_tree.specs.declared.items.ImportKind.TheVariants as kind
use Rattle.tree_ids.specs.declared.name.Name.{Name}
use Rattle.def_ids.specs.declared.ids.Def.{Def}
use Rattle.def_ids.specs.declared.ids.Def.TheVariants as def
use Rattle.def_ids.specs.declared.ids.GlobId.{GlobId}
use Rattle.def_ids.specs.declared.ids.ModuleId.{ModuleId}
use Rattle.def_bindings.specs.declared.bindings.EdgeTo.{EdgeTo}
use Rattle.def_bindings.specs.declared.bindings.Entry.{Entry}
use Rattle.def_bindings.specs.declared.bindings.ImportOrExternCrate.TheVariants.{Glob}
use Rattle.def_bindings.specs.declared.bindings.Namespace.{Namespace}
use Rattle.def_bindings.specs.declared.bindings.Namespace.TheVariants.{Types, Values, Macros}
use Rattle.def_bindings.specs.declared.visibility.Visibility.{Visibility}
use Rattle.def_bindings.specs.Order.{Order}
use Rattle.def_paths.specs.declared.path_result.ResolvePathResult.{ResolvePathResult}
use Rattle.def_bindings.specs.Puts.{lessened}
use Rattle.def_oracle.specs.Oracle.{Oracle}
use Rattle.def_paths.specs.Answers.{variants_of}
use Rattle.def_paths.specs.Paths.{for_import, map_of, question}
use Rattle.def_sources.specs.PerNs.{Item}
use Rattle.def_globs.proofs.ListLaws.{none_in, only_in}
use Rattle.def_laws.specs.Followed.{AreFollowed}
use Rattle.def_laws.specs.Own.{AreOwn, AreOwnTasks, IsOwn}
use Rattle.def_laws.specs.Sound.{AreSound, IsSound}
use Rattle.def_rules.specs.Targets.{leaves_out, own_module, target_of}
use Rattle.def_rules.specs.Globs.{Targets, module_entries, variant_entries, with_target}
use Rattle.def_rules.specs.Imports.{bound_name, entry_of, import_vis, keeps_ns, kept_item, named_entries, origin_of, taken_types}
use Rattle.def_rules.specs.Recording.{edge_tasks, glob_def, glob_edge, glob_id, glob_tasks, is_own_crate, record_tasks, targets_after}
use Rattle.def_rules.specs.State.{State, Import, ImportDirective, Task, AddEdge, order, put_each, world}
use Rattle.def_laws.proofs.BroughtLaws.{module_by, variants_by}
use Rattle.def_laws.proofs.OwnLaws.{StayRecorded, own_both}
use Rattle.def_laws.proofs.SoundLaws.{sound_target}
use Rattle.def_laws.proofs.TargetsLaws.{followed_puts, own_module_is, own_puts, recorded_now, recorded_stays, target_is}

-- An import that is recorded

module _ (o : Order Visibility) (p : Import) (vis : Visibility) where
  named_by : (name : Option Name) (ns : Namespace) (item : Option Item) (e : Entry Visibility) → Contains (entry_of o p vis name ns item) e → e.origin ≡ Some (origin_of p)
  named_by name ns None e h = absurd (none_in e h)
  named_by name ns (Some item) e h = in_cond (keeps_ns p.written.kind ns) h
    where
      made : Entry Visibility
      made = record { name = name; ns = ns; def = item.def; vis = lessened o item.vis vis; origin = Some (origin_of p) }

      in_cond : (b : Bool) → Contains (cond b (made ∷ []) []) e → e.origin ≡ Some (origin_of p)
      in_cond true k = ap (λ (x : Entry Visibility). x.origin) (only_in made e k)
      in_cond false k = absurd (none_in e k)

  all_named : (answer : ResolvePathResult) (bound : Option (Option Name)) (e : Entry Visibility) → Contains (named_entries o p vis answer bound) e → e.origin ≡ Some (origin_of p)
  all_named answer None e h = absurd (none_in e h)
  all_named answer (Some name) e h =
      elim (Contains-append_cases (entry_of o p vis name Types (taken_types p.written.path vis answer)) _ e h) [
        | inl types ↦ named_by name Types (taken_types p.written.path vis answer) e types
        | inr rest ↦ elim (Contains-append_cases (entry_of o p vis name Values (kept_item answer answer.resolved_def.values)) _ e rest) [
          | inl values ↦ named_by name Values (kept_item answer answer.resolved_def.values) e values
          | inr macros ↦ named_by name Macros (kept_item answer answer.resolved_def.macros) e macros
        ]
      ]

  -- no entry of a named import is by a glob
  none_by : (answer : ResolvePathResult) (bound : Option (Option Name)) (e : Entry Visibility) (g : GlobId) → Contains (named_entries o p vis answer bound) e → e.origin ≡ Some (Glob g) → ⊥
  none_by answer bound e g h by = let wrong : Some (origin_of p) ≡ Some (Glob g) = sym (all_named answer bound e h) ∙ by in cc

module _ (oracle : Oracle) (u : State) (glob : EdgeTo Visibility) where
  by_glob : (origin : _) (g : GlobId) → origin ≡ Some (Glob glob.glob) → origin ≡ Some (Glob g) → g ≡ glob.glob
  by_glob origin g made by = let two : Some (Glob g) ≡ Some (Glob glob.glob) = sym by ∙ made in cc

  module _ (d : Def) where
    abbrev now : Targets
    now = with_target glob.glob d u.targets

    abbrev T : GlobId → Option ModuleId
    T = target_of u.map.id now

    own_listed : IsOwn u.map glob.importer → (list : List (Entry Visibility)) → ((e : Entry Visibility) → Contains list e → e.origin ≡ Some (Glob glob.glob)) → AreOwnTasks u.map now (put_each glob.importer list)
    own_listed own list made = own_puts u.map now glob.importer list own (λ e g listed by. recorded_now glob.glob d u.targets g (by_glob e.origin g (made e listed) by))

    nowhere : ((t : ModuleId) → own_module u.map.id d ≡ Some t → ⊥) → T glob.glob ≡ None
    nowhere none = at (T glob.glob) refl
      where
        at : (o : Option ModuleId) → T glob.glob ≡ o → T glob.glob ≡ None
        at None is = is
        at (Some t) is = absurd (none t (target_is glob.glob d u.targets u.map.id t is))

    followed_listed : (list : List (Entry Visibility)) → ((e : Entry Visibility) → Contains list e → e.origin ≡ Some (Glob glob.glob)) → T glob.glob ≡ None → (rest : List Task) → AreFollowed T rest → AreFollowed T (put_each glob.importer list ++ rest)
    followed_listed list made none rest h = followed_puts T glob.importer list rest (λ e g listed by. inl (ap T (by_glob e.origin g (made e listed) by) ∙ none)) h

  module _ (source : ModuleId) where
    abbrev d : Def
    d = def.Module source

    abbrev list : List (Entry Visibility)
    list = module_entries (order u) glob (is_own_crate u.map.id source) (map_of (world oracle u) source.map) source

    made : (e : Entry Visibility) → Contains list e → e.origin ≡ Some (Glob glob.glob)
    made e h = module_by (order u) glob (is_own_crate u.map.id source) (map_of (world oracle u) source.map) source e h

    edge_own : IsOwn u.map glob.importer → (b : Bool) → AreOwnTasks u.map (now d) (edge_tasks b source glob)
    edge_own own true = ((own, recorded_now glob.glob d u.targets glob.glob refl), tt)
    edge_own own false = tt

    module_own : IsOwn u.map glob.importer → AreOwnTasks u.map (now d) (glob_tasks (world oracle u) glob (Some d))
    module_own own = own_both u.map (now d) (put_each glob.importer list) (edge_tasks (is_own_crate u.map.id source) source glob) (own_listed d own list made) (edge_own own (is_own_crate u.map.id source))

    edge_followed : (b : Bool) → is_own_crate u.map.id source ≡ b → AreFollowed (T d) (put_each glob.importer list ++ edge_tasks b source glob)
    edge_followed true of_crate =
        followed_puts (T d) glob.importer list (AddEdge source glob ∷ []) (λ e g listed by. inr refl)
        (λ t known. (own_module_is u.map.id source t (target_is glob.glob d u.targets u.map.id t known)).0, tt)
    edge_followed false foreign =
        followed_listed d list made (nowhere d (λ t known. false≢true (sym foreign ∙ (and_parts _ _ (own_module_is u.map.id source t known).1).0))) [] tt

    module_followed : AreFollowed (T d) (glob_tasks (world oracle u) glob (Some d))
    module_followed = edge_followed (is_own_crate u.map.id source) refl

  glob_own : IsOwn u.map glob.importer → (given : Option Def) → AreOwnTasks u.map (targets_after kind.Glob glob.glob given u.targets) (glob_tasks (world oracle u) glob given)
  glob_own own None = tt
  glob_own own (Some (def.Module source)) = module_own source own
  glob_own own (Some (def.Enum id)) = own_listed (def.Enum id) own _ (λ e h. variants_by (order u) glob (variants_of (question (world oracle u) for_import) id.0) e h)
  glob_own own (Some (def.Function x)) = tt
  glob_own own (Some (def.Struct x)) = tt
  glob_own own (Some (def.Union x)) = tt
  glob_own own (Some (def.Variant x)) = tt
  glob_own own (Some (def.Const x)) = tt
  glob_own own (Some (def.Static x)) = tt
  glob_own own (Some (def.Trait x)) = tt
  glob_own own (Some (def.TypeAlias x)) = tt
  glob_own own (Some (def.Builtin x)) = tt
  glob_own own (Some (def.Macro x)) = tt

  glob_followed : (given : Option Def) → AreFollowed (target_of u.map.id (targets_after kind.Glob glob.glob given u.targets)) (glob_tasks (world oracle u) glob given)
  glob_followed None = tt
  glob_followed (Some (def.Module source)) = module_followed source
  glob_followed (Some (def.Enum id)) =
      let list : List (Entry Visibility) = flat_map (variant_entries (order u) glob) (variants_of (question (world oracle u) for_import) id.0) in
      subst (AreFollowed (T (def.Enum id))) (append-nil (put_each glob.importer list))
      (followed_listed (def.Enum id) list (λ e h. variants_by (order u) glob (variants_of (question (world oracle u) for_import) id.0) e h) (nowhere (def.Enum id) (λ t known. cc)) [] tt)
  glob_followed (Some (def.Function x)) = tt
  glob_followed (Some (def.Struct x)) = tt
  glob_followed (Some (def.Union x)) = tt
  glob_followed (Some (def.Variant x)) = tt
  glob_followed (Some (def.Const x)) = tt
  glob_followed (Some (def.Static x)) = tt
  glob_followed (Some (def.Trait x)) = tt
  glob_followed (Some (def.TypeAlias x)) = tt
  glob_followed (Some (def.Builtin x)) = tt
  glob_followed (Some (def.Macro x)) = tt

module _ (oracle : Oracle) (u : State) (p : Import) (answer : ResolvePathResult) where
  -- what globs were recorded with once the import was recorded
  abbrev After : ImportKind → Targets
  After k = targets_after k (glob_id p) (glob_def p answer) u.targets

  named_own : (targets : Targets) → IsOwn u.map p.scope → AreOwnTasks u.map targets (put_each p.scope (named_entries (order u) p (import_vis oracle u p) answer (bound_name p.written)))
  named_own targets own = own_puts u.map targets p.scope _ own (λ e g listed by. absurd (none_by (order u) p (import_vis oracle u p) answer (bound_name p.written) e g listed by))

  named_followed : (T : GlobId → Option ModuleId) → AreFollowed T (put_each p.scope (named_entries (order u) p (import_vis oracle u p) answer (bound_name p.written)))
  named_followed T =
      let list : List (Entry Visibility) = named_entries (order u) p (import_vis oracle u p) answer (bound_name p.written) in
      subst (AreFollowed T) (append-nil (put_each p.scope list))
      (followed_puts T p.scope list [] (λ e g listed by. absurd (none_by (order u) p (import_vis oracle u p) answer (bound_name p.written) e g listed by)) tt)

  -- the tasks of a recorded import are within the map
  pub record_own : (k : ImportKind) → IsOwn u.map p.scope → AreOwnTasks u.map (After k) (record_tasks oracle u p answer k)
  record_own kind.Plain own = named_own u.targets own
  record_own kind.TypeOnly own = named_own u.targets own
  record_own kind.Glob own = glob_own oracle u (glob_edge p (import_vis oracle u p)) own (glob_def p answer)

  -- and end by the edge of its glob
  pub record_followed : (k : ImportKind) → AreFollowed (target_of u.map.id (After k)) (record_tasks oracle u p answer k)
  record_followed kind.Plain = named_followed (target_of u.map.id u.targets)
  record_followed kind.TypeOnly = named_followed (target_of u.map.id u.targets)
  record_followed kind.Glob = glob_followed oracle u (glob_edge p (import_vis oracle u p)) (glob_def p answer)

  after_stays : (given : Option Def) → StayRecorded u.targets (targets_after kind.Glob (glob_id p) given u.targets)
  after_stays None g h = h
  after_stays (Some d) g h = recorded_stays (glob_id p) d u.targets g h

  pub record_stays : (k : ImportKind) → StayRecorded u.targets (After k)
  record_stays kind.Plain g h = h
  record_stays kind.TypeOnly g h = h
  record_stays kind.Glob g h = after_stays (glob_def p answer) g h

  module _ {q : List ImportDirective} (own : AreOwn u.map u.targets u.content q) (sound : IsSound u) where
    after_sound : (given : Option Def) → AreSound (leaves_out u) u.map (targets_after kind.Glob (glob_id p) given u.targets) u.content
    after_sound None = sound
    after_sound (Some d) = sound_target own sound (glob_id p) d

    -- names stay sound where an import is recorded and nothing was put yet
    pub record_sound : (k : ImportKind) → AreSound (leaves_out u) u.map (After k) u.content
    record_sound kind.Plain = sound
    record_sound kind.TypeOnly = sound
    record_sound kind.Glob = after_sound (glob_def p answer)
