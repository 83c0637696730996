-- What recording an import leaves bound or still to be put.
use Rattle.std.proofs.Common.{◌≡◌, ◌⊎◌, inl, inr, Bool, true, false, cond, ◌||◌, not, is_some, if◌then◌else◌, List, [], ◌∷◌, ◌++◌, Option, Some, None, option_map, Contains, refl, sym, ap, ◌∙◌, subst, arith}
use Rattle.std.proofs.lemmas.Bool.{or_cases}
use Rattle.std.proofs.lemmas.List.Elements.{Contains-append_left, Contains-append_right, Contains-append_cases, Contains-push, Contains-push_cases}
use Rattle.item_tree.specs.declared.items.ImportKind.{ImportKind}
use Rattle.item_tree.specs.declared.items.ImportKind.TheVariants as kind
use Rattle.tree_ids.specs.declared.name.Name.{Name}
use Rattle.def_ids.specs.declared.ids.ModuleId.{ModuleId}
use Rattle.def_bindings.specs.declared.bindings.Entry.{Entry}
use Rattle.def_bindings.specs.declared.bindings.Namespace.{Namespace}
use Rattle.def_bindings.specs.declared.bindings.Namespace.TheVariants.{Types, Values, Macros}
use Rattle.def_bindings.specs.declared.visibility.Visibility.{Visibility}
use Rattle.def_bindings.specs.Content.{Content}
use Rattle.def_bindings.specs.Order.{Order}
use Rattle.def_paths.specs.declared.path_result.ResolvePathResult.{ResolvePathResult}
use Rattle.def_oracle.specs.Oracle.{Oracle}
use Rattle.def_sources.specs.PerNs.{Item}
use Rattle.def_rules.specs.Globs.{is_public}
use Rattle.def_rules.specs.Imports.{bound_name, entry_of, given_set, is_foreign, is_full, keeps_ns, kept_after, kept_item, import_vis, name_by, named_entries, reexported, taken_types, union}
use Rattle.def_rules.specs.Recording.{kept_list, record_tasks}
use Rattle.def_rules.specs.State.{Event, Recorded, NsSet, Import, ImportDirective, State, Task, Put, order, put_each}
use Rattle.def_laws.proofs.ComingLaws.{Covers, HasEach, HasSet, IsAhead, KeepsComing, has_ns, none_ahead}
use Rattle.def_laws.proofs.ListLaws.{contains_cases}

-- an entry of this name and namespace is listed
record IsListed (entries : List (Entry Visibility)) (name : Name) (ns : Namespace) : Type 0 where
  entry : Entry Visibility
  listed : Contains entries entry
  named : entry.name ≡ Some name
  within : entry.ns ≡ ns

listed_left : (xs ys : List (Entry Visibility)) (name : Name) (ns : Namespace) → IsListed xs name ns → IsListed (xs ++ ys) name ns
listed_left xs ys name ns a = record { entry = a.entry; listed = Contains-append_left xs ys a.entry a.listed; named = a.named; within = a.within }

listed_right : (xs ys : List (Entry Visibility)) (name : Name) (ns : Namespace) → IsListed ys name ns → IsListed (xs ++ ys) name ns
listed_right xs ys name ns a = record { entry = a.entry; listed = Contains-append_right xs ys a.entry a.listed; named = a.named; within = a.within }

-- a listed entry is to be put
put_listed : (at : ModuleId) (entries : List (Entry Visibility)) (entry : Entry Visibility) → Contains entries entry → Contains (put_each at entries) (Put at entry)
put_listed at [] entry h = let none = h.1 in absurd (omega arith)
put_listed at (e ∷ es) entry h =
    elim (contains_cases e entry es h) [
      | inl same ↦ subst (λ x. Contains (put_each at (e ∷ es)) (Put at x)) same (Contains-append_left (Put at e ∷ []) (put_each at es) (Put at e) (Contains-push [] (Put at e)))
      | inr rest ↦ Contains-append_right (Put at e ∷ []) (put_each at es) (Put at entry) (put_listed at es entry rest)
    ]

listed_ahead : (at : ModuleId) (entries : List (Entry Visibility)) (rest : List Task) (name : Name) (ns : Namespace) → IsListed entries name ns → IsAhead (put_each at entries ++ rest) at name ns
listed_ahead at entries rest name ns a =
    record { entry = a.entry; ahead = Contains-append_left (put_each at entries) rest (Put at a.entry) (put_listed at entries a.entry a.listed); named = a.named; within = a.within }

-- of its own crate all is kept
kept_own : (answer : ResolvePathResult) (item : Option Item) → is_foreign answer ≡ false → kept_item answer item ≡ item
kept_own answer None own = refl
kept_own answer (Some i) own = subst (λ f. (if not f || is_public i.vis then Some i else None) ≡ Some i) (sym own) refl

-- a namespace is in either set
union_cases : (a b : NsSet) (ns : Namespace) → has_ns (union a b) ns ≡ true → (has_ns a ns ≡ true) ⊎ (has_ns b ns ≡ true)
union_cases a b Types h = or_cases a.types b.types h
union_cases a b Values h = or_cases a.values b.values h
union_cases a b Macros h = or_cases a.macros b.macros h

-- where nothing was to be done, what is coming is bound, and stays so
still_coming : (left_out : ModuleId → Bool) (content : Content Visibility) (tasks : List Task) → KeepsComing left_out content [] content tasks
still_coming left_out content tasks at name ns (inl bound) = inl bound
still_coming left_out content tasks at name ns (inr (inl ahead)) = absurd (none_ahead at name ns ahead)
still_coming left_out content tasks at name ns (inr (inr out)) = inr (inr out)

one_listed : (keeps : Bool) (entry : Entry Visibility) (name : Name) (ns : Namespace) → keeps ≡ true → entry.name ≡ Some name → entry.ns ≡ ns → IsListed (cond keeps (entry ∷ []) []) name ns
one_listed true entry name ns kept named within = record { entry = entry; listed = Contains-push [] entry; named = named; within = within }
one_listed false entry name ns kept named within = absurd cc

module _ (o : Order Visibility) (p : Import) (vis : Visibility) (answer : ResolvePathResult) where
  entry_listed : (name : Name) (ns : Namespace) (item : Option Item) → is_foreign answer ≡ false → keeps_ns p.written.kind ns ≡ true → is_some item ≡ true
      → IsListed (entry_of o p vis (Some name) ns (kept_item answer item)) name ns
  entry_listed name ns None own kind given = cc
  entry_listed name ns (Some i) own kind given =
      subst (λ x. IsListed (entry_of o p vis (Some name) ns x) name ns) (sym (kept_own answer (Some i) own))
      (one_listed (keeps_ns p.written.kind ns) _ name ns kind refl refl)

  types_listed : (name : Name) (item : Option Item) → is_foreign answer ≡ false → keeps_ns p.written.kind Types ≡ true → is_some item ≡ true
      → IsListed (entry_of o p vis (Some name) Types (option_map (reexported p.written.path vis) (kept_item answer item))) name Types
  types_listed name None own kind given = cc
  types_listed name (Some i) own kind given =
      subst (λ x. IsListed (entry_of o p vis (Some name) Types (option_map (reexported p.written.path vis) x)) name Types) (sym (kept_own answer (Some i) own))
      (one_listed (keeps_ns p.written.kind Types) _ name Types kind refl refl)

  -- each namespace that an import's path gives has an entry
  given_listed : (name : Name) (ns : Namespace) → is_foreign answer ≡ false → keeps_ns p.written.kind ns ≡ true → has_ns (given_set answer.resolved_def) ns ≡ true
      → IsListed (named_entries o p vis answer (Some (Some name))) name ns
  given_listed name Types own kind given = listed_left _ _ name Types (types_listed name answer.resolved_def.types own kind given)
  given_listed name Values own kind given =
      listed_right (entry_of o p vis (Some name) Types (taken_types p.written.path vis answer)) _ name Values (listed_left _ _ name Values (entry_listed name Values answer.resolved_def.values own kind given))
  given_listed name Macros own kind given =
      listed_right (entry_of o p vis (Some name) Types (taken_types p.written.path vis answer)) _ name Macros
      (listed_right (entry_of o p vis (Some name) Values (kept_item answer answer.resolved_def.values)) _ name Macros (entry_listed name Macros answer.resolved_def.macros own kind given))

-- each namespace that an import's path gives is to be put at the name that it binds
abbrev pub IsAllAhead : List Task → Import → ResolvePathResult → Type 0
IsAllAhead tasks p answer =
    (name : Name) (ns : Namespace) → bound_name p.written ≡ Some (Some name) → is_foreign answer ≡ false → keeps_ns p.written.kind ns ≡ true → has_ns (given_set answer.resolved_def) ns ≡ true
    → IsAhead tasks p.scope name ns

-- a named import puts all that its path gives
named_ahead : (oracle : Oracle) (s : State) (p : Import) (answer : ResolvePathResult) → IsAllAhead (record_tasks oracle s p answer kind.Plain ++ []) p answer
named_ahead oracle s p answer name ns named own keeps given =
    subst (λ n. IsAhead (put_each p.scope (named_entries (order s) p (import_vis oracle s p) answer n) ++ []) p.scope name ns) (sym named)
    (listed_ahead p.scope (named_entries (order s) p (import_vis oracle s p) answer (Some (Some name))) [] name ns (given_listed (order s) p (import_vis oracle s p) answer name ns own keeps given))

-- so does each import, and a glob binds no name
ahead_by : (oracle : Oracle) (s : State) (p : Import) (answer : ResolvePathResult) (kind : ImportKind) → p.written.kind ≡ kind → IsAllAhead (record_tasks oracle s p answer kind ++ []) p answer
ahead_by oracle s p answer kind.Plain is = named_ahead oracle s p answer
ahead_by oracle s p answer kind.TypeOnly is = named_ahead oracle s p answer
ahead_by oracle s p answer kind.Glob is = λ name ns named own keeps given.
    let wrong : None ≡ Some (Some name) = sym (ap (λ k. name_by k p.written.alias p.written.path.segments) is) ∙ named in absurd cc

-- each namespace that an import's path gives is to be put at the name that it binds
pub all_ahead : (oracle : Oracle) (s : State) (p : Import) (answer : ResolvePathResult) → IsAllAhead (record_tasks oracle s p answer p.written.kind ++ []) p answer
all_ahead oracle s p answer = ahead_by oracle s p answer p.written.kind refl

module _ (left_out : ModuleId → Bool) (p : Import) (answer : ResolvePathResult) (tasks : List Task) (ahead : IsAllAhead tasks p answer) where
  -- what was recorded before and is recorded now is bound or to be put
  each_union : (content : Content Visibility) (recorded : NsSet) → is_foreign answer ≡ false → HasEach left_out content [] p recorded
      → HasEach left_out content tasks p (union recorded (given_set answer.resolved_def))
  each_union content recorded own each name ns named kind has =
      elim (union_cases recorded (given_set answer.resolved_def) ns has) [
        | inl before ↦ still_coming left_out content tasks p.scope name ns (each name ns named kind before)
        | inr now ↦ inr (inl (ahead name ns named own kind now))
      ]

-- an import of its own crate that lacks a namespace stays indeterminate
stays_kept : (p : Import) (set : NsSet) (foreign full : Bool) → foreign ≡ false → full ≡ false → Contains (kept_list p (cond foreign None (cond full None (Some set)))) (record { import = p; recorded = set })
stays_kept p set true full own lacks = absurd cc
stays_kept p set false true own lacks = absurd cc
stays_kept p set false false own lacks = Contains-push [] (record { import = p; recorded = set })

-- what stays is of its own crate, and has this set
in_kept : (p : Import) (set : NsSet) (x : ImportDirective) (foreign full : Bool) → Contains (kept_list p (cond foreign None (cond full None (Some set)))) x → (foreign ≡ false) × (record { import = p; recorded = set } ≡ x)
in_kept p set x true full h = let none = h.1 in absurd (omega arith)
in_kept p set x false true h = let none = h.1 in absurd (omega arith)
in_kept p set x false false h =
    elim (contains_cases (record { import = p; recorded = set }) x [] h) [
      | inl same ↦ (refl, same)
      | inr none ↦ let wrong = none.1 in absurd (omega arith)
    ]

module _ (left_out : ModuleId → Bool) (p : Import) (answer : ResolvePathResult) (tasks_now : List Task) (ahead : IsAllAhead tasks_now p answer) (recorded : NsSet) (imports rest : List ImportDirective) (content : Content Visibility) (events : List Event) (each : HasEach left_out content [] p recorded)
    (old : (x : ImportDirective) → Contains imports x → (p ≡ x.import) ⊎ Contains rest x) (back : (x : ImportDirective) → Contains rest x → Contains imports x) (all : Covers left_out imports content [] events) where
  abbrev both : NsSet
  both = union recorded (given_set answer.resolved_def)

  abbrev imports_now : List ImportDirective
  imports_now = rest ++ kept_list p (kept_after recorded answer)

  abbrev events_now : List Event
  events_now = events ++ Recorded p (is_foreign answer) ∷ []

  -- what an import is once it was recorded
  abbrev IsRecorded : Import → Type 0
  IsRecorded q = Contains events_now (Recorded q true) ⊎ HasSet left_out imports_now content tasks_now q

  stays_now : (full : Bool) → is_foreign answer ≡ false → is_full both ≡ full → (is_full both ≡ true) ⊎ Contains imports_now (record { import = p; recorded = both })
  stays_now true own is = inl is
  stays_now false own is = inr (Contains-append_right rest (kept_list p (kept_after recorded answer)) _ (stays_kept p both (is_foreign answer) (is_full both) own is))

  new_by : (foreign : Bool) → is_foreign answer ≡ foreign → IsRecorded p
  new_by true is = inl (subst (λ f. Contains (events ++ Recorded p f ∷ []) (Recorded p true)) (sym is) (Contains-push events (Recorded p true)))
  new_by false is = inr (record { set = both; stays = stays_now (is_full both) is refl; each = each_union left_out p answer tasks_now ahead content recorded is each })

  new : (q : Import) → p ≡ q → IsRecorded q
  new q same = subst IsRecorded same (new_by (is_foreign answer) refl)

  earlier : (q : Import) → HasSet left_out imports content [] q → IsRecorded q
  earlier q has =
      elim has.stays [
        | inl full ↦ inr (record { set = has.set; stays = inl full; each = keeps })
        | inr stands ↦ elim (old (record { import = q; recorded = has.set }) stands) [
          | inl same ↦ new q same
          | inr others ↦ inr (record { set = has.set; stays = inr (Contains-append_left rest (kept_list p (kept_after recorded answer)) _ others); each = keeps })
        ]
      ]
    where
      keeps : HasEach left_out content tasks_now q has.set
      keeps name ns named kind is = still_coming left_out content tasks_now q.scope name ns (has.each name ns named kind is)

  left_now : (x : ImportDirective) → Contains rest x ⊎ Contains (kept_list p (kept_after recorded answer)) x → HasEach left_out content tasks_now x.import x.recorded
  left_now x (inl others) = λ name ns named kind has. still_coming left_out content tasks_now x.import.scope name ns (all.left x (back x others) name ns named kind has)
  left_now x (inr stays) =
      let same = in_kept p both x (is_foreign answer) (is_full both) stays in
      subst (λ (y : ImportDirective). HasEach left_out content tasks_now y.import y.recorded) same.1 (each_union left_out p answer tasks_now ahead content recorded same.0 each)

  recorded_now : (q : Import) → Contains events (Recorded q false) ⊎ (Recorded p (is_foreign answer) ≡ Recorded q false) → IsRecorded q
  recorded_now q (inl before) =
      elim (all.recorded q before) [
        | inl foreign ↦ inl (Contains-append_left events (Recorded p (is_foreign answer) ∷ []) (Recorded q true) foreign)
        | inr has ↦ earlier q has
      ]
  recorded_now q (inr now) = let same : p ≡ q = cc in new q same

  -- an import was recorded with what its path gives
  pub covers-recorded : Covers left_out (rest ++ kept_list p (kept_after recorded answer)) content tasks_now (events ++ Recorded p (is_foreign answer) ∷ [])
  covers-recorded =
      record {
        left = λ x stands. left_now x (Contains-append_cases rest (kept_list p (kept_after recorded answer)) x stands);
        recorded = λ q happened. recorded_now q (Contains-push_cases events (Recorded p (is_foreign answer)) (Recorded q false) happened);
      }
