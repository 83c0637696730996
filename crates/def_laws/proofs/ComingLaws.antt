-- What was recorded of imports is bound or still to be put, and steps keep that.
use Rattle.std.proofs.Common.{◌≡◌, ◌⊎◌, ◌&&◌, inl, inr, Bool, true, false, List, [], ◌∷◌, ◌++◌, Option, Some, None, Contains, refl, sym, ap, ◌∙◌, subst, arith}
use Rattle.std.proofs.lemmas.Bool.{and_parts}
use Rattle.std.proofs.lemmas.List.Elements.{Contains-append_right}
use Rattle.tree_ids.specs.declared.name.Name.{Name}
use Rattle.def_ids.specs.declared.ids.FunctionId.{FunctionId}
use Rattle.def_ids.specs.declared.ids.GlobId.{GlobId}
use Rattle.def_ids.specs.declared.ids.ModuleId.{ModuleId}
use Rattle.def_ids.specs.Ids.{is_same_module}
use Rattle.def_bindings.specs.declared.bindings.EdgeTo.{EdgeTo}
use Rattle.def_bindings.specs.declared.bindings.Entry.{Entry}
use Rattle.def_bindings.specs.declared.bindings.Namespace.{Namespace}
use Rattle.def_bindings.specs.declared.bindings.Namespace.TheVariants.{Types, Values, Macros}
use Rattle.def_bindings.specs.declared.bindings.Slot.TheVariants.{Named}
use Rattle.def_bindings.specs.declared.visibility.Visibility.{Visibility}
use Rattle.def_bindings.specs.Closure.{IsBound}
use Rattle.def_bindings.specs.Content.{Content, is_name, is_namespace, without_binding}
use Rattle.def_bindings.specs.IdLaws.{same_module_equal}
use Rattle.def_bindings.specs.Order.{Order}
use Rattle.def_bindings.specs.Puts.{offered, put_entry}
use Rattle.def_bindings.specs.PutsLaws.{bound_stays-put_entry, bound_after-put_name}
use Rattle.def_rules.specs.Imports.{bound_name, is_full, keeps_ns, no_namespaces}
use Rattle.def_rules.specs.State.{Event, PutExplicit, Recorded, NsSet, Import, ImportDirective, Task, Put, AddEdge, TakeOut}
use Rattle.def_rules.specs.Steps.{event_of}
use Rattle.def_laws.proofs.AddedLaws.{AddsNew}
use Rattle.def_laws.specs.Roles.{is_still, role_of}
use Rattle.def_laws.proofs.MovesLaws.{AreStill}
use Rattle.def_laws.proofs.ListLaws.{contains_cases}
use Rattle.def_laws.proofs.TakenLaws.{bound_elsewhere}

-- whether a set has a namespace
abbrev pub has_ns : NsSet → Namespace → Bool
has_ns set Types = set.types
has_ns set Values = set.values
has_ns set Macros = set.macros

-- an entry of this name and namespace is still to be put
pub record IsAhead (tasks : List Task) (at : ModuleId) (name : Name) (ns : Namespace) : Type 0 where
  pub entry : Entry Visibility
  pub ahead : Contains tasks (Put at entry)
  pub named : entry.name ≡ Some name
  pub within : entry.ns ≡ ns

-- a place is bound, or an entry for it is still to be put, but for modules that are left out
abbrev pub IsComing : (ModuleId → Bool) → Content Visibility → List Task → ModuleId → Name → Namespace → Type 0
IsComing left_out content tasks at name ns = IsBound content at (Named name ns) ⊎ (IsAhead tasks at name ns ⊎ (left_out at ≡ true))

-- each namespace of this set is bound at the import's name, or is still to be put
abbrev pub HasEach : (ModuleId → Bool) → Content Visibility → List Task → Import → NsSet → Type 0
HasEach left_out content tasks p set =
    (name : Name) (ns : Namespace) → bound_name p.written ≡ Some (Some name) → keeps_ns p.written.kind ns ≡ true → has_ns set ns ≡ true → IsComing left_out content tasks p.scope name ns

-- no namespace is in the set that has none
pub no_each : (left_out : ModuleId → Bool) (content : Content Visibility) (tasks : List Task) (p : Import) → HasEach left_out content tasks p no_namespaces
no_each left_out content tasks p name Types named kind has = cc
no_each left_out content tasks p name Values named kind has = cc
no_each left_out content tasks p name Macros named kind has = cc

-- an import that was recorded from its own crate has a set of namespaces that are bound: all, or those with which it stays indeterminate
pub record HasSet (left_out : ModuleId → Bool) (imports : List ImportDirective) (content : Content Visibility) (tasks : List Task) (p : Import) : Type 0 where
  pub set : NsSet
  pub stays : (is_full set ≡ true) ⊎ Contains imports (record { import = p; recorded = set })
  pub each : HasEach left_out content tasks p set

-- what was recorded is bound or still to be put, of the imports that are left and of those that were recorded
pub record Covers (left_out : ModuleId → Bool) (imports : List ImportDirective) (content : Content Visibility) (tasks : List Task) (events : List Event) : Type 0 where
  pub left : (d : ImportDirective) → Contains imports d → HasEach left_out content tasks d.import d.recorded
  pub recorded : (p : Import) → Contains events (Recorded p false) → Contains events (Recorded p true) ⊎ HasSet left_out imports content tasks p

-- what is coming stays so
abbrev pub KeepsComing : (ModuleId → Bool) → Content Visibility → List Task → Content Visibility → List Task → Type 0
KeepsComing left_out content tasks content' tasks' = (at : ModuleId) (name : Name) (ns : Namespace) → IsComing left_out content tasks at name ns → IsComing left_out content' tasks' at name ns

-- what was recorded is covered where what is coming stays so, and no other import was recorded
pub covers-kept : (left_out : ModuleId → Bool) (imports imports' : List ImportDirective) (content content' : Content Visibility) (tasks tasks' : List Task) (events events' : List Event)
    → KeepsComing left_out content tasks content' tasks' → AddsNew imports imports' → ((e : Event) → Contains events e → Contains events' e)
    → ((p : Import) → Contains events' (Recorded p false) → Contains events (Recorded p false)) → Covers left_out imports content tasks events → Covers left_out imports' content' tasks' events'
covers-kept left_out imports imports' content content' tasks tasks' events events' keeps adds more fewer all =
    record {
      left = λ d stands. left d (adds.others d stands);
      recorded = λ p happened. elim (all.recorded p (fewer p happened)) [
        | inl foreign ↦ inl (more (Recorded p true) foreign)
        | inr has ↦ inr (still p has)
      ];
    }
  where
    left : (d : ImportDirective) → Contains imports d ⊎ (d.recorded ≡ no_namespaces) → HasEach left_out content' tasks' d.import d.recorded
    left d (inl stands) = λ name ns named kind has. keeps d.import.scope name ns (all.left d stands name ns named kind has)
    left d (inr new) = subst (λ set. HasEach left_out content' tasks' d.import set) (sym new) (no_each left_out content' tasks' d.import)

    stays : (p : Import) (set : NsSet) → (is_full set ≡ true) ⊎ Contains imports (record { import = p; recorded = set }) → (is_full set ≡ true) ⊎ Contains imports' (record { import = p; recorded = set })
    stays p set (inl full) = inl full
    stays p set (inr stands) = inr (adds.stay (record { import = p; recorded = set }) stands)

    still : (p : Import) → HasSet left_out imports content tasks p → HasSet left_out imports' content' tasks' p
    still p has = record { set = has.set; stays = stays p has.set has.stays; each = λ name ns named kind is. keeps p.scope name ns (has.each name ns named kind is) }

-- What each step but a recorded import keeps

-- what is ahead of nothing to do is nowhere
pub none_ahead : (at : ModuleId) (name : Name) (ns : Namespace) → IsAhead [] at name ns → ⊥
none_ahead at name ns ahead = let none = ahead.ahead.1 in omega arith

-- where nothing is left to do, what is coming is bound, but for modules that are left out
pub bound_now : (left_out : ModuleId → Bool) (content : Content Visibility) (tasks : List Task) (at : ModuleId) (name : Name) (ns : Namespace) → tasks ≡ [] → left_out at ≡ false → IsComing left_out content tasks at name ns → IsBound content at (Named name ns)
bound_now left_out content tasks at name ns idle kept (inl bound) = bound
bound_now left_out content tasks at name ns idle kept (inr (inl ahead)) = absurd (none_ahead at name ns (subst (λ l. IsAhead l at name ns) idle ahead))
bound_now left_out content tasks at name ns idle kept (inr (inr out)) = absurd (let wrong : true ≡ false = sym out ∙ kept in cc)

-- where what is bound stays so and the tasks are the same or more, what is coming stays so
pub keeps_coming : (left_out : ModuleId → Bool) (content content' : Content Visibility) (tasks tasks' : List Task) → ((at : ModuleId) (name : Name) (ns : Namespace) → IsBound content at (Named name ns) → IsBound content' at (Named name ns))
    → ((at : ModuleId) (entry : Entry Visibility) → Contains tasks (Put at entry) → Contains tasks' (Put at entry)) → KeepsComing left_out content tasks content' tasks'
keeps_coming left_out content content' tasks tasks' bound more at name ns (inl now) = inl (bound at name ns now)
keeps_coming left_out content content' tasks tasks' bound more at name ns (inr (inl ahead)) = inr (inl (record { entry = ahead.entry; ahead = more at ahead.entry ahead.ahead; named = ahead.named; within = ahead.within }))
keeps_coming left_out content content' tasks tasks' bound more at name ns (inr (inr out)) = inr (inr out)

-- what is done beside puts and edges leaves what is ahead
pub still_ahead : (gone rest more : List Task) → AreStill gone → (at : ModuleId) (entry : Entry Visibility) → Contains (gone ++ rest) (Put at entry) → Contains (more ++ rest) (Put at entry)
still_ahead [] rest more still at entry h = Contains-append_right more rest (Put at entry) h
still_ahead (task ∷ gone) rest more still at entry h =
    elim (contains_cases task (Put at entry) (gone ++ rest) h) [
      | inl same ↦ absurd (no_put (ap (λ t. is_still (role_of t)) same) still.0)
      | inr later ↦ still_ahead gone rest more still.1 at entry later
    ]
  where
    no_put : is_still (role_of task) ≡ false → is_still (role_of task) ≡ true → ⊥
    no_put moves rests = let wrong : false ≡ true = sym moves ∙ rests in cc

-- an added edge leaves what is ahead
pub edge_ahead : (source : ModuleId) (edge : EdgeTo Visibility) (rest : List Task) (at : ModuleId) (entry : Entry Visibility) → Contains (AddEdge source edge ∷ rest) (Put at entry) → Contains rest (Put at entry)
edge_ahead source edge rest at entry h =
    elim (contains_cases (AddEdge source edge) (Put at entry) rest h) [
      | inl same ↦ absurd (cc same)
      | inr later ↦ later
    ]

-- what is put is bound
pub put_keeps : (left_out : ModuleId → Bool) (o : Order Visibility) (place : ModuleId) (entry : Entry Visibility) (content : Content Visibility) (rest : List Task) → KeepsComing left_out content (Put place entry ∷ rest) (put_entry o place entry content) rest
put_keeps left_out o place entry content rest at name ns (inl now) = inl (bound_stays-put_entry o place entry content at (Named name ns) now)
put_keeps left_out o place entry content rest at name ns (inr (inr out)) = inr (inr out)
put_keeps left_out o place entry content rest at name ns (inr (inl ahead)) =
    elim (contains_cases (Put place entry) (Put at ahead.entry) rest ahead.ahead) [
      | inl same ↦ let here : place ≡ at = cc in let it : entry ≡ ahead.entry = cc in inl (bound_put here it)
      | inr later ↦ inr (inl (record { entry = ahead.entry; ahead = later; named = ahead.named; within = ahead.within }))
    ]
  where
    bound_put : place ≡ at → entry ≡ ahead.entry → IsBound (put_entry o place entry content) at (Named name ns)
    bound_put p e =
        let named : entry.name ≡ Some name = ap (λ (x : Entry Visibility). x.name) e ∙ ahead.named in
        let within : entry.ns ≡ ns = ap (λ (x : Entry Visibility). x.ns) e ∙ ahead.within in
        subst (λ k. IsBound (put_entry o place entry content) at (Named name k)) within (subst (λ m. IsBound (put_entry o place entry content) m (Named name entry.ns)) p (bound_after-put_name o place entry name content named))

-- what is taken out is of a module that is left out, and what is coming elsewhere stays so
pub take_keeps : (left_out : ModuleId → Bool) (content : Content Visibility) (place : ModuleId) (x : Name) (k : Namespace) (function : FunctionId) (rest : List Task) → left_out place ≡ true
    → KeepsComing left_out content (TakeOut place x function ∷ rest) (without_binding content place x k) rest
take_keeps left_out content place x k function rest out at name ns (inl now) = by (is_same_module place at && (is_name x name && is_namespace k ns)) refl
  where
    by : (here : Bool) → (is_same_module place at && (is_name x name && is_namespace k ns)) ≡ here → IsComing left_out (without_binding content place x k) rest at name ns
    by true here = inr (inr (subst (λ z. left_out z ≡ true) (same_module_equal place at (and_parts (is_same_module place at) _ here).0) out))
    by false apart = inl (now.0, bound_elsewhere content place x k at name ns apart ∙ now.1)
take_keeps left_out content place x k function rest out at name ns (inr (inl ahead)) =
    elim (contains_cases (TakeOut place x function) (Put at ahead.entry) rest ahead.ahead) [
      | inl same ↦ absurd (cc same)
      | inr later ↦ inr (inl (record { entry = ahead.entry; ahead = later; named = ahead.named; within = ahead.within }))
    ]
take_keeps left_out content place x k function rest out at name ns (inr (inr left)) = inr (inr left)

-- a put notes no recorded import
pub unrecorded : (place : ModuleId) (entry : Entry Visibility) (p : Import) (foreign : Bool) (g : Option GlobId) (n : Option Name) → Contains (event_of place entry g n) (Recorded p foreign) → ⊥
unrecorded place entry p foreign None (Some name) h =
    elim (contains_cases (PutExplicit place name entry.ns (offered entry)) (Recorded p foreign) [] h) [
      | inl same ↦ cc same
      | inr none ↦ let wrong = none.1 in omega arith
    ]
unrecorded place entry p foreign None None h = let wrong = h.1 in omega arith
unrecorded place entry p foreign (Some g) n h = let wrong = h.1 in omega arith
