-- What a glob was recorded with, where it leads, and puts that need its edge.
use Rattle.std.proofs.Common.{◌≡◌, ◌⊎◌, Bool, true, false, cond, List, [], ◌∷◌, ◌++◌, Option, Some, None, Contains, refl, sym, ap, ◌∙◌, inl, inr, append-nil}
use Rattle.std.specs.Prelude.{unwrap_or}
use Rattle.std.proofs.lemmas.Bool.{cases_Bool, or_cases, and_from, eq-eqb, false≢true}
use Rattle.def_ids.specs.declared.ids.Def.{Def}
use Rattle.def_ids.specs.declared.ids.Def.TheVariants as def
use Rattle.def_ids.specs.declared.ids.GlobId.{GlobId}
use Rattle.def_ids.specs.declared.ids.MapId.{MapId}
use Rattle.def_ids.specs.declared.ids.ModuleId.{ModuleId}
use Rattle.def_ids.specs.Equality.{def_eq, glob_eq}
use Rattle.def_ids.specs.Ids.{is_same_map}
use Rattle.def_bindings.specs.declared.bindings.EdgeTo.{EdgeTo}
use Rattle.def_bindings.specs.declared.bindings.Entry.{Entry}
use Rattle.def_bindings.specs.declared.bindings.ImportOrExternCrate.TheVariants.{Glob}
use Rattle.def_bindings.specs.declared.visibility.Visibility.{Visibility}
use Rattle.def_bindings.specs.DefLaws.{def-eq}
use Rattle.def_modules.specs.MapState.{MapState}
use Rattle.def_globs.proofs.ListLaws.{first_in, in_cases, later_in, none_in}
use Rattle.def_laws.specs.Followed.{AreFollowed}
use Rattle.def_laws.specs.Roles.{adds_edge}
use Rattle.def_laws.specs.Own.{AreOwnTasks, IsOwn, IsRecorded}
use Rattle.def_rules.specs.Targets.{own_module, own_target, target_of}
use Rattle.def_rules.specs.Globs.{Targets, is_among, with_def, with_target}
use Rattle.def_rules.specs.State.{Task, AddEdge, put_each}
use Rattle.def_laws.proofs.OwnLaws.{StayRecorded}

glob-refl : (g : GlobId) → glob_eq g g ≡ true
glob-refl g = and_from _ _ (eq-eqb g.use_id.0 g.use_id.0 refl) (eq-eqb g.idx g.idx refl)

-- What a glob was recorded with

with_def_some : (d : Def) (defs : List Def) → (first : Def) × ((others : List Def) × (with_def d defs ≡ first ∷ others))
with_def_some d [] = (d, ([], refl))
with_def_some d (first ∷ others) =
    elim (cases_Bool (is_among d (first ∷ others))) [
      | inl among ↦ (first, (others, ap (λ b. cond b (first ∷ others) ((first ∷ others) ++ d ∷ [])) among))
      | inr new ↦ (first, (others ++ d ∷ [], ap (λ b. cond b (first ∷ others) ((first ∷ others) ++ d ∷ [])) new))
    ]

module _ (g : GlobId) (d : Def) (targets : Targets) where
  abbrev Recorded : Targets
  Recorded = with_target g d targets

  at_glob : (glob : GlobId) → glob_eq g glob ≡ true → IsRecorded Recorded glob
  at_glob glob same =
      let some = with_def_some d (unwrap_or (targets g) []) in
      let now : Recorded glob ≡ Some (with_def d (unwrap_or (targets g) [])) = rw same refl in
      record { first = some.0; others = some.1.0; is = now ∙ ap Some some.1.1 }

  -- the glob was recorded, and those before it stay
  pub recorded_stays : StayRecorded targets Recorded
  recorded_stays glob was =
      elim (cases_Bool (glob_eq g glob)) [
        | inl same ↦ at_glob glob same
        | inr other ↦ let still : Recorded glob ≡ targets glob = rw other refl in record { first = was.first; others = was.others; is = still ∙ was.is }
      ]

  pub recorded_now : (glob : GlobId) → glob ≡ g → IsRecorded Recorded glob
  recorded_now glob is = elim (cases_Bool (glob_eq g glob)) [
    | inl same ↦ at_glob glob same
    | inr other ↦ absurd (false≢true (sym other ∙ (ap (glob_eq g) is ∙ glob_itself)))
  ]
    where
      glob_itself : glob_eq g g ≡ true
      glob_itself = glob-refl g

  one_target : (id : MapId) (defs : List Def) (t : ModuleId) → own_target id (with_def d defs) ≡ Some t → own_module id d ≡ Some t
  one_target id [] t h = h
  one_target id (first ∷ []) t h =
      elim (cases_Bool (is_among d (first ∷ []))) [
        | inl among ↦
            let k : own_module id first ≡ Some t = ap (λ b. own_target id (cond b (first ∷ []) (first ∷ d ∷ []))) (sym among) ∙ h in
            elim (or_cases (def_eq first d) false among) [
              | inl same ↦ ap (own_module id) (sym (def-eq first d same)) ∙ k
              | inr none ↦ absurd (false≢true none)
            ]
        | inr new ↦ absurd (let wrong : None ≡ Some t = sym (ap (λ b. own_target id (cond b (first ∷ []) (first ∷ d ∷ []))) new) ∙ h in cc)
      ]
  one_target id (first ∷ x ∷ xs) t h =
      absurd (let wrong : None ≡ Some t = sym (two (is_among d (first ∷ x ∷ xs))) ∙ h in cc)
    where
      two : (b : Bool) → own_target id (cond b (first ∷ x ∷ xs) ((first ∷ x ∷ xs) ++ d ∷ [])) ≡ None
      two true = refl
      two false = refl

  -- where the glob leads to a module, it is the one that it was recorded with
  pub target_is : (id : MapId) (t : ModuleId) → target_of id Recorded g ≡ Some t → own_module id d ≡ Some t
  target_is id t h = one_target id (unwrap_or (targets g) []) t (ap (λ o. own_target id (unwrap_or o [])) (sym now) ∙ h)
    where
      now : Recorded g ≡ Some (with_def d (unwrap_or (targets g) []))
      now = rw (glob-refl g) refl

pub own_module_is : (id : MapId) (source t : ModuleId) → own_module id (def.Module source) ≡ Some t → (source ≡ t) × (is_same_map source.map id ≡ true)
own_module_is id source t h =
    elim (cases_Bool (is_same_map source.map id)) [
      | inl same ↦ let k : Some source ≡ Some t = rw same at h in let one : source ≡ t = cc in (one, same)
      | inr other ↦ absurd (let wrong : None ≡ Some t = rw other at h in cc)
    ]

-- Lists of puts

module _ (T : GlobId → Option ModuleId) (at : ModuleId) where
  adds_puts : (list : List (Entry Visibility)) (rest : List Task) → adds_edge (put_each at list ++ rest) ≡ adds_edge rest
  adds_puts [] rest = refl
  adds_puts (e ∷ es) rest = adds_puts es rest

  pub followed_puts : (list : List (Entry Visibility)) (rest : List Task) → ((e : Entry Visibility) (g : GlobId) → Contains list e → e.origin ≡ Some (Glob g) → (T g ≡ None) ⊎ (adds_edge rest ≡ true)) → AreFollowed T rest
      → AreFollowed T (put_each at list ++ rest)
  followed_puts [] rest known h = h
  followed_puts (e ∷ es) rest known h = (
    λ g by. elim (known e g (first_in e es) by) [ inl none ↦ inl none | inr adds ↦ inr (adds_puts es rest ∙ adds) ],
    followed_puts es rest (λ x g listed by. known x g (later_in e es x listed) by) h,
  )

  -- puts that need no edge are of globs that lead nowhere
  pub puts_nowhere : (list : List (Entry Visibility)) → AreFollowed T (put_each at list) → (e : Entry Visibility) (g : GlobId) → Contains list e → e.origin ≡ Some (Glob g) → T g ≡ None
  puts_nowhere [] h e g listed by = absurd (none_in e listed)
  puts_nowhere (x ∷ xs) h e g listed by =
      elim (in_cases x xs e listed) [
        | inl here ↦ elim (h.0 g (ap (λ (y : Entry Visibility). y.origin) (sym here) ∙ by)) [
          | inl none ↦ none
          | inr adds ↦ absurd (false≢true (sym (adds_puts xs []) ∙ (ap adds_edge (append-nil (put_each at xs)) ∙ adds)))
        ]
        | inr later ↦ puts_nowhere xs h.1 e g later by
      ]

  -- an edge behind puts begins where its glob leads
  pub edge_begins : (list : List (Entry Visibility)) (source : ModuleId) (edge : EdgeTo Visibility) → AreFollowed T (put_each at list ++ AddEdge source edge ∷ []) → (target : ModuleId) → T edge.glob ≡ Some target → source ≡ target
  edge_begins [] source edge h = h.0
  edge_begins (e ∷ es) source edge h = edge_begins es source edge h.1

pub own_puts : (m : MapState) (targets : Targets) (at : ModuleId) (list : List (Entry Visibility)) → IsOwn m at → ((e : Entry Visibility) (g : GlobId) → Contains list e → e.origin ≡ Some (Glob g) → IsRecorded targets g) → AreOwnTasks m targets (put_each at list)
own_puts m targets at [] own known = tt
own_puts m targets at (e ∷ es) own known = ((own, λ g by. known e g (first_in e es) by), own_puts m targets at es own (λ x g listed by. known x g (later_in e es x listed) by))
