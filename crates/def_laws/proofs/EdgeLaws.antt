-- A glob of a module of this crate is put, and its edge is added: names stay sound.
use Rattle.std.proofs.Common.{◌≡◌, Bool, true, false, List, [], ◌∷◌, ◌++◌, if◌then◌else◌, Option, Some, None, Contains, refl, sym, ap, ◌∙◌, subst, inl, inr, append-nil}
use Rattle.std.specs.Prelude.{unwrap_or}
use Rattle.std.proofs.lemmas.Bool.{cases_Bool, false≢true}
use Rattle.tree_ids.specs.declared.name.Name.{Name}
use Rattle.def_ids.specs.declared.ids.Def.{Def}
use Rattle.def_ids.specs.declared.ids.Def.TheVariants as def
use Rattle.def_ids.specs.declared.ids.GlobId.{GlobId}
use Rattle.def_ids.specs.declared.ids.MapId.{MapId}
use Rattle.def_ids.specs.declared.ids.ModuleId.{ModuleId}
use Rattle.def_ids.specs.Ids.{is_same_map}
use Rattle.def_bindings.specs.declared.bindings.Binding.{Binding}
use Rattle.def_bindings.specs.declared.bindings.EdgeTo.{EdgeTo}
use Rattle.def_bindings.specs.declared.bindings.Entry.{Entry}
use Rattle.def_bindings.specs.declared.bindings.ImportOrExternCrate.TheVariants.{Glob}
use Rattle.def_bindings.specs.declared.bindings.Namespace.{Namespace}
use Rattle.def_bindings.specs.declared.bindings.Slot.{Slot}
use Rattle.def_bindings.specs.declared.bindings.Slot.TheVariants.{Named}
use Rattle.def_bindings.specs.declared.visibility.Visibility.{Visibility}
use Rattle.def_bindings.specs.IdLaws.{same_map_itself}
use Rattle.def_bindings.specs.Puts.{held, slot_for, slot_of}
use Rattle.def_oracle.specs.Oracle.{Oracle}
use Rattle.def_paths.specs.Paths.{map_of}
use Rattle.def_sources.specs.Sources.{finished_map}
use Rattle.def_globs.specs.Globs.{with_recorded}
use Rattle.def_globs.proofs.AddingLaws.{adding_raised}
use Rattle.def_globs.proofs.ListLaws.{first_in}
use Rattle.def_globs.specs.Raised.{HasOneDef, IsRaisedAlong, IsRaisedAt, KeepsDef, ListsCarried}
use Rattle.def_globs.specs.Waves.{IsClosedTo, ListsAll}
use Rattle.def_laws.specs.Followed.{AreFollowed}
use Rattle.def_laws.specs.Sound.{IsRaisedIn, IsSound}
use Rattle.def_laws.specs.Own.{Stands}
use Rattle.def_rules.specs.Targets.{leaves_out, own_module, own_target, target_of}
use Rattle.def_laws.specs.Performs.{Updated}
use Rattle.def_rules.specs.Globs.{module_entries, scope_entries}
use Rattle.def_rules.specs.Recording.{is_own_crate}
use Rattle.def_rules.specs.State.{State, Event, Task, AddEdge, map_view, order, put_each, with_content, world}
use Rattle.def_rules.specs.Steps.{IsKeptAlong}
use Rattle.def_laws.proofs.BroughtLaws.{all_carried, all_listed, entry_shown, module_by, one_listed}
use Rattle.def_laws.proofs.SoundLaws.{sound_elsewhere, sound_glob}
use Rattle.def_laws.proofs.StandsLaws.{stands_along}
use Rattle.def_laws.proofs.WaveLaws.{runs_wave, wave_keeps, wave_raised, wave_sources}
use Rattle.def_laws.proofs.TargetsLaws.{edge_begins}

-- what a glob leads to is of this map
own_module_here : (id : MapId) (d : Def) (x : ModuleId) → own_module id d ≡ Some x → is_same_map x.map id ≡ true
own_module_here id (def.Module source) x h =
    elim (cases_Bool (is_same_map source.map id)) [
      | inl same ↦ let k : Some source ≡ Some x = rw same at h in let one : source ≡ x = cc in subst (λ (m : ModuleId). is_same_map m.map id ≡ true) one same
      | inr other ↦ absurd (let wrong : None ≡ Some x = rw other at h in cc)
    ]
own_module_here id _ x h = cc

own_target_here : (id : MapId) (defs : List Def) (x : ModuleId) → own_target id defs ≡ Some x → is_same_map x.map id ≡ true
own_target_here id [] x h = cc
own_target_here id (d ∷ []) x h = own_module_here id d x h
own_target_here id (d ∷ e ∷ others) x h = cc

module _ (oracle : Oracle) (s t : State) (glob : EdgeTo Visibility) (source : ModuleId) (list : List (Entry Visibility)) (updated : Updated glob.importer list s t)
    (own : is_own_crate s.map.id source ≡ true) (are : list ≡ module_entries (order s) glob (is_own_crate s.map.id source) (map_of (world oracle s) source.map) source)
    (stands : Stands (put_each glob.importer list ++ AddEdge source glob ∷ []) s) (sound : IsSound s) where
  abbrev T : GlobId → Option ModuleId
  T = target_of s.map.id s.targets

  ours : (e : Entry Visibility) (g : GlobId) → Contains list e → e.origin ≡ Some (Glob g) → g ≡ glob.glob
  ours e g listed by =
      let made = module_by (order s) glob (is_own_crate s.map.id source) (map_of (world oracle s) source.map) source e (subst (λ l. Contains l e) are listed) in
      let two : Some (Glob g) ≡ Some (Glob glob.glob) = sym by ∙ made in
      cc

  -- the entries of a module of this map
  listed_here : is_same_map source.map s.map.id ≡ true → list ≡ scope_entries (order s) glob true s.content source
  listed_here same =
      are
      ∙ ap (λ b. module_entries (order s) glob b (map_of (world oracle s) source.map) source) own
      ∙ ap (λ b. module_entries (order s) glob true (if b then Some (map_view s) else finished_map oracle source.map) source) same

  all_here : is_same_map source.map s.map.id ≡ true → ListsAll (order s) list s.content source glob.importer
  all_here same = subst (λ l. ListsAll (order s) l s.content source glob.importer) (sym (listed_here same)) (all_listed (order s) glob s.content source (stands.state.listed source))

  -- a module of another map binds nothing here
  unbound_elsewhere : is_same_map source.map s.map.id ≡ false → (slot : Slot) (b : Binding Visibility) → held t.content source slot ≡ Some b → ⊥
  unbound_elsewhere other slot b there =
      let wave = runs_wave {oracle = oracle} glob.importer list s t.content updated.travels (AddEdge source glob ∷ []) [] in
      let begins : Stands ((put_each glob.importer list ++ AddEdge source glob ∷ []) ++ []) s = subst (λ tasks. Stands tasks s) (sym (append-nil (put_each glob.importer list ++ AddEdge source glob ∷ []))) stands in
      let at = (stands_along (wave []).1 begins).state.bound source slot (b, there) in
      let of_map : source.map ≡ s.map.id = at.0 in
      false≢true (sym other ∙ (ap (λ x. is_same_map x s.map.id) of_map ∙ same_map_itself s.map.id))

  closes_by : (here : Bool) → is_same_map source.map s.map.id ≡ here → IsClosedTo (order s) t.content source glob.importer
  closes_by true same = updated.travels.closes source (all_here same)
  closes_by false other =
      λ slot b there seen.
      absurd (unbound_elsewhere other slot b there)

  one_of : (x : ModuleId) → T glob.glob ≡ Some x → is_same_map x.map s.map.id ≡ true
  one_of x known = own_target_here s.map.id (unwrap_or (s.targets glob.glob) []) x known

  shown : is_same_map source.map s.map.id ≡ true → (e : Entry Visibility) (name : Name) (ns : Namespace) → Contains list e → slot_of e ≡ Some (Named name ns)
      → (b : Binding Visibility) × (s.content.binding source name ns ≡ Some b) × (b.def ≡ e.def) × ((order s).can_see glob.importer b.vis ≡ true)
  shown same e name ns listed is = entry_shown (order s) glob s.content source e name ns (subst (λ l. Contains l e) (listed_here same) listed) is

  module _ (followed : AreFollowed (target_of s.map.id s.targets) (put_each glob.importer list ++ AddEdge source glob ∷ [])) where
    begin : (target : ModuleId) → T glob.glob ≡ Some target → source ≡ target
    begin = edge_begins T glob.importer list source glob followed

    led_by : (target : Option ModuleId) → T glob.glob ≡ target → IsSound (with_content s (with_recorded (order s) t.content source glob))
    led_by None nowhere = sound_elsewhere s.map s.targets glob.importer list s.content t.content updated.travels sound source glob.vis glob.glob begin ours nowhere (closes_by (is_same_map source.map s.map.id) refl)
    led_by (Some x) known =
        let here : T glob.glob ≡ Some source = known ∙ ap Some (sym (begin x known)) in
        let same : is_same_map source.map s.map.id ≡ true = one_of source here in
        sound_glob s.map s.targets glob.importer list s.content t.content updated.travels sound source glob.vis glob.glob begin ours here (all_here same)
        (λ e name listed named. let b = shown same e name e.ns listed (ap (λ n. slot_for n e.ns e.def) named) in (b.0, b.1, b.2))
        (λ e name ns listed is. let b = shown same e name ns listed is in (b.0, b.1, b.3))

    -- names stay sound where a glob is put and its edge is added
    pub glob_sound : IsSound (with_content t (with_recorded (order t) t.content source glob))
    glob_sound = subst (λ x. IsSound (with_content x (with_recorded (order x) x.content source glob))) (sym updated.rest) (led_by (T glob.glob) refl)

  module _ (rest : List Task) (before : List Event) (importer : ModuleId) (slot : Slot)
      (kept : IsKeptAlong (runs_wave {oracle = oracle} glob.importer list s t.content updated.travels (AddEdge source glob ∷ []) rest before).1 importer slot) where
    -- the edge would raise nothing as it is added, where its source kept what it binds
    edge_raised : (here : Bool) → is_same_map source.map s.map.id ≡ here → glob.importer ≡ importer → IsRaisedAlong (order s) t.content source glob slot
    edge_raised false other to = λ b there g own. absurd (unbound_elsewhere other slot b own)
    edge_raised true same to =
        updated.travels.raises source glob slot refl
        (subst (λ l. ListsCarried (order s) l s.content source glob slot) (sym (listed_here same)) (all_carried (order s) glob s.content source (stands.state.listed source) slot))
        (subst (λ l. HasOneDef l slot) (sym (listed_here same)) (one_listed (order s) glob s.content source slot))
        (subst (λ m. KeepsDef s.content t.content m slot) (sym to) (wave_keeps importer slot oracle glob.importer list s t.content updated.travels (AddEdge source glob ∷ []) rest before kept))
        (wave_sources importer slot oracle glob.importer list s t.content updated.travels (AddEdge source glob ∷ []) rest before kept source glob (first_in (AddEdge source glob) rest) to)

    -- a place that is kept stays raised where a glob is put and its edge is added
    pub glob_raised : leaves_out s importer ≡ false → IsRaisedIn s importer slot → IsRaisedAt (order s) (with_recorded (order s) t.content source glob) importer slot
    glob_raised left raised =
        adding_raised (order s) t.content (with_recorded (order s) t.content source glob) source glob refl importer slot (edge_raised (is_same_map source.map s.map.id) refl)
        (wave_raised importer slot oracle glob.importer list s t.content updated.travels (AddEdge source glob ∷ []) rest before kept left sound raised)
