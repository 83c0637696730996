-- What keeps names sound along the globs: a map that grows, one more target, a wave, and a glob with its edge.
use Rattle.std.proofs.Common.{◌≡◌, ◌⊎◌, ℕ, Bool, true, false, cond, List, [], ◌∷◌, ◌++◌, length, slice_get, Option, Some, None, Contains, refl, sym, ap, ◌∙◌, subst, inl, inr}
use Rattle.std.specs.Prelude.{unwrap_or}
use Rattle.std.proofs.lemmas.Bool.{cases_Bool}
use Rattle.tree_ids.specs.declared.name.Name.{Name}
use Rattle.def_ids.specs.declared.ids.Def.{Def}
use Rattle.def_ids.specs.declared.ids.GlobId.{GlobId}
use Rattle.def_ids.specs.declared.ids.MapId.{MapId}
use Rattle.def_ids.specs.declared.ids.ModuleId.{ModuleId}
use Rattle.def_ids.specs.Equality.{glob_eq}
use Rattle.def_bindings.specs.declared.bindings.Binding.{Binding}
use Rattle.def_bindings.specs.declared.bindings.EdgeTo.{EdgeTo}
use Rattle.def_bindings.specs.declared.bindings.Entry.{Entry}
use Rattle.def_bindings.specs.declared.bindings.ImportOrExternCrate.TheVariants.{Glob}
use Rattle.def_bindings.specs.declared.bindings.Namespace.{Namespace}
use Rattle.def_bindings.specs.declared.bindings.Slot.TheVariants.{Named}
use Rattle.def_bindings.specs.declared.visibility.Visibility.{Visibility}
use Rattle.def_bindings.specs.Closure.{Follows}
use Rattle.def_bindings.specs.Content.{Content}
use Rattle.def_bindings.specs.IdLaws.{glob-eq}
use Rattle.def_bindings.specs.Puts.{edge_to, slot_of}
use Rattle.def_bindings.specs.Tree.{AreParentsLower, chain_of}
use Rattle.def_bindings.specs.Visibility.{is_visible_from}
use Rattle.def_modules.specs.MapState.{MapState}
use Rattle.def_globs.specs.Globs.{with_recorded}
use Rattle.def_globs.proofs.LedLaws.{led_or_home, led_recorded, led_updated, nothing_brought}
use Rattle.def_globs.specs.Waves.{AddsEdge, AreSingle, BeginsAt, Brings, IsClosedTo, ListsAll}
use Rattle.def_globs.proofs.AddingLaws.{adding_begins, adding_closed, adding_coherent, adding_edge}
use Rattle.def_laws.specs.Own.{AreOwn, IsOwn, IsRecorded}
use Rattle.def_laws.specs.Sound.{AreSound, order_in}
use Rattle.def_rules.specs.Targets.{own_target, target_of}
use Rattle.def_rules.specs.Globs.{Targets, is_among, with_def, with_target}
use Rattle.def_laws.specs.Travels.{Travels}
use Rattle.def_rules.specs.State.{ImportDirective}
use Rattle.def_laws.proofs.ChainsLaws.{sees_kept}

-- a map with perhaps more modules
pub record IsLarger (m m' : MapState) : Type 0 where
  pub id : m'.id ≡ m.id
  pub containing : m'.containing ≡ m.containing
  pub more : List (Option ℕ)
  pub parents : m'.parents ≡ m.parents ++ more
  pub even : length m.parents ≡ length m.modules → length m'.parents ≡ length m'.modules
  pub lower : AreParentsLower m.parents → AreParentsLower m'.parents

-- what a module of a map sees stays where the map grows
pub sees_larger : (m m' : MapState) → AreParentsLower m.parents → IsLarger m m' → (place : ModuleId) (vis : Visibility) → IsOwn m place → (order_in m').can_see place vis ≡ (order_in m).can_see place vis
sees_larger m m' lower larger place vis at =
    ap (λ x. is_visible_from (chain_of x m'.parents m'.containing) place vis) larger.id
    ∙ ap (λ x. is_visible_from (chain_of m.id x m'.containing) place vis) larger.parents
    ∙ ap (λ x. is_visible_from (chain_of m.id (m.parents ++ larger.more) x) place vis) larger.containing
    ∙ sees_kept m.id m.parents larger.more m.containing lower place vis at.0 at.1

module _ {left_out : ModuleId → Bool} {m : MapState} {targets : Targets} {c : Content Visibility} {directives : List ImportDirective} (own : AreOwn m targets c directives) (sound : AreSound left_out m targets c) where
  module _ {m' : MapState} (larger : IsLarger m m') where
    sees : (place : ModuleId) (vis : Visibility) → IsOwn m place → (order_in m').can_see place vis ≡ (order_in m).can_see place vis
    sees place vis at = sees_larger m m' own.lower larger place vis at

    before : (glob : GlobId) (target : ModuleId) → target_of m'.id targets glob ≡ Some target → target_of m.id targets glob ≡ Some target
    before glob target known = ap (λ i. target_of i targets glob) (sym larger.id) ∙ known

    follows_larger : (source importer : ModuleId) (name : Name) (ns : Namespace) (d : Def) → IsOwn m importer → Follows (order_in m) c source importer (Named name ns) d → Follows (order_in m') c source importer (Named name ns) d
    follows_larger source importer name ns d at follows = (
      follows.0,
      follows.1,
      elim follows.2 [
        | inl same ↦ inl same
        | inr unseen ↦ inr (sees importer follows.0.vis at ∙ unseen)
      ],
    )

    -- names stay sound where modules are added
    pub sound_larger : AreSound left_out m' targets c
    sound_larger = record {
      closed = λ source index edge slot b at left there seen. sound.closed source index edge slot b at left there (sym (sees edge.importer b.vis (own.edges source index edge at).0) ∙ seen);
      coherent = λ importer name ns b glob target at by known left left'.
          follows_larger target importer name ns b.def (own.bound importer (Named name ns) (b, at)) (sound.coherent importer name ns b glob target at by (before glob target known) left left');
      begins = λ source index edge target at known. sound.begins source index edge target at (before edge.glob target known);
      led = λ importer name ns b glob target at by known left left'. sound.led importer name ns b glob target at by (before glob target known) left left';
      single = sound.single;
    }

  module _ (g : GlobId) (d : Def) where
    no_target : (id : MapId) (first : Def) (others : List Def) (e : Def) → own_target id (first ∷ (others ++ e ∷ [])) ≡ None
    no_target id first [] e = refl
    no_target id first (x ∷ xs) e = refl

    with_known : (glob : GlobId) (target first : Def) (t : ModuleId) (others : List Def) → own_target m.id (with_def d (first ∷ others)) ≡ Some t → own_target m.id (first ∷ others) ≡ Some t
    with_known glob target first t others known =
        elim (cases_Bool (is_among d (first ∷ others))) [
          | inl among ↦ ap (λ b. own_target m.id (cond b (first ∷ others) ((first ∷ others) ++ d ∷ []))) (sym among) ∙ known
          | inr new ↦
              let wrong : None ≡ Some t = sym (ap (λ b. own_target m.id (cond b (first ∷ others) ((first ∷ others) ++ d ∷ []))) new ∙ no_target m.id first others d) ∙ known in
              absurd cc
        ]

    -- what a recorded glob leads to once another was recorded it led to before
    target_before : (glob : GlobId) (t : ModuleId) → IsRecorded targets glob → target_of m.id (with_target g d targets) glob ≡ Some t → target_of m.id targets glob ≡ Some t
    target_before glob t was known =
        elim (cases_Bool (glob_eq g glob)) [
          | inr other ↦ let same : with_target g d targets glob ≡ targets glob = rw other refl in ap (λ o. own_target m.id (unwrap_or o [])) (sym same) ∙ known
          | inl same ↦
              let is_g : g ≡ glob = glob-eq g glob same in
              let of_g : targets g ≡ Some (was.first ∷ was.others) = ap targets is_g ∙ was.is in
              let now : with_target g d targets glob ≡ Some (with_def d (was.first ∷ was.others)) = rw same (ap (λ o. Some (with_def d (unwrap_or o []))) of_g) in
              ap (λ o. own_target m.id (unwrap_or o [])) was.is ∙ with_known glob d was.first t was.others (ap (λ o. own_target m.id (unwrap_or o [])) (sym now) ∙ known)
        ]

    -- names stay sound where a glob is recorded with one more definition
    pub sound_target : AreSound left_out m (with_target g d targets) c
    sound_target = record {
      closed = sound.closed;
      coherent = λ importer name ns b glob target at by known left left'.
          sound.coherent importer name ns b glob target at by (target_before glob target (own.globs importer name ns glob (b, at, by)) known) left left';
      begins = λ source index edge target at known. sound.begins source index edge target at (target_before edge.glob target (own.edges source index edge at).1 known);
      led = λ importer name ns b glob target at by known left left'. sound.led importer name ns b glob target at by (target_before glob target (own.globs importer name ns glob (b, at, by)) known) left left';
      single = sound.single;
    }

module _ (m : MapState) (targets : Targets) where
  abbrev T : GlobId → Option ModuleId
  T = target_of m.id targets

  module _ (source : ModuleId) (edge : EdgeTo Visibility) (c : Content Visibility) (begin : (target : ModuleId) → T edge.glob ≡ Some target → source ≡ target) (new : IsClosedTo (order_in m) c source edge.importer) where
    abbrev recorded : Content Visibility
    recorded = with_recorded (order_in m) c source edge

    abbrev added : AddsEdge source edge.importer edge.glob c recorded
    added = adding_edge (order_in m) c recorded source edge refl

    -- names stay sound where an edge is added that is closed
    pub sound_edge : {left_out : ModuleId → Bool} → AreSound left_out m targets c → AreSound left_out m targets recorded
    sound_edge {left_out} sound = record {
      closed = adding_closed (order_in m) c recorded source edge refl left_out (λ left. new) sound.closed;
      coherent = adding_coherent (order_in m) c recorded source edge refl left_out T sound.coherent;
      begins = adding_begins (order_in m) c recorded source edge refl T begin sound.begins;
      led = λ importer name ns b glob target at by known left left'. added.kept sound.single target importer glob (sound.led importer name ns b glob target at by known left left');
      single = added.single sound.single;
    }

  module _ {left_out : ModuleId → Bool} (at : ModuleId) (list : List (Entry Visibility)) (old new : Content Visibility) (travels : Travels (order_in m) at list old new) (sound : AreSound left_out m targets old) where
    begins_on : BeginsAt T new
    begins_on source index edge target there known = sound.begins source index edge target (ap (λ (es : ModuleId → List (EdgeTo Visibility)). slice_get (es source) index) (sym travels.edges) ∙ there) known

    single_on : AreSingle new
    single_on = subst (λ (es : ModuleId → List (EdgeTo Visibility)). (source : ModuleId) (i j : ℕ) (e f : EdgeTo Visibility) → slice_get (es source) i ≡ Some e → slice_get (es source) j ≡ Some f → e.importer ≡ f.importer → i ≡ j) (sym travels.edges) sound.single

    -- names stay sound along a wave of names that no glob brings from a module of this map
    pub sound_wave : ((e : Entry Visibility) (g : GlobId) → Contains list e → e.origin ≡ Some (Glob g) → T g ≡ None) → AreSound left_out m targets new
    sound_wave unknown = record {
      closed = travels.closed left_out sound.closed;
      coherent = (travels.coherent left_out T sound.begins (led_or_home left_out T at old sound.led)
          (λ e name glob target listed named by known left left'. absurd (let wrong : None ≡ Some target = sym (unknown e glob listed by) ∙ known in cc)) sound.coherent).0;
      begins = begins_on;
      led = led_updated left_out T at list old new travels.edges travels.globs begins_on sound.led unknown;
      single = single_on;
    }

    module _ (source : ModuleId) (vis : Visibility) (glob : GlobId) (begin : (target : ModuleId) → T glob ≡ Some target → source ≡ target)
        (ours : (e : Entry Visibility) (g : GlobId) → Contains list e → e.origin ≡ Some (Glob g) → g ≡ glob) where
      abbrev edge_of : EdgeTo Visibility
      edge_of = record { importer = at; vis = vis; glob = glob }

      abbrev last : Content Visibility
      last = with_recorded (order_in m) new source edge_of

      -- names stay sound where a glob that leads nowhere brings names, and then its edge is added
      pub sound_elsewhere : T glob ≡ None → IsClosedTo (order_in m) new source at → AreSound left_out m targets last
      sound_elsewhere nowhere closes = sound_edge source edge_of new begin closes (sound_wave (λ e g listed by. ap T (ours e g listed by) ∙ nowhere))

      -- and where a glob brings what the importer sees of a module of this map
      pub sound_glob : T glob ≡ Some source → ListsAll (order_in m) list old source at
          → ((e : Entry Visibility) (name : Name) → Contains list e → e.name ≡ Some name → (b : Binding Visibility) × (old.binding source name e.ns ≡ Some b) × (b.def ≡ e.def))
          → ((e : Entry Visibility) (name : Name) (ns : Namespace) → Contains list e → slot_of e ≡ Some (Named name ns) → (b : Binding Visibility) × (old.binding source name ns ≡ Some b) × ((order_in m).can_see at b.vis ≡ true))
          → AreSound left_out m targets last
      sound_glob here all bound shown =
          let closes : IsClosedTo (order_in m) new source at = travels.closes source all in
          let coherent =
          travels.coherent left_out T sound.begins (led_or_home left_out T at old sound.led)
          (λ e name g target listed named by known left left'.
          let to : source ≡ target = let two : Some source ≡ Some target = sym here ∙ (ap T (sym (ours e g listed by)) ∙ known) in cc in
          subst (λ z. (b : Binding Visibility) × (old.binding z name e.ns ≡ Some b) × (b.def ≡ e.def)) to (bound e name listed named))
          sound.coherent in
          let added : AddsEdge source at glob new last = adding_edge (order_in m) new last source edge_of refl in
          record {
            closed = adding_closed (order_in m) new last source edge_of refl left_out (λ left. closes) (travels.closed left_out sound.closed);
            coherent = adding_coherent (order_in m) new last source edge_of refl left_out T coherent.0;
            begins = adding_begins (order_in m) new last source edge_of refl T begin begins_on;
            led = led_recorded left_out T at list old new travels.edges travels.globs begins_on sound.led source glob last refl single_on added here (λ e g listed by. inl (ours e g listed by)) (fresh (edge_to (new.edges source) at) refl);
            single = added.single single_on;
          }
        where
          fresh : (there : Option (EdgeTo Visibility)) → edge_to (new.edges source) at ≡ there
              → (edge_to (new.edges source) at ≡ None) ⊎ (left_out at ≡ false → (name : Name) (ns : Namespace) → Brings list old at name ns glob → ⊥)
          fresh None is = inl is
          fresh (Some e) is =
              inr (λ left name ns brings.
              nothing_brought (order_in m) left_out source at list old e sound.closed (ap (λ (es : ModuleId → List (EdgeTo Visibility)). edge_to (es source) at) (sym travels.edges) ∙ is) shown left name ns glob brings)
