-- What a glob brings of a module: entries by that glob, of all that the module binds and the importer sees.
use Rattle.std.proofs.Common.{◌≡◌, Bool, true, false, cond, List, [], ◌∷◌, Option, Some, None, Contains, refl, sym, ap, ◌∙◌, subst, inl, inr}
use Rattle.std.specs.Prelude.{option_to_list, option_map}
use Rattle.std.specs.List.{flat_map, list_any}
use Rattle.std.specs.Map.{lookup}
use Rattle.std.proofs.lemmas.Bool.{cases_Bool, or_cases}
use Rattle.std.proofs.lemmas.List.Elements.{Contains-append_left, Contains-append_right, Contains-append_cases}
use Rattle.tree_ids.specs.declared.name.Name.{Name}
use Rattle.def_ids.specs.declared.ids.Def.{Def}
use Rattle.def_ids.specs.declared.ids.Def.TheVariants.{Trait}
use Rattle.def_ids.specs.declared.ids.ModuleId.{ModuleId}
use Rattle.def_ids.specs.declared.ids.TraitId.{TraitId}
use Rattle.def_bindings.specs.declared.bindings.Binding.{Binding}
use Rattle.def_bindings.specs.declared.bindings.EdgeTo.{EdgeTo}
use Rattle.def_bindings.specs.declared.bindings.Entry.{Entry}
use Rattle.def_bindings.specs.declared.bindings.ImportOrExternCrate.TheVariants.{Glob}
use Rattle.def_bindings.specs.declared.bindings.Namespace.{Namespace}
use Rattle.def_bindings.specs.declared.bindings.Namespace.TheVariants.{Types, Values, Macros}
use Rattle.def_bindings.specs.declared.bindings.Slot.{Slot}
use Rattle.def_bindings.specs.declared.bindings.Slot.TheVariants.{Named, Unnamed}
use Rattle.def_bindings.specs.declared.visibility.Visibility.{Visibility}
use Rattle.def_bindings.specs.Content.{Content, is_listed, is_name, is_trait, vis_of}
use Rattle.def_bindings.specs.IdLaws.{name-eq, trait-eq}
use Rattle.def_bindings.specs.Order.{Order}
use Rattle.def_bindings.specs.Puts.{held, lessened, slot_for, slot_of, unnamed_binding, unnamed_slot}
use Rattle.def_oracle.specs.declared.source_database.EnumVariant.{EnumVariant}
use Rattle.def_paths.specs.Answers.{variant_found}
use Rattle.def_modules.specs.MapView.{MapView}
use Rattle.def_sources.specs.PerNs.{Item, kept}
use Rattle.def_globs.proofs.ListLaws.{first_in, none_in, only_in, in_cases}
use Rattle.def_globs.specs.Raised.{HasOneDef, ListsCarried}
use Rattle.def_globs.specs.Waves.{ListsAll, slots_of}
use Rattle.def_rules.specs.Globs.{brought, module_entries, name_entries, scope_entries, seen, unnamed_entry, variant_entries}

-- an element of lists in a row is of the list of one element
in_flat_map : {X Y : Type 0} (f : X → List Y) (xs : List X) (y : Y) → Contains (flat_map f xs) y → (x : X) × Contains (f x) y
in_flat_map f [] y h = absurd (none_in y h)
in_flat_map f (x ∷ xs) y h = elim (Contains-append_cases (f x) (flat_map f xs) y h) [ inl here ↦ (x, here) | inr later ↦ in_flat_map f xs y later ]

-- the slot of an entry is among those of a list that has it
slot_in : (list : List (Entry Visibility)) (e : Entry Visibility) (slot : Slot) → Contains list e → slot_of e ≡ Some slot → Contains (slots_of list) slot
slot_in [] e slot h is = absurd (none_in e h)
slot_in (x ∷ xs) e slot h is =
    elim (in_cases x xs e h) [
      | inl same ↦ Contains-append_left (option_to_list (slot_of x)) (slots_of xs) slot
          (subst (λ o. Contains (option_to_list o) slot) (sym (ap slot_of (sym same) ∙ is)) (first_in slot []))
      | inr later ↦ Contains-append_right (option_to_list (slot_of x)) (slots_of xs) slot (slot_in xs e slot later is)
    ]

module _ (o : Order Visibility) (glob : EdgeTo Visibility) where
  -- the entry of something that is brought
  abbrev entry_for : Name → Namespace → Item → Entry Visibility
  entry_for name ns item = record { name = Some name; ns = ns; def = item.def; vis = lessened o item.vis glob.vis; origin = Some (Glob glob.glob) }

  brought_is : (name : Name) (ns : Namespace) (item : Option Item) (e : Entry Visibility) → Contains (brought o glob name ns item) e → (i : Item) × (item ≡ Some i) × (e ≡ entry_for name ns i)
  brought_is name ns None e h = absurd (none_in e h)
  brought_is name ns (Some item) e h = (item, refl, only_in (entry_for name ns item) e h)

  -- an entry is by the glob
  abbrev IsBy : Entry Visibility → Type 0
  IsBy e = e.origin ≡ Some (Glob glob.glob)

  brought_by : (name : Name) (ns : Namespace) (item : Option Item) (e : Entry Visibility) → Contains (brought o glob name ns item) e → IsBy e
  brought_by name ns item e h = let b = brought_is name ns item e h in ap (λ (x : Entry Visibility). x.origin) b.2

  -- the entries of an enum are by the glob
  pub variants_by : (variants : List EnumVariant) (e : Entry Visibility) → Contains (flat_map (variant_entries o glob) variants) e → IsBy e
  variants_by variants e h =
      let at = in_flat_map (variant_entries o glob) variants e h in
      elim (Contains-append_cases (brought o glob at.0.name Types (variant_found at.0).types) (brought o glob at.0.name Values (variant_found at.0).values) e at.1) [
        | inl types ↦ brought_by at.0.name Types (variant_found at.0).types e types
        | inr values ↦ brought_by at.0.name Values (variant_found at.0).values e values
      ]

  module _ (own : Bool) (c : Content Visibility) (source : ModuleId) where
    in_names : (name : Name) (e : Entry Visibility) → Contains (name_entries o glob own c source name) e → (ns : Namespace) × Contains (brought o glob name ns (seen o glob own c source name ns)) e
    in_names name e h =
        elim (Contains-append_cases (brought o glob name Types (seen o glob own c source name Types)) _ e h) [
          | inl types ↦ (Types, types)
          | inr rest ↦ elim (Contains-append_cases (brought o glob name Values (seen o glob own c source name Values)) _ e rest) [
            | inl values ↦ (Values, values)
            | inr macros ↦ (Macros, macros)
          ]
        ]

    unnamed_is : (held : TraitId × Visibility) (sees : Bool) (e : Entry Visibility)
        → Contains (cond sees (record { name = None; ns = Types; def = Trait held.0; vis = lessened o held.1 glob.vis; origin = Some (Glob glob.glob) } ∷ []) []) e
        → e ≡ record { name = None; ns = Types; def = Trait held.0; vis = lessened o held.1 glob.vis; origin = Some (Glob glob.glob) }
    unnamed_is held true e h = only_in _ e h
    unnamed_is held false e h = absurd (none_in e h)

    -- the entries of a scope are by the glob
    scope_by : (e : Entry Visibility) → Contains (scope_entries o glob own c source) e → IsBy e
    scope_by e h =
        elim (Contains-append_cases (flat_map (name_entries o glob own c source) (c.names source)) _ e h) [
          | inl named ↦ let at = in_flat_map (name_entries o glob own c source) (c.names source) e named in let in_ns = in_names at.0 e at.1 in brought_by at.0 in_ns.0 _ e in_ns.1
          | inr unnamed ↦ let at = in_flat_map (unnamed_entry o glob own) (c.unnamed source) e unnamed in ap (λ (x : Entry Visibility). x.origin) (unnamed_is at.0 _ e at.1)
        ]

  -- the entries of a module are by the glob
  pub module_by : (own : Bool) (map : Option MapView) (source : ModuleId) (e : Entry Visibility) → Contains (module_entries o glob own map source) e → IsBy e
  module_by own None source e h = absurd (none_in e h)
  module_by own (Some map) source e h = scope_by own map.content source e h

  module _ (c : Content Visibility) (source : ModuleId) where
    -- what the source binds and the importer sees
    abbrev Shows : Name → Namespace → Def → Type 0
    Shows name ns d = (b : Binding Visibility) × (c.binding source name ns ≡ Some b) × (b.def ≡ d) × (o.can_see glob.importer b.vis ≡ true)

    kept_is : (there : Option Item) (i : Item) → kept (λ item. o.can_see glob.importer item.vis) there ≡ Some i → (there ≡ Some i) × (o.can_see glob.importer i.vis ≡ true)
    kept_is None i h = cc
    kept_is (Some x) i h =
        elim (cases_Bool (o.can_see glob.importer x.vis)) [
          | inl seen ↦ let g : Some x ≡ Some i = rw seen at h in let same : x ≡ i = cc in (ap Some same, ap (λ (y : Item). o.can_see glob.importer y.vis) (sym same) ∙ seen)
          | inr none ↦ absurd (let g : None ≡ Some i = rw none at h in cc)
        ]

    named_parts : (x name : Name) (k ns : Namespace) → Some (Named x k) ≡ Some (Named name ns) → (x ≡ name) × (k ≡ ns)
    named_parts x name k ns e = let f : Named x k ≡ Named name ns = cc in let p : x ≡ name = cc in let q : k ≡ ns = cc in (p, q)

    from_name : (x : Name) (e : Entry Visibility) (name : Name) (ns : Namespace) → Contains (name_entries o glob true c source x) e → slot_of e ≡ Some (Named name ns) → Shows name ns e.def
    from_name x e name ns h is =
        let in_ns = in_names true c source x e h in
        let b = brought_is x in_ns.0 (seen o glob true c source x in_ns.0) e in_ns.1 in
        let k = kept_is (c.binding source x in_ns.0) b.0 b.1 in
        let p = named_parts x name in_ns.0 ns (sym (ap slot_of b.2) ∙ is) in
        (b.0, ap (λ n. c.binding source n ns) (sym p.0) ∙ (ap (λ n. c.binding source x n) (sym p.1) ∙ k.0), sym (ap (λ (y : Entry Visibility). y.def) b.2), k.1)

    -- a named entry is what the source binds and the importer sees
    pub entry_shown : (e : Entry Visibility) (name : Name) (ns : Namespace) → Contains (scope_entries o glob true c source) e → slot_of e ≡ Some (Named name ns) → Shows name ns e.def
    entry_shown e name ns h is =
        elim (Contains-append_cases (flat_map (name_entries o glob true c source) (c.names source)) _ e h) [
          | inl named ↦ let at = in_flat_map (name_entries o glob true c source) (c.names source) e named in from_name at.0 e name ns at.1 is
          | inr unnamed ↦
              let at = in_flat_map (unnamed_entry o glob true) (c.unnamed source) e unnamed in
              let none : Some (Unnamed at.0.0) ≡ Some (Named name ns) = sym (ap slot_of (unnamed_is true c source at.0 _ e at.1)) ∙ is in
              absurd (let wrong : Unnamed at.0.0 ≡ Named name ns = cc in cc)
        ]

    brought_in : (name : Name) (ns : Namespace) (b : Binding Visibility) → c.binding source name ns ≡ Some b → o.can_see glob.importer b.vis ≡ true → Contains (brought o glob name ns (seen o glob true c source name ns)) (entry_for name ns b)
    brought_in name ns b there sees =
        let is : seen o glob true c source name ns ≡ Some b = ap (kept (λ item. o.can_see glob.importer item.vis)) there ∙ rw sees refl in
        subst (λ x. Contains (brought o glob name ns x) (entry_for name ns b)) (sym is) (first_in (entry_for name ns b) [])

    name_in : (name : Name) (ns : Namespace) (b : Binding Visibility) → c.binding source name ns ≡ Some b → o.can_see glob.importer b.vis ≡ true → Contains (name_entries o glob true c source name) (entry_for name ns b)
    name_in name Types b there sees = Contains-append_left (brought o glob name Types (seen o glob true c source name Types)) _ (entry_for name Types b) (brought_in name Types b there sees)
    name_in name Values b there sees =
        Contains-append_right (brought o glob name Types (seen o glob true c source name Types)) _ (entry_for name Values b)
        (Contains-append_left (brought o glob name Values (seen o glob true c source name Values)) _ (entry_for name Values b) (brought_in name Values b there sees))
    name_in name Macros b there sees =
        Contains-append_right (brought o glob name Types (seen o glob true c source name Types)) _ (entry_for name Macros b)
        (Contains-append_right (brought o glob name Values (seen o glob true c source name Values)) _ (entry_for name Macros b) (brought_in name Macros b there sees))

    listed_in : (names : List Name) (name : Name) (e : Entry Visibility) → list_any (is_name name) names ≡ true → Contains (name_entries o glob true c source name) e → Contains (flat_map (name_entries o glob true c source) names) e
    listed_in [] name e h there = cc
    listed_in (x ∷ xs) name e h there =
        elim (or_cases (is_name name x) (list_any (is_name name) xs) h) [
          | inl same ↦ Contains-append_left (name_entries o glob true c source x) _ e (subst (λ z. Contains (name_entries o glob true c source z) e) (name-eq name x same) there)
          | inr later ↦ Contains-append_right (name_entries o glob true c source x) _ e (listed_in xs name e later there)
        ]

    -- the entry of an unnamed trait
    abbrev unnamed_for : TraitId → Visibility → Entry Visibility
    unnamed_for t vis = record { name = None; ns = Types; def = Trait t; vis = lessened o vis glob.vis; origin = Some (Glob glob.glob) }

    unnamed_in : (es : List (TraitId × Visibility)) (t : TraitId) (vis : Visibility) → lookup (is_trait t) es ≡ Some vis → o.can_see glob.importer vis ≡ true → Contains (flat_map (unnamed_entry o glob true) es) (unnamed_for t vis)
    unnamed_in [] t vis h sees = cc
    unnamed_in (e ∷ es) t vis h sees =
        elim (cases_Bool (is_trait t e.0)) [
          | inl same ↦
              let g : Some e.1 ≡ Some vis = rw same at h in
              let v : e.1 ≡ vis = cc in
              let is : unnamed_entry o glob true e ≡ unnamed_for t vis ∷ [] =
              ap (λ x. cond (o.can_see glob.importer x) (unnamed_for e.0 x ∷ []) []) v ∙ rw sees (ap (λ x. unnamed_for x vis ∷ []) (sym (trait-eq t e.0 same))) in
              Contains-append_left (unnamed_entry o glob true e) _ (unnamed_for t vis) (subst (λ l. Contains l (unnamed_for t vis)) (sym is) (first_in (unnamed_for t vis) []))
          | inr other ↦ let g : lookup (is_trait t) es ≡ Some vis = rw other at h in Contains-append_right (unnamed_entry o glob true e) _ (unnamed_for t vis) (unnamed_in es t vis g sees)
        ]

    vis_is : (t : TraitId) (found : Option Visibility) (b : Binding Visibility) → option_map (unnamed_binding t) found ≡ Some b → found ≡ Some b.vis
    vis_is t None b h = cc
    vis_is t (Some v) b h = let same : unnamed_binding t v ≡ b = cc in ap (λ (x : Binding Visibility). Some x.vis) same

    -- the source binds each name in a module that lists it
    abbrev pub AreListed : Type 0
    AreListed = (name : Name) (ns : Namespace) (b : Binding Visibility) → c.binding source name ns ≡ Some b → is_listed (c.names source) name ≡ true

    -- the entries of a scope have what an edge would carry of each slot
    pub all_carried : AreListed → (slot : Slot) → ListsCarried o (scope_entries o glob true c source) c source glob slot
    all_carried listed (Named name ns) b there sees = (
      entry_for name ns b,
      Contains-append_left (flat_map (name_entries o glob true c source) (c.names source)) _ (entry_for name ns b) (listed_in (c.names source) name (entry_for name ns b) (listed name ns b there) (name_in name ns b there sees)),
      refl,
      refl,
    )
    all_carried listed (Unnamed t) b there sees = (
      unnamed_for t b.vis,
      Contains-append_right (flat_map (name_entries o glob true c source) (c.names source)) _ (unnamed_for t b.vis) (unnamed_in (c.unnamed source) t b.vis (vis_is t (vis_of (c.unnamed source) t) b there) sees),
      refl,
      refl,
    )

    -- so they have all that it binds and the importer sees
    pub all_listed : AreListed → ListsAll o (scope_entries o glob true c source) c source glob.importer
    all_listed listed slot b there sees = let entry = all_carried listed slot b there sees in slot_in (scope_entries o glob true c source) entry.0 slot entry.1 entry.2

    -- an entry without a name is of its trait
    unnamed_def : (ns : Namespace) (d : Def) (t : TraitId) → unnamed_slot ns d ≡ Some (Unnamed t) → d ≡ Trait t
    unnamed_def Types (Trait x) t h = let same : Unnamed x ≡ Unnamed t = cc in let one : x ≡ t = cc in ap Trait one
    unnamed_def _ _ t h = cc

    slot_def : (name : Option Name) (ns : Namespace) (d : Def) (t : TraitId) → slot_for name ns d ≡ Some (Unnamed t) → d ≡ Trait t
    slot_def None ns d t h = unnamed_def ns d t h
    slot_def (Some name) ns d t h = absurd (let wrong : Named name ns ≡ Unnamed t = cc in cc)

    -- they have one definition for each slot
    pub one_listed : (slot : Slot) → HasOneDef (scope_entries o glob true c source) slot
    one_listed (Named name ns) e f in_e in_f at_e at_f =
        let x = entry_shown e name ns in_e at_e in
        let y = entry_shown f name ns in_f at_f in
        let twice : Some x.0 ≡ Some y.0 = sym x.1 ∙ y.1 in
        let one : x.0 ≡ y.0 = cc in
        sym x.2 ∙ (ap (λ (b : Binding Visibility). b.def) one ∙ y.2)
    one_listed (Unnamed t) e f in_e in_f at_e at_f = slot_def e.name e.ns e.def t at_e ∙ sym (slot_def f.name f.ns f.def t at_f)
