-- What a glob of a definition leads to.
use Rattle.std.proofs.Common.{◌≡◌, Bool, true, false, cond, if◌then◌else◌, List, Some, None, refl, sym, ap, ◌∙◌}
use Rattle.std.proofs.lemmas.Option.{none-some}
use Rattle.def_ids.specs.declared.ids.Def.{Def}
use Rattle.def_ids.specs.declared.ids.Def.TheVariants as def
use Rattle.def_ids.specs.declared.ids.ModuleId.{ModuleId}
use Rattle.def_ids.specs.Ids.{is_same_map}
use Rattle.def_bindings.specs.declared.bindings.EdgeTo.{EdgeTo}
use Rattle.def_bindings.specs.declared.bindings.Entry.{Entry}
use Rattle.def_bindings.specs.declared.visibility.Visibility.{Visibility}
use Rattle.def_bindings.specs.Content.{Content}
use Rattle.def_bindings.specs.Visibility.{order_over}
use Rattle.def_globs.specs.Globs.{with_recorded}
use Rattle.def_modules.specs.MapView.{MapView}
use Rattle.def_map.specs.Oracle.{Oracle}
use Rattle.def_map.specs.Sources.{World, finished_map}
use Rattle.def_laws.specs.Performs.{Performs, Updated}
use Rattle.def_laws.proofs.GlobsLaws.{performs_foreign, performs_own}
use Rattle.def_laws.proofs.StepsLaws.{performs_listed}
use Rattle.def_rules.specs.Globs.{module_entries, scope_entries}
use Rattle.def_rules.specs.Recording.{glob_tasks, is_own_crate}
use Rattle.def_rules.specs.State.{State, order, with_content, world}
use Rattle.def_imports.specs.GlobEntries.{edge_source, entries_of_glob, entries_of_module}

-- a module that is none of this crate begins no edge
foreign : (own : Bool) (m : ModuleId) → cond own (Some m) None ≡ None → own ≡ false
foreign true m none = cc
foreign false m none = refl

-- one that begins an edge is of this crate
own_of : (own : Bool) (m source : ModuleId) → cond own (Some m) None ≡ Some source → own ≡ true
own_of true m source is = refl
own_of false m source is = cc

same_of : (own : Bool) (m source : ModuleId) → cond own (Some m) None ≡ Some source → m ≡ source
same_of true m source is = cc
same_of false m source is = cc

module _ (oracle : Oracle) (s t : State) (glob : EdgeTo Visibility) (list : List (Entry Visibility)) where
  -- what a glob of this definition leads to was performed
  abbrev Recorded : Def → State → Type 0
  Recorded d u = Performs oracle (glob_tasks (world oracle s) glob (Some d)) s u

  -- what it brings was put, and no edge begins at it
  pub put_alone : (d : Def) → edge_source s.map.id d ≡ None → list ≡ entries_of_glob (world oracle s) glob d → Updated glob.importer list s t → Recorded d t
  put_alone (def.Module m) none brings updated = performs_foreign oracle s t t glob m list (foreign (is_own_crate s.map.id m) m none) brings updated
  put_alone (def.Enum id) none brings updated = performs_listed glob.importer list _ s t brings updated
  put_alone (def.Function id) none brings updated = performs_listed glob.importer list _ s t brings updated
  put_alone (def.Struct id) none brings updated = performs_listed glob.importer list _ s t brings updated
  put_alone (def.Union id) none brings updated = performs_listed glob.importer list _ s t brings updated
  put_alone (def.Variant id) none brings updated = performs_listed glob.importer list _ s t brings updated
  put_alone (def.Const id) none brings updated = performs_listed glob.importer list _ s t brings updated
  put_alone (def.Static id) none brings updated = performs_listed glob.importer list _ s t brings updated
  put_alone (def.Trait id) none brings updated = performs_listed glob.importer list _ s t brings updated
  put_alone (def.TypeAlias id) none brings updated = performs_listed glob.importer list _ s t brings updated
  put_alone (def.Builtin id) none brings updated = performs_listed glob.importer list _ s t brings updated
  put_alone (def.Macro id) none brings updated = performs_listed glob.importer list _ s t brings updated

  module _ (u : State) (source : ModuleId) (added : u ≡ with_content t (with_recorded (order t) t.content source glob)) where
    -- what it brings was put, and its edge was added
    pub put_linked : (d : Def) → edge_source s.map.id d ≡ Some source → list ≡ entries_of_glob (world oracle s) glob d → Updated glob.importer list s t → Recorded d u
    put_linked (def.Module m) some brings updated =
        let same : m ≡ source = same_of (is_own_crate s.map.id m) m source some in
        performs_own oracle s t u glob m list (own_of (is_own_crate s.map.id m) m source some) brings updated
        (added ∙ ap (λ x. with_content t (with_recorded (order t) t.content x glob)) (sym same))
    put_linked (def.Enum id) some brings updated = absurd (none-some source some)
    put_linked (def.Function id) some brings updated = absurd (none-some source some)
    put_linked (def.Struct id) some brings updated = absurd (none-some source some)
    put_linked (def.Union id) some brings updated = absurd (none-some source some)
    put_linked (def.Variant id) some brings updated = absurd (none-some source some)
    put_linked (def.Const id) some brings updated = absurd (none-some source some)
    put_linked (def.Static id) some brings updated = absurd (none-some source some)
    put_linked (def.Trait id) some brings updated = absurd (none-some source some)
    put_linked (def.TypeAlias id) some brings updated = absurd (none-some source some)
    put_linked (def.Builtin id) some brings updated = absurd (none-some source some)
    put_linked (def.Macro id) some brings updated = absurd (none-some source some)

module _ (w : World) (glob : EdgeTo Visibility) (source : ModuleId) (entries : List (Entry Visibility)) (own : Bool) (content : Content Visibility) (of_crate : own ≡ is_own_crate w.map.facts.id source)
    (are : entries ≡ scope_entries (order_over w.map.facts.chain) glob own content source) where
  -- the entries of a module, where its map is known
  entries_in : (map : MapView) → content ≡ map.content → entries ≡ module_entries (order_over w.map.facts.chain) glob (is_own_crate w.map.facts.id source) (Some map) source
  entries_in map same =
      are
      ∙ ap (λ b. scope_entries (order_over w.map.facts.chain) glob b content source) of_crate
      ∙ ap (λ c. scope_entries (order_over w.map.facts.chain) glob (is_own_crate w.map.facts.id source) c source) same

  -- a module of this map
  pub entries_here : is_same_map source.map w.map.facts.id ≡ true → content ≡ w.map.content → entries ≡ entries_of_module w glob source
  entries_here here same =
      entries_in w.map same
      ∙ ap (λ b. module_entries (order_over w.map.facts.chain) glob (is_own_crate w.map.facts.id source) (if b then Some w.map else finished_map w.oracle source.map) source) (sym here)

  -- a module of a finished map
  pub entries_elsewhere : (map : MapView) → is_same_map source.map w.map.facts.id ≡ false → Some map ≡ finished_map w.oracle source.map → content ≡ map.content → entries ≡ entries_of_module w glob source
  entries_elsewhere map other there same =
      entries_in map same
      ∙ ap (λ m. module_entries (order_over w.map.facts.chain) glob (is_own_crate w.map.facts.id source) m source) there
      ∙ ap (λ b. module_entries (order_over w.map.facts.chain) glob (is_own_crate w.map.facts.id source) (if b then Some w.map else finished_map w.oracle source.map) source) (sym other)
