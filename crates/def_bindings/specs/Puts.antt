-- What a place is bound to after something is put there, and copies along the edges of globs.
use Rattle.std.specs.Prelude.{◌≡◌, Bool, cond, unwrap_or, option_map, Option, Some, None, List, [], ◌∷◌}
use Rattle.tree_ids.specs.declared.name.Name.{Name}
use Rattle.def_ids.specs.declared.ids.ModuleId.{ModuleId}
use Rattle.def_ids.specs.declared.ids.TraitId.{TraitId}
use Rattle.def_ids.specs.declared.ids.GlobId.{GlobId}
use Rattle.def_ids.specs.declared.ids.Def.{Def}
use Rattle.def_ids.specs.declared.ids.Def.TheVariants.{Trait}
use Rattle.def_ids.specs.Ids.{is_same_module}
use Rattle.def_ids.specs.Equality.{def_eq, glob_eq}
use Rattle.def_bindings.specs.declared.bindings.Namespace.{Namespace}
use Rattle.def_bindings.specs.declared.bindings.Namespace.TheVariants.{Types}
use Rattle.def_bindings.specs.declared.bindings.ImportOrExternCrate.{ImportOrExternCrate}
use Rattle.def_bindings.specs.declared.bindings.ImportOrExternCrate.TheVariants.{Glob}
use Rattle.def_bindings.specs.declared.bindings.Binding.{Binding}
use Rattle.def_bindings.specs.declared.bindings.EdgeTo.{EdgeTo}
use Rattle.def_bindings.specs.declared.bindings.Entry.{Entry}
use Rattle.def_bindings.specs.declared.bindings.Slot.{Slot}
use Rattle.def_bindings.specs.declared.bindings.Slot.TheVariants.{Named, Unnamed}
use Rattle.def_bindings.specs.Order.{Order, rises_to, lesser_of}
use Rattle.def_bindings.specs.Content.{Content, with_binding, with_unnamed, vis_of}

-- what brought a binding, or none for a declaration
abbrev pub Origin : Type 0
Origin = Option ImportOrExternCrate

-- the glob that an import is, if it is one
abbrev pub glob_in : ImportOrExternCrate → Option GlobId
glob_in (Glob glob) = Some glob
glob_in _ = None

-- the glob that brought a binding, if one did
abbrev pub glob_of : Origin → Option GlobId
glob_of None = None
glob_of (Some import) = glob_in import

-- no glob brought it
abbrev pub IsExplicit : Origin → Type 0
IsExplicit origin = glob_of origin ≡ None

-- the glob that an unnamed trait is held by: any, as they are never compared
abbrev pub any_glob : GlobId
any_glob = record { use_id = record { 0 = 0 }; idx = 0 }

-- an unnamed trait, as a binding: it is raised as a binding by a glob is
abbrev pub unnamed_binding : {V : Type 0} → TraitId → V → Binding V
unnamed_binding item vis = record { def = Trait item; vis = vis; import = Some (Glob any_glob) }

-- what a module binds at a slot
abbrev pub held : {V : Type 0} → Content V → ModuleId → Slot → Option (Binding V)
held c m (Named name ns) = c.binding m name ns
held c m (Unnamed item) = option_map (unnamed_binding item) (vis_of (c.unnamed m) item)

-- a binding, as the slot can hold it
abbrev pub fitted : {V : Type 0} → Slot → Binding V → Binding V
fitted (Named name ns) b = b
fitted (Unnamed item) b = unnamed_binding item b.vis

-- a glob's offer to a place that a glob bound: the same definition is raised, and the same glob's other definition replaces it
abbrev pub settled_by_glob : {V : Type 0} → Order V → Binding V → Binding V → GlobId → GlobId → Option (Binding V)
settled_by_glob o there offer g h =
    cond (def_eq there.def offer.def)
    (cond (rises_to o there.vis offer.vis) (Some (record there { vis = offer.vis })) None)
    (cond (glob_eq g h) (Some offer) None)

-- an offer to a place that holds a binding, by the globs that brought both: an explicit binding stays, and a glob's yields to an explicit one
abbrev pub settled_over : {V : Type 0} → Order V → Binding V → Binding V → Option GlobId → Option GlobId → Option (Binding V)
settled_over o there offer None h = None
settled_over o there offer (Some g) None = Some offer
settled_over o there offer (Some g) (Some h) = settled_by_glob o there offer g h

-- what an offer makes of a place, or none where it changes nothing
abbrev pub settled : {V : Type 0} → Order V → Option (Binding V) → Binding V → Option (Binding V)
settled o None offer = Some offer
settled o (Some there) offer = settled_over o there offer (glob_of there.import) (glob_of offer.import)

-- the slot holds this binding from now on, where there is one
abbrev pub written : {V : Type 0} → Content V → ModuleId → Slot → Option (Binding V) → Content V
written c m slot None = c
written c m (Named name ns) (Some b) = with_binding c m name ns b
written c m (Unnamed item) (Some b) = with_unnamed c m item b.vis

-- a binding, where nothing is bound
abbrev pub if_vacant : {V : Type 0} → Bool → Binding V → Option (Binding V)
if_vacant vacant b = cond vacant (Some b) None

-- an offer is put at a place
abbrev pub put : {V : Type 0} → Order V → Content V → ModuleId → Slot → Binding V → Content V
put o c m slot offer = written c m slot (settled o (held c m slot) (fitted slot offer))

-- an entry without a name is an unnamed trait where it is in types, and all else is ignored
abbrev pub unnamed_slot : Namespace → Def → Option Slot
unnamed_slot Types (Trait item) = Some (Unnamed item)
unnamed_slot _ _ = None

-- the slot of an entry
abbrev pub slot_for : Option Name → Namespace → Def → Option Slot
slot_for (Some name) ns def = Some (Named name ns)
slot_for None ns def = unnamed_slot ns def

abbrev pub slot_of : {V : Type 0} → Entry V → Option Slot
slot_of e = slot_for e.name e.ns e.def

-- the binding that an entry offers
abbrev pub offered : {V : Type 0} → Entry V → Binding V
offered e = record { def = e.def; vis = e.vis; import = e.origin }

abbrev pub put_at : {V : Type 0} → Order V → ModuleId → Option Slot → Binding V → Content V → Content V
put_at o m None offer c = c
put_at o m (Some slot) offer c = put o c m slot offer

-- an entry is put in a module
abbrev pub put_entry : {V : Type 0} → Order V → ModuleId → Entry V → Content V → Content V
put_entry o m e c = put_at o m (slot_of e) (offered e) c

-- the entries of a list are put in a module, in order
abbrev pub puts : {V : Type 0} → Order V → ModuleId → List (Entry V) → Content V → Content V
puts o m [] c = c
puts o m (e ∷ es) c = puts o m es (put_entry o m e c)

-- the visibility that is put and that travels: the lesser of the item's and the import's, and the import's where they are unrelated
abbrev pub lessened : {V : Type 0} → Order V → V → V → V
lessened o own import = unwrap_or (lesser_of o.at_most own import) import

-- what a binding becomes along an edge
abbrev pub carried : {V : Type 0} → Order V → EdgeTo V → Binding V → Binding V
carried o edge b = record { def = b.def; vis = lessened o b.vis edge.vis; import = Some (Glob edge.glob) }

-- what a copy along an edge writes, or none where it changes nothing: only what the source binds now and the importer sees is copied
abbrev pub answer : {V : Type 0} → Order V → EdgeTo V → Slot → Option (Binding V) → Option (Binding V) → Option (Binding V)
answer o edge slot None there = None
answer o edge slot (Some b) there = cond (o.can_see edge.importer b.vis) (settled o there (fitted slot (carried o edge b))) None

-- one slot is copied along an edge
abbrev pub copied : {V : Type 0} → Order V → ModuleId → EdgeTo V → Slot → Content V → Content V
copied o source edge slot c = written c edge.importer slot (answer o edge slot (held c source slot) (held c edge.importer slot))

-- the edge to an importer, if there is one
abbrev pub edge_to : {V : Type 0} → List (EdgeTo V) → ModuleId → Option (EdgeTo V)
edge_to [] importer = None
edge_to (e ∷ es) importer = cond (is_same_module e.importer importer) (Some e) (edge_to es importer)

-- an edge beside the one that is there: the first glob's, with the greater visibility where they are related
abbrev pub joined : {V : Type 0} → Order V → Option (EdgeTo V) → EdgeTo V → EdgeTo V
joined o None edge = edge
joined o (Some there) edge = record there { vis = cond (rises_to o there.vis edge.vis) edge.vis there.vis }
