-- Imports that are added, of which nothing is recorded.
use Rattle.std.proofs.Common.{◌≡◌, ◌⊎◌, List, [], ◌∷◌, ◌++◌, Contains, IsPermutation, sym, ap, inl, inr}
use Rattle.std.proofs.lemmas.List.Elements.{Contains-append_left, Contains-append_cases}
use Rattle.std.proofs.lemmas.List.Sorted.{Contains-permutation, IsPermutation-sym}
use Rattle.item_tree.specs.declared.items.ItemNode.{ItemNode}
use Rattle.item_tree.specs.declared.items.RawVisibility.{RawVisibility}
use Rattle.item_tree.specs.declared.items.UseImport.{UseImport}
use Rattle.def_ids.specs.declared.ids.UseId.{UseId}
use Rattle.def_globs.proofs.ListLaws.{none_in}
use Rattle.def_rules.specs.Imports.{no_namespaces}
use Rattle.def_rules.specs.Items.{is_prelude_import, new_imports, position_of}
use Rattle.def_rules.specs.State.{ImportDirective, Site}
use Rattle.def_laws.proofs.ListLaws.{contains_cases}

-- imports that stay, and perhaps more of which nothing is recorded
pub record AddsNew (old new : List ImportDirective) : Type 0 where
  pub stay : (d : ImportDirective) → Contains old d → Contains new d
  pub others : (d : ImportDirective) → Contains new d → Contains old d ⊎ (d.recorded ≡ no_namespaces)

-- the same imports
pub none_added : (imports : List ImportDirective) → AddsNew imports imports
none_added imports = record { stay = λ d h. h; others = λ d h. inl h }

-- the same in another order
pub reordered : (old new : List ImportDirective) → IsPermutation old new → AddsNew old new
reordered old new same =
    record { stay = λ d h. Contains-permutation old new d same h; others = λ d h. inl (Contains-permutation new old d (IsPermutation-sym old new same) h) }

new_empty : (site : Site) (item : ItemNode) (id : UseId) (raw : RawVisibility) (imports : List UseImport) (d : ImportDirective) → Contains (new_imports site item id raw imports) d → d.recorded ≡ no_namespaces
new_empty site item id raw [] d h = absurd (none_in d h)
new_empty site item id raw (x ∷ xs) d h =
    elim (contains_cases (record { import = record { scope = site.scope; position = position_of site item; use_id = id; written = x; vis = raw; is_prelude = is_prelude_import item.attrs }; recorded = no_namespaces }) d (new_imports site item id raw xs) h) [
      | inl here ↦ sym (ap (λ (q : ImportDirective). q.recorded) here)
      | inr later ↦ new_empty site item id raw xs d later
    ]

-- the imports of a `use` item
pub added_new : (old : List ImportDirective) (site : Site) (item : ItemNode) (id : UseId) (raw : RawVisibility) (imports : List UseImport) → AddsNew old (old ++ new_imports site item id raw imports)
added_new old site item id raw imports =
    record {
      stay = λ d h. Contains-append_left old (new_imports site item id raw imports) d h;
      others = λ d h. elim (Contains-append_cases old (new_imports site item id raw imports) d h) [ inl before ↦ inl before | inr new ↦ inr (new_empty site item id raw imports d new) ];
    }
