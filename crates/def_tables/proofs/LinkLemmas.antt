-- Edges and the links that stand for them.
use Rattle.std.proofs.Common.{◌≡◌, Bool, true, false, cond, Option, Some, List, [], ◌∷◌, refl, sym, ap, ◌∙◌, inl, inr}
use Rattle.std.specs.Prelude.{map, option_map}
use Rattle.std.specs.List.{IsDistinct, AllByRecursion}
use Rattle.std.specs.Map.{lookup, keys_of}
use Rattle.indexmap.specs.IndexMap.{insert_entry}
use Rattle.def_ids.specs.declared.ids.ModuleId.{ModuleId}
use Rattle.def_ids.specs.Ids.{is_same_module}
use Rattle.def_bindings.specs.declared.bindings.EdgeTo.{EdgeTo}
use Rattle.def_tables.specs.declared.link.Link.{Link}
use Rattle.def_bindings.specs.Content.{leads_to, replaced}
use Rattle.def_tables.specs.Link.{edge_of, link_of}
use Rattle.def_bindings.specs.Puts.{edge_to}
use Rattle.def_bindings.specs.IdLaws.{cases_module, module-sym}

edge_to-lookup : {V : Type 0} (es : List (ModuleId × Link V)) (importer : ModuleId) → edge_to (map edge_of es) importer ≡ option_map (λ l. edge_of (importer, l)) (lookup (is_same_module importer) es)
edge_to-lookup [] importer = refl
edge_to-lookup (e ∷ es) importer =
    elim (cases_module e.0 importer) [
      | inl h ↦ let f : is_same_module importer e.0 ≡ true = module-sym importer e.0 ∙ h.1 in rw (h.1, f) (ap (λ m. Some (edge_of (m, e.1))) h.0)
      | inr h ↦ let f : is_same_module importer e.0 ≡ false = module-sym importer e.0 ∙ h in rw (h, f) (edge_to-lookup es importer)
    ]

-- the edge to an importer is the one that its link stands for
pub edge_to-found : {V : Type 0} (es : List (ModuleId × Link V)) (importer : ModuleId) (found : Option (Link V)) → found ≡ lookup (is_same_module importer) es
    → option_map (λ l. edge_of (importer, l)) found ≡ edge_to (map edge_of es) importer
edge_to-found es importer found h = ap (λ o. option_map (λ l. edge_of (importer, l)) o) h ∙ sym (edge_to-lookup es importer)

cond-cons : {A : Type 0} (x : A) (b : Bool) (xs ys : List A) → x ∷ cond b xs ys ≡ cond b (x ∷ xs) (x ∷ ys)
cond-cons x true xs ys = refl
cond-cons x false xs ys = refl

module _ {V : Type 0} where
  -- no edge leads to a module that is no key
  unreplaced : (es : List (ModuleId × Link V)) (e : EdgeTo V) (m : ModuleId) → e.importer ≡ m → AllByRecursion (λ y. is_same_module m y ≡ false) (keys_of es)
      → map (λ d. cond (is_same_module e.importer d.importer) e d) (map edge_of es) ≡ map edge_of es
  unreplaced [] e m same h = refl
  unreplaced (p ∷ es) e m same h = let f : is_same_module e.importer p.0 ≡ false = ap (λ z. is_same_module z p.0) same ∙ h.0 in rw f (ap (λ l. edge_of p ∷ l) (unreplaced es e m same h.1))

  -- the edges after an insertion
  pub edges-insert_entry : (es : List (ModuleId × Link V)) (e : EdgeTo V) → IsDistinct is_same_module (keys_of es) → map edge_of (insert_entry is_same_module es e.importer (link_of e)) ≡ replaced (map edge_of es) e
  unfolding IsDistinct
  edges-insert_entry [] e distinct = refl
  edges-insert_entry (p ∷ es) e distinct =
      elim (cases_module e.importer p.0) [
        | inl h ↦ rw h.1 (ap (λ m. (record { importer = m; vis = e.vis; glob = e.glob }) ∷ map edge_of es) (sym h.0) ∙ ap (λ l. e ∷ l) (sym (unreplaced es e p.0 h.0 distinct.0)))
        | inr h ↦ rw h (ap (λ l. edge_of p ∷ l) (edges-insert_entry es e distinct.1) ∙ cond-cons (edge_of p) (leads_to e.importer (map edge_of es)) _ _)
      ]
