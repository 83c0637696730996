-- What an import gives, where that is in types alone.
use Rattle.std.proofs.Common.{◌≡◌, ◌&&◌, ◌∙◌, Bool, true, false, cond, [], ◌∷◌, ◌++◌, Option, None, Some, option_map, refl, sym, ap}
use Rattle.std.specs.Prelude.{length, nat_lt}
use Rattle.item_tree.specs.declared.mod_path.ModPath.{ModPath}
use Rattle.tree_ids.specs.declared.name.Name.{Name}
use Rattle.def_bindings.specs.declared.bindings.Entry.{Entry}
use Rattle.def_bindings.specs.declared.bindings.Namespace.TheVariants.{Types, Values, Macros}
use Rattle.def_bindings.specs.declared.visibility.Visibility.{Visibility}
use Rattle.def_bindings.specs.Order.{Order}
use Rattle.def_bindings.specs.Puts.{lessened}
use Rattle.def_map.specs.PerNs.{Item}
use Rattle.def_rules.specs.Imports.{entry_of, is_by_crate, is_plain_or_self, keeps_ns, origin_of, reexported}
use Rattle.def_rules.specs.State.{Import}

-- an item that is imported is the same item, however visible
same-def : (path : ModPath) (vis : Visibility) (item : Item) → (reexported path vis item).def ≡ item.def
same-def path vis item = either (is_by_crate item.import && (is_plain_or_self path.kind && nat_lt (length path.segments) 2))
  where
    either : (b : Bool) → (cond b (record item { vis = vis }) item).def ≡ item.def
    either true = refl
    either false = refl

-- with nothing in the other namespaces there is one entry
pub types-alone : (order : Order Visibility) (import : Import) (vis seen : Visibility) (types values macros : Option Item) (item : Item) (name : Option Name)
    → Some item ≡ types → None ≡ values → None ≡ macros → keeps_ns import.written.kind Types ≡ true → seen ≡ lessened order (reexported import.written.path vis item).vis vis
    → entry_of order import vis name Types (option_map (reexported import.written.path vis) types) ++ (entry_of order import vis name Values values ++ entry_of order import vis name Macros macros)
    ≡ record { name = name; ns = Types; def = item.def; vis = seen; origin = Some (origin_of import) } ∷ []
types-alone order import vis seen types values macros item name there no_values no_macros keeps is =
    let path = import.written.path in
    let found = reexported path vis item in
    let whole : Entry Visibility = record { name = name; ns = Types; def = found.def; vis = lessened order found.vis vis; origin = Some (origin_of import) } in
    (λ i. entry_of order import vis name Types (option_map (reexported path vis) (sym there i)) ++ (entry_of order import vis name Values (sym no_values i) ++ entry_of order import vis name Macros (sym no_macros i)))
    ∙ ap (λ b. cond b (whole ∷ []) [] ++ ([] ++ [])) keeps
    ∙ (λ i. record { name = name; ns = Types; def = same-def path vis item i; vis = sym is i; origin = Some (origin_of import) } ∷ [])
