-- What an import puts, one namespace after the other.
use Rattle.std.proofs.Common.{◌≡◌, List, [], ◌++◌, Option, Some, None, Result, Ok, Err, ap, ◌∙◌, append_assoc}
use Rattle.std.specs.Result.{OnOk}
use Rattle.tree_ids.specs.declared.name.Name.{Name}
use Rattle.def_bindings.specs.declared.bindings.Entry.{Entry}
use Rattle.def_bindings.specs.declared.bindings.Namespace.TheVariants.{Types, Values, Macros}
use Rattle.def_bindings.specs.declared.visibility.Visibility.{Visibility}
use Rattle.def_bindings.specs.Order.{Order}
use Rattle.def_paths.specs.declared.path_result.ResolvePathResult.{ResolvePathResult}
use Rattle.def_sources.specs.PerNs.{Item}
use Rattle.def_rules.specs.Imports.{entry_of, kept_item, named_entries, taken_types}
use Rattle.def_rules.specs.State.{Import}

-- what follows from a value's fact
pub on_ok : {T E P Q : Type 0} (r : Result T E) → OnOk r P → (P → Q) → OnOk r Q
on_ok (Ok x) p f = f p
on_ok (Err e) p f = p

-- three lists that are appended one after the other
pub appended_thrice : {X : Type 0} (es0 es1 es2 es3 a b c : List X) → es0 ≡ [] → es1 ≡ es0 ++ a → es2 ≡ es1 ++ b → es3 ≡ es2 ++ c → es3 ≡ a ++ (b ++ c)
appended_thrice es0 es1 es2 es3 a b c none first second third =
    third
    ∙ ap (λ xs. xs ++ c) (second ∙ ap (λ xs. xs ++ b) (first ∙ ap (λ xs. xs ++ a) none))
    ∙ append_assoc a b c

module _ (o : Order Visibility) (p : Import) (vis seen : Visibility) (answer : ResolvePathResult) (name : Option Name) (bound : Option (Option Name)) (t v m : Option Item) where
  -- a named import gives an entry in each of its namespaces
  pub entries_named : Some name ≡ bound → vis ≡ seen
      → t ≡ taken_types p.written.path vis answer → v ≡ kept_item answer answer.resolved_def.values → m ≡ kept_item answer answer.resolved_def.macros
      → entry_of o p vis name Types t ++ (entry_of o p vis name Values v ++ entry_of o p vis name Macros m) ≡ named_entries o p seen answer bound
  entries_named named same types values macros =
      ap (λ x. entry_of o p vis name Types x ++ (entry_of o p vis name Values v ++ entry_of o p vis name Macros m)) types
      ∙ ap (λ x. entry_of o p x name Types (taken_types p.written.path x answer) ++ (entry_of o p x name Values v ++ entry_of o p x name Macros m)) same
      ∙ ap (λ x. entry_of o p seen name Types (taken_types p.written.path seen answer) ++ (entry_of o p seen name Values x ++ entry_of o p seen name Macros m)) values
      ∙ ap (λ x. entry_of o p seen name Types (taken_types p.written.path seen answer) ++ (entry_of o p seen name Values (kept_item answer answer.resolved_def.values) ++ entry_of o p seen name Macros x)) macros
      ∙ ap (λ x. named_entries o p seen answer x) named

-- an import that binds no name gives none
pub entries_unnamed : (o : Order Visibility) (p : Import) (vis : Visibility) (answer : ResolvePathResult) (entries : List (Entry Visibility)) (bound : Option (Option Name)) → entries ≡ [] → None ≡ bound
    → entries ≡ named_entries o p vis answer bound
entries_unnamed o p vis answer entries bound none unnamed = none ∙ ap (λ x. named_entries o p vis answer x) unnamed
