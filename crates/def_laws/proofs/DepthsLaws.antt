-- Lists of tasks by how deep they lie, and what is queued along them.
use Rattle.std.proofs.Common.{◌≡◌, ◌<◌, ◌≤◌, ℕ, suc, ◌+◌, false, cond, List, [], ◌∷◌, ◌++◌, nat_eq, sym, ap, ◌∙◌, append_assoc, append-nil, arith, inl, inr}
use Rattle.std.proofs.lemmas.Bool.{cases_lt, eqb-false, le-ltb, lt-ltb}
use Rattle.std.proofs.lemmas.List.Elements.{Contains-append_cases}
use Rattle.std.specs.List.{flat_map}
use Rattle.std.specs.Prelude.{Bool, true, Option, Some, None}
use Rattle.tree_ids.specs.declared.ids.ModItemId.{ModItemId}
use Rattle.item_tree.specs.declared.items.ImportKind.{ImportKind}
use Rattle.item_tree.specs.declared.items.ImportKind.TheVariants as kind
use Rattle.def_ids.specs.declared.ids.Def.{Def}
use Rattle.def_ids.specs.declared.ids.Def.TheVariants as def
use Rattle.def_ids.specs.declared.ids.ModuleId.{ModuleId}
use Rattle.def_bindings.specs.declared.bindings.EdgeTo.{EdgeTo}
use Rattle.def_bindings.specs.declared.bindings.Entry.{Entry}
use Rattle.def_bindings.specs.declared.visibility.Visibility.{Visibility}
use Rattle.def_bindings.specs.Visibility.{order_over}
use Rattle.def_oracle.specs.Oracle.{Oracle}
use Rattle.def_paths.specs.declared.path_result.ResolvePathResult.{ResolvePathResult}
use Rattle.def_paths.specs.Answers.{variants_of}
use Rattle.def_paths.specs.Paths.{for_import, map_of, question}
use Rattle.def_sources.specs.Sources.{World}
use Rattle.def_globs.proofs.ListLaws.{none_in}
use Rattle.def_rules.specs.Calls.{deeper, deepest}
use Rattle.def_rules.specs.Globs.{module_entries, variant_entries}
use Rattle.def_rules.specs.Imports.{bound_name, import_vis, named_entries}
use Rattle.def_rules.specs.Items.{ordered, visits, walk}
use Rattle.def_rules.specs.Recording.{edge_tasks, glob_def, glob_edge, glob_tasks, is_own_crate, record_tasks}
use Rattle.def_rules.specs.State.{State, Import, Site, Task, order, put_each, world}
use Rattle.def_laws.specs.Depths.{AreVisitsBelow, Queues, WaitsAlike, depth_rank, visit_rank}
-- Lists of tasks by how deep they lie, and what is queued along them.
use Rattle.std.proofs.Common.{◌≡◌, ◌<◌, ◌≤◌, ℕ, suc, ◌+◌, false, cond, List, [], ◌∷◌, ◌++◌, nat_eq, sym, ap, ◌∙◌, append_assoc, append-nil, arith, inl, inr}
use Rattle.std.proofs.lemmas.Bool.{cases_lt, eqb-false, le-ltb, lt-ltb}
use Rattle.std.proofs.lemmas.List.Elements.{Contains-append_cases}
use Rattle.tree_ids.specs.declared.ids.ModItemId.{ModItemId}
use Rattle.def_bindings.specs.declared.bindings.Entry.{Entry}
use Rattle.def_bindings.specs.declared.visibility.Visibility.{Visibility}
use Rattle.def_ids.specs.declared.ids.ModuleId.{ModuleId}
use Rattle.def_oracle.specs.Oracle.{Oracle}
use Rattle.def_globs.proofs.ListLaws.{none_in}
use Rattle.def_rules.specs.Calls.{deeper, deepest}
use Rattle.def_rules.specs.Items.{ordered, visits, walk}
use Rattle.def_rules.specs.State.{State, Site, Task, put_each}
use Rattle.def_laws.specs.Depths.{AreVisitsBelow, Queues, WaitsAlike, depth_rank, visit_rank}

-- Lists of tasks

pub lie_both : (rank : ℕ) (xs ys : List Task) → AreVisitsBelow rank xs → AreVisitsBelow rank ys → AreVisitsBelow rank (xs ++ ys)
lie_both rank [] ys h k = k
lie_both rank (x ∷ xs) ys h k = (h.0, lie_both rank xs ys h.1 k)

pub lie_first : (rank : ℕ) (xs ys : List Task) → AreVisitsBelow rank (xs ++ ys) → AreVisitsBelow rank xs
lie_first rank [] ys h = tt
lie_first rank (x ∷ xs) ys h = (h.0, lie_first rank xs ys h.1)

pub lie_last : (rank : ℕ) (xs ys : List Task) → AreVisitsBelow rank (xs ++ ys) → AreVisitsBelow rank ys
lie_last rank [] ys h = h
lie_last rank (x ∷ xs) ys h = lie_last rank xs ys h.1

visits_lie : (rank : ℕ) (site : Site) (ids : List ModItemId) → visit_rank site.depth ≤ rank → AreVisitsBelow rank (visits site ids)
visits_lie rank site [] low = tt
visits_lie rank site (id ∷ ids) low = (low, visits_lie rank site ids low)

-- a walk lies as deep as its list
pub walk_lies : (oracle : Oracle) (rank : ℕ) (site : Site) (ids : List ModItemId) → visit_rank site.depth ≤ rank → AreVisitsBelow rank (walk oracle site ids)
walk_lies oracle rank site ids low = (tt, visits_lie rank site (ordered (oracle.item_tree site.tree) site.scope ids) low)

-- puts lie at any depth
pub puts_lie : (rank : ℕ) (at : ModuleId) (list : List (Entry Visibility)) → AreVisitsBelow rank (put_each at list)
puts_lie rank at [] = tt
puts_lie rank at (entry ∷ list) = (tt, puts_lie rank at list)

edge_lies : (rank : ℕ) (own : Bool) (source : ModuleId) (glob : EdgeTo Visibility) → AreVisitsBelow rank (edge_tasks own source glob)
edge_lies rank true source glob = (tt, tt)
edge_lies rank false source glob = tt

glob_lies : (rank : ℕ) (w : World) (glob : EdgeTo Visibility) (given : Option Def) → AreVisitsBelow rank (glob_tasks w glob given)
glob_lies rank w glob None = tt
glob_lies rank w glob (Some (def.Module source)) =
    let own = is_own_crate w.map.facts.id source in
    lie_both rank (put_each glob.importer (module_entries (order_over w.map.facts.chain) glob own (map_of w source.map) source)) (edge_tasks own source glob)
    (puts_lie rank glob.importer (module_entries (order_over w.map.facts.chain) glob own (map_of w source.map) source)) (edge_lies rank own source glob)
glob_lies rank w glob (Some (def.Enum id)) = puts_lie rank glob.importer (flat_map (variant_entries (order_over w.map.facts.chain) glob) (variants_of (question w for_import) id.0))
glob_lies rank w glob (Some (def.Function x)) = tt
glob_lies rank w glob (Some (def.Struct x)) = tt
glob_lies rank w glob (Some (def.Union x)) = tt
glob_lies rank w glob (Some (def.Variant x)) = tt
glob_lies rank w glob (Some (def.Const x)) = tt
glob_lies rank w glob (Some (def.Static x)) = tt
glob_lies rank w glob (Some (def.Trait x)) = tt
glob_lies rank w glob (Some (def.TypeAlias x)) = tt
glob_lies rank w glob (Some (def.Builtin x)) = tt
glob_lies rank w glob (Some (def.Macro x)) = tt

-- so does what a recorded import leads to
pub recorded_lies : (oracle : Oracle) (rank : ℕ) (u : State) (p : Import) (answer : ResolvePathResult) (k : ImportKind) → AreVisitsBelow rank (record_tasks oracle u p answer k ++ [])
recorded_lies oracle rank u p answer k = lie_both rank (record_tasks oracle u p answer k) [] (by k) tt
  where
    by : (x : ImportKind) → AreVisitsBelow rank (record_tasks oracle u p answer x)
    by kind.Plain = puts_lie rank p.scope (named_entries (order u) p (import_vis oracle u p) answer (bound_name p.written))
    by kind.TypeOnly = puts_lie rank p.scope (named_entries (order u) p (import_vis oracle u p) answer (bound_name p.written))
    by kind.Glob = glob_lies rank (world oracle u) (glob_edge p (import_vis oracle u p)) (glob_def p answer)

-- One level deeper

pub deeper_is : (depth : ℕ) → depth < deepest → deeper depth ≡ suc depth
deeper_is depth low = ap (λ b. cond b (suc depth) deepest) (lt-ltb depth deepest low)

pub deeper_last : (depth : ℕ) → deepest ≤ depth → deeper depth ≡ deepest
deeper_last depth last = ap (λ b. cond b (suc depth) deepest) (le-ltb depth deepest last)

-- what is not at the greatest depth lies above it
pub above_deepest : (depth : ℕ) → depth ≤ deepest → nat_eq depth deepest ≡ false → depth < deepest
above_deepest depth most other = elim (cases_lt depth deepest) [
  | inl less ↦ less
  | inr at ↦ absurd (eqb-false depth deepest other (omega (arith, most, at)))
]

-- what is visited no less deep ranks no higher
pub visit_rank_is : (depth : ℕ) → depth < deepest → visit_rank depth ≡ depth_rank depth
visit_rank_is depth low = ap (λ b. cond b (depth_rank depth) 3) (lt-ltb depth deepest low)

pub visit_rank_last : (depth : ℕ) → deepest ≤ depth → visit_rank depth ≡ 3
visit_rank_last depth last = ap (λ b. cond b (depth_rank depth) 3) (le-ltb depth deepest last)

-- what an expansion in the place of an item visits ranks no higher than the item
pub deeper_ranks : (depth : ℕ) → visit_rank (deeper depth) ≤ visit_rank depth
deeper_ranks depth = elim (cases_lt depth deepest) [
  | inl less ↦
      let next = deeper_is depth less in
      let here = visit_rank_is depth less in
      elim (cases_lt (suc depth) deepest) [
        | inl below ↦ let there = ap visit_rank next ∙ visit_rank_is (suc depth) below in omega (arith, less, below, here, there)
        | inr last ↦ let there = ap visit_rank next ∙ visit_rank_last (suc depth) last in omega (arith, less, last, here, there)
      ]
  | inr last ↦
      let next = deeper_last depth last in
      let here = visit_rank_last depth last in
      let there = ap visit_rank next ∙ visit_rank_last deepest (omega arith) in
      omega (arith, here, there)
]

-- a call that an item queues ranks lower
pub call_ranks : (depth : ℕ) → depth_rank (deeper depth) < visit_rank depth
call_ranks depth = elim (cases_lt depth deepest) [
  | inl less ↦ let next = deeper_is depth less in let here = visit_rank_is depth less in omega (arith, less, next, here)
  | inr last ↦ let next = deeper_last depth last in let here = visit_rank_last depth last in omega (arith, last, next, here)
]

-- so does the item itself, where it waits for an attribute
pub attr_ranks : (depth : ℕ) → depth < deepest → depth_rank (deeper depth) + 1 < visit_rank depth
attr_ranks depth less = let next = deeper_is depth less in let here = visit_rank_is depth less in omega (arith, less, next, here)

-- an item that waited ranks above all that its visit queues
pub item_ranks : (depth : ℕ) → depth ≤ deepest → visit_rank depth ≤ depth_rank depth + 1
item_ranks depth most = elim (cases_lt depth deepest) [
  | inl less ↦ let here = visit_rank_is depth less in omega (arith, here)
  | inr last ↦ let here = visit_rank_last depth last in omega (arith, most, here)
]

-- What is queued

-- nothing is
pub queues_alike : (rank : ℕ) (s t : State) → WaitsAlike s t → Queues rank s t
queues_alike rank s t alike = record { more = []; macros = alike.macros ∙ sym (append-nil s.macros); lower = λ d h. absurd (none_in d h) }

-- from one state to another, and on to a third
pub queues_trans : (rank : ℕ) (s t u : State) → Queues rank s t → Queues rank t u → Queues rank s u
queues_trans rank s t u p q = record {
  more = p.more ++ q.more;
  macros = q.macros ∙ ap (λ ds. ds ++ q.more) p.macros ∙ append_assoc s.macros p.more q.more;
  lower = λ d h. elim (Contains-append_cases p.more q.more d h) [ inl first ↦ p.lower d first | inr second ↦ q.lower d second ];
}
