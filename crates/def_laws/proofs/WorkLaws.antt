-- What an item opens is less work than the item.
use Rattle.std.proofs.Common.{◌≡◌, ◌<◌, ◌≤◌, ◌+◌, ◌-◌, ◌*◌, ◌^◌, ℕ, zero, suc, Bool, true, false, true≢false, cond, not, ◌||◌, nat_eq, nat_lt, ltb-true, eq-eqb, List, [], ◌∷◌, ◌++◌, filter, length, length-append, get_or, slice_get, option_and_then, All, Option, Some, None, Result, Ok, Err, refl, sym, ap, subst, ◌∙◌, arith}
use Rattle.std.proofs.Math.Nat.{mul-le-mul_right, one-le-pow, pow-le-pow_right, pow-succ'}
use Rattle.std.proofs.lemmas.List.Elements.{All-append, All-filter, All-head, All-tail}
use Rattle.std.proofs.lemmas.List.Filters.{length-filter_both}
use Rattle.std.proofs.lemmas.List.Sums.{sum_by-cons}
use Rattle.std.proofs.lemmas.Option.{slice_get-get_or}
use Rattle.tree_ids.specs.declared.ids.CfgExpr.{CfgExpr}
use Rattle.tree_ids.specs.declared.ids.MacroCallId.{MacroCallId}
use Rattle.tree_ids.specs.declared.ids.ModItemId.{ModItemId}
use Rattle.tree_ids.specs.declared.ids.TreeId.{TreeId}
use Rattle.item_tree.specs.declared.items.ItemNode.{ItemNode}
use Rattle.item_tree.specs.declared.items.ModContents.{ModContents}
use Rattle.item_tree.specs.declared.items.ModContents.TheVariants.{Inline, Outline}
use Rattle.item_tree.specs.declared.items.ModItemKind.{ModItemKind}
use Rattle.item_tree.specs.declared.items.ModItemKind.TheVariants.{Const, ExternBlock}
use Rattle.tree_ids.specs.declared.name.Name.{Name}
use Rattle.item_tree.specs.declared.tree.ItemTree.{ItemTree}
use Rattle.item_tree.specs.Attrs.{attrs_of, has_attr, path_attr}
use Rattle.item_tree.specs.KnownNames.{macro_export_name}
use Rattle.item_tree.specs.Trees.{children_of_kind}
use Rattle.item_tree.specs.TreesLaws.{child_after}
use Rattle.def_ids.specs.declared.ids.Def.{Def}
use Rattle.def_ids.specs.declared.ids.ExternCrateId.{ExternCrateId}
use Rattle.def_ids.specs.declared.ids.ItemContainerId.TheVariants as contained
use Rattle.def_ids.specs.declared.ids.MacroId.{MacroId}
use Rattle.def_ids.specs.declared.ids.MacroId.TheVariants as macro_of
use Rattle.def_ids.specs.declared.ids.ModuleId.{ModuleId}
use Rattle.def_ids.specs.declared.expander.MacroExpander.{MacroExpander}
use Rattle.def_bindings.specs.declared.visibility.Visibility.{Visibility}
use Rattle.def_modules.specs.Scopes.{with_extern_crate}
use Rattle.def_modules.specs.Maps.{limit_of}
use Rattle.def_oracle.specs.declared.source_database.CallAnswer.{CallAnswer}
use Rattle.def_oracle.specs.declared.source_database.UnresolvedMacro.{UnresolvedMacro}
use Rattle.def_oracle.specs.Oracle.{Oracle}
use Rattle.def_readings.specs.Directories.{Directory, FoundFile, descend, files_of, resolve_declaration}
use Rattle.def_rules.specs.Calls.{answered_effect, deeper, deepest, expansion_at, expansion_effect, expansion_site, expansion_tree, told_effect, with_invocations, with_replaced}
use Rattle.def_rules.specs.Crates.{tree_attrs}
use Rattle.def_rules.specs.ExternCrates.{crate_effect, crate_name, named_crate}
use Rattle.def_rules.specs.Items.{crates_first, ctor_task, is_crate_root, names_crate, node_at, noted_in, ordered, position_of, top_items, tree_cfg, visits, walk, written_vis}
use Rattle.def_rules.specs.Macros.{export_effect, macros_brought, rules_expander, textual_state, unimplemented_reported}
use Rattle.def_rules.specs.Modules.{bring_if, file_tree, inline_contents, inner_site, is_macro_use, module_item, name_text, next_module, outline_found, outline_item}
use Rattle.def_ids.specs.declared.ids.FunctionId.{FunctionId}
use Rattle.def_readings.specs.ProcMacros.{MacroDecl}
use Rattle.def_rules.specs.ProcMacros.{DeclaresFunction, exported_macro}
use Rattle.def_rules.specs.Rules.{Rule, Follows, rule_of, declares, declares_function, declares_struct, opens_module, opens_block, queues, binds_crate, notes_impl, notes_const, defines_rules, defines_macro, calls_macro}
use Rattle.def_rules.specs.State.{State, Effect, followed_by, only, Site, Task, Visit}
use Rattle.def_rules.specs.Waiting.{WrittenCall}
use Rattle.def_laws.specs.Performs.{IsHandled}
use Rattle.def_laws.specs.Work.{AreBelow, IsBelow, rank, rank_of, rank_work, task_work, weight, work}
use Rattle.def_laws.proofs.LevelsLaws.{IsDeeper, declaration_deeper, descend_deeper}

-- Weights

-- a visit of a lower rank weighs at most one part in 2^65
pub lighter : (r s : ℕ) → r < s → weight r ≤ (2 ^ 65) ^ s
unfolding weight
lighter r s lower = pow-le-pow_right (omega arith) (omega (arith, lower))

pub weight_is : (r : ℕ) → weight r ≡ (2 ^ 65) * (2 ^ 65) ^ r
unfolding weight
weight_is r = pow-succ' (2 ^ 65) r

-- so each task below a rank weighs at most that part
work_below : (r : ℕ) (tasks : List Task) → AreBelow r tasks → work tasks ≤ length tasks * (2 ^ 65) ^ r
work_below r [] below = omega arith
work_below r (task ∷ tasks) below =
    let both = sum_by-cons task_work task tasks in
    let first = by_rank (rank_of task) below.0 in
    let rest = work_below r tasks below.1 in
    omega (arith, both, first, rest)
  where
    by_rank : (o : Option ℕ) → IsBelow r o → rank_work o ≤ (2 ^ 65) ^ r
    by_rank None lower = omega arith
    by_rank (Some n) lower = lighter n r lower

-- some 2^64 tasks below a rank weigh less than a visit of that rank
few_below : (r : ℕ) (tasks : List Task) → AreBelow r tasks → length tasks ≤ 2 ^ 64 + 1 → 1 + work tasks < weight r
few_below r tasks below few =
    let all = work_below r tasks below in
    let most : length tasks * (2 ^ 65) ^ r ≤ (2 ^ 64 + 1) * (2 ^ 65) ^ r = mul-le-mul_right ((2 ^ 65) ^ r) few in
    let one = one-le-pow r (2 ^ 65) (omega arith) in
    let whole = weight_is r in
    omega (arith, all, most, one, whole)

-- Lists of items

-- what holds of each item holds in the order of the visits
ordered_all : (P : ModItemId → Type 0) (tree : Option ItemTree) (place : ModuleId) (ids : List ModItemId) → All P ids → All P (ordered tree place ids)
ordered_all P tree place ids all = at (is_crate_root place)
  where
    at : (b : Bool) → All P (cond b (crates_first tree ids) ids)
    at true =
        All-append P (filter (names_crate tree) ids) (filter (λ id. not (names_crate tree id)) ids)
        (All-filter (names_crate tree) P ids all) (All-filter (λ id. not (names_crate tree id)) P ids all)
    at false = all

visits_below : (r : ℕ) (site : Site) (ids : List ModItemId) → All (λ id. rank site id < r) ids → AreBelow r (visits site ids)
visits_below r site [] all = tt
visits_below r site (id ∷ ids) all = (All-head (λ x. rank site x < r) id ids all, visits_below r site ids (All-tail (λ x. rank site x < r) id ids all))

walk_below : (oracle : Oracle) (r : ℕ) (site : Site) (ids : List ModItemId) → All (λ id. rank site id < r) ids → AreBelow r (walk oracle site ids)
walk_below oracle r site ids all =
    (tt, visits_below r site (ordered (oracle.item_tree site.tree) site.scope ids) (ordered_all (λ id. rank site id < r) (oracle.item_tree site.tree) site.scope ids all))

-- the visits of a walk, and its beginning
pub walk_length : (oracle : Oracle) (site : Site) (ids : List ModItemId) → length (walk oracle site ids) ≡ suc (length ids)
walk_length oracle site ids = ap suc (visits_length (ordered (oracle.item_tree site.tree) site.scope ids) ∙ at (is_crate_root site.scope))
  where
    tree : Option ItemTree
    tree = oracle.item_tree site.tree

    visits_length : (l : List ModItemId) → length (visits site l) ≡ length l
    visits_length [] = refl
    visits_length (id ∷ l) = ap suc (visits_length l)

    at : (b : Bool) → length (cond b (crates_first tree ids) ids) ≡ length ids
    at true =
        length-append (filter (names_crate tree) ids) (filter (λ id. not (names_crate tree id)) ids)
        ∙ length-filter_both (names_crate tree) (λ id. not (names_crate tree id)) (λ id. refl) ids
    at false = refl

-- What each rule opens

-- the last of tasks below a rank are below it
below_last : (r : ℕ) (xs ys : List Task) → AreBelow r (xs ++ ys) → AreBelow r ys
below_last r [] ys below = below
below_last r (task ∷ xs) ys below = below_last r xs ys below.1

-- tasks below a rank, one list behind another
below_both : (r : ℕ) (xs ys : List Task) → AreBelow r xs → AreBelow r ys → AreBelow r (xs ++ ys)
below_both r [] ys h k = k
below_both r (task ∷ xs) ys h k = (h.0, below_both r xs ys h.1 k)

bring_below : (r : ℕ) (brings : Bool) (from into : ModuleId) → AreBelow r (bring_if brings from into)
bring_below r true from into = (tt, tt)
bring_below r false from into = tt

-- the items of an extern block by its rule
abbrev block_items : Rule → List ModItemId
block_items (opens_block children) = children
block_items _ = []

nowhere : {X : Type 0} (k : ℕ) (x : X) → slice_get [] k ≡ Some x → ⊥
nowhere zero x e = cc
nowhere (suc k) x e = cc

block_children : (kind : ModItemKind) (k : ℕ) (c : ModItemId) → slice_get (block_items (rule_of kind)) k ≡ Some c → slice_get (children_of_kind kind) k ≡ Some c
block_children (ExternBlock children) k c there = there
block_children (Const (Some name) raw) k c there = absurd (nowhere k c there)
block_children (Const None raw) k c there = absurd (nowhere k c there)
block_children _ k c there = absurd (nowhere k c there)

-- each comes after its block
block_later : (tree : Option ItemTree) (id : ModItemId) (item : ItemNode) → option_and_then (λ t. slice_get t.items id.0) tree ≡ Some item → All (λ c. id.0 < c.0) (block_items (rule_of item.kind))
block_later None id item there = absurd cc
block_later (Some t) id item there = λ k d within.
    let children : List ModItemId = block_items (rule_of item.kind) in
    child_after t.items t.top id.0 k item (get_or children k d) t.sound there (block_children item.kind k (get_or children k d) (slice_get-get_or children k d within))

module _ (oracle : Oracle) (s : State) (site : Site) (id : ModItemId) (item : ItemNode) where
  -- the contents of a module, which lie one level of directories deeper
  deeper_below : (tree : TreeId) (below : Directory) (ids : List ModItemId) → IsDeeper site.directory below → AreBelow (rank site id) (walk oracle (inner_site s site tree below) ids)
  deeper_below tree below ids lies =
      let within = lies.within in
      let deeper = lies.deeper in
      walk_below oracle (rank site id) (inner_site s site tree below) ids (λ k d place. omega (arith, within, deeper))

  module _ (name : Name) (vis : Visibility) where
    inline_below : (brings : Bool) (children : List ModItemId) (found : Option Directory) → ((below : Directory) → found ≡ Some below → IsDeeper site.directory below) → AreBelow (rank site id) (inline_contents oracle s site brings children found)
    inline_below brings children None deeper = tt
    inline_below brings children (Some below) deeper =
        below_both (rank site id) (walk oracle (inner_site s site site.tree below) children) _ (deeper_below site.tree below children (deeper below refl)) (bring_below (rank site id) brings (next_module s) site.scope)

    found_below : (found : FoundFile) (cfg : Option CfgExpr) → IsDeeper site.directory found.2 → AreBelow (rank site id) (outline_found oracle s site item name vis found cfg).tasks
    found_below found (Some cfg) deeper = tt
    found_below found None deeper = (
      tt,
      below_both (rank site id) (walk oracle (inner_site s site (file_tree found) found.2) (top_items oracle (file_tree found))) _
          (deeper_below (file_tree found) found.2 (top_items oracle (file_tree found)) deeper)
          (bring_below (rank site id) (is_macro_use (attrs_of item.attrs) || is_macro_use (tree_attrs oracle (file_tree found))) (next_module s) site.scope),
    )

    outline_below : (found : Result FoundFile (List (List ℕ))) → ((file : FoundFile) → found ≡ Ok file → IsDeeper site.directory file.2) → AreBelow (rank site id) (outline_item oracle s site item name vis found).tasks
    outline_below (Ok found) deeper = found_below found (tree_cfg oracle (file_tree found)) (deeper found refl)
    outline_below (Err files) deeper = (tt, tt)

    contents_below : (contents : ModContents) → AreBelow (rank site id) (module_item oracle s site item name vis contents).tasks
    contents_below (Inline children) =
        (tt, inline_below (is_macro_use (attrs_of item.attrs)) children (descend site.directory (name_text s.session name) (path_attr item.attrs)) (descend_deeper site.directory (name_text s.session name) (path_attr item.attrs)))
    contents_below Outline =
        outline_below (resolve_declaration (files_of oracle) site.tree.file site.directory (name_text s.session name) (path_attr item.attrs))
        (declaration_deeper (files_of oracle) site.tree.file site.directory (name_text s.session name) (path_attr item.attrs))

  ctor_below : (name : Name) (d : Def) (vis : Visibility) (ctor : Option Visibility) → AreBelow (rank site id) (ctor_task s site.scope name d vis ctor)
  ctor_below name d vis None = tt
  ctor_below name d vis (Some ctor) = (tt, tt)

  crate_below : (t : State) (number : ExternCrateId) (name : Option Name) (vis : Visibility) (brought : List (Name × MacroId)) (found : Option ModuleId) → AreBelow (rank site id) (crate_effect t site item number name vis brought found).tasks
  crate_below t number name vis brought None = tt
  crate_below t number name vis brought (Some root) = (tt, tt)

  export_below : (t : State) (exported : Bool) (name : Name) (macro_id : MacroId) → AreBelow (rank site id) (export_effect t exported name macro_id).tasks
  export_below t false name macro_id = tt
  export_below t true name macro_id = (tt, tt)

  -- the items of an expansion, which lie one level of expansions deeper
  expansion_below : (t : State) (call : MacroCallId) → AreBelow (rank site id) (expansion_effect oracle t (expansion_at site call)).tasks
  expansion_below t call = by (nat_lt (limit_of t.map.krate) (deeper site.depth)) (nat_eq (deeper site.depth) deepest) refl
    where
      inner : Site
      inner = expansion_site oracle t (expansion_at site call)

      ids : List ModItemId
      ids = top_items oracle (expansion_tree call)

      stepped : (below : Bool) → nat_lt site.depth deepest ≡ below → nat_eq (cond below (suc site.depth) deepest) deepest ≡ false → (cond below (suc site.depth) deepest ≡ suc site.depth) × (site.depth < 2 ^ 32 - 1)
      stepped true is other = (refl, ltb-true site.depth deepest is)
      stepped false is other = absurd (true≢false (sym (eq-eqb deepest deepest refl) ∙ other))

      by : (over last : Bool) → nat_eq (deeper site.depth) deepest ≡ last → AreBelow (rank site id) (cond (over || last) (only t) (followed_by (with_replaced oracle t (expansion_at site call)) (walk oracle inner ids))).tasks
      by true last is = tt
      by false true is = tt
      by false false is =
          let at = stepped (nat_lt site.depth deepest) refl is in
          let next = at.0 in
          let small = at.1 in
          walk_below oracle (rank site id) inner ids (λ k d place. omega (arith, next, small))

  -- what a call leads to
  told_below : (t : State) (written : WrittenCall) (value : Option MacroCallId) (error : Option ℕ) → AreBelow (rank site id) (told_effect oracle t site item written value error).tasks
  told_below t written value (Some error) = tt
  told_below t written None None = tt
  told_below t written (Some call) None = expansion_below (with_invocations t site.scope ((position_of site item, call) ∷ [])) call

  answered_below : (written : WrittenCall) (answer : Result CallAnswer UnresolvedMacro) → AreBelow (rank site id) (answered_effect oracle s site item written answer).tasks
  answered_below written (Ok answer) = told_below (with_invocations s site.scope answer.inner) written answer.value answer.err
  answered_below written (Err e) = tt

  same : (e f : Effect) → e ≡ f → AreBelow (rank site id) f.tasks → AreBelow (rank site id) e.tasks
  same e f is below = subst (λ (x : Effect). AreBelow (rank site id) x.tasks) (sym is) below

  function_below : (name : Name) (vis : Visibility) (function : FunctionId) (exported : Option MacroDecl) (effect : Effect) → DeclaresFunction oracle s site item name vis function exported effect → AreBelow (rank site id) effect.tasks
  function_below name vis function None effect does = same effect _ does (tt, tt)
  function_below name vis function (Some decl) effect does = same effect _ does.2 (tt, (tt, (tt, tt)))

  follows_below : id.0 < 2 ^ 64 → (rule : Rule) → All (λ c. id.0 < c.0) (block_items rule) → (effect : Effect) → Follows oracle s site item rule effect → AreBelow (rank site id) effect.tasks
  follows_below small (opens_module name raw contents) later effect does = same effect _ does (contents_below name (written_vis oracle s site.scope raw) contents)
  follows_below small (opens_block children) later effect does =
      same effect _ does.2
      (walk_below oracle (rank site id) (record site { container = contained.ExternBlock (record { 0 = does.0 }) }) children
      (λ k d within. let after : id.0 < (get_or children k d).0 = later k d within in omega (arith, after, small)))
  follows_below small (declares_struct name raw ctor) later effect does = same effect _ does.2 (tt, ctor_below name _ _ _)
  follows_below small (binds_crate name raw alias) later effect does =
      same effect _ does.2
      (crate_below (noted_in s site.scope (with_extern_crate (record { 0 = does.0 }))) (record { 0 = does.0 }) (crate_name name alias) (written_vis oracle s site.scope raw)
      (macros_brought oracle s item name (named_crate s name)) (named_crate s name))
  follows_below small (declares_function name raw) later effect does = function_below name _ (record { 0 = does.0 }) (exported_macro s site item name) effect does.2
  follows_below small (declares kind d ns name raw) later effect does = same effect _ does.2 (tt, tt)
  follows_below small (queues raw imports) later effect does = same effect _ does.2 tt
  follows_below small (notes_impl of_trait) later effect does = same effect _ does.2 tt
  follows_below small notes_const later effect does = same effect _ does.2 tt
  follows_below small (defines_rules name) later effect does =
      let expander : MacroExpander = rules_expander oracle s.map.id.krate site item does.1 in
      let defined : MacroId = macro_of.MacroRules (record { 0 = does.0 }) in
      same effect _ does.4 (export_below (textual_state (unimplemented_reported s site item expander) site item name defined) (has_attr macro_export_name (attrs_of item.attrs)) name defined)
  follows_below small (defines_macro name raw) later effect does = same effect _ does.2 (tt, tt)
  follows_below small (calls_macro written) later effect does = same effect _ does (answered_below written _)

-- what is left of a handled item is less work than the item
pub handled_less : (oracle : Oracle) (s t : State) (site : Site) (id : ModItemId) (item : ItemNode) (inner : List Task) → node_at oracle site.tree id ≡ Some item → id.0 < 2 ^ 64 → length inner ≤ 2 ^ 64 + 1
    → IsHandled oracle s t site item inner → 1 + work inner < task_work (Visit site id)
handled_less oracle s t site id item inner found small few handled =
    let later = block_later (oracle.item_tree site.tree) id item found in
    let then = handled.handled in
    let all = follows_below oracle (record handled.given { session = then.handled.0 }) site id item small (rule_of item.kind) later then.effect then.handled.2 in
    few_below (rank site id) inner (below_last (rank site id) then.done.puts inner (subst (AreBelow (rank site id)) then.done.tasks all)) few

-- an item that leads to nothing is some work
pub nothing_less : (site : Site) (id : ModItemId) → 1 + work [] < task_work (Visit site id)
nothing_less site id = few_below (rank site id) [] tt (omega arith)
