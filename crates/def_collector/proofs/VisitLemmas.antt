-- One turn of the walk, from what the code found.
use Rattle.std.proofs.Common.{◌≡◌, ◌<◌, ◌≤◌, ◌+◌, ◌^◌, ℕ, List, [], ◌∷◌, ◌++◌, length, length-append, All, Option, inl, inr, Some, None, true, false, Bor, option_map, slice_get, option_and_then, arith, refl, sym, ap, subst, ◌∙◌}
use Rattle.std.proofs.lemmas.List.{drop_all}
use Rattle.std.proofs.lemmas.List.Sums.{sum_by-cons}
use Rattle.std.proofs.lemmas.List.Elements.{All-append, All-cons, All-head, All-nil, All-same, All-tail}
use Rattle.std.proofs.lemmas.Option.{slice_get_cases}
use Rattle.tree_ids.specs.declared.ids.ModItemId.{ModItemId}
use Rattle.tree_ids.specs.declared.ids.SyntaxContext.{SyntaxContext}
use Rattle.item_tree.specs.declared.items.ExpandTo.{ExpandTo}
use Rattle.item_tree.specs.declared.items.ItemNode.{ItemNode}
use Rattle.item_tree.specs.declared.items.ModContents.{ModContents}
use Rattle.item_tree.specs.declared.items.ModItemKind.{ModItemKind}
use Rattle.item_tree.specs.declared.items.ModItemKind.TheVariants.{ExternBlock, MacroCall, Mod}
use Rattle.item_tree.specs.declared.items.RawVisibility.{RawVisibility}
use Rattle.item_tree.specs.declared.mod_path.ModPath.{ModPath}
use Rattle.tree_ids.specs.declared.name.Name.{Name}
use Rattle.item_tree.specs.declared.tree.ItemTree.{ItemTree}
use Rattle.item_tree.specs.Trees.{item_at}
use Rattle.std.specs.declared.alloc.Global.{Global}
use Rattle.std.specs.Prelude.{Err, IfSome, Ok, OnOk, Result, is_some, Vec}
use Rattle.def_ids.specs.declared.ids.ModuleId.{ModuleId}
use Rattle.def_interner.specs.Session.{AddsLocations}
use Rattle.def_interner.specs.SessionLaws.{adds_refl, adds_trans}
use Rattle.def_map.specs.Oracle.{Oracle}
use Rattle.def_items.specs.declared.lists.Frame.{Frame}
use Rattle.def_items.specs.declared.lists.ItemList.{ItemList}
use Rattle.def_items.specs.Parts.{list_site, tree_in}
use Rattle.def_collector.specs.Walk.{AreKnown, IsTurn, agenda_of, frame_tasks, inner_of, is_frame_known, is_known, list_tasks, opens_list, walk_measure}
use Rattle.def_items.specs.Lists.{IsBegun, behind, brought_into, left_of, listed}
use Rattle.def_laws.specs.Work.{task_work, work}
use Rattle.def_rules.specs.Items.{diagnostic, node_at, ordered, visits, walk}
use Rattle.def_rules.specs.declared.diagnostics.DefDiagnostic.{DefDiagnostic}
use Rattle.def_rules.specs.declared.diagnostics.DefDiagnosticKind.TheVariants.{UnconfiguredCode}
use Rattle.tree_ids.specs.declared.ids.CfgExpr.{CfgExpr}
use Rattle.item_tree.specs.Attrs.{disabled_by}
use Rattle.def_collector.specs.declared.collector.DefCollector.{DefCollector}
use Rattle.def_rules.specs.State.{Site, State, Task, Enter, Visit, entered, with_map}
use Rattle.def_laws.specs.Runs.{Leads}
use Rattle.def_laws.proofs.StepsLaws.{leads_bring, leads_disabled, leads_enter, leads_refl, leads_trans}
use Rattle.def_laws.proofs.WorkLaws.{nothing_less, walk_length}
use Rattle.def_collector.proofs.WalkLemmas.{after_turn, agenda_of-one, agenda_of-push, frame_tasks-next, left_of-cons, measure_pushed, work_next}

below : {X : Type 0} (P : X → Type 0) (xs : List X) (x : X) → All P (xs ++ x ∷ []) → All P xs
below P [] x all = All-nil P
below P (y ∷ xs) x all = All-cons P y xs (All-head P y (xs ++ x ∷ []) all) (below P xs x (All-tail P y (xs ++ x ∷ []) all))

last : {X : Type 0} (P : X → Type 0) (xs : List X) (x : X) → All P (xs ++ x ∷ []) → P x
last P [] x all = All-head P x [] all
last P (y ∷ xs) x all = last P xs x (All-tail P y (xs ++ x ∷ []) all)

-- what holds of a list and one more holds of the list
all_below : {X : Type 0} (P : X → Type 0) (xs ys : List X) (x : X) → ys ≡ xs ++ x ∷ [] → All P ys → All P xs
all_below P xs ys x pushed all = below P xs x (subst (All P) pushed all)

-- and of the one more
pub all_last : {X : Type 0} (P : X → Type 0) (xs ys : List X) (x : X) → ys ≡ xs ++ x ∷ [] → All P ys → P x
all_last P xs ys x pushed all = last P xs x (subst (All P) pushed all)

-- and the other way round
all_pushed : {X : Type 0} (P : X → Type 0) (xs ys : List X) (x : X) → ys ≡ xs ++ x ∷ [] → All P xs → P x → All P ys
all_pushed P xs ys x pushed all last = All-same P ys (xs ++ x ∷ []) pushed (All-append P xs (x ∷ []) all (All-cons P x [] last (All-nil P)))

-- nothing fails in an empty list
all_none : {X : Type 0} (P : X → Type 0) → All P []
all_none P = All-nil P

-- a list without length is empty
pub empty_list : {A : Type 0} (xs : List A) → length xs ≡ 0 → xs ≡ []
empty_list [] h = refl
empty_list (x ∷ xs) h = absurd (omega arith)

-- a place where nothing stands is past the end
pub past_end : {X : Type 0} (xs : List X) (i : ℕ) → None ≡ slice_get xs i → length xs ≤ i
past_end xs i none = elim (slice_get_cases xs i).1 [
  | inl w ↦ absurd (let wrong : None ≡ Some w.0 = none ∙ w.2 in cc)
  | inr w ↦ w.0
]

-- what the oracle has at a number is what a known list's tree has
pub node_of : (oracle : Oracle) (frame : ItemList) (id : ModItemId) (found : Option ItemNode) → is_known oracle frame → found ≡ option_and_then (λ (t : Bor ItemTree). item_at t.now.items id) frame.tree → node_at oracle frame.site.tree_id id ≡ found
node_of oracle frame id found known is = ap (λ o. option_and_then (λ t. slice_get t.items id.0) o) known.0 ∙ below frame.tree ∙ sym is
  where
    below : (tree : Option (Bor ItemTree)) → option_and_then (λ (t : ItemTree). slice_get t.items id.0) (option_map (λ t. t.now) tree) ≡ option_and_then (λ (t : Bor ItemTree). item_at t.now.items id) tree
    below None = refl
    below (Some t) = refl

-- a list in the order of its visits, in the tree that the oracle has
pub ordered_known : (oracle : Oracle) (list : ItemList) → is_known oracle list → ordered (tree_in list) list.site.module_id list.items.now ≡ ordered (oracle.item_tree list.site.tree_id) list.site.module_id list.items.now
ordered_known oracle list known = ap (λ t. ordered t list.site.module_id list.items.now) (sym known.0)

-- what a frame has left, where it was opened for a list
pub opened_tasks : (oracle : Oracle) (list : ItemList) (frame : Frame) → is_known oracle list → frame.list ≡ list → left_of frame ≡ ordered (tree_in list) list.site.module_id list.items.now
    → list_tasks oracle list ≡ Enter list.site.module_id list.site.dir ∷ frame_tasks frame
opened_tasks oracle list frame known same left =
    ap (λ ids. Enter list.site.module_id list.site.dir ∷ (visits (list_site list) ids ++ behind list.site.module_id list.into)) (sym (left ∙ ordered_known oracle list known))
    ∙ ap (λ (l : ItemList). Enter list.site.module_id list.site.dir ∷ (visits (list_site l) (left_of frame) ++ behind l.site.module_id l.into)) (sym same)

-- what is done behind a list
leads_behind : (oracle : Oracle) (from : ModuleId) (into : Option ModuleId) (rest : List Task) (s : State) → Leads oracle (behind from into ++ rest) s rest (with_map s (brought_into from into s.map))
leads_behind oracle from None rest s = leads_refl rest s
leads_behind oracle from (Some into) rest s = leads_bring from into rest s

-- an item of a frame is visited
module _ (oracle : Oracle) (frame : Frame) (id : ModItemId) (found : Some id ≡ slice_get (listed frame) frame.next) where
  pub visited : (s t : State) (opened taken : Option ItemList) → opened ≡ taken → ((rest : List Task) → Leads oracle (Visit (list_site frame.list) id ∷ rest) s (inner_of oracle opened ++ rest) t)
      → (rest : List Task) → Leads oracle (frame_tasks frame ++ rest) s (inner_of oracle taken ++ (frame_tasks (after_turn frame) ++ rest)) t
  visited s t opened taken same run rest =
      subst (λ o. Leads oracle (frame_tasks frame ++ rest) s (inner_of oracle o ++ (frame_tasks (after_turn frame) ++ rest)) t) same
      (subst (λ tasks. Leads oracle (tasks ++ rest) s (inner_of oracle opened ++ (frame_tasks (after_turn frame) ++ rest)) t) (sym (frame_tasks-next frame id found))
      (run (frame_tasks (after_turn frame) ++ rest)))

  -- which leaves less, also where it opens a list
  pub visited_fewer : (opened taken : Option ItemList) (all : ℕ) → opened ≡ taken → work (frame_tasks frame) ≤ all
      → 1 + work (inner_of oracle opened) < task_work (Visit (list_site frame.list) id) → 1 + work (inner_of oracle taken) + work (frame_tasks (after_turn frame)) < all
  visited_fewer opened taken all same before less =
      let here : 1 + work (inner_of oracle taken) < task_work (Visit (list_site frame.list) id) =
      subst (λ o. 1 + work (inner_of oracle o) < task_work (Visit (list_site frame.list) id)) same less in
      let item = work_next frame id found in
      omega (arith, here, item, before)

  pub visited_within : (all : ℕ) → work (frame_tasks frame) ≤ all → work (frame_tasks (after_turn frame)) ≤ all
  visited_within all before = let item = work_next frame id found in omega (arith, item, before)

  -- and the frame has less left
  pub shorter : length (left_of (after_turn frame)) < length (left_of frame)
  shorter = let long = ap length (left_of-cons frame id found) in omega (arith, long)

-- two facts of what went well
pub on_both : {T E P Q R : Type 0} (r : Result T E) → OnOk r P → OnOk r Q → (P → Q → R) → OnOk r R
on_both (Ok x) p q f = f p q
on_both (Err e) p q f = p

-- an item that opens no list leaves the place for one empty
module _ (oracle : Oracle) (opened : Option ItemList) (empty : opened ≡ None) where
  pub none_runs : (site : Site) (id : ModItemId) (s t : State) → ((rest : List Task) → Leads oracle (Visit site id ∷ rest) s rest t)
      → (rest : List Task) → Leads oracle (Visit site id ∷ rest) s (inner_of oracle opened ++ rest) t
  none_runs site id s t run = subst (λ o. (rest : List Task) → Leads oracle (Visit site id ∷ rest) s (inner_of oracle o ++ rest) t) (sym empty) run

  pub none_fewer : (site : Site) (id : ModItemId) → 1 + work (inner_of oracle opened) < task_work (Visit site id)
  none_fewer site id = subst (λ o. 1 + work (inner_of oracle o) < task_work (Visit site id)) (sym empty) (nothing_less site id)

  pub none_known : AreKnown oracle opened
  none_known = subst (AreKnown oracle) (sym empty) tt

-- a frame whose items are all visited has nothing left
pub none_left : (frame : Frame) → None ≡ slice_get (listed frame) frame.next → left_of frame ≡ []
none_left frame none = drop_all frame.next (listed frame) (past_end (listed frame) frame.next none)

-- a walk has led from these tasks and this state to the visits that these frames have left
pub record IsWalked (oracle : Oracle) (tasks : List Task) (s : State) (frames : List Frame) (t : State) : Type 0 where
  pub run : Leads oracle tasks s (agenda_of frames) t
  pub known : All (is_frame_known oracle) frames
  pub adds : AddsLocations s.session t.session

-- a walk begins: the directory of its list is stored
pub walk_begins : (oracle : Oracle) (list : ItemList) (below frames : List Frame) (s t : State) → is_known oracle list → below ≡ [] → IsBegun below list frames → t ≡ entered s list.site.module_id list.site.dir → IsWalked oracle (list_tasks oracle list) s frames t
walk_begins oracle list below frames s t known none begun stored =
    let first = begun.frame in
    let one : frames ≡ first ∷ [] = begun.pushed ∙ ap (λ fs. fs ++ first ∷ []) none in
    let tasks : List Task = list_tasks oracle list in
    let agenda : Enter list.site.module_id list.site.dir ∷ agenda_of frames ≡ tasks =
    ap (λ rest. Enter list.site.module_id list.site.dir ∷ rest) (ap agenda_of one ∙ agenda_of-one first) ∙ sym (opened_tasks oracle list first known begun.same begun.left) in
    subst (IsWalked oracle tasks s frames) (sym stored)
    (record {
      run = subst (λ all. Leads oracle all s (agenda_of frames) (entered s list.site.module_id list.site.dir)) agenda (leads_enter list.site.module_id list.site.dir (agenda_of frames) s);
      known = all_pushed (is_frame_known oracle) [] frames first one (all_none (is_frame_known oracle)) (subst (is_known oracle) (sym begun.same) known);
      adds = adds_refl s.session;
    })

-- a frame that goes takes its turn with it
pub done_fewer : (all frames : List Frame) (frame : Frame) → all ≡ frames ++ frame ∷ [] → walk_measure frames < walk_measure all
done_fewer all frames frame popped = let more : walk_measure all ≡ _ = ap walk_measure popped ∙ measure_pushed frames frame in omega (arith, more)

-- the last frame has been walked up to a list that one of its items opened, or to its end
module _ {oracle : Oracle} {tasks : List Task} {start s t : State} {all : List Frame} (so_far : IsWalked oracle tasks start all s) (frames : List Frame) (frame : Frame) (popped : all ≡ frames ++ frame ∷ []) (after : Frame) (opened : Option ItemList)
    (run : (rest : List Task) → Leads oracle (frame_tasks frame ++ rest) s (inner_of oracle opened ++ (frame_tasks after ++ rest)) t) (adds : AddsLocations s.session t.session) where
  reached : Leads oracle tasks start (inner_of oracle opened ++ (frame_tasks after ++ agenda_of frames)) t
  reached =
      leads_trans so_far.run
      (subst (λ l. Leads oracle l s (inner_of oracle opened ++ (frame_tasks after ++ agenda_of frames)) t) (sym (ap agenda_of popped ∙ agenda_of-push frames frame)) (run (agenda_of frames)))

  added : AddsLocations start.session t.session
  added = adds_trans start.session s.session t.session so_far.adds adds

  -- at its end it goes, once what is behind it is done
  turn_ends : (u : State) → u ≡ with_map t (brought_into after.list.site.module_id after.list.into t.map) → opened ≡ None → (is_some opened ≡ false → left_of after ≡ []) → IsWalked oracle tasks start frames u
  turn_ends u brought none ends =
      let last : List Task = behind after.list.site.module_id after.list.into in
      let come : Leads oracle tasks start (last ++ agenda_of frames) t =
      subst (λ left. Leads oracle tasks start ((visits (list_site after.list) left ++ last) ++ agenda_of frames) t) (ends (ap is_some none))
      (subst (λ o. Leads oracle tasks start (inner_of oracle o ++ (frame_tasks after ++ agenda_of frames)) t) none reached) in
      subst (IsWalked oracle tasks start frames) (sym brought)
      (record {
        run = leads_trans come (leads_behind oracle after.list.site.module_id after.list.into (agenda_of frames) t);
        known = all_below (is_frame_known oracle) frames all frame popped so_far.known;
        adds = added;
      })

  module _ (list : ItemList) (some : opened ≡ Some list) (known : AreKnown oracle opened × is_frame_known oracle after) {last : List Frame} (begun : IsBegun (frames ++ after ∷ []) list last) where
    -- the stack with the frame of the item that opened the list
    abbrev next : List Frame
    next = frames ++ after ∷ []

    list_known : is_known oracle list
    list_known = subst (AreKnown oracle) some known.0

    -- the directory of the opened list is stored, and its items come first
    turn_opens : (u : State) → u ≡ entered t list.site.module_id list.site.dir → IsWalked oracle tasks start last u
    turn_opens u stored =
        let enter : Task = Enter list.site.module_id list.site.dir in
        let rest : frame_tasks after ++ agenda_of frames ≡ agenda_of next = sym (agenda_of-push frames after) in
        let inside : inner_of oracle opened ≡ enter ∷ frame_tasks begun.frame = ap (inner_of oracle) some ∙ opened_tasks oracle list begun.frame list_known begun.same begun.left in
        let whole : inner_of oracle opened ++ (frame_tasks after ++ agenda_of frames) ≡ enter ∷ agenda_of last =
        ap (λ l. inner_of oracle opened ++ l) rest ∙ ap (λ l. l ++ agenda_of next) inside ∙ ap (λ l. enter ∷ l) (sym (ap agenda_of begun.pushed ∙ agenda_of-push next begun.frame)) in
        subst (IsWalked oracle tasks start last) (sym stored)
        (record {
          run = leads_trans (subst (λ l. Leads oracle tasks start l t) whole reached) (leads_enter list.site.module_id list.site.dir (agenda_of last) t);
          known = all_pushed (is_frame_known oracle) next last begun.frame begun.pushed
              (all_pushed (is_frame_known oracle) frames next after refl (all_below (is_frame_known oracle) frames all frame popped so_far.known) known.1)
              (subst (is_known oracle) (sym begun.same) list_known);
          adds = added;
        })

    -- which leaves less
    opened_fewer : (is_some opened ≡ true → 1 + work (inner_of oracle opened) + work (frame_tasks after) < work (frame_tasks frame)) → walk_measure last < walk_measure all
    opened_fewer fewer =
        let less = fewer (ap is_some some) in
        let first : walk_measure all ≡ _ = ap walk_measure popped ∙ measure_pushed frames frame in
        let stays = measure_pushed frames after in
        let more : walk_measure last ≡ _ = ap walk_measure begun.pushed ∙ measure_pushed next begun.frame in
        let enter = sum_by-cons task_work (Enter list.site.module_id list.site.dir) (frame_tasks begun.frame) in
        let inside : work (inner_of oracle opened) ≡ work (Enter list.site.module_id list.site.dir ∷ frame_tasks begun.frame) =
        ap (λ o. work (inner_of oracle o)) some ∙ ap work (opened_tasks oracle list begun.frame list_known begun.same begun.left) in
        omega (arith, less, first, stays, more, enter, inside)

  -- after its turn it goes, or the list that was opened is walked next
  pub turned : (o : Option ItemList) → opened ≡ o → (last : List Frame) (u : State) → IsTurn frames after o t last u → (is_some opened ≡ false → left_of after ≡ []) → AreKnown oracle opened × is_frame_known oracle after
      → IsWalked oracle tasks start last u
  turned None none last u took ends known = subst (λ fs. IsWalked oracle tasks start fs u) (sym took.0) (turn_ends u took.1 none ends)
  turned (Some list) some last u took ends known = turn_opens list some known took.0 u took.1

  -- either way less is left
  pub turned_fewer : (o : Option ItemList) → opened ≡ o → (last : List Frame) (u : State) → IsTurn frames after o t last u → AreKnown oracle opened × is_frame_known oracle after
      → (is_some opened ≡ true → 1 + work (inner_of oracle opened) + work (frame_tasks after) < work (frame_tasks frame)) → walk_measure last < walk_measure all
  turned_fewer None none last u took known fewer = subst (λ fs. walk_measure fs < walk_measure all) (sym took.0) (done_fewer all frames frame popped)
  turned_fewer (Some list) some last u took known fewer = opened_fewer list some known took.0 fewer

-- what the list that an item opened leads to is its beginning, one visit for each item, and perhaps one task behind them
pub inner_few : (oracle : Oracle) (opened : Option ItemList) → AreKnown oracle opened → length (inner_of oracle opened) ≤ 2 ^ 64 + 1
inner_few oracle None known = omega arith
inner_few oracle (Some list) known =
    let few = known.1 in
    let long = walk_length oracle (list_site list) list.items.now in
    let both = length-append (walk oracle (list_site list) list.items.now) (behind list.site.module_id list.into) in
    let one = one_behind list.site.module_id list.into in
    omega (arith, few, long, both, one)
  where
    one_behind : (from : ModuleId) (into : Option ModuleId) → length (behind from into) ≤ 1
    one_behind from None = omega arith
    one_behind from (Some into) = omega arith

-- an item that cfg disables was reported
pub visited_disabled : (oracle : Oracle) (s : State) (told : List DefDiagnostic) (site : Site) (id : ModItemId) (item : ItemNode) (disabled : Option CfgExpr) (cfg : CfgExpr)
    → node_at oracle site.tree id ≡ Some item → disabled ≡ disabled_by item.attrs → disabled ≡ Some cfg
    → IfSome disabled (λ c. told ≡ s.diagnostics ++ diagnostic site item (UnconfiguredCode c) ∷ [])
    → (rest : List Task) → Leads oracle (Visit site id ∷ rest) s rest (record s { diagnostics = told })
visited_disabled oracle s told site id item disabled cfg found known is more =
    leads_disabled s (record s { diagnostics = told }) site id item cfg found (sym known ∙ is)
    (ap (λ d. record s { diagnostics = d }) (subst (λ o. IfSome o (λ c. told ≡ s.diagnostics ++ diagnostic site item (UnconfiguredCode c) ∷ [])) is more))

-- where nothing is disabled nothing was reported
pub not_disabled : (before : DefCollector) (told : Vec DefDiagnostic Global) (disabled : Option CfgExpr) → disabled ≡ None → (is_some disabled ≡ false → told ≡ before.diagnostics)
    → record before { diagnostics = told } ≡ before
not_disabled before told disabled none same = ap (λ d. record before { diagnostics = d }) (same (ap is_some none))

-- an item of no other kind opens no list
pub opens_none : (kind : ModItemKind) → ((name : Name) (raw : RawVisibility) (contents : ModContents) → kind ≡ Mod name raw contents → ⊥) → ((children : List ModItemId) → kind ≡ ExternBlock children → ⊥)
    → ((path : ModPath) (expand_to : ExpandTo) (ctxt : SyntaxContext) → kind ≡ MacroCall path expand_to ctxt → ⊥) → opens_list kind ≡ false
opens_none (Mod name raw contents) no_module no_block no_call = absurd (no_module name raw contents refl)
opens_none (ExternBlock children) no_module no_block no_call = absurd (no_block children refl)
opens_none (MacroCall path expand_to ctxt) no_module no_block no_call = absurd (no_call path expand_to ctxt refl)
opens_none _ no_module no_block no_call = refl
