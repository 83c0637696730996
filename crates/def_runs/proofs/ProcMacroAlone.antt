-- Each answer of `#[proc_macro] pub fn f() {} pub struct S;` in a crate of procedural macros has f in macros alone and S for the crate alone, whatever run is taken: so one with f in values is none.
use Rattle.std.proofs.Common.{◌≡◌, ◌∙◌, ℕ, ◌+◌, true, cond, ◌&&◌, Option, Some, None, option_map, List, [], ◌∷◌, ◌++◌, slice_get, refl, sym, subst, ap, arith}
use Rattle.std.proofs.lemmas.Bool.{eq-eqb, or_right}
use Rattle.std.proofs.lemmas.List.{drop_all}
use Rattle.std.proofs.Math.Seq.{drop-nil}
use Rattle.tree_ids.specs.declared.ids.AttrId.{AttrId}
use Rattle.tree_ids.specs.declared.name.Name.{Name}
use Rattle.item_tree.specs.declared.items.ItemNode.{ItemNode}
use Rattle.item_tree.specs.Attrs.{attrs_of, iter_after, numbered_from}
use Rattle.item_tree.specs.KnownNames.{proc_macro_name}
use Rattle.def_ids.specs.declared.ids.Def.TheVariants.{Function, Macro, Struct}
use Rattle.def_ids.specs.declared.ids.MacroId.TheVariants.{ProcMacro}
use Rattle.def_ids.specs.declared.ids.MapId.{MapId}
use Rattle.def_ids.specs.declared.ids.ModuleId.{ModuleId}
use Rattle.def_ids.specs.declared.ids.ProcMacroId.{ProcMacroId}
use Rattle.def_interner.specs.Session.{Session}
use Rattle.def_bindings.specs.declared.bindings.Binding.{Binding}
use Rattle.def_bindings.specs.declared.bindings.Entry.{Entry}
use Rattle.def_bindings.specs.declared.bindings.Namespace.{Namespace}
use Rattle.def_bindings.specs.declared.bindings.Namespace.TheVariants.{Types, Values, Macros}
use Rattle.def_bindings.specs.declared.visibility.Visibility.{Visibility}
use Rattle.def_bindings.specs.declared.visibility.Visibility.TheVariants.{PubCrate, Public}
use Rattle.def_bindings.specs.Content.{Content, empty, is_listed, with_binding, without_binding}
use Rattle.def_bindings.specs.Puts.{put_entry}
use Rattle.def_laws.proofs.LeftOutLaws.{LeavesAlike, alike_refl, leaves_alike, left_out_along}
use Rattle.def_laws.proofs.RunsLaws.{kept_along}
use Rattle.def_rules.specs.Attributes.{first_unknown, is_builtin_or_registered_attr}
use Rattle.def_rules.specs.Deferred.{GiveImpls, ImplsAreGiven, deferred_in, without_deferred}
use Rattle.def_rules.specs.Headline.{Answers}
use Rattle.def_rules.specs.Items.{declared_entry, position_of}
use Rattle.def_rules.specs.ProcMacros.{DeclaresFunction, binds_function, censored, censored_binding, exported_macro, taken_out, takes_out}
use Rattle.def_rules.specs.Report.{Answer}
use Rattle.def_rules.specs.Rules.{Handles, HandlesByKind, HandlesInSession, VisitsEnabled}
use Rattle.def_rules.specs.Start.{first_site, start}
use Rattle.def_rules.specs.State.{Site, State, Effect, Task, Enter, Visit, Put, TakeOut, Moment, order, with_content}
use Rattle.def_rules.specs.Steps.{Does, Step, one, performs, asks, copies, notes, expands, rearranges, records, falls_back, reorders}
use Rattle.def_rules.specs.Targets.{leaves_out}
use Rattle.def_runs.proofs.Exported.{marked_with}
use Rattle.def_runs.proofs.ProcMacro.{answered, f, last, macro_function, of_function, root_shows, s, session, setting}
use Rattle.def_runs.proofs.RowLemmas.{NoneWaits, none_asked, none_given_up, none_noted, none_recorded, none_taken, none_waits_rearranged, none_waits_reordered}
use Rattle.def_runs.proofs.Rows.{module_at, own_map}
use Rattle.def_runs.proofs.Sessions.{no_session}
use Rattle.def_runs.proofs.Trees.{node, unit_struct}

-- where the items of the root stand
abbrev root : Site
root = first_site setting.oracle setting.seeded setting.tree

-- the function, the macro and the struct, each by some number
abbrev function : ℕ → Binding Visibility
function n = record { def = Function (record { 0 = n }); vis = Public; import = None }

abbrev exported : ProcMacroId → Binding Visibility
exported k = record { def = Macro (ProcMacro k); vis = Public; import = None }

abbrev struct : ℕ → Binding Visibility
struct j = record { def = Struct (record { 0 = j }); vis = Public; import = None }

-- the entries that are put
abbrev function_entry : ℕ → Entry Visibility
function_entry n = declared_entry f Values (Function (record { 0 = n })) Public

abbrev macro_entry : ProcMacroId → Entry Visibility
macro_entry k = declared_entry f Macros (Macro (ProcMacro k)) Public

abbrev struct_entry : Namespace → ℕ → Entry Visibility
struct_entry ns j = declared_entry s ns (Struct (record { 0 = j })) Public

-- what is to be done for each
abbrev put : Entry Visibility → Task
put entry = Put (module_at 0) entry

abbrev take_out : ℕ → Task
take_out n = TakeOut (module_at 0) f (record { 0 = n })

abbrev visit : ℕ → Task
visit i = Visit root (record { 0 = i })

-- the tables on the way
abbrev with_function : ℕ → Content Visibility
with_function n = with_binding empty (module_at 0) f Values (function n)

abbrev with_macro : ℕ → ProcMacroId → Content Visibility
with_macro n k = with_binding (with_function n) (module_at 0) f Macros (exported k)

abbrev without_function : ℕ → ProcMacroId → Content Visibility
without_function n k = without_binding (with_macro n k) (module_at 0) f Values

abbrev with_types : ℕ → ProcMacroId → ℕ → Content Visibility
with_types n k j = with_binding (without_function n k) (module_at 0) s Types (struct j)

abbrev with_values : ℕ → ProcMacroId → ℕ → Content Visibility
with_values n k j = with_binding (with_types n k j) (module_at 0) s Values (struct j)

-- how far a run has come
data Stage : Type 0 where
  begins : Stage
  visits_f : Stage
  puts_function : ℕ → ProcMacroId → Stage
  puts_macro : ℕ → ProcMacroId → Stage
  takes_out_f : ℕ → ProcMacroId → Stage
  visits_s : ℕ → ProcMacroId → Stage
  puts_types : ℕ → ProcMacroId → ℕ → Stage
  puts_values : ℕ → ProcMacroId → ℕ → Stage
  ends : ℕ → ProcMacroId → ℕ → Stage

-- what is to be done then
abbrev todo : Stage → List Task
todo begins = Enter root.scope root.directory ∷ visit 0 ∷ visit 1 ∷ []
todo visits_f = visit 0 ∷ visit 1 ∷ []
todo (puts_function n k) = put (function_entry n) ∷ put (macro_entry k) ∷ take_out n ∷ visit 1 ∷ []
todo (puts_macro n k) = put (macro_entry k) ∷ take_out n ∷ visit 1 ∷ []
todo (takes_out_f n k) = take_out n ∷ visit 1 ∷ []
todo (visits_s n k) = visit 1 ∷ []
todo (puts_types n k j) = put (struct_entry Types j) ∷ put (struct_entry Values j) ∷ []
todo (puts_values n k j) = put (struct_entry Values j) ∷ []
todo (ends n k j) = []

-- and what is bound
abbrev table : Stage → Content Visibility
table begins = empty
table visits_f = empty
table (puts_function n k) = empty
table (puts_macro n k) = with_function n
table (takes_out_f n k) = with_macro n k
table (visits_s n k) = without_function n k
table (puts_types n k j) = without_function n k
table (puts_values n k j) = with_types n k j
table (ends n k j) = with_values n k j

-- no glob is recorded
no_edges : (stage : Stage) (source : ModuleId) → (table stage).edges source ≡ []
no_edges begins source = refl
no_edges visits_f source = refl
no_edges (puts_function n k) source = refl
no_edges (puts_macro n k) source = refl
no_edges (takes_out_f n k) source = refl
no_edges (visits_s n k) source = refl
no_edges (puts_types n k j) source = refl
no_edges (puts_values n k j) source = refl
no_edges (ends n k j) source = refl

-- nothing ever waits for its turn, and the crate is the same one
record IsOnWay (m : Moment) : Type 0 where
  stage : Stage
  tasks : m.tasks ≡ todo stage
  content : m.state.content ≡ table stage
  waits : NoneWaits m.state
  alike : LeavesAlike (start setting no_session).state m.state

-- a run goes on where a task's effect is known
record Moves (rest : List Task) (effect : Effect) : Type 0 where
  stage : Stage
  tasks : effect.tasks ++ rest ≡ todo stage
  content : effect.state.content ≡ table stage
  waits : NoneWaits effect.state

-- the root is one of a crate of procedural macros
is_left_out : (a : Moment) → IsOnWay a → leaves_out a.state (module_at 0) ≡ true
is_left_out a way = leaves_alike way.alike (module_at 0)

-- the directory of the root is stored
enters : (a : Moment) (rest : List Task) (effect : Effect) → IsOnWay a → a.state.content ≡ empty → rest ≡ visit 0 ∷ visit 1 ∷ [] → Does setting.oracle a.state (Enter root.scope root.directory) effect → Moves rest effect
enters a rest effect way known left does = subst (Moves rest) (sym does) (record { stage = visits_f; tasks = left; content = known; waits = way.waits })

-- `#[proc_macro]` is a builtin attribute, whatever tools there are
is_known : (tools : List Name) → is_builtin_or_registered_attr setting.oracle tools (marked_with proc_macro_name).path ≡ true
is_known tools = or_right (is_listed tools proc_macro_name) (setting.oracle.is_builtin_attr proc_macro_name) refl

-- so f waits for no attribute, whatever was passed over
f_awaits_none : (tools : List Name) (passed : Option AttrId) → first_unknown setting.oracle tools (iter_after passed (attrs_of macro_function.attrs)) ≡ None
f_awaits_none tools None = ap (λ known. cond known None (Some (record { 0 = 0 }, marked_with proc_macro_name))) (is_known tools)
f_awaits_none tools (Some id) = ap (λ attrs. first_unknown setting.oracle tools (numbered_from (id.0 + 1) attrs)) (drop_all (id.0 + 1) (marked_with proc_macro_name ∷ []) (omega arith))

-- nor does S, which has none
s_awaits_none : (tools : List Name) (passed : Option AttrId) → first_unknown setting.oracle tools (iter_after passed []) ≡ None
s_awaits_none tools None = refl
s_awaits_none tools (Some id) = ap (λ attrs. first_unknown setting.oracle tools (numbered_from (id.0 + 1) attrs)) (drop-nil (id.0 + 1))

-- so both are handled
f_is_handled : (a : Moment) (effect : Effect) → Does setting.oracle a.state (visit 0) effect → HandlesInSession setting.oracle a.state root macro_function effect
f_is_handled a effect does =
    subst (λ o. VisitsEnabled setting.oracle a.state root (record { 0 = 0 }) macro_function o effect) (f_awaits_none a.state.map.krate.tools (a.state.skipped root.tree.file (record { 0 = 0 }))) does

s_is_handled : (a : Moment) (effect : Effect) → Does setting.oracle a.state (visit 1) effect → HandlesInSession setting.oracle a.state root (node 1 (unit_struct s)) effect
s_is_handled a effect does =
    subst (λ o. VisitsEnabled setting.oracle a.state root (record { 0 = 1 }) (node 1 (unit_struct s)) o effect) (s_awaits_none a.state.map.krate.tools (a.state.skipped root.tree.file (record { 0 = 1 }))) does

-- no derive is deferred for S, so it gives no impls
gives_nothing : (t given : State) → t.deferred ≡ [] → ImplsAreGiven setting.oracle t root (node 1 (unit_struct s)) given → given ≡ t
gives_nothing t given none gives =
    let item : ItemNode = node 1 (unit_struct s) in
    subst (λ ds. GiveImpls setting.oracle t root item true ds given) (ap (λ ds. deferred_in ds (position_of root item)) none) gives
    ∙ (λ i. record t { deferred = (ap (λ ds. without_deferred ds (position_of root item)) none ∙ sym none) i })

-- in each state of a run f exports a macro
exports_macro : (t : State) → t.is_proc_macro ≡ true → t.map.id ≡ own_map → exported_macro t root macro_function f ≡ exported_macro (start setting no_session).state root macro_function f
exports_macro t of_macros own = λ i. exported_macro (record t { is_proc_macro = of_macros i; map = record t.map { id = own i } }) root macro_function f

-- f gets some numbers, of the function and of the macro, which is to go into the root
f_is_numbered : (t : State) (rest : List Task) (effect : Effect) → NoneWaits t → t.is_proc_macro ≡ true → t.map.id ≡ own_map → t.content ≡ empty → rest ≡ visit 1 ∷ []
    → Handles setting.oracle t root macro_function macro_function.kind effect → Moves rest effect
f_is_numbered t rest effect waits of_macros own known left does =
    let n = does.0 in
    let exports = subst (λ o. DeclaresFunction setting.oracle t root macro_function f Public (record { 0 = n }) o effect) (exports_macro t of_macros own) does.2 in
    let k = exports.0 in
    subst (Moves rest) (sym exports.2) (record {
      stage = puts_function n k;
      tasks =
          ap (λ (id : MapId). put (function_entry n) ∷ Put (record { map = id; index = 0 }) (macro_entry k) ∷ take_out n ∷ rest) own
          ∙ ap (λ l. put (function_entry n) ∷ put (macro_entry k) ∷ take_out n ∷ l) left;
      content = known;
      waits = waits;
    })

-- S gets one
s_is_numbered : (t : State) (rest : List Task) (effect : Effect) (n : ℕ) (k : ProcMacroId) → NoneWaits t → t.content ≡ without_function n k → rest ≡ []
    → Handles setting.oracle t root (node 1 (unit_struct s)) (unit_struct s) effect → Moves rest effect
s_is_numbered t rest effect n k waits known left does =
    let j = does.0 in
    subst (Moves rest) (sym does.2) (record { stage = puts_types n k j; tasks = ap (λ l. put (struct_entry Types j) ∷ put (struct_entry Values j) ∷ l) left; content = known; waits = waits })

-- they are visited, each in a session that may have more
visited_f : (a : Moment) (rest : List Task) (effect : Effect) → IsOnWay a → a.state.content ≡ empty → rest ≡ visit 1 ∷ [] → Does setting.oracle a.state (visit 0) effect → Moves rest effect
visited_f a rest effect way known left visiting =
    let handled = f_is_handled a effect visiting in
    let in_session : State = record a.state { session = handled.0 } in
    let does = subst (λ t. HandlesByKind setting.oracle t root macro_function effect) handled.3 handled.4 in
    f_is_numbered (record in_session { session = does.0 }) rest effect way.waits way.alike.is_proc_macro way.alike.id known left does.2

visited_s : (a : Moment) (rest : List Task) (effect : Effect) (n : ℕ) (k : ProcMacroId) → IsOnWay a → a.state.content ≡ without_function n k → rest ≡ [] → Does setting.oracle a.state (visit 1) effect → Moves rest effect
visited_s a rest effect n k way known left visiting =
    let handled = s_is_handled a effect visiting in
    let in_session : State = record a.state { session = handled.0 } in
    let does = subst (λ t. HandlesByKind setting.oracle t root (node 1 (unit_struct s)) effect) (gives_nothing in_session handled.2 way.waits.3 handled.3) handled.4 in
    s_is_numbered (record in_session { session = does.0 }) rest effect n k way.waits known left does.2

-- an entry is put
puts : (a : Moment) (rest : List Task) (effect : Effect) (entry : Entry Visibility) (next : Stage) → IsOnWay a → Does setting.oracle a.state (put entry) effect
    → rest ≡ todo next → put_entry (order a.state) (module_at 0) entry a.state.content ≡ table next → Moves rest effect
puts a rest effect entry next way does left known = subst (Moves rest) (sym does) (record { stage = next; tasks = left; content = known; waits = way.waits })

-- f is taken out, as values still have it
takes_out_of_values : (a : Moment) (rest : List Task) (effect : Effect) (n : ℕ) (k : ProcMacroId) → IsOnWay a → a.state.content ≡ with_macro n k → rest ≡ visit 1 ∷ [] → Does setting.oracle a.state (take_out n) effect → Moves rest effect
takes_out_of_values a rest effect n k way known left does =
    let it_is_there : takes_out a.state (module_at 0) f (record { 0 = n }) ≡ true =
    ap (λ is. is && binds_function a.state.content (module_at 0) f (record { 0 = n })) (is_left_out a way) ∙ (ap (λ c. binds_function c (module_at 0) f (record { 0 = n })) known ∙ eq-eqb n n refl) in
    let taken : effect ≡ taken_out a.state (module_at 0) f (record { 0 = n }) true = does ∙ ap (taken_out a.state (module_at 0) f (record { 0 = n })) it_is_there in
    subst (Moves rest) (sym taken) (record {
      stage = visits_s n k;
      tasks = left;
      content = ap (λ (c : Content Visibility). without_binding c (module_at 0) f Values) known;
      waits = way.waits;
    })

-- a task is performed
performed : (a : Moment) (task : Task) (rest : List Task) (effect : Effect) → a.tasks ≡ task ∷ rest → Does setting.oracle a.state task effect → IsOnWay a → Moves rest effect
performed a task rest effect first does way = by way.stage way.tasks way.content
  where
    does_at : (t : Task) → task ≡ t → Does setting.oracle a.state t effect
    does_at t same = subst (λ t. Does setting.oracle a.state t effect) same does

    by : (stage : Stage) → a.tasks ≡ todo stage → a.state.content ≡ table stage → Moves rest effect
    by begins tasks known =
        let same : task ≡ Enter root.scope root.directory = cc in
        let left : rest ≡ visit 0 ∷ visit 1 ∷ [] = cc in
        enters a rest effect way known left (does_at _ same)
    by visits_f tasks known =
        let same : task ≡ visit 0 = cc in
        let left : rest ≡ visit 1 ∷ [] = cc in
        visited_f a rest effect way known left (does_at _ same)
    by (puts_function n k) tasks known =
        let same : task ≡ put (function_entry n) = cc in
        let left : rest ≡ put (macro_entry k) ∷ take_out n ∷ visit 1 ∷ [] = cc in
        puts a rest effect (function_entry n) (puts_macro n k) way (does_at _ same) left (ap (put_entry (order a.state) (module_at 0) (function_entry n)) known)
    by (puts_macro n k) tasks known =
        let same : task ≡ put (macro_entry k) = cc in
        let left : rest ≡ take_out n ∷ visit 1 ∷ [] = cc in
        puts a rest effect (macro_entry k) (takes_out_f n k) way (does_at _ same) left (ap (put_entry (order a.state) (module_at 0) (macro_entry k)) known)
    by (takes_out_f n k) tasks known =
        let same : task ≡ take_out n = cc in
        let left : rest ≡ visit 1 ∷ [] = cc in
        takes_out_of_values a rest effect n k way known left (does_at _ same)
    by (visits_s n k) tasks known =
        let same : task ≡ visit 1 = cc in
        let left : rest ≡ [] = cc in
        visited_s a rest effect n k way known left (does_at _ same)
    by (puts_types n k j) tasks known =
        let same : task ≡ put (struct_entry Types j) = cc in
        let left : rest ≡ put (struct_entry Values j) ∷ [] = cc in
        puts a rest effect (struct_entry Types j) (puts_values n k j) way (does_at _ same) left (ap (put_entry (order a.state) (module_at 0) (struct_entry Types j)) known)
    by (puts_values n k j) tasks known =
        let same : task ≡ put (struct_entry Values j) = cc in
        let left : rest ≡ [] = cc in
        puts a rest effect (struct_entry Values j) (ends n k j) way (does_at _ same) left (ap (put_entry (order a.state) (module_at 0) (struct_entry Values j)) known)
    by (ends n k j) tasks known = absurd cc

goes_on : (a b : Moment) → Step setting.oracle a b → IsOnWay a → IsOnWay b
goes_on a b step way = by step
  where
    alike : LeavesAlike (start setting no_session).state b.state
    alike = let more = left_out_along (one step) in record { is_proc_macro = more.is_proc_macro ∙ way.alike.is_proc_macro; id = more.id ∙ way.alike.id }

    -- where neither what is to be done nor what is bound changes
    stays : b.tasks ≡ a.tasks → b.state.content ≡ a.state.content → NoneWaits b.state → IsOnWay b
    stays tasks content waits = record { stage = way.stage; tasks = tasks ∙ way.tasks; content = content ∙ way.content; waits = waits; alike = alike }

    by : Step setting.oracle a b → IsOnWay b
    by (performs task rest effect first does is) =
        let moves = performed a task rest effect first does way in
        record {
          stage = moves.stage;
          tasks = ap (λ (m : Moment). m.tasks) is ∙ moves.tasks;
          content = ap (λ (m : Moment). m.state.content) is ∙ moves.content;
          waits = subst (λ (m : Moment). NoneWaits m.state) (sym is) moves.waits;
          alike = alike;
        }
    by (copies content copy is) =
        let none = ap (λ (c : Content Visibility). slice_get (c.edges copy.source) copy.index) way.content ∙ ap (λ es. slice_get es copy.index) (no_edges way.stage copy.source) in
        let stands = copy.stands in
        absurd cc
    by (rearranges t same is) =
        stays (ap (λ (m : Moment). m.tasks) is) (ap (λ (m : Moment). m.state.content) is ∙ ap (λ (x : State). x.content) same.rest)
        (subst (λ (m : Moment). NoneWaits m.state) (sym is) (none_waits_rearranged a.state t way.waits same))
    by (reorders macros same is) =
        stays (ap (λ (m : Moment). m.tasks) is) (ap (λ (m : Moment). m.state.content) is)
        (subst (λ (m : Moment). NoneWaits m.state) (sym is) (none_waits_reordered a.state macros way.waits same))
    by (falls_back effect idle step is) = absurd (none_given_up setting.oracle a.state effect way.waits.1 step)
    by (records effect idle step is) = absurd (none_recorded setting.oracle a.state effect way.waits.0 step)
    by (asks effect idle step is) = absurd (none_asked setting.oracle a.state effect way.waits.1 step)
    by (notes idle is) = subst IsOnWay (sym (is ∙ none_noted a idle way.waits.4)) way
    by (expands effect idle step is) = absurd (none_taken setting.oracle a.state effect way.waits.2 step)

sets_out : IsOnWay (start setting no_session)
sets_out = record { stage = begins; tasks = refl; content = refl; waits = (refl, refl, refl, refl, refl); alike = alike_refl (start setting no_session).state }

-- what is bound where nothing is left to do
record Binds (c : Content Visibility) : Type 0 where
  function_number : ℕ
  macro_number : ProcMacroId
  struct_number : ℕ
  is : c ≡ with_values function_number macro_number struct_number

arrived : (m : Moment) → m.tasks ≡ [] → IsOnWay m → Binds m.state.content
arrived m done way = by way.stage way.tasks way.content
  where
    by : (stage : Stage) → m.tasks ≡ todo stage → m.state.content ≡ table stage → Binds m.state.content
    by begins tasks known = absurd cc
    by visits_f tasks known = absurd cc
    by (puts_function n k) tasks known = absurd cc
    by (puts_macro n k) tasks known = absurd cc
    by (takes_out_f n k) tasks known = absurd cc
    by (visits_s n k) tasks known = absurd cc
    by (puts_types n k j) tasks known = absurd cc
    by (puts_values n k j) tasks known = absurd cc
    by (ends n k j) tasks known = record { function_number = n; macro_number = k; struct_number = j; is = known }

module _ (after : Session) (answer : Answer) (answers : Answers setting no_session after answer) where
  ends_so : Binds answers.run.end.state.content
  ends_so = arrived answers.run.end answers.run.done (kept_along {oracle = setting.oracle} IsOnWay goes_on answers.run.runs sets_out)

  -- what is shown of it
  shows : (name : Name) (ns : Namespace)
      → answer.content.binding (module_at 0) name ns ≡ option_map censored_binding ((with_values ends_so.function_number ends_so.macro_number ends_so.struct_number).binding (module_at 0) name ns)
  shows name ns = root_shows after answer answers name ns ∙ ap (λ (c : Content Visibility). option_map censored_binding (c.binding (module_at 0) name ns)) ends_so.is

  f_is_not_in_values : answer.content.binding (module_at 0) f Values ≡ None
  f_is_not_in_values = shows f Values

  f_is_in_macros : answer.content.binding (module_at 0) f Macros ≡ Some (exported ends_so.macro_number)
  f_is_in_macros = shows f Macros

  s_is_in_types : answer.content.binding (module_at 0) s Types ≡ Some (record (struct ends_so.struct_number) { vis = PubCrate })
  s_is_in_types = shows s Types

  s_is_in_values : answer.content.binding (module_at 0) s Values ≡ Some (record (struct ends_so.struct_number) { vis = PubCrate })
  s_is_in_values = shows s Values

  -- so an answer in which f is still in values is none
  f_in_values_is_no_answer : (held : Binding Visibility) → answer.content.binding (module_at 0) f Values ≡ Some held → ⊥
  f_in_values_is_no_answer held bound = let none = f_is_not_in_values in cc

-- as where all is shown as it should be, and f is left in values, for the crate alone
abbrev f_left_in : Answer
f_left_in = record answered { content = censored (with_content last.state (with_binding last.state.content (module_at 0) f Values (of_function Public))) }

f_left_in_is_no_answer : Answers setting no_session session f_left_in → ⊥
f_left_in_is_no_answer answers = f_in_values_is_no_answer session f_left_in answers (of_function PubCrate) refl
