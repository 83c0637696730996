-- Answers of paths: what a prefix gives in types, or where it is missing, and answers joined one after the other.
use Rattle.std.proofs.Common.{◌≡◌, ◌∙◌, ap, sym, refl, arith, ◌+◌, ◌<◌, ◌≤◌, ℕ, suc, Bool, true, false, not, ◌&&◌, ◌||◌, cond, if◌then◌else◌, List, [], ◌∷◌, ◌++◌, length, take, drop, get_or, drop-cons, length-drop, add-one, Option, Some, None, is_none, option_and_then}
use Rattle.std.proofs.lemmas.List.{take_more, drop_all}
use Rattle.std.specs.List.{list_any, find, cons_option}
use Rattle.std.specs.Option.{option_map, option_or, unwrap_or}
use Rattle.item_tree.specs.declared.mod_path.ModPath.{ModPath}
use Rattle.item_tree.specs.declared.mod_path.PathKind.{PathKind}
use Rattle.item_tree.specs.declared.mod_path.PathKind.TheVariants.{Plain}
use Rattle.tree_ids.specs.declared.name.Name.{Name}
use Rattle.def_ids.specs.declared.ids.ModuleId.{ModuleId}
use Rattle.def_ids.specs.Ids.{is_block_root, is_same_map, module_of_def}
use Rattle.def_bindings.specs.NameBindings.{module_bound}
use Rattle.std.proofs.lemmas.Option.{none-some, option_and_then_some, same_Some}
use Rattle.def_paths.specs.declared.path_result.PrefixInfo.{PrefixInfo}
use Rattle.def_paths.specs.declared.path_result.ReachedFixedPoint.{ReachedFixedPoint}
use Rattle.def_paths.specs.declared.path_result.ReachedFixedPoint.TheVariants.{Yes, No}
use Rattle.def_paths.specs.declared.path_result.ResolvePathResult.{ResolvePathResult}
use Rattle.def_sources.specs.declared.per_ns.MacroSubNs.{MacroSubNs}
use Rattle.def_sources.specs.declared.per_ns.PerNs.{PerNs}
use Rattle.def_paths.specs.Answers.{ended_at, missing, reached, walk, step, is_elsewhere, answer_after, answer_from, leading, is_reached, joined, first_resolved}
use Rattle.def_modules.specs.MapView.{MapView}
use Rattle.def_ids.specs.declared.ids.Def.{Def}
use Rattle.def_ids.specs.declared.ids.Def.TheVariants.{Module, Function, Struct, Union, Enum, Variant, Const, Static, Trait, TypeAlias, Builtin, Macro}
use Rattle.def_sources.specs.Items.{is_fitting, module_item}
use Rattle.def_paths.specs.OuterMaps.{is_alone, is_plain, answer_in, answer_of, answer_outside, answers_outside}
use Rattle.def_sources.specs.PerNs.{Item, in_types, otherwise, per_namespace, is_nothing}
use Rattle.def_bindings.specs.declared.bindings.Namespace.TheVariants.{Types}
use Rattle.def_sources.specs.Sources.{Question, finished_map, scope_source, beginning, first_found, found_in, by_sources, relative_sources}
use Rattle.def_sources.proofs.SourcesLemmas.{option_or-none, option_or-or, per_namespace-equal}

-- a definition that gives a module is that module
pub is-module : (d : Def) (m : ModuleId) → module_of_def d ≡ Some m → d ≡ Module m
is-module (Module n) m e = ap Module (same_Some n m e)
is-module (Function f) m e = absurd (none-some m e)
is-module (Struct f) m e = absurd (none-some m e)
is-module (Union f) m e = absurd (none-some m e)
is-module (Enum f) m e = absurd (none-some m e)
is-module (Variant f) m e = absurd (none-some m e)
is-module (Const f) m e = absurd (none-some m e)
is-module (Static f) m e = absurd (none-some m e)
is-module (Trait f) m e = absurd (none-some m e)
is-module (TypeAlias f) m e = absurd (none-some m e)
is-module (Builtin f) m e = absurd (none-some m e)
is-module (Macro f) m e = absurd (none-some m e)

-- what later segments mean depends on types alone
walk-types : (q : Question) (own : MapView) (crossed : Bool) (a b : PerNs) (i : ℕ) (names : List Name)
    → 0 < length names → a.types ≡ b.types → walk q own crossed a i names ≡ walk q own crossed b i names
walk-types q own crossed a b i [] l e = let none : ⊥ = omega arith in absurd none
walk-types q own crossed a b i (name ∷ names) l e = rw e

-- what later segments mean in a module does not depend on the item that the module stands in
of-module : (q : Question) (own : MapView) (a b : PerNs) (x y : Item) (m : ModuleId) (i : ℕ) (names : List Name) → 0 < length names
    → a.types ≡ Some x → b.types ≡ Some y → x.def ≡ Module m → y.def ≡ Module m → walk q own false a i names ≡ walk q own false b i names
of-module q own a b x y m i [] l p r s t = let none : ⊥ = omega arith in absurd none
of-module q own a b x y m i (name ∷ names) l p r s t = rw (p, r, s, t)

pub module-begin : (q : Question) (own : MapView) (names : List Name) → 0 < length names → (item from : Item) (m : ModuleId) (k : ℕ)
    → item.def ≡ Module m → from.def ≡ Module m → walk q own false (in_types item) k names ≡ walk q own false (in_types from) (k + 0) names
module-begin q own names l item from m k p r =
    let number : k ≡ k + 0 = omega arith in
    of-module q own (in_types item) (in_types from) item from m k names l refl refl p r
    ∙ ap (λ j. walk q own false (in_types from) j names) number

-- a segment in a module of this crate
module _ (q : Question) (own : MapView) (m : ModuleId) (here : is_elsewhere own (Module m) ≡ false) (item : Item) (is : item.def ≡ Module m) (i : ℕ) (name : Name) where
  module-step : (rest : List Name) → walk q own false (in_types item) i (name ∷ rest) ≡ walk q own false (per_namespace (scope_source q own m name)) (suc i) rest
  module-step rest = rw (is, here)

-- the segments of a path that leads from module to module
module _ (q : Question) (own : MapView) (whole : ResolvePathResult) (segments : List Name) (i : ℕ) (d : Name) (inside : i < length segments)
    (k : ℕ) (m : ModuleId) (here : is_elsewhere own (Module m) ≡ false)
    (w : (from : Item) → from.def ≡ Module m → whole ≡ walk q own false (in_types from) (k + i) (drop i segments)) where
  split : drop i segments ≡ get_or segments i d ∷ drop (i + 1) segments
  split = drop-cons segments i d inside ∙ ap (λ j. get_or segments i d ∷ drop j segments) (sym (add-one i))

  -- the last
  pub module-last : length segments ≡ i + 1 → whole ≡ reached (per_namespace (scope_source q own m (get_or segments i d))) None false
  module-last last =
      let end : drop (i + 1) segments ≡ [] = drop_all (i + 1) segments (omega (arith, last)) in
      w (module_item m) refl
      ∙ ap (walk q own false (in_types (module_item m)) (k + i)) (split ∙ ap (λ r. get_or segments i d ∷ r) end)
      ∙ module-step q own m here (module_item m) refl (k + i) (get_or segments i d) []

  -- one with others behind it
  pub module-next : i + 1 < length segments → (next : ModuleId) → module_bound (scope_source q own m (get_or segments i d) Types) ≡ Some next
      → (from : Item) → from.def ≡ Module next → whole ≡ walk q own false (in_types from) (k + (i + 1)) (drop (i + 1) segments)
  module-next more next bound from stands =
      option_and_then_some (λ (b : Item). module_of_def b.def) (scope_source q own m (get_or segments i d) Types) next bound (λ found there is.
      let rest = drop (i + 1) segments in
      let left : 0 < length rest = simp length-drop (omega (arith, more)) in
      let number : suc (k + i) ≡ k + (i + 1) = omega arith in
      w (module_item m) refl
      ∙ ap (walk q own false (in_types (module_item m)) (k + i)) split
      ∙ module-step q own m here (module_item m) refl (k + i) (get_or segments i d) rest
      ∙ of-module q own (per_namespace (scope_source q own m (get_or segments i d))) (in_types from) found from next (suc (k + i)) rest left there refl (is-module found.def next is) stands
      ∙ ap (λ j. walk q own false (in_types from) j rest) number)

-- a segment with others behind it, by what the definition before it has of it in types
module _ (q : Question) (own : MapView) (crossed : Bool) (item : Item) (i : ℕ) (names rest : List Name) (name : Name) (stepped : Option (Option Item)) (whole : ResolvePathResult)
    (split : names ≡ name ∷ rest) (steps : stepped ≡ option_map (λ (found : PerNs). found.types) (step q own item.def name)) (more : 0 < length rest)
    (w : walk q own crossed (in_types item) i names ≡ whole) where
  abbrev go : Option PerNs → ResolvePathResult
  go None = ended_at item i crossed
  go (Some next) = walk q own (crossed || is_elsewhere own item.def) next (suc i) rest

  all : go (step q own item.def name) ≡ whole
  all = by_step (step q own item.def name) refl
    where
      by_step : (s : Option PerNs) → step q own item.def name ≡ s → go s ≡ whole
      by_step None e = rw (split, walk, e) at w
      by_step (Some next) e = rw (split, walk, e) at w

  -- it can have no names
  pub walk-nowhere : stepped ≡ None → ended_at item i crossed ≡ whole
  walk-nowhere none = by_step (step q own item.def name) refl
    where
      by_step : (s : Option PerNs) → step q own item.def name ≡ s → ended_at item i crossed ≡ whole
      by_step None e = ap go (sym e) ∙ all
      by_step (Some next) e = let no : ⊥ = cc in absurd no

  -- it has none in types
  pub walk-lost : stepped ≡ Some None → missing (crossed || is_elsewhere own item.def) ≡ whole
  walk-lost none = by_step (step q own item.def name) refl
    where
      by_step : (s : Option PerNs) → step q own item.def name ≡ s → missing (crossed || is_elsewhere own item.def) ≡ whole
      by_step None e = let no : ⊥ = cc in absurd no
      by_step (Some next) e = let types : next.types ≡ None = cc in sym (lost rest more types) ∙ ap go (sym e) ∙ all
        where
          lost : (names : List Name) → 0 < length names → next.types ≡ None → walk q own (crossed || is_elsewhere own item.def) next (suc i) names ≡ missing (crossed || is_elsewhere own item.def)
          lost [] l t = let none : ⊥ = omega arith in absurd none
          lost (n ∷ ns) l t = rw t refl

  -- it has one
  pub walk-found : (found : Item) → stepped ≡ Some (Some found) → walk q own (crossed || is_elsewhere own item.def) (in_types found) (i + 1) rest ≡ whole
  walk-found found has = ap (λ j. walk q own (crossed || is_elsewhere own item.def) (in_types found) j rest) (add-one i) ∙ by_step (step q own item.def name) refl
    where
      by_step : (s : Option PerNs) → step q own item.def name ≡ s → walk q own (crossed || is_elsewhere own item.def) (in_types found) (suc i) rest ≡ whole
      by_step None e = let no : ⊥ = cc in absurd no
      by_step (Some next) e = let types : next.types ≡ Some found = cc in walk-types q own (crossed || is_elsewhere own item.def) (in_types found) next (suc i) rest more (sym types) ∙ ap go (sym e) ∙ all

-- a path of more segments, after what its first means in types
pub prefix-some : (q : Question) (own : MapView) (all : PerNs) (item : Item) (names : List Name)
    → 0 < length names → all.types ≡ Some item → walk q own false (in_types item) 1 names ≡ answer_after q own all names
prefix-some q own all item names l e = walk-types q own false (in_types item) all 1 names l (sym e) ∙ (rw e)

-- and with nothing in types
pub prefix-none : (q : Question) (own : MapView) (all : PerNs) (names : List Name)
    → 0 < length names → all.types ≡ None → missing false ≡ answer_after q own all names
prefix-none q own all [] l e = let none : ⊥ = omega arith in absurd none
prefix-none q own all (name ∷ names) l e = by_test (is_nothing all)
  where
    by_test : (b : Bool) → missing false ≡ (if b then missing false else walk q own false all 1 (name ∷ names))
    by_test true = refl
    by_test false = rw e

-- a plain path of one segment
pub plain-alone : (q : Question) (own : MapView) (place : ModuleId) (asked : Option MacroSubNs) (segments names : List Name) (d : Name) (found : PerNs) (result : ResolvePathResult)
    → segments ≡ names → 1 ≤ length segments → length segments < 2
    → found ≡ found_in (is_fitting q.kind_of asked) (relative_sources q own place true) (get_or segments 0 d)
    → result ≡ answer_after q own found []
    → result ≡ answer_from q own (is_fitting q.kind_of (if is_alone names then asked else None)) (by_sources (relative_sources q own place (is_alone names))) names
plain-alone q own place asked [] names d found result same some one first after = let none : ⊥ = omega arith in absurd none
plain-alone q own place asked (name ∷ []) names d found result same some one first after =
    rw (← same) (after ∙ ap (λ f. answer_after q own f []) first)
plain-alone q own place asked (name ∷ other ∷ rest) names d found result same some one first after = let none : ⊥ = omega arith in absurd none

-- one of more segments
pub plain-longer : (q : Question) (own : MapView) (place : ModuleId) (asked : Option MacroSubNs) (segments names : List Name) (d : Name) (types : Option Item) (result : ResolvePathResult)
    → segments ≡ names → 2 ≤ length segments
    → types ≡ first_found (is_fitting q.kind_of None) (relative_sources q own place false) (get_or segments 0 d) Types
    → ((all : PerNs) → all.types ≡ types → result ≡ answer_after q own all (drop 1 segments))
    → result ≡ answer_from q own (is_fitting q.kind_of (if is_alone names then asked else None)) (by_sources (relative_sources q own place (is_alone names))) names
plain-longer q own place asked [] names d types result same more first after = let none : ⊥ = omega arith in absurd none
plain-longer q own place asked (name ∷ []) names d types result same more first after = let none : ⊥ = omega arith in absurd none
plain-longer q own place asked (name ∷ other ∷ rest) names d types result same more first after =
    rw (← same) (after (found_in (is_fitting q.kind_of None) (relative_sources q own place false) name) (sym first))

-- what a path means in one map, by its word and its segments
abbrev answer_by : Question → MapView → ModuleId → PathKind → List Name → ResolvePathResult
answer_by q own place kind names =
    answer_from q own (is_fitting q.kind_of (if is_plain kind then (if is_alone names then q.asked.sub else None) else None)) (beginning q own place (is_alone names) kind) names

-- a plain path in one map, by its segments
pub plain-in : (q : Question) (own : MapView) (place : ModuleId) (path : ModPath) (segments : List Name) (a : ResolvePathResult) → path.kind ≡ Plain → segments ≡ path.segments
    → answer_from q own (is_fitting q.kind_of (if is_alone segments then q.asked.sub else None)) (by_sources (relative_sources q own place (is_alone segments))) segments ≡ a
    → answer_in q place path own ≡ a
plain-in q own place path segments a k e h = ap (λ kind. answer_by q own place kind path.segments) k ∙ ap (answer_by q own place Plain) (sym e) ∙ h

abbrev pub answer_with : PerNs → Option ℕ → ReachedFixedPoint → PrefixInfo → ResolvePathResult
answer_with found index fixed info = record { resolved_def = found; segment_index = index; reached_fixedpoint = fixed; prefix_info = info }

-- equal in each field
pub answer-equal : (a b : ResolvePathResult) → a.resolved_def ≡ b.resolved_def → a.segment_index ≡ b.segment_index
    → a.reached_fixedpoint ≡ b.reached_fixedpoint → a.prefix_info ≡ b.prefix_info → a ≡ b
answer-equal a b p q r s =
    ap (λ x. answer_with x a.segment_index a.reached_fixedpoint a.prefix_info) p
    ∙ ap (λ x. answer_with b.resolved_def x a.reached_fixedpoint a.prefix_info) q
    ∙ ap (λ x. answer_with b.resolved_def b.segment_index x a.prefix_info) r
    ∙ ap (answer_with b.resolved_def b.segment_index b.reached_fixedpoint) s

-- reached where one of two is
abbrev either_reached : ReachedFixedPoint → ReachedFixedPoint → ReachedFixedPoint
either_reached Yes b = Yes
either_reached No b = b

-- two answers as one
abbrev join_of : ResolvePathResult → ResolvePathResult → ResolvePathResult
join_of a b = record {
  resolved_def = otherwise a.resolved_def b.resolved_def;
  segment_index = (leading a (b ∷ [])).segment_index;
  reached_fixedpoint = either_reached a.reached_fixedpoint b.reached_fixedpoint;
  prefix_info = (leading a (b ∷ [])).prefix_info;
}

reached-join : (a b : ReachedFixedPoint) (rest : Bool)
    → (if is_reached a || (is_reached b || rest) then Yes else No) ≡ (if is_reached (either_reached a b) || rest then Yes else No)
reached-join Yes b rest = refl
reached-join No b rest = refl

none-or : (a b : Option Item) → is_none (option_or a b) ≡ (is_none a && is_none b)
none-or None b = refl
none-or (Some x) b = refl

is_nothing-otherwise : (a b : PerNs) → is_nothing (otherwise a b) ≡ (is_nothing a && is_nothing b)
is_nothing-otherwise a b = by_options a.types a.values a.macros b
  where
    by_options : (t v m : Option Item) (b : PerNs)
        → is_nothing (otherwise (record { types = t; values = v; macros = m }) b) ≡ (is_nothing (record { types = t; values = v; macros = m }) && is_nothing b)
    by_options None None None b = refl
    by_options None None (Some m) b = by_two (is_none b.types) (is_none b.values)
      where
        by_two : (x y : Bool) → ((x && y) && false) ≡ false
        by_two true true = refl
        by_two true false = refl
        by_two false y = refl
    by_options None (Some v) m b = by_one (is_none b.types)
      where
        by_one : (x : Bool) → ((x && false) && is_none (option_or m b.macros)) ≡ false
        by_one true = refl
        by_one false = refl
    by_options (Some t) v m b = refl

-- the leading answer of three in two steps
pick-join : {F : Type 0} (field : ResolvePathResult → F) (x y : Bool) (a b j : ResolvePathResult) (r : Option ResolvePathResult)
    → field j ≡ field (unwrap_or (cond (not x) (Some a) (cond (not y) (Some b) None)) a)
    → field (unwrap_or (cond (not x) (Some a) (cond (not y) (Some b) r)) a) ≡ field (unwrap_or (cond (not (x && y)) (Some j) r) j)
pick-join field false y a b j r e = sym e
pick-join field true false a b j r e = sym e
pick-join field true true a b j None e = sym e
pick-join field true true a b j (Some c) e = refl

leading-join : {F : Type 0} (field : ResolvePathResult → F) (a b : ResolvePathResult) (rest : List ResolvePathResult)
    → field (join_of a b) ≡ field (leading a (b ∷ [])) → field (leading a (b ∷ rest)) ≡ field (leading (join_of a b) rest)
leading-join field a b rest e =
    let r : Option ResolvePathResult = find (λ x. not (is_nothing x.resolved_def)) rest in
    pick-join field (is_nothing a.resolved_def) (is_nothing b.resolved_def) a b (join_of a b) r e
    ∙ ap (λ n. field (unwrap_or (cond (not n) (Some (join_of a b)) r) (join_of a b))) (sym (is_nothing-otherwise a.resolved_def b.resolved_def))

join-more : (a b : ResolvePathResult) (rest : List ResolvePathResult) → joined a (b ∷ rest) ≡ joined (join_of a b) rest
join-more a b rest =
    answer-equal _ _
    (per_namespace-equal _ _
    (sym (option_or-or a.resolved_def.types b.resolved_def.types (first_resolved (λ p. p.types) rest)))
    (sym (option_or-or a.resolved_def.values b.resolved_def.values (first_resolved (λ p. p.values) rest)))
    (sym (option_or-or a.resolved_def.macros b.resolved_def.macros (first_resolved (λ p. p.macros) rest))))
    (leading-join (λ x. x.segment_index) a b rest refl)
    (reached-join a.reached_fixedpoint b.reached_fixedpoint (list_any (λ x. is_reached x.reached_fixedpoint) rest))
    (leading-join (λ x. x.prefix_info) a b rest refl)

-- one answer alone
pub joined-none : (a : ResolvePathResult) → joined a [] ≡ a
joined-none a =
    answer-equal _ _
    (per_namespace-equal _ _ (option_or-none a.resolved_def.types) (option_or-none a.resolved_def.values) (option_or-none a.resolved_def.macros))
    (alone (λ x. x.segment_index) (not (is_nothing a.resolved_def)))
    (fixed a.reached_fixedpoint)
    (alone (λ x. x.prefix_info) (not (is_nothing a.resolved_def)))
  where
    alone : {F : Type 0} (field : ResolvePathResult → F) (x : Bool) → field (unwrap_or (cond x (Some a) None) a) ≡ field a
    alone field true = refl
    alone field false = refl

    fixed : (r : ReachedFixedPoint) → (if is_reached r || false then Yes else No) ≡ r
    fixed Yes = refl
    fixed No = refl

-- answers are joined two at a time
pub joined-more : (a b : ResolvePathResult) (rest : List ResolvePathResult) → joined a (b ∷ rest) ≡ joined (joined a (b ∷ [])) rest
joined-more a b rest = join-more a b rest ∙ ap (λ x. joined x rest) (sym (join-more a b [] ∙ joined-none (join_of a b)))

or_false : (b : Bool) → (b || false) ≡ b
or_false true = refl
or_false false = refl

-- two answers as one, field by field
pub joined-two : (a b : ResolvePathResult) (found : PerNs) (r : ReachedFixedPoint) (lead : ResolvePathResult)
    → found ≡ otherwise a.resolved_def b.resolved_def → is_reached r ≡ (is_reached a.reached_fixedpoint || is_reached b.reached_fixedpoint)
    → lead ≡ leading a (b ∷ []) → answer_with found lead.segment_index r lead.prefix_info ≡ joined a (b ∷ [])
joined-two a b found r lead p q e =
    answer-equal _ _
    (p ∙ per_namespace-equal _ _ (one a.resolved_def.types b.resolved_def.types) (one a.resolved_def.values b.resolved_def.values) (one a.resolved_def.macros b.resolved_def.macros))
    (ap (λ x. x.segment_index) e)
    (by_test r ∙ ap (λ t. if t then Yes else No) (q ∙ ap (λ y. is_reached a.reached_fixedpoint || y) (sym (or_false (is_reached b.reached_fixedpoint)))))
    (ap (λ x. x.prefix_info) e)
  where
    one : (x y : Option Item) → option_or x y ≡ option_or x (option_or y None)
    one x y = ap (option_or x) (sym (option_or-none y))

    by_test : (r : ReachedFixedPoint) → r ≡ (if is_reached r then Yes else No)
    by_test Yes = refl
    by_test No = refl

outside-new : (q : Question) (path : ModPath) (before : List ModuleId) (m : ModuleId) (rest : List ModuleId) (answer : Option ResolvePathResult)
    → list_any (λ b. is_same_map b.map m.map) before ≡ false → answer ≡ answer_outside q path m
    → answers_outside q path before (m ∷ rest) ≡ cons_option answer (answers_outside q path (before ++ m ∷ []) rest)
outside-new q path before m rest answer e p = rw (e, p)

-- an answer with that of one more map: one that was asked before, one that there is not, and one that answers
abbrev pub IsJoinedAt : Question → ModPath → List ModuleId → ModuleId → ResolvePathResult → ResolvePathResult → Type 0
IsJoinedAt q path before m answer result =
    (rest : List ModuleId) → joined result (answers_outside q path (before ++ m ∷ []) rest) ≡ joined answer (answers_outside q path before (m ∷ rest))

pub outside-seen : (q : Question) (path : ModPath) (before : List ModuleId) (m : ModuleId) (answer : ResolvePathResult)
    → list_any (λ b. is_same_map b.map m.map) before ≡ true → IsJoinedAt q path before m answer answer
outside-seen q path before m answer e rest = rw e

pub outside-unknown : (q : Question) (path : ModPath) (before : List ModuleId) (m : ModuleId) (answer : ResolvePathResult)
    → list_any (λ b. is_same_map b.map m.map) before ≡ false → None ≡ answer_outside q path m → IsJoinedAt q path before m answer answer
outside-unknown q path before m answer e p rest = sym (ap (joined answer) (outside-new q path before m rest None e p))

pub outside-joined : (q : Question) (path : ModPath) (before : List ModuleId) (m : ModuleId) (answer other result : ResolvePathResult)
    → list_any (λ b. is_same_map b.map m.map) before ≡ false → Some other ≡ answer_outside q path m
    → result ≡ joined answer (other ∷ []) → IsJoinedAt q path before m answer result
outside-joined q path before m answer other result e p r rest =
    let others = answers_outside q path (before ++ m ∷ []) rest in
    ap (λ a. joined a others) r ∙ sym (joined-more answer other others) ∙ sym (ap (joined answer) (outside-new q path before m rest (Some other) e p))

-- one more of the modules that contain a block
pub outside-step : (q : Question) (path : ModPath) (xs : List ModuleId) (i : ℕ) (d : ModuleId) (result answer whole : ResolvePathResult) → i < length xs
    → IsJoinedAt q path (take i xs) (get_or xs i d) answer result
    → joined answer (answers_outside q path (take i xs) (drop i xs)) ≡ whole
    → joined result (answers_outside q path (take (i + 1) xs) (drop (i + 1) xs)) ≡ whole
outside-step q path xs i d result answer whole l h w =
    ap (λ b. joined result (answers_outside q path b (drop (i + 1) xs))) (take_more xs i d l)
    ∙ h (drop (i + 1) xs)
    ∙ ap (λ rest. joined answer (answers_outside q path (take i xs) rest)) (sym (drop-cons xs i d l ∙ ap (λ j. get_or xs i d ∷ drop j xs) (sym (add-one i))))
    ∙ w

pub was-not : (b : Bool) → not b ≡ false → b ≡ true
was-not true h = refl
was-not false h = sym h

-- a path that no map around a block is asked for, where the module that has its last segment is of the map that is asked
pub own-answer : (q : Question) (own : MapView) (place : ModuleId) (path : ModPath) (at : ModuleId) (name : Name)
    → (is_plain path.kind && is_block_root place) ≡ false → is_same_map at.map own.facts.id ≡ true
    → answer_in q place path own ≡ reached (per_namespace (scope_source q own at name)) None false
    → answer_of q own place path ≡ reached (per_namespace (own.content.binding at name)) None false
own-answer q own place path at name inside same leads =
    ap (λ b. joined (answer_in q place path own) (if b then answers_outside q path [] own.facts.containing else [])) inside
    ∙ joined-none (answer_in q place path own)
    ∙ leads
    ∙ ap (λ b. reached (per_namespace (λ ns. option_and_then (λ there. there.content.binding at name ns) (if b then Some own else finished_map q.oracle at.map))) None false) same
