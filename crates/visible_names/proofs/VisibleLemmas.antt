-- What is added to the list, and what it then shows.
use Rattle.std.proofs.Common.{◌≡◌, inl, inr, ◌+◌, ◌≤◌, ◌<◌, ℕ, zero, suc, get_or, List, [], ◌∷◌, ◌++◌, Option, Some, None, Contains, refl, sym, ap, subst, ◌∙◌, arith, is_some}
use Rattle.std.specs.Prelude.{◌↔◌, false, option_map, AllPairs, if◌then◌else◌}
use Rattle.std.specs.List.{cons_option, IsDistinct}
use Rattle.std.proofs.lemmas.List.Elements.{Contains-append_left, Contains-append_right, Contains-append_cases, Contains-get_or}
use Rattle.std.proofs.lemmas.Map.Keys.{apart_from_distinct}
use Rattle.std.proofs.lemmas.Bool.{cases_lt, false≢true}
use Rattle.tree_ids.specs.declared.name.Name.{Name}
use Rattle.def_ids.specs.declared.ids.ModuleId.{ModuleId}
use Rattle.def_bindings.specs.declared.bindings.Namespace.{Namespace}
use Rattle.def_bindings.specs.declared.bindings.Namespace.TheVariants.{Types, Values, Macros}
use Rattle.def_bindings.specs.Content.{is_name, is_namespace}
use Rattle.def_bindings.specs.IdLaws.{name-refl, namespace-refl}
use Rattle.def_tables.specs.Lists.{AreDistinct}
use Rattle.def_modules.specs.MapView.{MapView, LocalView}
use Rattle.def_oracle.specs.Oracle.{Oracle}
use Rattle.def_sources.specs.declared.per_ns.PerNs.{PerNs}
use Rattle.def_sources.specs.PerNs.{Item}
use Rattle.def_sources.specs.Sources.{Question}
use Rattle.visible_names.specs.declared.brought.BroughtBy.{BroughtBy}
use Rattle.visible_names.specs.declared.brought.BroughtBy.TheVariants.{TextualMacro, Scope, ExternPrelude, MacroUsePrelude, Prelude}
use Rattle.visible_names.specs.declared.brought.VisibleName.{VisibleName}
use Rattle.visible_names.specs.Visible.{asking, source_of, has, before, brings, brought, brought_as, brought_over, all_brought, rank, AddsAll, AreApart, Lists, ShowsAll}
use Rattle.visible_names.proofs.ListsLemmas.{three_pieces, Contains_head, Contains_rest, Contains_none, Contains_found, found_of, Contains_piece, piece_of, pairs_behind, pairs_found, pairs_of_pieces}
use Rattle.visible_names.proofs.PathsLemmas.{is_unless, brought_meant, hidden, meant_brought}

module _ (q : Question) (own : MapView) (place : ModuleId) (by : BroughtBy) (name : Name) where
  abbrev entry : Namespace → Option Item → Option Item → Option VisibleName
  entry ns here earlier = option_map (brought_as by name ns) (if is_some earlier then None else here)

  -- the three namespaces of a name, one after the other
  pub added_name : (found earlier : PerNs) (old first second third : List VisibleName) → found ≡ has q own place by name → earlier ≡ before q own place by name
      → first ≡ old ++ brought_over by name Types found.types earlier.types
      → second ≡ first ++ brought_over by name Values found.values earlier.values
      → third ≡ second ++ brought_over by name Macros found.macros earlier.macros
      → third ≡ old ++ brought q own place by name
  added_name found earlier old first second third is over one two three =
      three
      ∙ ap (λ l. l ++ brought_over by name Macros found.macros earlier.macros) (two ∙ ap (λ l. l ++ brought_over by name Values found.values earlier.values) one)
      ∙ three_pieces old (entry Types found.types earlier.types) (entry Values found.values earlier.values) (entry Macros found.macros earlier.macros)
      ∙ (λ i. old ++ cons_option (entry Types (is i).types (over i).types) (cons_option (entry Values (is i).values (over i).values) (cons_option (entry Macros (is i).macros (over i).macros) [])))

  entry_is : (o : Option Item) (ns : Namespace) (e : VisibleName) → option_map (brought_as by name ns) o ≡ Some e → (e.name ≡ name) × (e.ns ≡ ns) × (e.by ≡ by) × (o ≡ Some e.item)
  entry_is None ns e is = cc
  entry_is (Some item) ns e is =
      let same : brought_as by name ns item ≡ e = cc in
      (sym (ap (λ (v : VisibleName). v.name) same), sym (ap (λ (v : VisibleName). v.ns) same), sym (ap (λ (v : VisibleName). v.by) same), ap (λ (v : VisibleName). Some v.item) same)

each_namespace : (ns : Namespace) → Contains (Types ∷ Values ∷ Macros ∷ []) ns
each_namespace Types = Contains_head Types (Values ∷ Macros ∷ [])
each_namespace Values = Contains_rest Types (Values ∷ Macros ∷ []) Values (Contains_head Values (Macros ∷ []))
each_namespace Macros = Contains_rest Types (Values ∷ Macros ∷ []) Macros (Contains_rest Values (Macros ∷ []) Macros (Contains_head Macros []))

namespaces_apart : AllPairs (λ (a b : Namespace). is_namespace a b ≡ false) (Types ∷ Values ∷ Macros ∷ [])
unfolding IsDistinct
namespaces_apart i j d below within = apart_from_distinct is_namespace (Types ∷ Values ∷ Macros ∷ []) i j d ((refl, (refl, tt)), ((refl, tt), (tt, tt))) below within

module _ (q : Question) (own : MapView) (place : ModuleId) (by : BroughtBy) where
  -- what a source brings it has
  had_of : (name : Name) (ns : Namespace) (item : Item) → brings q own place by name ns ≡ Some item → source_of q own place by name ns ≡ Some item
  had_of name Types item e = is_unless (before q own place by name).types (source_of q own place by name Types) item e
  had_of name Values item e = is_unless (before q own place by name).values (source_of q own place by name Values) item e
  had_of name Macros item e = is_unless (before q own place by name).macros (source_of q own place by name Macros) item e

  -- what is listed of these names a source brings
  listed_brings : (names : List Name) (e : VisibleName) → Contains (all_brought q own place by names) e → (e.by ≡ by) × (brings q own place by e.name e.ns ≡ Some e.item)
  listed_brings names e there =
      let piece = piece_of (brought q own place by) names e there in
      let name = piece.0 in
      let found = found_of (λ ns. option_map (brought_as by name ns) (brings q own place by name ns)) (Types ∷ Values ∷ Macros ∷ []) e piece.2 in
      let ns = found.0 in
      let is = entry_is q own place by name (brings q own place by name ns) ns e found.2 in
      (is.2, (λ i. brings q own place by (is.0 i) (is.1 i)) ∙ is.3)

  -- what a source brings is listed of these names, if they are all that it has
  brings_listed : (names : List Name) → Lists (source_of q own place by) names → (e : VisibleName) → e.by ≡ by → brings q own place by e.name e.ns ≡ Some e.item
      → Contains (all_brought q own place by names) e
  brings_listed names all e same is =
      Contains_piece (brought q own place by) names e.name e (all e.name e.ns e.item (had_of e.name e.ns e.item is))
      (Contains_found (λ ns. option_map (brought_as by e.name ns) (brings q own place by e.name ns)) (Types ∷ Values ∷ Macros ∷ []) e.ns e (each_namespace e.ns)
      (ap (option_map (brought_as by e.name e.ns)) is ∙ (λ i. Some (brought_as (sym same i) e.name e.ns e.item))))

  -- a name is listed once in each namespace
  once_each : (name : Name) → AllPairs AreApart (brought q own place by name)
  once_each name =
      pairs_found (λ (a b : Namespace). is_namespace a b ≡ false) AreApart (λ ns. option_map (brought_as by name ns) (brings q own place by name ns)) (Types ∷ Values ∷ Macros ∷ []) namespaces_apart
      (λ ns ns' other a b first second named spaced.
      let one = entry_is q own place by name (brings q own place by name ns) ns a first in
      let two = entry_is q own place by name (brings q own place by name ns') ns' b second in
      false≢true (sym other ∙ ap (is_namespace ns) (sym two.1 ∙ sym spaced ∙ one.1) ∙ namespace-refl ns))

  of_name : (name : Name) (e : VisibleName) → Contains (brought q own place by name) e → e.name ≡ name
  of_name name e there =
      let found = found_of (λ ns. option_map (brought_as by name ns) (brings q own place by name ns)) (Types ∷ Values ∷ Macros ∷ []) e there in
      (entry_is q own place by name (brings q own place by name found.0) found.0 e found.2).0

  -- and names that differ are listed apart
  added_once : (names : List Name) → AreDistinct names → AllPairs AreApart (all_brought q own place by names)
  added_once names distinct =
      pairs_of_pieces (λ (a b : Name). is_name a b ≡ false) AreApart (brought q own place by) names distinct once_each
      (λ name other apart a b first second named spaced.
      false≢true (sym apart ∙ ap (is_name name) (sym (of_name other b second) ∙ sym named ∙ of_name name a first) ∙ name-refl name))

  -- so they are added
  pub added_all : (old new : List VisibleName) (names : List Name) → Lists (source_of q own place by) names → AreDistinct names → new ≡ old ++ all_brought q own place by names → AddsAll q own place by old new
  added_all old new names all distinct is = record {
    added = all_brought q own place by names;
    behind = is;
    exact = λ e. (listed_brings names e, λ (given : (e.by ≡ by) × (brings q own place by e.name e.ns ≡ Some e.item)). brings_listed names all e given.0 given.1);
    once = added_once names distinct;
  }

-- lists whose elements do not fall
module _ {X : Type 0} (n : X → ℕ) where
  abbrev pub Rises : List X → Type 0
  Rises xs = AllPairs (λ (a b : X). n a ≤ n b) xs

  -- elements that are all as high
  level_rises : (top : ℕ) (xs : List X) → ((x : X) → Contains xs x → n x ≡ top) → Rises xs
  level_rises top xs level = λ i j d below within.
      let one : n (get_or xs i d) ≡ top = level (get_or xs i d) (Contains-get_or xs i d (omega (arith, below, within))) in
      let other : n (get_or xs j d) ≡ top = level (get_or xs j d) (Contains-get_or xs j d within) in
      omega (arith, one, other)

-- each source has a rank of its own
of_rank : ℕ → BroughtBy
of_rank zero = TextualMacro
of_rank (suc zero) = Scope
of_rank (suc (suc zero)) = ExternPrelude
of_rank (suc (suc (suc zero))) = MacroUsePrelude
of_rank (suc (suc (suc (suc n)))) = Prelude

of_rank_is : (by : BroughtBy) → of_rank (rank by) ≡ by
unfolding of_rank
of_rank_is TextualMacro = refl
of_rank_is Scope = refl
of_rank_is ExternPrelude = refl
of_rank_is MacroUsePrelude = refl
of_rank_is Prelude = refl

same_rank : (a b : BroughtBy) → rank a ≡ rank b → a ≡ b
same_rank a b e = sym (of_rank_is a) ∙ ap of_rank e ∙ of_rank_is b

rank_below : (by : BroughtBy) → rank by < 5
rank_below TextualMacro = omega arith
rank_below Scope = omega arith
rank_below ExternPrelude = omega arith
rank_below MacroUsePrelude = omega arith
rank_below Prelude = omega arith

module _ (oracle : Oracle) (own : MapView) (local : LocalView) (place : ModuleId) where
  abbrev Brings : VisibleName → Type 0
  Brings x = brings (asking oracle local) own place x.by x.name x.ns ≡ Some x.item

  -- a list of all that the first sources bring
  record ShowsBelow (top : ℕ) (list : List VisibleName) : Type 0 where
    exact : (x : VisibleName) → Contains list x ↔ ((rank x.by < top) × Brings x)
    rises : Rises (λ (x : VisibleName). rank x.by) list
    once : AllPairs AreApart list

  shows_none : ShowsBelow 0 []
  shows_none = record {
    exact = λ x. (λ there. absurd (Contains_none x there), λ (given : (rank x.by < 0) × Brings x). absurd (omega (arith, given.0)));
    rises = λ i j d below within. absurd (omega (arith, within));
    once = λ i j d below within. absurd (omega (arith, within));
  }

  -- and the next one
  shows_more : (by : BroughtBy) (old new : List VisibleName) → ShowsBelow (rank by) old → AddsAll (asking oracle local) own place by old new → ShowsBelow (rank by + 1) new
  shows_more by old new before adds = record {
    exact = λ x. (
      λ there. elim (Contains-append_cases old adds.added x (subst (λ l. Contains l x) adds.behind there)) [
        | inl earlier ↦ let given = (before.exact x).0 earlier in (omega (arith, given.0), given.1)
        | inr here ↦ let given = (adds.exact x).0 here in (omega (arith, ap rank given.0), ap (λ b. brings (asking oracle local) own place b x.name x.ns) given.0 ∙ given.1)
      ],
      λ (given : (rank x.by < rank by + 1) × Brings x). subst (λ l. Contains l x) (sym adds.behind) (elim (cases_lt (rank x.by) (rank by)) [
        | inl lower ↦ Contains-append_left old adds.added x ((before.exact x).1 (lower, given.1))
        | inr higher ↦ let same : x.by ≡ by = same_rank x.by by (omega (arith, higher, given.0)) in
            Contains-append_right old adds.added x ((adds.exact x).1 (same, ap (λ b. brings (asking oracle local) own place b x.name x.ns) (sym same) ∙ given.1))
      ]),
    );
    rises = subst (Rises (λ (x : VisibleName). rank x.by)) (sym adds.behind) (
        pairs_behind (λ (a b : VisibleName). rank a.by ≤ rank b.by) old adds.added before.rises
        (level_rises (λ (x : VisibleName). rank x.by) (rank by) adds.added (λ x there. ap rank ((adds.exact x).0 there).0))
        (λ a b first second. let lower = ((before.exact a).0 first).0 in let top = ap rank ((adds.exact b).0 second).0 in omega (arith, lower, top)));
    once = subst (AllPairs AreApart) (sym adds.behind) (pairs_behind AreApart old adds.added before.once adds.once (λ a b first second named spaced.
        let earlier = (before.exact a).0 first in
        let later = (adds.exact b).0 second in
        hidden oracle own local place a.name a.by b.by a.ns a.item b.item (omega (arith, earlier.0, ap rank later.0)) earlier.1
        ((λ i. brings (asking oracle local) own place (later.0 i) (named i) (spaced i)) ∙ later.1)));
  }

  -- after all sources, the list shows all
  pub shows_all : (t s e m p : List VisibleName) → AddsAll (asking oracle local) own place TextualMacro [] t → AddsAll (asking oracle local) own place Scope t s
      → AddsAll (asking oracle local) own place ExternPrelude s e → AddsAll (asking oracle local) own place MacroUsePrelude e m
      → AddsAll (asking oracle local) own place Prelude m p → ShowsAll oracle own local place p
  shows_all t s e m p one two three four five = shown (shows_more Prelude m p (shows_more MacroUsePrelude e m (shows_more ExternPrelude s e (shows_more Scope t s (shows_more TextualMacro [] t shows_none one) two) three) four) five)
    where
      shown : ShowsBelow 5 p → ShowsAll oracle own local place p
      shown all = record {
        exact = λ x. (λ there. ((all.exact x).0 there).1, λ given. (all.exact x).1 (rank_below x.by, given));
        once = all.once;
        in_order = all.rises;
        means = λ session x there. brought_meant oracle own local place x.name session x.by x.ns x.item ((all.exact x).0 there).1;
        covers = λ session name ns item is. elim (meant_brought oracle own local place name session ns item is) [
          | inl found ↦ inl (found.0, (all.exact (brought_as found.0 name ns item)).1 (rank_below found.0, found.1))
          | inr other ↦ inr other
        ];
      }
