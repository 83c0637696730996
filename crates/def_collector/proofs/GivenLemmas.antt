-- What the derives that are deferred for an item gave, once it is handled.
use Rattle.std.proofs.Common.{◌≡◌, Bool, true, false, List, [], ◌∷◌, refl, sym, ap, subst, ◌∙◌}
use Rattle.tree_ids.specs.declared.ids.FileAstId.{FileAstId}
use Rattle.tree_ids.specs.declared.ids.InFile.{InFile}
use Rattle.item_tree.specs.declared.items.ItemNode.{ItemNode}
use Rattle.item_tree.specs.declared.items.ModItemKind.{ModItemKind}
use Rattle.item_tree.specs.declared.items.ModItemKind.TheVariants.{Struct, Union, Enum}
use Rattle.def_ids.specs.declared.ids.Adt.{Adt}
use Rattle.def_interner.specs.Session.{AddsLocations, EnumItem, Session, StructItem, UnionItem}
use Rattle.def_map.specs.Oracle.{Oracle}
use Rattle.def_modules.specs.MapState.{MapState}
use Rattle.def_rules.specs.declared.deferred.DeferredDerive.{DeferredDerive}
use Rattle.def_rules.specs.Deferred.{AreGiven, GiveImpls, IsAdt, deferred_at, deferred_in, without_deferred}
use Rattle.def_rules.specs.Derives.{derives_kind}
use Rattle.def_rules.specs.Items.{position_of}
use Rattle.def_rules.specs.Locations.{AddsImpls, AddsOwn}
use Rattle.def_laws.proofs.LocationsLaws.{own_adt, own_impls, own_refl, own_trans}
use Rattle.def_rules.specs.State.{Site, State}
use Rattle.def_rules.specs.Waiting.{Deferrals}
use Rattle.def_laws.specs.Performs.{GaveImpls}

module _ (s : State) (site : Site) (item : ItemNode) (adt : Adt) where
  abbrev in_session : Session → State
  in_session session = record s { session = session }

  -- what gives impls may have derives
  adt_may : (kind : ModItemKind) → IsAdt s site item kind adt → derives_kind kind ≡ true
  adt_may (Struct name raw ctor) is = refl
  adt_may (Union name raw) is = refl
  adt_may (Enum name raw) is = refl
  adt_may _ is = absurd is

  -- it stays so where locations are added
  adt_stays : (old new : Session) → AddsLocations old new → (kind : ModItemKind) → IsAdt (in_session old) site item kind adt → IsAdt (in_session new) site item kind adt
  adt_stays old new adds (Struct name raw ctor) (n, number, is) = (n, adds.grows.item StructItem n _ number, is)
  adt_stays old new adds (Union name raw) (n, number, is) = (n, adds.grows.item UnionItem n _ number, is)
  adt_stays old new adds (Enum name raw) (n, number, is) = (n, adds.grows.item EnumItem n _ number, is)
  adt_stays old new adds _ is = absurd is

module _ (oracle : Oracle) (s : State) (site : Site) (item : ItemNode) where
  abbrev position : InFile FileAstId
  position = position_of site item

  -- where nothing is deferred, nothing is given
  pub gave_nothing : s.deferred ≡ [] → GaveImpls oracle s site item s
  gave_nothing none =
      record { session = s.session; own = own_refl site item s.session; impls = subst (λ ds. GiveImpls oracle s site item (derives_kind item.kind) ds s) (sym (ap (λ ds. deferred_in ds position) none)) (by (derives_kind item.kind)) }
    where
      same : s.deferred ≡ without_deferred s.deferred position
      same = none ∙ sym (ap (λ ds. without_deferred ds position) none)

      by : (may : Bool) → GiveImpls oracle s site item may [] s
      by true = λ i. record s { deferred = same i }
      by false = refl

  -- those that are deferred for an item give their impls
  module _ (numbered session : Session) (first : AddsOwn site item s.session numbered) (adt : Adt) (added : AddsImpls adt numbered session) (of_item : IsAdt (record s { session = numbered }) site item item.kind adt)
      (m : MapState) (left : Deferrals) (is_left : left ≡ without_deferred s.deferred position) where
    abbrev after : State
    after = record s { session = session; map = m; deferred = left }

    by_list : (derives : List DeferredDerive) → AreGiven oracle session site.scope position adt derives s.map m → GiveImpls oracle (record s { session = session }) site item true derives after
    by_list [] given = λ i. record s { session = session; map = given i; deferred = is_left i }
    by_list (derive ∷ derives) given =
        (adt, adt_stays s site item adt numbered session added.adds item.kind of_item, m, given, λ i. record s { session = session; map = m; deferred = is_left i })

    pub gave_impls : (derives : List DeferredDerive) → derives ≡ deferred_at s position → AreGiven oracle session site.scope position adt derives s.map m → GaveImpls oracle s site item after
    gave_impls derives is given = record {
      session = session;
      own = own_trans site item s.session numbered session first (own_impls site item numbered session adt (own_adt site item (record s { session = numbered }) adt item.kind refl of_item) added);
      impls = subst (λ may. GiveImpls oracle (record s { session = session }) site item may (deferred_at s position) after) (sym (adt_may (record s { session = numbered }) site item adt item.kind of_item))
          (subst (λ ds. GiveImpls oracle (record s { session = session }) site item true ds after) is (by_list derives given));
    }
