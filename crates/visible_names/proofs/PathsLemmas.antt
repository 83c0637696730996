-- What a plain path of one name means, by what each source brings.
use Rattle.std.proofs.Common.{◌≡◌, ◌<◌, ◌⊎◌, inl, inr, arith, Bool, true, false, List, [], ◌∷◌, Option, Some, None, refl, sym, ap, ◌∙◌, is_some}
use Rattle.std.specs.Prelude.{◌&&◌, if◌then◌else◌}
use Rattle.std.specs.Option.{option_or}
use Rattle.tree_ids.specs.declared.name.Name.{Name}
use Rattle.def_ids.specs.declared.ids.ModuleId.{ModuleId}
use Rattle.def_ids.specs.Ids.{is_block_root}
use Rattle.def_interner.specs.Session.{Session}
use Rattle.def_bindings.specs.declared.bindings.Namespace.{Namespace}
use Rattle.def_bindings.specs.declared.bindings.Namespace.TheVariants.{Types, Values, Macros}
use Rattle.def_modules.specs.MapView.{MapView, LocalView}
use Rattle.def_oracle.specs.Oracle.{Oracle}
use Rattle.def_sources.specs.declared.per_ns.PerNs.{PerNs}
use Rattle.def_sources.specs.Items.{is_2015, is_fitting}
use Rattle.def_sources.specs.Modes.{for_module}
use Rattle.def_sources.specs.PerNs.{Item, in_namespace, kept}
use Rattle.def_sources.specs.Sources.{Question, Source, question_of, by_sources, builtin_source, first_found, found_in, plain_sources, root_sources}
use Rattle.def_paths.specs.declared.path_result.ResolvePathResult.{ResolvePathResult}
use Rattle.def_paths.specs.Answers.{answer_after, answer_from, first_resolved, joined}
use Rattle.def_paths.specs.OuterMaps.{answer_in, answers_outside}
use Rattle.visible_names.specs.declared.brought.BroughtBy.{BroughtBy}
use Rattle.visible_names.specs.declared.brought.BroughtBy.TheVariants.{TextualMacro, Scope, ExternPrelude, MacroUsePrelude, Prelude}
use Rattle.visible_names.specs.Visible.{asking, brings, lone, meant, meant_around, rank, source_of}

module _ {X : Type 0} where
  -- what counts where nothing earlier is there
  abbrev pub unless : Option X → Option X → Option X
  unless earlier found = if is_some earlier then None else found

  first_of : (a b : Option X) (x : X) → option_or a b ≡ Some x → (a ≡ Some x) ⊎ (unless a b ≡ Some x)
  first_of None b x e = inr e
  first_of (Some a) b x e = inl e

  or_unless : (a b : Option X) (x : X) → unless a b ≡ Some x → option_or a b ≡ Some x
  or_unless None b x e = e
  or_unless (Some a) b x e = cc

  pub is_unless : (a b : Option X) (x : X) → unless a b ≡ Some x → b ≡ Some x
  is_unless None b x e = e
  is_unless (Some a) b x e = cc

  some_left : (a b : Option X) → is_some a ≡ true → is_some (option_or a b) ≡ true
  some_left (Some a) b there = refl
  some_left None b there = cc

  some_right : (a b : Option X) → is_some b ≡ true → is_some (option_or a b) ≡ true
  some_right (Some a) b there = refl
  some_right None b there = there

  or_left : (a b : Option X) (x : X) → a ≡ Some x → option_or a b ≡ Some x
  or_left a b x e = rw e refl

  or_none : (a : Option X) → option_or a None ≡ a
  or_none None = refl
  or_none (Some a) = refl

  -- the first of six
  six : (t s b e m p : Option X) → option_or t (option_or s (option_or b (option_or e (option_or m (option_or p None)))))
      ≡ option_or (option_or (option_or (option_or (option_or t s) b) e) m) p
  six (Some t) s b e m p = refl
  six None (Some s) b e m p = refl
  six None None (Some b) e m p = refl
  six None None None (Some e) m p = refl
  six None None None None (Some m) p = refl
  six None None None None None p = or_none p

and-false : (b : Bool) → (b && false) ≡ false
and-false true = refl
and-false false = refl

module _ (oracle : Oracle) (own : MapView) (local : LocalView) (place : ModuleId) (name : Name) where
  abbrev q : Question
  q = asking oracle local

  -- what each source has, and the builtin types
  abbrev of : BroughtBy → Namespace → Option Item
  of by ns = source_of q own place by name ns

  abbrev builtin : Namespace → Option Item
  builtin ns = builtin_source q own name ns

  -- what the sources before one have
  abbrev earlier : BroughtBy → Namespace → Option Item
  earlier TextualMacro ns = None
  earlier Scope ns = of TextualMacro ns
  earlier ExternPrelude ns = option_or (option_or (of TextualMacro ns) (of Scope ns)) (builtin ns)
  earlier MacroUsePrelude ns = option_or (option_or (option_or (of TextualMacro ns) (of Scope ns)) (builtin ns)) (of ExternPrelude ns)
  earlier Prelude ns = option_or (option_or (option_or (option_or (of TextualMacro ns) (of Scope ns)) (builtin ns)) (of ExternPrelude ns)) (of MacroUsePrelude ns)

  brings_is : (by : BroughtBy) (ns : Namespace) → brings q own place by name ns ≡ unless (earlier by ns) (of by ns)
  brings_is TextualMacro Types = refl
  brings_is TextualMacro Values = refl
  brings_is TextualMacro Macros = refl
  brings_is Scope Types = refl
  brings_is Scope Values = refl
  brings_is Scope Macros = refl
  brings_is ExternPrelude Types = refl
  brings_is ExternPrelude Values = refl
  brings_is ExternPrelude Macros = refl
  brings_is MacroUsePrelude Types = refl
  brings_is MacroUsePrelude Values = refl
  brings_is MacroUsePrelude Macros = refl
  brings_is Prelude Types = refl
  brings_is Prelude Values = refl
  brings_is Prelude Macros = refl

  -- what one source has goes before each later one
  goes_before : (a b : BroughtBy) (ns : Namespace) → rank a < rank b → is_some (of a ns) ≡ true → is_some (earlier b ns) ≡ true
  goes_before a TextualMacro ns below there = absurd (omega (arith, below))
  goes_before TextualMacro Scope ns below there = there
  goes_before Scope Scope ns below there = absurd (omega (arith, below))
  goes_before ExternPrelude Scope ns below there = absurd (omega (arith, below))
  goes_before MacroUsePrelude Scope ns below there = absurd (omega (arith, below))
  goes_before Prelude Scope ns below there = absurd (omega (arith, below))
  goes_before TextualMacro ExternPrelude ns below there = some_left _ (builtin ns) (some_left _ (of Scope ns) there)
  goes_before Scope ExternPrelude ns below there = some_left _ (builtin ns) (some_right (of TextualMacro ns) _ there)
  goes_before ExternPrelude ExternPrelude ns below there = absurd (omega (arith, below))
  goes_before MacroUsePrelude ExternPrelude ns below there = absurd (omega (arith, below))
  goes_before Prelude ExternPrelude ns below there = absurd (omega (arith, below))
  goes_before TextualMacro MacroUsePrelude ns below there = some_left _ (of ExternPrelude ns) (some_left _ (builtin ns) (some_left _ (of Scope ns) there))
  goes_before Scope MacroUsePrelude ns below there = some_left _ (of ExternPrelude ns) (some_left _ (builtin ns) (some_right (of TextualMacro ns) _ there))
  goes_before ExternPrelude MacroUsePrelude ns below there = some_right (earlier ExternPrelude ns) _ there
  goes_before MacroUsePrelude MacroUsePrelude ns below there = absurd (omega (arith, below))
  goes_before Prelude MacroUsePrelude ns below there = absurd (omega (arith, below))
  goes_before TextualMacro Prelude ns below there = some_left _ (of MacroUsePrelude ns) (some_left _ (of ExternPrelude ns) (some_left _ (builtin ns) (some_left _ (of Scope ns) there)))
  goes_before Scope Prelude ns below there = some_left _ (of MacroUsePrelude ns) (some_left _ (of ExternPrelude ns) (some_left _ (builtin ns) (some_right (of TextualMacro ns) _ there)))
  goes_before ExternPrelude Prelude ns below there = some_left _ (of MacroUsePrelude ns) (some_right (earlier ExternPrelude ns) _ there)
  goes_before MacroUsePrelude Prelude ns below there = some_right (earlier MacroUsePrelude ns) _ there
  goes_before Prelude Prelude ns below there = absurd (omega (arith, below))

  -- so what it brings no later one brings
  pub hidden : (a b : BroughtBy) (ns : Namespace) (x y : Item) → rank a < rank b → brings q own place a name ns ≡ Some x → brings q own place b name ns ≡ Some y → ⊥
  hidden a b ns x y below first second =
      let before : is_some (earlier b ns) ≡ true = goes_before a b ns below (ap is_some (is_unless (earlier a ns) (of a ns) x (sym (brings_is a ns) ∙ first))) in
      let none : None ≡ Some y = ap (λ t. if t then None else of b ns) (sym before) ∙ sym (brings_is b ns) ∙ second in
      cc

  -- what all of them have
  abbrev total : Namespace → Option Item
  total ns = option_or (earlier Prelude ns) (of Prelude ns)

  from_macro_use : (ns : Namespace) (item : Item) → earlier Prelude ns ≡ Some item → total ns ≡ Some item
  from_macro_use ns item e = or_left (earlier Prelude ns) (of Prelude ns) item e

  from_extern : (ns : Namespace) (item : Item) → earlier MacroUsePrelude ns ≡ Some item → total ns ≡ Some item
  from_extern ns item e = from_macro_use ns item (or_left (earlier MacroUsePrelude ns) (of MacroUsePrelude ns) item e)

  from_inside : (ns : Namespace) (item : Item) → earlier ExternPrelude ns ≡ Some item → total ns ≡ Some item
  from_inside ns item e = from_extern ns item (or_left (earlier ExternPrelude ns) (of ExternPrelude ns) item e)

  from_scope : (ns : Namespace) (item : Item) → option_or (of TextualMacro ns) (of Scope ns) ≡ Some item → total ns ≡ Some item
  from_scope ns item e = from_inside ns item (or_left (option_or (of TextualMacro ns) (of Scope ns)) (builtin ns) item e)

  from_source : (by : BroughtBy) (ns : Namespace) (item : Item) → option_or (earlier by ns) (of by ns) ≡ Some item → total ns ≡ Some item
  from_source TextualMacro ns item e = from_scope ns item (or_left (of TextualMacro ns) (of Scope ns) item e)
  from_source Scope ns item e = from_scope ns item e
  from_source ExternPrelude ns item e = from_extern ns item e
  from_source MacroUsePrelude ns item e = from_macro_use ns item e
  from_source Prelude ns item e = e

  brought_total : (by : BroughtBy) (ns : Namespace) (item : Item) → brings q own place by name ns ≡ Some item → total ns ≡ Some item
  brought_total by ns item brought = from_source by ns item (or_unless (earlier by ns) (of by ns) item (sym (brings_is by ns) ∙ brought))

  total_brought : (ns : Namespace) (item : Item) → total ns ≡ Some item → ((by : BroughtBy) × (brings q own place by name ns ≡ Some item)) ⊎ (builtin ns ≡ Some item)
  total_brought ns item e =
      elim (first_of (earlier Prelude ns) (of Prelude ns) item e) [
        | inr last ↦ given Prelude last
        | inl e ↦ elim (first_of (earlier MacroUsePrelude ns) (of MacroUsePrelude ns) item e) [
          | inr last ↦ given MacroUsePrelude last
          | inl e ↦ elim (first_of (earlier ExternPrelude ns) (of ExternPrelude ns) item e) [
            | inr last ↦ given ExternPrelude last
            | inl e ↦ elim (first_of (option_or (of TextualMacro ns) (of Scope ns)) (builtin ns) item e) [
              | inr last ↦ inr (is_unless (option_or (of TextualMacro ns) (of Scope ns)) (builtin ns) item last)
              | inl e ↦ elim (first_of (of TextualMacro ns) (of Scope ns) item e) [
                | inr last ↦ given Scope last
                | inl first ↦ given TextualMacro first
              ]
            ]
          ]
        ]
      ]
    where
      given : (by : BroughtBy) → unless (earlier by ns) (of by ns) ≡ Some item → ((by : BroughtBy) × (brings q own place by name ns ≡ Some item)) ⊎ (builtin ns ≡ Some item)
      given by e = inl (by, brings_is by ns ∙ e)

  module _ (session : Session) where
    abbrev w : Question
    w = question_of oracle session local for_module

    -- each item of a plain path counts, whichever macro it is
    kept_all : (o : Option Item) → kept (is_fitting w.kind_of None) o ≡ o
    kept_all None = refl
    kept_all (Some item) = refl

    found_total : (ns : Namespace) → first_found (is_fitting w.kind_of None) (plain_sources w own place true) name ns ≡ total ns
    found_total ns =
        (λ i. option_or (kept_all (of TextualMacro ns) i) (option_or (kept_all (of Scope ns) i) (option_or (kept_all (builtin ns) i)
        (option_or (kept_all (of ExternPrelude ns) i) (option_or (kept_all (of MacroUsePrelude ns) i) (option_or (kept_all (of Prelude ns) i) None))))))
        ∙ six (of TextualMacro ns) (of Scope ns) (builtin ns) (of ExternPrelude ns) (of MacroUsePrelude ns) (of Prelude ns)

    -- what an answer after the first segment has, where there is no other
    answered_by : (t v m : Option Item) (ns : Namespace) → in_namespace (answer_after w own (record { types = t; values = v; macros = m }) []).resolved_def ns
        ≡ in_namespace (record { types = t; values = v; macros = m }) ns
    answered_by None None None Types = refl
    answered_by None None None Values = refl
    answered_by None None None Macros = refl
    answered_by None None (Some m) ns = refl
    answered_by None (Some v) m ns = refl
    answered_by (Some t) v m ns = refl

    answered : (found : PerNs) (ns : Namespace) → in_namespace (answer_after w own found []).resolved_def ns ≡ in_namespace found ns
    answered found ns = answered_by found.types found.values found.macros ns

    in_found : (keep : Item → Bool) (sources : List Source) (ns : Namespace) → in_namespace (found_in keep sources name) ns ≡ first_found keep sources name ns
    in_found keep sources Types = refl
    in_found keep sources Values = refl
    in_found keep sources Macros = refl

    in_own : (ns : Namespace) → in_namespace (answer_in w place (lone name) own).resolved_def ns ≡ total ns
    in_own ns =
        ap (λ b. in_namespace (answer_from w own (is_fitting w.kind_of None) (by_sources (if b then root_sources w own else plain_sources w own place true)) (name ∷ [])).resolved_def ns) (and-false (is_2015 own.facts.edition))
        ∙ answered (found_in (is_fitting w.kind_of None) (plain_sources w own place true) name) ns
        ∙ in_found (is_fitting w.kind_of None) (plain_sources w own place true) ns
        ∙ found_total ns

    in_joined : (answer : ResolvePathResult) (answers : List ResolvePathResult) (ns : Namespace)
        → in_namespace (joined answer answers).resolved_def ns ≡ option_or (in_namespace answer.resolved_def ns) (first_resolved (λ p. in_namespace p ns) answers)
    in_joined answer answers Types = refl
    in_joined answer answers Values = refl
    in_joined answer answers Macros = refl

    abbrev outside : List ResolvePathResult
    outside = if is_block_root place then answers_outside w (lone name) [] own.facts.containing else []

    meant_is : (ns : Namespace) → meant oracle session own local place name ns ≡ option_or (total ns) (first_resolved (λ p. in_namespace p ns) outside)
    meant_is ns =
        in_joined (answer_in w place (lone name) own) outside ns
        ∙ ap (λ o. option_or o (first_resolved (λ p. in_namespace p ns) outside)) (in_own ns)

    -- what a source brings is what a plain path of the name means
    pub brought_meant : (by : BroughtBy) (ns : Namespace) (item : Item) → brings q own place by name ns ≡ Some item → meant oracle session own local place name ns ≡ Some item
    brought_meant by ns item e = meant_is ns ∙ or_left (total ns) (first_resolved (λ p. in_namespace p ns) outside) item (brought_total by ns item e)

    -- what is found around the map is found from a block's root
    around_of : (b : Bool) (ns : Namespace) (item : Item) → is_block_root place ≡ b
        → first_resolved (λ p. in_namespace p ns) (if b then answers_outside w (lone name) [] own.facts.containing else []) ≡ Some item
        → (is_block_root place ≡ true) × (meant_around oracle session own local name ns ≡ Some item)
    around_of true ns item is e = (is, e)
    around_of false ns item is e = cc

    -- what such a path means a source brings, or it is a builtin type, or the maps around a block have it
    pub meant_brought : (ns : Namespace) (item : Item) → meant oracle session own local place name ns ≡ Some item
        → ((by : BroughtBy) × (brings q own place by name ns ≡ Some item)) ⊎ ((builtin ns ≡ Some item)
        ⊎ ((is_block_root place ≡ true) × (meant_around oracle session own local name ns ≡ Some item)))
    meant_brought ns item e =
        elim (first_of (total ns) (first_resolved (λ p. in_namespace p ns) outside) item (sym (meant_is ns) ∙ e)) [
          | inl here ↦ elim (total_brought ns item here) [ inl found ↦ inl found | inr type ↦ inr (inl type) ]
          | inr there ↦ inr (inr (around_of (is_block_root place) ns item refl (is_unless (total ns) (first_resolved (λ p. in_namespace p ns) outside) item there)))
        ]
