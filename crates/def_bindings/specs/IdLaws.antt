-- What the tests of equality of maps, modules, names, namespaces, traits and globs decide.
use Rattle.std.specs.Prelude.{◌≡◌, ℕ, Option, Some, None, Bool, true, false, ◌==◌, ◌&&◌, refl, ◌⊎◌}
use Rattle.std.specs.Cmp.{IsEquivalence, nat_eq_equiv}
use Rattle.std.proofs.Common.{ap, sym, ◌∙◌, inl, inr}
use Rattle.std.proofs.lemmas.Bool.{eqb-true, eq-eqb, cases_Bool, both_ways, and_parts, and_from}
use Rattle.tree_ids.specs.declared.name.Name.{Name}
use Rattle.def_ids.specs.declared.ids.ModuleId.{ModuleId}
use Rattle.def_ids.specs.declared.ids.TraitId.{TraitId}
use Rattle.def_ids.specs.declared.ids.UseId.{UseId}
use Rattle.def_ids.specs.declared.ids.GlobId.{GlobId}
use Rattle.def_ids.specs.Ids.{is_same_block, is_same_map, is_same_module}
use Rattle.tree_ids.specs.declared.ids.BlockId.{BlockId}
use Rattle.def_ids.specs.declared.ids.MapId.{MapId}
use Rattle.def_ids.specs.Equality.{glob_eq}
use Rattle.def_bindings.specs.declared.bindings.Namespace.{Namespace}
use Rattle.def_bindings.specs.declared.bindings.Namespace.TheVariants.{Types, Values, Macros}
use Rattle.def_bindings.specs.Tree.{module_of}
use Rattle.def_bindings.specs.Content.{is_name, is_trait, is_namespace}

-- a test of two parts is true where both are
pub both : (p q : Bool) → (p && q) ≡ true → (p ≡ true) × (q ≡ true)
both true q h = (refl, h)
both false q h = cc

same_block_itself : (b : Option BlockId) → is_same_block b b ≡ true
same_block_itself None = refl
same_block_itself (Some b) = eq-eqb b.0 b.0 refl

same_block_equal : (a b : Option BlockId) → is_same_block a b ≡ true → a ≡ b
same_block_equal None None e = refl
same_block_equal None (Some b) e = cc
same_block_equal (Some a) None e = cc
same_block_equal (Some a) (Some b) e = ap (λ (n : ℕ). let x : BlockId = record { 0 = n } in Some x) (eqb-true a.0 b.0 e)

pub same_map_itself : (m : MapId) → is_same_map m m ≡ true
same_map_itself m = and_from _ _ (eq-eqb m.krate.0 m.krate.0 refl) (same_block_itself m.block)

abbrev map_of : ℕ → Option BlockId → MapId
map_of krate block = record { krate = record { 0 = krate }; block = block }

pub same_map_equal : (a b : MapId) → is_same_map a b ≡ true → a ≡ b
same_map_equal a b e =
    let p = and_parts (a.krate.0 == b.krate.0) (is_same_block a.block b.block) e in
    ap (λ n. map_of n a.block) (eqb-true a.krate.0 b.krate.0 p.0) ∙ ap (map_of b.krate.0) (same_block_equal a.block b.block p.1)

pub same_module_itself : (m : ModuleId) → is_same_module m m ≡ true
same_module_itself m = and_from _ _ (same_map_itself m.map) (eq-eqb m.index m.index refl)

pub same_module_equal : (a b : ModuleId) → is_same_module a b ≡ true → a ≡ b
same_module_equal a b e =
    let p = and_parts (is_same_map a.map b.map) (a.index == b.index) e in
    ap (λ n. module_of n a.index) (same_map_equal a.map b.map p.0) ∙ ap (module_of b.map) (eqb-true a.index b.index p.1)

-- two modules are equal or apart
pub cases_module : (a b : ModuleId) → ((a ≡ b) × (is_same_module a b ≡ true)) ⊎ (is_same_module a b ≡ false)
cases_module a b = elim (cases_Bool (is_same_module a b)) [ inl h ↦ inl (same_module_equal a b h, h) | inr h ↦ inr h ]

pub module-refl : (a : ModuleId) → is_same_module a a ≡ true
module-refl a = same_module_itself a

pub module-sym : (a b : ModuleId) → is_same_module a b ≡ is_same_module b a
module-sym a b =
    elim (cases_module a b) [
      | inl h ↦ h.1 ∙ sym (ap (λ z. is_same_module z a) (sym h.0) ∙ module-refl a)
      | inr h ↦ elim (cases_module b a) [
        | inl k ↦ absurd (both_ways _ h (ap (λ z. is_same_module z b) (sym k.0) ∙ module-refl b))
        | inr k ↦ h ∙ sym k
      ]
    ]

pub name-eq : (a b : Name) → is_name a b ≡ true → a ≡ b
name-eq a b h = let by : ℕ → Name = λ n. record { 0 = n } in ap by (eqb-true a.0 b.0 h)

pub name-refl : (a : Name) → is_name a a ≡ true
name-refl a = eq-eqb a.0 a.0 refl

pub name-laws : IsEquivalence is_name
name-laws = record { refl = λ a. nat_eq_equiv.refl a.0; symm = λ a b. nat_eq_equiv.symm a.0 b.0; congr = λ a b c. nat_eq_equiv.congr a.0 b.0 c.0 }

pub name-sym : (a b : Name) → is_name a b ≡ is_name b a
name-sym a b = name-laws.symm a b

-- two names are equal or apart
pub cases_name : (a b : Name) → ((a ≡ b) × (is_name a b ≡ true)) ⊎ (is_name a b ≡ false)
cases_name a b = elim (cases_Bool (is_name a b)) [ inl h ↦ inl (name-eq a b h, h) | inr h ↦ inr h ]

pub trait-eq : (a b : TraitId) → is_trait a b ≡ true → a ≡ b
trait-eq a b h = let by : ℕ → TraitId = λ n. record { 0 = n } in ap by (eqb-true a.0 b.0 h)

pub trait-refl : (a : TraitId) → is_trait a a ≡ true
trait-refl a = eq-eqb a.0 a.0 refl

pub namespace-eq : (a b : Namespace) → is_namespace a b ≡ true → a ≡ b
namespace-eq Types Types h = refl
namespace-eq Values Values h = refl
namespace-eq Macros Macros h = refl
namespace-eq Types Values h = cc
namespace-eq Types Macros h = cc
namespace-eq Values Types h = cc
namespace-eq Values Macros h = cc
namespace-eq Macros Types h = cc
namespace-eq Macros Values h = cc

pub namespace-refl : (a : Namespace) → is_namespace a a ≡ true
namespace-refl Types = refl
namespace-refl Values = refl
namespace-refl Macros = refl

glob_of_numbers : ℕ → ℕ → GlobId
glob_of_numbers n i = let use_id : UseId = record { 0 = n } in record { use_id = use_id; idx = i }

pub glob-eq : (a b : GlobId) → glob_eq a b ≡ true → a ≡ b
unfolding glob_of_numbers
glob-eq a b h =
    let p = both (a.use_id.0 == b.use_id.0) (a.idx == b.idx) h in
    ap (λ n. glob_of_numbers n a.idx) (eqb-true a.use_id.0 b.use_id.0 p.0) ∙ ap (glob_of_numbers b.use_id.0) (eqb-true a.idx b.idx p.1)
