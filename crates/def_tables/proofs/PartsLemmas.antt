-- Names that stand for more than has a short form.
use Rattle.std.proofs.Common.{◌≡◌, Bool, true, false, ◌&&◌, cond, Some, None, refl, ap, ◌∙◌}
use Rattle.def_ids.specs.declared.ids.MapId.{MapId}
use Rattle.def_bindings.specs.declared.bindings.Namespace.{Namespace}
use Rattle.def_bindings.specs.declared.bindings.Namespace.TheVariants.{Types, Values, Macros}
use Rattle.def_tables.specs.declared.part.Part.{Part}
use Rattle.def_tables.specs.declared.part.Part.TheVariants.{Vacant, Numbers, Whole}
use Rattle.def_tables.specs.declared.parts.Parts.{Parts}
use Rattle.def_bindings.specs.declared.bindings.Binding.{Binding}
use Rattle.def_bindings.specs.Content.{is_namespace}
use Rattle.def_tables.specs.BoundName.{with_namespace}
use Rattle.def_tables.specs.Parts.{all_vacant, is_alone, is_vacant, part_at, part_in, parts_in}

-- one part is put in a namespace
abbrev pub IsPut : {V K : Type 0} → Parts V K → Parts V K → Namespace → Part V K → Type 0
IsPut old new ns part = (n : Namespace) → part_at new n ≡ cond (is_namespace ns n) part (part_at old n)

pub parts-put : {V K : Type 0} (meaning : MapId → K → V) (map : MapId) (old new : Parts V K) (ns : Namespace) (part : Part V K) → IsPut old new ns part → parts_in meaning map new ≡ with_namespace (parts_in meaning map old) ns (part_in meaning map part)
parts-put {V} {K} meaning map old new ns part put = λ i n. at n i
  where
    either : (b : Bool) (p q : Part V K) → part_in meaning map (cond b p q) ≡ cond b (part_in meaning map p) (part_in meaning map q)
    either true p q = refl
    either false p q = refl

    at : (n : Namespace) → parts_in meaning map new n ≡ with_namespace (parts_in meaning map old) ns (part_in meaning map part) n
    at n = ap (part_in meaning map) (put n) ∙ either (is_namespace ns n) part (part_at old n)

pub parts-vacant : {V K : Type 0} (meaning : MapId → K → V) (map : MapId) (p : Parts V K) → ((n : Namespace) → part_at p n ≡ Vacant) → parts_in meaning map p ≡ (λ n. None)
parts-vacant meaning map p vacant = λ i n. ap (part_in meaning map) (vacant n) i

first : (a b c : Bool) → a ≡ false → (a && b && c) ≡ false
first true b c h = cc
first false b c h = refl

second : (a b c : Bool) → b ≡ false → (a && b && c) ≡ false
second a true c h = cc
second true false c h = refl
second false false c h = refl

third : (a b c : Bool) → c ≡ false → (a && b && c) ≡ false
third a b true h = cc
third true true false h = refl
third true false false h = refl
third false b false h = refl

-- a part with a binding is not vacant
pub bound-some : {V K : Type 0} (meaning : MapId → K → V) (map : MapId) (p : Part V K) (b : Binding V) → part_in meaning map p ≡ Some b → is_vacant p ≡ false
bound-some meaning map Vacant b h = cc
bound-some meaning map (Numbers short) b h = refl
bound-some meaning map (Whole w) b h = refl

-- where something is put, something stands
pub some-put : {V K : Type 0} (old new : Parts V K) (ns : Namespace) (part : Part V K) → IsPut old new ns part → is_vacant part ≡ false → all_vacant new ≡ false
some-put old new Types part put h = first (is_vacant new.types) (is_vacant new.values) (is_vacant new.macros) (ap is_vacant (put Types) ∙ h)
some-put old new Values part put h = second (is_vacant new.types) (is_vacant new.values) (is_vacant new.macros) (ap is_vacant (put Values) ∙ h)
some-put old new Macros part put h = third (is_vacant new.types) (is_vacant new.values) (is_vacant new.macros) (ap is_vacant (put Macros) ∙ h)

-- where something else stands, something stays
pub some-left : {V K : Type 0} (old new : Parts V K) (ns : Namespace) (part : Part V K) → IsPut old new ns part → is_alone old ns ≡ false → all_vacant new ≡ false
some-left old new Types part put h = behind (is_vacant new.types) (is_vacant new.values) (is_vacant new.macros) (ap (λ p. is_vacant p && is_vacant new.macros) (put Values) ∙ ap (λ p. is_vacant old.values && is_vacant p) (put Macros) ∙ h)
  where
    behind : (a b c : Bool) → (b && c) ≡ false → (a && b && c) ≡ false
    behind true true true h = cc
    behind true true false h = refl
    behind true false c h = refl
    behind false b c h = refl
some-left old new Values part put h = around (is_vacant new.types) (is_vacant new.values) (is_vacant new.macros) (ap (λ p. is_vacant p && is_vacant new.macros) (put Types) ∙ ap (λ p. is_vacant old.types && is_vacant p) (put Macros) ∙ h)
  where
    around : (a b c : Bool) → (a && c) ≡ false → (a && b && c) ≡ false
    around true true true h = cc
    around true true false h = refl
    around true false c h = refl
    around false b c h = refl
some-left old new Macros part put h = before (is_vacant new.types) (is_vacant new.values) (is_vacant new.macros) (ap (λ p. is_vacant p && is_vacant new.values) (put Types) ∙ ap (λ p. is_vacant old.types && is_vacant p) (put Values) ∙ h)
  where
    before : (a b c : Bool) → (a && b) ≡ false → (a && b && c) ≡ false
    before true true c h = cc
    before true false c h = refl
    before false b c h = refl
