use Rattle.std.proofs.Common.{◌≡◌, Bool, true, false, List, [], ◌∷◌, ◌++◌, Some, Result, Ok, Err, option_map, refl, ap, sym, ◌∙◌, append_assoc, append-nil, IfOk, arith}
use Rattle.cfg_logic.specs.Mirrors.{answer}
use Rattle.cfg_logic.specs.Predicates.{Predicate, Predicates, nothing, more, means, Opened, State, read_from, read}
use Rattle.cfg_logic.specs.Written.{IsWritten, a_truth, a_word, a_pair, an_all, an_any, a_negation, AreListed, empty, plain, trailing, AreWritten, first, next}
use Rattle.cfg_logic.specs.declared.options.CfgOptions.{CfgOptions}
use Rattle.cfg_logic.specs.declared.part.CfgPart.{CfgPart}
use Rattle.cfg_logic.specs.declared.part.CfgPart.TheVariants.{Close, Comma}
use Rattle.cfg_logic.specs.declared.part.Group.{Group}
use Rattle.cfg_logic.specs.declared.part.Group.TheVariants.{All, Any, Not}

-- A group of some predicates.
abbrev group_of : Group → Predicates → Opened
group_of group ps = record { group = group; predicates = ps }

-- A state in a group of some predicates.
abbrev within : List Opened → Group → Predicates → Bool → State
within outer group ps is_ready = record { outer = outer; inner = group_of group ps; is_ready = is_ready }

-- What is written is read, whatever stands around it.
mutual
  one_is_read : (p : Predicate) (parts : List CfgPart) → IsWritten p parts → (outer : List Opened) (group : Group) (ps : Predicates) (rest : List CfgPart) → read_from (within outer group ps true) (parts ++ rest) ≡ read_from (within outer group (more ps p) false) rest
  one_is_read p parts (a_truth b) outer group ps rest = refl
  one_is_read p parts (a_word name) outer group ps rest = refl
  one_is_read p parts (a_pair key value) outer group ps rest = refl
  one_is_read p parts (an_all {ps = qs} {parts = inner} w) outer group ps rest =
      ap (read_from (within (group_of group ps ∷ outer) All nothing true)) (append_assoc inner (Close ∷ []) rest)
      ∙ list_is_read qs inner w (group_of group ps ∷ outer) All rest
  one_is_read p parts (an_any {ps = qs} {parts = inner} w) outer group ps rest =
      ap (read_from (within (group_of group ps ∷ outer) Any nothing true)) (append_assoc inner (Close ∷ []) rest)
      ∙ list_is_read qs inner w (group_of group ps ∷ outer) Any rest
  one_is_read p parts (a_negation {p = q} {parts = inner} w) outer group ps rest =
      ap (read_from (within (group_of group ps ∷ outer) Not nothing true)) (append_assoc inner (Close ∷ []) rest)
      ∙ list_is_read (more nothing q) inner w (group_of group ps ∷ outer) Not rest

  list_is_read : (qs : Predicates) (parts : List CfgPart) → AreListed qs parts → (outer : List Opened) (group : Group) (rest : List CfgPart) → read_from (within outer group nothing true) (parts ++ Close ∷ rest) ≡ read_from (within outer group qs false) (Close ∷ rest)
  list_is_read qs parts empty outer group rest = refl
  list_is_read qs parts (plain w) outer group rest = all_are_read qs parts w outer group (Close ∷ rest)
  list_is_read qs parts (trailing {parts = inner} w) outer group rest =
      ap (read_from (within outer group nothing true)) (append_assoc inner (Comma ∷ []) (Close ∷ rest))
      ∙ all_are_read qs inner w outer group (Comma ∷ Close ∷ rest)

  all_are_read : (qs : Predicates) (parts : List CfgPart) → AreWritten qs parts → (outer : List Opened) (group : Group) (rest : List CfgPart) → read_from (within outer group nothing true) (parts ++ rest) ≡ read_from (within outer group qs false) rest
  all_are_read qs parts (first {p = p} w) outer group rest = one_is_read p parts w outer group nothing rest
  all_are_read qs parts (next {ps = ps} {p = p} {before = before} {parts = inner} ws w) outer group rest =
      ap (read_from (within outer group nothing true)) (append_assoc before (Comma ∷ inner) rest)
      ∙ all_are_read ps before ws outer group (Comma ∷ (inner ++ rest))
      ∙ one_is_read p inner w outer group ps rest

-- A predicate that is written is read back.
pub reads_back : (p : Predicate) (parts : List CfgPart) → IsWritten p parts → read parts ≡ Some p
reads_back p parts w = ap read (sym (append-nil parts)) ∙ one_is_read p parts w [] Not nothing []

-- So the answer is its meaning.
is_meant : {E : Type 0} (r : Result Bool E) (holds : Bool) → answer r ≡ Some holds → r ≡ Ok holds
is_meant (Ok b) holds e = grind arith
is_meant (Err x) holds e = grind arith

means_what_is_written : {E : Type 0} (options : CfgOptions) (parts : List CfgPart) (r : Result Bool E) (p : Predicate) → answer r ≡ option_map (means options) (read parts) → IsWritten p parts → r ≡ Ok (means options p)
means_what_is_written options parts r p e w = is_meant r (means options p) (e ∙ ap (option_map (means options)) (reads_back p parts w))

pub means_what_is_written_if : {E A : Type 0} (options : CfgOptions) (parts : List CfgPart) (result : Result (Result Bool E) A) → IfOk result (λ r. answer r ≡ option_map (means options) (read parts)) → IfOk result (λ r. (p : Predicate) → IsWritten p parts → r ≡ Ok (means options p))
means_what_is_written_if options parts (Ok r) h = λ p w. means_what_is_written options parts r p h w
means_what_is_written_if options parts (Err e) h = h
