use Rattle.std.specs.Prelude.{Bool, List, [], ◌∷◌, ◌++◌, String, string_bytes}
use Rattle.std.specs.declared.alloc.Global.{Global}
use Rattle.cfg_logic.specs.Predicates.{Predicate, Predicates, truth, word, pair, all_of, any_of, negation, nothing, more}
use Rattle.cfg_logic.specs.declared.part.CfgPart.{CfgPart}
use Rattle.cfg_logic.specs.declared.part.CfgPart.TheVariants.{Open, Close, Comma, Truth, Word, Pair}
use Rattle.cfg_logic.specs.declared.part.Group.TheVariants.{All, Any, Not}

-- How a predicate is written: a group between its word and a parenthesis, with commas between its
-- predicates, and one behind the last if one likes.
mutual
  pub data IsWritten : Predicate → List CfgPart → Type 0 where
    a_truth : (b : Bool) → IsWritten (truth b) (Truth b ∷ [])
    a_word : (name : String Global) → IsWritten (word (string_bytes name)) (Word name ∷ [])
    a_pair : (key value : String Global) → IsWritten (pair (string_bytes key) (string_bytes value)) (Pair key value ∷ [])
    an_all : {ps : Predicates} {parts : List CfgPart} → AreListed ps parts → IsWritten (all_of ps) (Open All ∷ (parts ++ Close ∷ []))
    an_any : {ps : Predicates} {parts : List CfgPart} → AreListed ps parts → IsWritten (any_of ps) (Open Any ∷ (parts ++ Close ∷ []))
    a_negation : {p : Predicate} {parts : List CfgPart} → AreListed (more nothing p) parts → IsWritten (negation p) (Open Not ∷ (parts ++ Close ∷ []))

  pub data AreListed : Predicates → List CfgPart → Type 0 where
    empty : AreListed nothing []
    plain : {ps : Predicates} {parts : List CfgPart} → AreWritten ps parts → AreListed ps parts
    trailing : {ps : Predicates} {parts : List CfgPart} → AreWritten ps parts → AreListed ps (parts ++ Comma ∷ [])

  pub data AreWritten : Predicates → List CfgPart → Type 0 where
    first : {p : Predicate} {parts : List CfgPart} → IsWritten p parts → AreWritten (more nothing p) parts
    next : {ps : Predicates} {p : Predicate} {before parts : List CfgPart} → AreWritten ps before → IsWritten p parts → AreWritten (more ps p) (before ++ Comma ∷ parts)
