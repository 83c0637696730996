use Rattle.std.proofs.Common.{◌≡◌, ℕ, suc, ◌+◌, ◌<◌, List, ◌∷◌, length, drop, get_or, Option, Some, None, Result, Ok, Err, option_and_then, option_map, ap, subst, sym, ◌∙◌, arith}
use Rattle.std.proofs.Math.Seq.{drop-cons}
use Rattle.std.proofs.lemmas.Bool.{false≢true}
use Rattle.cfg_logic.specs.Mirrors.{Mirrors, Follows, HasRead}
use Rattle.cfg_logic.specs.Predicates.{State, step, read, read_from, means}
use Rattle.cfg_logic.specs.declared.fault.CfgFault.{CfgFault}
use Rattle.cfg_logic.specs.declared.meaning.Reading.{Reading}
use Rattle.cfg_logic.specs.declared.options.CfgOptions.{CfgOptions}
use Rattle.cfg_logic.specs.declared.part.CfgPart.{CfgPart}

-- The part at a place stands before those behind it.
part_first : (parts : List CfgPart) (at : ℕ) (x : CfgPart) → at < length parts → x ≡ get_or parts at x → drop at parts ≡ x ∷ drop (at + 1) parts
part_first parts at x inside is =
    let next : suc at ≡ at + 1 = omega arith in
    drop-cons parts at x inside ∙ ap (λ y. y ∷ drop (suc at) parts) (sym is) ∙ ap (λ n. x ∷ drop n parts) next

-- A part is gone over.
went_on : (options : CfgOptions) (parts rest : List CfgPart) (o : Option State) (u : Unit) (r : Reading) → Follows options o (Ok u) r → option_and_then (λ t. read_from t rest) o ≡ read parts → HasRead options parts rest r
went_on options parts rest None u r f reads = absurd (false≢true f)
went_on options parts rest (Some t) u r f reads = record { state = t; mirrors = f.1; reads = reads }

pub goes_on : (options : CfgOptions) (parts : List CfgPart) (at : ℕ) (x : CfgPart) (result : Result Unit CfgFault) (u : Unit) (before after : Reading) → at < length parts → x ≡ get_or parts at x → HasRead options parts (drop at parts) before → ((s : State) → Mirrors options s before → Follows options (step s x) result after) → result ≡ Ok u → HasRead options parts (drop (at + 1) parts) after
goes_on options parts at x result u before after inside is h f ok =
    let rest = drop (at + 1) parts in
    let P : Result Unit CfgFault → Type 0 = λ r. Follows options (step h.state x) r after in
    let reads = sym (ap (read_from h.state) (part_first parts at x inside is)) ∙ h.reads in
    went_on options parts rest (step h.state x) u after (subst P ok (f h.state h.mirrors)) reads

-- A part does not fit.
stopped : (options : CfgOptions) (parts rest : List CfgPart) (o : Option State) (e : CfgFault) (r : Reading) → Follows options o (Err e) r → option_and_then (λ t. read_from t rest) o ≡ read parts → None ≡ read parts
stopped options parts rest None e r f reads = reads
stopped options parts rest (Some t) e r f reads = absurd (false≢true f.0)

pub stops : (options : CfgOptions) (parts : List CfgPart) (at : ℕ) (x : CfgPart) (result : Result Unit CfgFault) (e : CfgFault) (before after : Reading) → at < length parts → x ≡ get_or parts at x → HasRead options parts (drop at parts) before → ((s : State) → Mirrors options s before → Follows options (step s x) result after) → result ≡ Err e → None ≡ option_map (means options) (read parts)
stops options parts at x result e before after inside is h f failed =
    let rest = drop (at + 1) parts in
    let P : Result Unit CfgFault → Type 0 = λ r. Follows options (step h.state x) r after in
    let reads = sym (ap (read_from h.state) (part_first parts at x inside is)) ∙ h.reads in
    ap (option_map (means options)) (stopped options parts rest (step h.state x) e after (subst P failed (f h.state h.mirrors)) reads)
