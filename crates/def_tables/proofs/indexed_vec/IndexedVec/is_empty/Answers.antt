use Rattle.std.proofs.Common.{◌≡◌, ap, length, rules}
use Rattle.std.proofs.lemmas.List.{nil_from_length}
use Rattle.def_tables.proofs.IndexedVecLemmas.{none-paired}
use Rattle.def_tables.proofs.indexed_vec.IndexedVec.is_empty.Goals as goal

pub returns : goal.returns
returns g c =
    let v = c.args.self.now in
    let none = none-paired v.keys.keys v.values.items v.paired in
    (λ h. let empty : length v.values.items ≡ 0 = search rules in none.0 (nil_from_length v.values.items empty), λ h. let empty : length v.values.items ≡ 0 = ap length (none.1 h) in search rules)
