use Rattle.std.proofs.Common.{ap, length}
use Rattle.std.proofs.lemmas.List.{nil_from_length}
use Rattle.def_tables.proofs.EmptyLemmas.{no_entries, no_own_entries}
use Rattle.def_tables.proofs.keyed.Keyed.is_empty.Goals as goal

pub returns : goal.returns
returns g c =
    let es = c.args.self.now.entries.entries in
    (λ h. no_own_entries es (nil_from_length es (c.is_empty.ensures.0 h)), λ h. c.is_empty.ensures.1 (ap length (no_entries es h)))
