use Rattle.std.proofs.Common.{ap, ◌∙◌, Some}
use Rattle.indexmap.specs.IndexMap.{get}
use Rattle.def_modules.proofs.CrateLemmas.{rekeyed}
use Rattle.def_modules.specs.Updates.{set_where}
use Rattle.def_database.specs.Database.{answers_of, assoc_key, assoc_key_eq}
use Rattle.def_database.specs.contracts.database.AssocKeyPartialEq.TheImpl as keys
use Rattle.def_database.proofs.FillingLemmas.{assoc_keys_same}
use Rattle.def_database.proofs.database.Database.add_assoc_items.Goals as goal

pub returns-clause-ok : goal.returns-clause-ok
returns-clause-ok c =
    let old = c.args.self.now.types.assoc_items in
    let e = rekeyed keys.ghosts.eq assoc_key_eq assoc_keys_same old c.insert.new.self c.assoc_key.result (Some c.args.items) c.in_ok-insert.ensures.updates.0 in
    let at = ap (λ key. set_where (assoc_key_eq key) (Some c.args.items) (get assoc_key_eq old)) c.assoc_key.ensures in
    ap (λ f. record (answers_of c.args.self.now) { assoc_items = λ owner. f (assoc_key owner) }) (e ∙ at)
