use Rattle.std.proofs.Common.{arith, sym, ◌∙◌}
use Rattle.std_collections.proofs.Zip.{slice_get_at}
use Rattle.def_tables.proofs.IndexedVecLemmas.{found-at, found-none}
use Rattle.def_tables.proofs.indexed_vec.IndexedVec.get_near.Goals as goal

pub returns-in-Some-get_index_of : goal.returns-in-Some-get_index_of
returns-in-Some-get_index_of g c =
    let v = c.args.self.now in
    let number = c.in-Some-get_index_of.number in
    sym (found-at g.P.PartialEq.eq g.met.P.Eq.laws v.keys.keys v.values.items v.paired c.args.key number (sym c.in-Some-get_index_of.ensures.index)
    ∙ slice_get_at v.values.items number c.index.result.now (omega (arith, v.paired, c.in-Some-get_index_of.ensures.within)) c.index.ensures)

pub returns-in-None : goal.returns-in-None
returns-in-None g c =
    let v = c.args.self.now in
    sym (found-none g.P.PartialEq.eq g.met.P.Eq.laws v.keys.keys v.values.items v.paired c.args.key (sym c.in-None.ensures.index))
