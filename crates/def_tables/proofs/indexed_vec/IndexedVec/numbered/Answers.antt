use Rattle.std.proofs.Common.{arith, sym, ◌∙◌}
use Rattle.std.proofs.lemmas.Option.{slice_get_within}
use Rattle.std_collections.proofs.Zip.{slice_get_at}
use Rattle.def_tables.proofs.IndexedVecLemmas.{numbered-at}
use Rattle.def_tables.proofs.indexed_vec.IndexedVec.numbered.Goals as goal

pub returns-in-Some : goal.returns-in-Some
returns-in-Some g c =
    let v = c.args.self.now in
    let at = sym c.in-Some.ensures.key in
    numbered-at g.P.PartialEq.eq g.met.P.Eq.laws v.keys.keys v.values.items v.paired c.len.ensures.unique c.args.number c.args.key c.in-Some.found.now at (sym c.eq.ensures ∙ c.if-eq.true)
    ∙ slice_get_at v.values.items c.args.number c.index.result.now (omega (arith, v.paired, slice_get_within v.keys.keys c.args.number c.in-Some.found.now at)) c.index.ensures
