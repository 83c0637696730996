use Rattle.std.specs.List.{zip}
use Rattle.std.proofs.Common.{◌∙◌, ap, is_some}
use Rattle.def_tables.specs.Lists.{lists_of}
use Rattle.def_tables.specs.NumberedTable.{content_of, other_rows, own_rows}
use Rattle.def_tables.proofs.NamesLemmas.{once-put}
use Rattle.def_tables.proofs.NumberedTableLemmas.{other-here, put-other, strangers-kept}
use Rattle.def_tables.proofs.numbered_table.NumberedTable.put_other.Goals as goal

pub invariant_of-self : goal.invariant_of-self
unfolding content_of
invariant_of-self g c =
    let t = c.args.self.now in
    let p = c.args.put in
    let e = c.put_at.ensures in
    record {
      apart = strangers-kept t.map (other_rows t) (zip c.put_at.new.bound.keys.keys c.put_at.new.bound.values.items) p.at p.name t.apart c.requires e.others;
      listed = (put-other g.K.Kept.meaning t.map (own_rows t) (other_rows t) (zip c.put_at.new.bound.keys.keys c.put_at.new.bound.values.items) p.at p.name p.ns (lists_of t.names) (lists_of c.put_at.new.names) t.listed c.requires e.others (content_of g.K.Kept.meaning t) c.args.binding.now p.over c.put_at.result e.wrote e.done e.names e.refused).2;
      once = once-put (lists_of t.names) (lists_of c.put_at.new.names) p.at p.name t.once _ (t.listed p.at p.name ∙ ap is_some (other-here g.K.Kept.meaning t.map (own_rows t) (own_rows t) (other_rows t) (other_rows t) p.at p.name c.requires)) _ c.put_at.result e.names e.refused;
    }

pub returns-clause-done : goal.returns-clause-done
unfolding content_of
returns-clause-done g c =
    let t = c.args.self.now in
    let p = c.args.put in
    let e = c.put_at.ensures in
    (put-other g.K.Kept.meaning t.map (own_rows t) (other_rows t) (zip c.put_at.new.bound.keys.keys c.put_at.new.bound.values.items) p.at p.name p.ns (lists_of t.names) (lists_of c.put_at.new.names) t.listed c.requires e.others (content_of g.K.Kept.meaning t) c.args.binding.now p.over c.put_at.result e.wrote e.done e.names e.refused).0

pub returns-clause-refused : goal.returns-clause-refused
unfolding content_of
returns-clause-refused g c =
    let t = c.args.self.now in
    let p = c.args.put in
    let e = c.put_at.ensures in
    (put-other g.K.Kept.meaning t.map (own_rows t) (other_rows t) (zip c.put_at.new.bound.keys.keys c.put_at.new.bound.values.items) p.at p.name p.ns (lists_of t.names) (lists_of c.put_at.new.names) t.listed c.requires e.others (content_of g.K.Kept.meaning t) c.args.binding.now p.over c.put_at.result e.wrote e.done e.names e.refused).1
