use Rattle.std.specs.List.{zip}
use Rattle.std.proofs.Common.{rules}
use Rattle.def_tables.specs.Lists.{lists_of}
use Rattle.def_tables.specs.NumberedTable.{content_of, other_rows, own_rows}
use Rattle.def_tables.proofs.NamesLemmas.{once-taken}
use Rattle.def_tables.proofs.NumberedTableLemmas.{strangers-kept, taken-own, taken-other}
use Rattle.def_tables.proofs.numbered_table.NumberedTableBindingTable.remove.Goals as goal

pub remove_at-requires : goal.remove_at-requires
remove_at-requires g c = c.args.self.now.once c.args.module

pub remove_at-requires-else-eq : goal.remove_at-requires-else-eq
remove_at-requires-else-eq g c = c.args.self.now.once c.args.module

pub invariant_of-self : goal.invariant_of-self
unfolding content_of
invariant_of-self g c =
    let t = c.args.self.now in
    let e = c.remove_at.ensures in
    record {
      apart = t.apart;
      listed = (taken-own g.K.Kept.meaning t.map (own_rows t) (zip c.remove_at.new.bound.keys.keys c.remove_at.new.bound.values.items) (other_rows t) c.args.module c.args.name c.args.ns (lists_of t.names) (lists_of c.remove_at.new.names) t.listed (search rules) e.others (content_of g.K.Kept.meaning t) e.left e.names).1;
      once = once-taken (lists_of t.names) (lists_of c.remove_at.new.names) c.args.module c.args.name t.once _ e.names;
    }

pub returns-then-eq : goal.returns-then-eq
unfolding content_of
returns-then-eq g c =
    let t = c.args.self.now in
    let e = c.remove_at.ensures in
    (taken-own g.K.Kept.meaning t.map (own_rows t) (zip c.remove_at.new.bound.keys.keys c.remove_at.new.bound.values.items) (other_rows t) c.args.module c.args.name c.args.ns (lists_of t.names) (lists_of c.remove_at.new.names) t.listed (search rules) e.others (content_of g.K.Kept.meaning t) e.left e.names).0

pub invariant_of-self-else-eq : goal.invariant_of-self-else-eq
unfolding content_of
invariant_of-self-else-eq g c =
    let t = c.args.self.now in
    let e = c.remove_at-else-eq.ensures in
    record {
      apart = strangers-kept t.map (other_rows t) (zip c.remove_at-else-eq.new.bound.keys.keys c.remove_at-else-eq.new.bound.values.items) c.args.module c.args.name t.apart (search rules) e.others;
      listed = (taken-other g.K.Kept.meaning t.map (own_rows t) (other_rows t) (zip c.remove_at-else-eq.new.bound.keys.keys c.remove_at-else-eq.new.bound.values.items) c.args.module c.args.name c.args.ns (lists_of t.names) (lists_of c.remove_at-else-eq.new.names) t.listed (search rules) e.others (content_of g.K.Kept.meaning t) e.left e.names).1;
      once = once-taken (lists_of t.names) (lists_of c.remove_at-else-eq.new.names) c.args.module c.args.name t.once _ e.names;
    }

pub returns-else-eq : goal.returns-else-eq
unfolding content_of
returns-else-eq g c =
    let t = c.args.self.now in
    let e = c.remove_at-else-eq.ensures in
    (taken-other g.K.Kept.meaning t.map (own_rows t) (other_rows t) (zip c.remove_at-else-eq.new.bound.keys.keys c.remove_at-else-eq.new.bound.values.items) c.args.module c.args.name c.args.ns (lists_of t.names) (lists_of c.remove_at-else-eq.new.names) t.listed (search rules) e.others (content_of g.K.Kept.meaning t) e.left e.names).0
