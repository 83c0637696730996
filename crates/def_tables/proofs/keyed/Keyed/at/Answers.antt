use Rattle.std.proofs.Common.{Some, None, arith, sym, ◌∙◌}
use Rattle.def_tables.specs.Lists.{lists_of}
use Rattle.def_tables.proofs.NumbersLemmas.{at-number, numbered-at, numbered-past, length-own_entries}
use Rattle.def_tables.proofs.keyed.Keyed.at.Goals as goal

pub returns-in-Some-get_index-clause-entry : goal.returns-in-Some-get_index-clause-entry
returns-in-Some-get_index-clause-entry g c =
    let t = c.args.self.now in
    sym (at-number t.entries.entries (lists_of t.numbers) c.args.module c.args.index (Some c.in-Some.number) t.numbered c.in-Some.ensures.item
    ∙ numbered-at t.entries.entries c.in-Some.number c.in-Some-get_index.placed.now c.in-Some-get_index.value.now c.in-Some-get_index.ensures.entry)

pub returns-in-Some-get_index-clause-few : goal.returns-in-Some-get_index-clause-few
returns-in-Some-get_index-clause-few g c = omega (arith, length-own_entries c.args.self.now.entries.entries c.args.module, c.len.ensures.len, c.len.ensures.small)

pub returns-in-None-get_index-clause-entry : goal.returns-in-None-get_index-clause-entry
returns-in-None-get_index-clause-entry g c =
    let t = c.args.self.now in
    sym (at-number t.entries.entries (lists_of t.numbers) c.args.module c.args.index (Some c.in-Some.number) t.numbered c.in-Some.ensures.item
    ∙ numbered-past t.entries.entries c.in-Some.number c.in-None-get_index.ensures.entry)

pub returns-in-None-get_index-clause-few : goal.returns-in-None-get_index-clause-few
returns-in-None-get_index-clause-few g c = omega (arith, length-own_entries c.args.self.now.entries.entries c.args.module, c.len.ensures.len, c.len.ensures.small)

pub returns-in-None-clause-entry : goal.returns-in-None-clause-entry
returns-in-None-clause-entry g c =
    let t = c.args.self.now in
    sym (at-number t.entries.entries (lists_of t.numbers) c.args.module c.args.index None t.numbered c.in-None.ensures.item)

pub returns-in-None-clause-few : goal.returns-in-None-clause-few
returns-in-None-clause-few g c = omega (arith, length-own_entries c.args.self.now.entries.entries c.args.module, c.len.ensures.len, c.len.ensures.small)
