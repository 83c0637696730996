use Rattle.std.proofs.Common.{ap, arith, sym, ◌<◌, ◌∙◌}
use Rattle.std.specs.HashMap.{spare}
use Rattle.std.specs.Map.{keys_of}
use Rattle.indexmap.specs.IndexMap.{insert_entry}
use Rattle.def_tables.specs.Lists.{lists_of}
use Rattle.def_tables.specs.Numbers.{own_entries, numbers_from, is_placed, placed_at}
use Rattle.def_tables.proofs.NumbersLemmas.{distinct-own_entries, own-insert_entry, numbered-present, numbered-new}
use Rattle.def_tables.proofs.ResultLemmas.{at_ok, none_there, OnErr_from}
use Rattle.def_tables.proofs.keyed.Keyed.set.Goals as goal

pub invariant_of-self : goal.invariant_of-self
invariant_of-self g c =
    record {
      numbered = numbered-present g.K.PartialEq.eq c.args.self.now.entries (placed_at c.args.module c.args.key) c.args.value c.replace.new.entries.entries (lists_of c.args.self.now.numbers)
          c.args.self.now.numbered (sym c.replace.ensures.found ∙ c.if-replace.true) (c.replace.ensures.entries c.if-replace.true);
    }

pub returns-then-replace-clause-done : goal.returns-then-replace-clause-done
returns-then-replace-clause-done g c =
    ap own_entries (c.replace.ensures.entries c.if-replace.true) ∙ own-insert_entry g.K.PartialEq.eq c.args.module c.args.key c.args.value c.args.self.now.entries.entries

pub returns-then-replace-clause-distinct : goal.returns-then-replace-clause-distinct
returns-then-replace-clause-distinct g c = distinct-own_entries g.K.PartialEq.eq c.args.module c.args.self.now.entries.entries c.len-number.ensures.unique

pub returns-in_err-reserve-clause-distinct : goal.returns-in_err-reserve-clause-distinct
returns-in_err-reserve-clause-distinct g c = distinct-own_entries g.K.PartialEq.eq c.args.module c.args.self.now.entries.entries c.len-number.ensures.unique

pub invariant_of-self-in-Break-branch-2 : goal.invariant_of-self-in-Break-branch-2
invariant_of-self-in-Break-branch-2 g c =
    let same = c.in_ok-reserve.ensures.entries ∙ c.replace.ensures.same c.if-replace.false in
    record { numbered = λ m. ap (λ l. l m) c.in_err-push.ensures.refused ∙ c.args.self.now.numbered m ∙ sym (ap (λ es. numbers_from m 0 (keys_of es)) same) }

pub returns-in_err-push-clause-distinct : goal.returns-in_err-push-clause-distinct
returns-in_err-push-clause-distinct g c = distinct-own_entries g.K.PartialEq.eq c.args.module c.args.self.now.entries.entries c.len-number.ensures.unique

pub invariant_of-self-2 : goal.invariant_of-self-2
invariant_of-self-2 g c =
    let room : 0 < spare c.reserve.new.self = omega (arith, c.in_ok-reserve.ensures.ok) in
    let written = at_ok c.insert.result (c.insert.ensures.succeeds room) c.insert.ensures.entries in
    let same = c.in_ok-reserve.ensures.entries ∙ c.replace.ensures.same c.if-replace.false in
    record {
      numbered = numbered-new g.K.PartialEq.eq c.reserve.new.self (placed_at c.args.module c.args.key) c.args.value c.args.self.now.entries.entries c.insert.new.self.entries
          (lists_of c.args.self.now.numbers) (lists_of c.push.new.self) c.len-number.result
          c.args.self.now.numbered same (none_there (sym c.replace.ensures.found ∙ c.if-replace.false)) written c.len-number.ensures.len c.in_ok-push.ensures.done;
    }

pub returns-clause-done : goal.returns-clause-done
returns-clause-done g c =
    let same = c.in_ok-reserve.ensures.entries ∙ c.replace.ensures.same c.if-replace.false in
    ap own_entries (c.in_ok-insert.ensures.entries ∙ ap (λ es. insert_entry (is_placed g.K.PartialEq.eq) es (placed_at c.args.module c.args.key) c.args.value) same)
    ∙ own-insert_entry g.K.PartialEq.eq c.args.module c.args.key c.args.value c.args.self.now.entries.entries

pub returns-clause-distinct : goal.returns-clause-distinct
returns-clause-distinct g c = distinct-own_entries g.K.PartialEq.eq c.args.module c.args.self.now.entries.entries c.len-number.ensures.unique

pub returns-in_err-insert-clause-distinct : goal.returns-in_err-insert-clause-distinct
returns-in_err-insert-clause-distinct g c = distinct-own_entries g.K.PartialEq.eq c.args.module c.args.self.now.entries.entries c.len-number.ensures.unique

pub invariant_of-self-in-Break-1 : goal.invariant_of-self-in-Break-1
invariant_of-self-in-Break-1 g c =
    let same = c.in_err-reserve.ensures.entries ∙ c.replace.ensures.same c.if-replace.false in
    record { numbered = λ m. c.args.self.now.numbered m ∙ sym (ap (λ es. numbers_from m 0 (keys_of es)) same) }

pub returns-in_err-reserve-clause-refused : goal.returns-in_err-reserve-clause-refused
returns-in_err-reserve-clause-refused g c = OnErr_from c.from_residual.result (ap own_entries (c.in_err-reserve.ensures.entries ∙ c.replace.ensures.same c.if-replace.false))

pub returns-in_err-push-clause-refused : goal.returns-in_err-push-clause-refused
returns-in_err-push-clause-refused g c = OnErr_from c.from_residual-in_err-push.result (ap own_entries (c.in_ok-reserve.ensures.entries ∙ c.replace.ensures.same c.if-replace.false))

pub returns-in_err-insert-clause-refused : goal.returns-in_err-insert-clause-refused
returns-in_err-insert-clause-refused g c =
    OnErr_from c.from_residual-in_err-insert.result (ap own_entries (c.in_err-insert.ensures.err ∙ c.in_ok-reserve.ensures.entries ∙ c.replace.ensures.same c.if-replace.false))
