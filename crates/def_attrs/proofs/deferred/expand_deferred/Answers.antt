use Rattle.std.proofs.Common.{◌++◌, append-nil, ap, map, sym, ◌∙◌}
use Rattle.def_calls.specs.Shown.{expansion_shown}
use Rattle.def_rules.specs.Deferred.{deferred_expansion}
use Rattle.def_attrs.proofs.HelpersLemmas.{expanded_all, expanded_more}
use Rattle.def_attrs.proofs.deferred.expand_deferred.Goals as goal

pub derives-init : goal.derives-init
derives-init c = sym (append-nil (map expansion_shown c.args.expansions.now.items))

pub derives-preserved : goal.derives-preserved
derives-preserved c =
    expanded_more (map expansion_shown c.args.expansions.now.items) c.derives.expansions.items c.push_back.new.self.items c.as_slice-derive-items.result.now c.derives.derive-index _ c.deferred.result
    c.derives-test.true c.in_ok-push_back.ensures.items c.deferred.ensures c.derives.invariant

pub returns-in_default : goal.returns-in_default
returns-in_default c =
    let start = map expansion_shown c.args.expansions.now.items in
    (sym (append-nil start) ∙ ap (λ derives. start ++ map deferred_expansion derives) c.in_default.ensures.taken, c.take.ensures.left)

pub returns : goal.returns
returns c = (
  expanded_all (map expansion_shown c.args.expansions.now.items) c.derives.expansions.items c.as_slice-derive-items.result.now _ c.derives.derive-index
      c.derives-test.false (c.as_slice-derive-items.ensures ∙ c.in-Some.ensures.taken) c.derives.invariant,
  c.take.ensures.left,
)
