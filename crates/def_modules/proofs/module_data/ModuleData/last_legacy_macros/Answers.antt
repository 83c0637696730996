use Rattle.std.proofs.Common.{subst, ◌≡◌, ◌++◌, sym, ap, ◌∙◌, reverse, arith}
use Rattle.std.proofs.lemmas.List.{take_all}
use Rattle.def_modules.specs.ScopeMaps.{AreLastOf, last_macros, named_first, textual_of}
use Rattle.def_modules.proofs.LegacyLemmas.{are_last, last_more}
use Rattle.def_modules.proofs.module_data.ModuleData.last_legacy_macros.Goals as goal
use Rattle.def_modules.proofs.module_data.ModuleData.last_legacy_macros.Goals.{in-Some+in_ok-push_last, in_default}

pub loop-i-preserved : goal.loop-i-preserved
loop-i-preserved c =
    let es = c.as_ref-macros.result.now.entries in
    elim c.match-get_index.branch [
      | in-Some+in_ok-push_last w ↦
          ap (λ (v : _). v.items) w.last-is
          ∙ w.in_ok-push_last.ensures
          ∙ ap (λ ps. ps ++ named_first w.in-Some.name.now (reverse w.in-Some.of_name.now)) c.loop-i.invariant
          ∙ last_more es c.loop-i.i (w.in-Some.name.now, w.in-Some.of_name.now) (sym w.in-Some.ensures.entry)
      | in_default w ↦ let wrong = w.in_default.ensures.found.1 (omega (arith, c.len-i-end.ensures.len)) in cc
    ]

pub returns : goal.returns
returns c =
    let es = c.as_ref-macros.result.now.entries in
    let all : c.loop-i.last.items ≡ last_macros es = c.loop-i.invariant ∙ ap last_macros (take_all c.loop-i.i es (omega (arith, c.len-i-end.ensures.len))) in
    subst (λ macros. AreLastOf (textual_of macros) c.loop-i.last.items) c.as_ref-macros.ensures (rw all (are_last es c.len-i-end.ensures.unique))
