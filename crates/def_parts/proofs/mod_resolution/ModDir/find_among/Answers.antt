use Rattle.std.proofs.Common.{refl, sym, ◌∙◌}
use Rattle.std.proofs.lemmas.Result.{IfOk-from_err}
use Rattle.std.specs.Prelude.{option_map}
use Rattle.def_readings.specs.Directories.{files_of}
use Rattle.def_parts.proofs.DirectoriesLemmas.{first_here, first_later, first_nowhere}
use Rattle.def_parts.proofs.mod_resolution.ModDir.find_among.Goals as goal

pub candidates-init : goal.candidates-init
candidates-init g c = refl

pub candidates-preserved : goal.candidates-preserved
candidates-preserved g c =
    first_later (files_of (g.D.SourceDatabase.oracle c.args.db.now)) c.args.anchor c.args.self.now c.args.name.now (option_map (λ text. text.now) c.args.attr_path) c.args.candidates.now
    c.candidates.candidate-index c.candidate-item.result _ c.as_str.result.now c.in_ok-found.found c.candidates-test.true c.candidate-item.is c.as_str.ensures.value c.in_ok-found.ensures c.candidates.invariant
    (sym c.is_some.ensures ∙ c.if-is_some.false)

pub returns-then-is_some : goal.returns-then-is_some
returns-then-is_some g c =
    first_here (files_of (g.D.SourceDatabase.oracle c.args.db.now)) c.args.anchor c.args.self.now c.args.name.now (option_map (λ text. text.now) c.args.attr_path) c.args.candidates.now
    c.candidates.candidate-index c.candidate-item.result _ c.as_str.result.now c.in_ok-found.found c.candidates-test.true c.candidate-item.is c.as_str.ensures.value c.in_ok-found.ensures c.candidates.invariant
    (sym c.is_some.ensures ∙ c.if-is_some.true)

pub returns : goal.returns
returns g c =
    first_nowhere (files_of (g.D.SourceDatabase.oracle c.args.db.now)) c.args.anchor c.args.self.now c.args.name.now (option_map (λ text. text.now) c.args.attr_path) c.args.candidates.now
    c.candidates.candidate-index c.candidates-test.false c.candidates.invariant

pub returns-in_err-found : goal.returns-in_err-found
returns-in_err-found g c = IfOk-from_err _ _ c.from_residual.ensures.0
