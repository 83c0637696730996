use Rattle.std.proofs.Common.{Some, sym, ◌∙◌}
use Rattle.std.specs.Prelude.{option_map}
use Rattle.def_readings.specs.Directories.{files_of}
use Rattle.def_parts.proofs.DirectoriesLemmas.{not_found, found_in, is_some-map}
use Rattle.def_parts.proofs.mod_resolution.ModDir.find_in.Goals as goal

pub returns-in_default : goal.returns-in_default
returns-in_default g c =
    not_found (files_of (g.D.SourceDatabase.oracle c.args.db.now)) c.args.anchor c.args.self.now c.args.name.now c.args.candidate.now (option_map (λ text. text.now) c.args.attr_path) c.in_default.ensures

pub returns-in-Some-2 : goal.returns-in-Some-2
returns-in-Some-2 g c =
    found_in (files_of (g.D.SourceDatabase.oracle c.args.db.now)) c.args.anchor c.args.self.now c.args.name.now c.args.candidate.now (option_map (λ text. text.now) c.args.attr_path)
    c.in-Some.file c.is_mod_rs-is_mod_rs.result c.is_some.result (Some c.in-Some-2.dir)
    c.in-Some.ensures c.is_mod_rs-is_mod_rs.ensures (c.is_some.ensures ∙ sym (is_some-map (λ text. text.now) c.args.attr_path)) (sym c.in-Some-2.is ∙ c.in_ok-dir.ensures)
