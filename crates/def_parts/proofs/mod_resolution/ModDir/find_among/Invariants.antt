use Rattle.std.proofs.Common.{◌≡◌, drop}
use Rattle.std.specs.Prelude.{map, option_map}
use Rattle.def_readings.specs.Directories.{split_text, first_found, files_of}
use Rattle.def_parts.proofs.mod_resolution.ModDir.find_among.Given as goal

-- nothing was found in the candidates so far
abbrev pub invariant-candidates : goal.invariant-candidates
invariant-candidates g l =
    let found = first_found (files_of (g.D.SourceDatabase.oracle l.db)) l.anchor l.self l.name (option_map (λ text. text.now) l.attr_path) in
    found (map split_text (drop l.candidate-index l.candidates)) ≡ found (map split_text l.candidates)
