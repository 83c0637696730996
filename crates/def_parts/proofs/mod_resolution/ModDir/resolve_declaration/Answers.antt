use Rattle.std.proofs.Common.{Err, sym, ap, ◌∙◌}
use Rattle.std.specs.Prelude.{map, option_map, string_bytes}
use Rattle.def_readings.specs.Directories.{split_text, first_found, files_of}
use Rattle.def_parts.proofs.DirectoriesLemmas.{all_candidates}
use Rattle.def_parts.proofs.mod_resolution.ModDir.resolve_declaration.Goals as goal

pub returns : goal.returns
returns g c =
    let files = files_of (g.D.SourceDatabase.oracle c.args.db.now) in
    let attr = option_map (λ text. text.now) c.args.attr_path in
    let found = c.in_ok-found.ensures
    ∙ ap (λ anchor. first_found files anchor c.args.self.now c.args.name.now attr (map split_text c.as_slice.result.now)) c.original_file-anchor.ensures
    ∙ ap (λ items. first_found files (files.original_file c.args.file) c.args.self.now c.args.name.now attr (map split_text items)) c.as_slice.ensures.value in
    all_candidates files c.args.file c.args.self.now c.args.name.now attr c.in_ok-candidates.candidates.items c.in_ok-found.field-0 c.in_ok-candidates.ensures found c.in_default.is
    ∙ ap (λ items. Err (map string_bytes items)) (sym c.in_ok-files.ensures)
