use Rattle.std.proofs.Common.{ap, ◌∙◌, Some}
use Rattle.std.specs.Prelude.{option_map}
use Rattle.std.specs.Map.{lookup}
use Rattle.def_map.specs.DefMaps.{view_of}
use Rattle.def_modules.specs.Locals.{local_view}
use Rattle.def_modules.specs.Updates.{set_where}
use Rattle.def_database.specs.Database.{answers_of, crate_eq}
use Rattle.def_database.proofs.FillingLemmas.{refused, shown-set}
use Rattle.def_database.proofs.database.Database.add_map.Goals as goal

pub returns-clause-ok : goal.returns-clause-ok
returns-clause-ok c =
    let maps = shown-set crate_eq view_of c.args.self.now.crates.maps c.insert.new.self c.args.krate c.args.def_map c.in_ok-insert.ensures.updates.0 in
    let written = shown-set crate_eq local_view c.reserve.new.self c.insert-2.new.self c.args.krate c.args.local_def_map c.in_ok-insert-2.ensures.updates.0 in
    let locals = written ∙ ap (λ es. set_where (crate_eq c.args.krate) (Some (local_view c.args.local_def_map)) (λ krate. option_map local_view (lookup (crate_eq krate) es))) c.reserve.ensures.entries in
    λ i. record (answers_of c.args.self.now) { crate_def_map = maps i; local_def_map = locals i }

pub returns-in_err-reserve-clause-err : goal.returns-in_err-reserve-clause-err
returns-in_err-reserve-clause-err c =
    refused c.from_residual.result (ap (λ es. record (answers_of c.args.self.now) { local_def_map = λ krate. option_map local_view (lookup (crate_eq krate) es) }) c.reserve.ensures.entries)

pub returns-in_err-insert-clause-err : goal.returns-in_err-insert-clause-err
returns-in_err-insert-clause-err c =
    refused c.from_residual-in_err-insert.result (λ i. record (answers_of c.args.self.now) {
      crate_def_map = λ krate. option_map view_of (lookup (crate_eq krate) (c.in_err-insert.ensures.err i));
      local_def_map = λ krate. option_map local_view (lookup (crate_eq krate) (c.reserve.ensures.entries i));
    })
