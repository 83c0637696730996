use Rattle.std.proofs.Common.{◌∙◌}
use Rattle.def_crates.proofs.PathLemmas.{path_of_three}
use Rattle.def_crates.proofs.prelude.prelude_path.Goals as goal

pub returns : goal.returns
returns c =
    path_of_three c.prelude_kind.result _ c.from_vec-segments.result c.push.new.self c.push-2.new.self c.push-3.new.self c.prelude_crate.result _ _ c.edition_name.result _
    (c.from_vec-segments.ensures ∙ c.new.ensures.items) c.in_ok-push.ensures.ok c.in_ok-push-2.ensures.ok c.in_ok-push-3.ensures.ok c.prelude_crate.ensures c.edition_name.ensures c.prelude_kind.ensures
