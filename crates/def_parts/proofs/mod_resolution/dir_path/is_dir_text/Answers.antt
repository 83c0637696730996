use Rattle.std.proofs.Common.{lit<, sym, ap, ◌∙◌, length}
use Rattle.std.proofs.lemmas.Bool.{false≢true, eq-eqb}
use Rattle.std.proofs.lemmas.Str.Pattern.{ends_char}
use Rattle.def_parts.proofs.DirectoriesLemmas.{dir_text_is}
use Rattle.def_parts.proofs.mod_resolution.dir_path.is_dir_text.Goals as goal

pub returns-else-is_empty : goal.returns-else-is_empty
returns-else-is_empty c =
    let ends = ends_char 47 c.args.text.now c.ends_with.result c.ends_with.ensures.cases (lit< tt) in
    dir_text_is c.ends_with.result c.args.text.now (λ empty. false≢true (sym c.if-is_empty.false ∙ (c.is_empty.ensures ∙ eq-eqb (length c.args.text.now) 0 (ap length empty)))) ends.0 ends.1
