use Rattle.std.proofs.Common.{Some, None, lit<, sym, ap, ◌∙◌, ◌≡◌, ◌++◌, ◌∷◌, [], rules}
use Rattle.std.specs.Prelude.{string_bytes, map}
use Rattle.std.proofs.lemmas.Str.Pattern.{split_parts}
use Rattle.def_readings.specs.Directories.{as_slash}
use Rattle.def_parts.proofs.DirectoriesLemmas.{pushed_part, unslashed}
use Rattle.def_parts.proofs.mod_resolution.dir_path.push_slashed.Goals as goal

pub parts-preserved : goal.parts-preserved
parts-preserved c =
    let cut = split_parts 92 c.parts.left.now (Some (c.in-Some.part, c.in-Some.rest)) c.in-Some.ensures.cases (lit< tt) in
    let pushed : string_bytes c.push_str-in-Some.new.self ≡ (string_bytes c.parts.path ++ c.in-Some.part.now) ++ 47 ∷ [] =
    c.in_ok-push_str-2.ensures.bytes ∙ ap (λ xs. xs ++ 47 ∷ []) c.in_ok-push_str.ensures.bytes in
    record {
      text = search rules;
      whole = ap (λ xs. xs ++ map as_slash c.in-Some.rest.now) pushed ∙ pushed_part (string_bytes c.parts.path) c.in-Some.part.now c.in-Some.rest.now c.parts.left.now cut.0 cut.1 ∙ c.parts.invariant.whole;
    }

pub returns : goal.returns
returns c =
    let free = split_parts 92 c.parts.left.now None c.in_default.ensures.cases (lit< tt) in
    c.in_ok-push_str-3.ensures.bytes ∙ ap (λ xs. string_bytes c.parts.path ++ xs) (sym (unslashed c.parts.left.now free)) ∙ c.parts.invariant.whole
