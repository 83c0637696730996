use Rattle.std.proofs.Common.{Some, None, lit<, sym, ◌∙◌, ◌≡◌, take, ◌++◌, ◌∷◌, [], ◌+◌}
use Rattle.std.proofs.lemmas.Str.Pattern.{strip_suffix_char, rfind_char}
use Rattle.std.proofs.lemmas.Slice.{between_from_start}
use Rattle.def_parts.proofs.DirectoriesLemmas.{parent_at, parent_of_one}
use Rattle.def_parts.proofs.mod_resolution.dir_path.DirPath.parent.Goals as goal

pub returns-in-Some : goal.returns-in-Some
returns-in-Some c =
    let ends : c.as_str.result.now ≡ c.in_ok-inner.inner.now ++ 47 ∷ [] = strip_suffix_char 47 c.as_str.result.now (Some c.in_ok-inner.inner) c.in_ok-inner.ensures.cases (lit< tt) in
    let found = rfind_char 47 c.in_ok-inner.inner.now (Some c.in-Some.at) c.in-Some.ensures.cases (lit< tt) in
    let cut : c.range.result.now ≡ take (c.in-Some.at + 1) c.in_ok-inner.inner.now = c.range.ensures.value ∙ between_from_start c.in_ok-inner.inner.now (c.in-Some.at + 1) in
    rw (← c.self.view_is, cut) (parent_at _ c.in_ok-inner.inner.now c.in-Some.at (sym c.as_str.ensures.value ∙ ends) found)

pub returns-in-None : goal.returns-in-None
returns-in-None c =
    let ends : c.as_str.result.now ≡ c.in_ok-inner.inner.now ++ 47 ∷ [] = strip_suffix_char 47 c.as_str.result.now (Some c.in_ok-inner.inner) c.in_ok-inner.ensures.cases (lit< tt) in
    let free = rfind_char 47 c.in_ok-inner.inner.now None c.in-None.ensures.cases (lit< tt) in
    rw (← c.self.view_is) (parent_of_one _ c.in_ok-inner.inner.now (sym c.as_str.ensures.value ∙ ends) free)
