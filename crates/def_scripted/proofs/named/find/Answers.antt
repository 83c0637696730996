use Rattle.std.proofs.Common.{◌∙◌, ap, bytes_eq}
use Rattle.std.specs.List.{list_any}
use Rattle.def_scripted.specs.Vectors.{is_vector}
use Rattle.def_scripted.proofs.VectorLemmas.{any_named}
use Rattle.def_scripted.proofs.named.find.Goals as goal

pub returns : goal.returns
unfolding is_vector
returns c = c.first_named.ensures ∙ any_named (λ known. known.now) c.vectors.result.now c.args.name.now ∙ ap (λ names. list_any (λ known. bytes_eq known c.args.name.now) names) c.vectors.ensures
