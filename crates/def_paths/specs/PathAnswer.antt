-- What a path means, as it is said in short.
use Rattle.std.specs.Prelude.{false, None}
use Rattle.def_paths.specs.declared.path_result.PathAnswer.{PathAnswer}
use Rattle.def_paths.specs.declared.path_result.PathAnswer.TheVariants.{Lone, Whole}
use Rattle.def_paths.specs.declared.path_result.ResolvePathResult.{ResolvePathResult}
use Rattle.def_paths.specs.Answers.{reached}
use Rattle.def_sources.specs.PerNs.{alone}

-- the whole answer
abbrev pub whole : PathAnswer → ResolvePathResult
whole (Lone ns item) = reached (alone ns item.now) None false
whole (Whole answer) = answer.now
