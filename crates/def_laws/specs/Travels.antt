-- Names that travel along edges.
use Rattle.std.specs.Prelude.{◌≡◌, List}
use Rattle.def_ids.specs.declared.ids.ModuleId.{ModuleId}
use Rattle.def_bindings.specs.declared.bindings.Entry.{Entry}
use Rattle.def_bindings.specs.declared.visibility.Visibility.{Visibility}
use Rattle.def_bindings.specs.Content.{Content}
use Rattle.def_bindings.specs.Order.{Order}
use Rattle.def_globs.specs.Globs.{Updates, ClosesTo, KeepsClosed, KeepsCoherent}
use Rattle.def_globs.specs.Raised.{KeepsRaised, RaisesTo}
use Rattle.def_globs.specs.Waves.{KeepsGlobs}

-- a list was put in a module, and what changed has travelled along the edges to the end: names stay closed and coherent, and raised where they keep their definition
pub record Travels (o : Order Visibility) (at : ModuleId) (list : List (Entry Visibility)) (old new : Content Visibility) : Type 0 where
  pub updates : Updates o at list old new
  pub closes : ClosesTo o at list old new
  pub closed : KeepsClosed o old new
  pub coherent : KeepsCoherent o at list old new
  pub raised : KeepsRaised o at list old new
  pub raises : RaisesTo o at list old new
  pub globs : KeepsGlobs at list old new
  pub edges : new.edges ≡ old.edges
