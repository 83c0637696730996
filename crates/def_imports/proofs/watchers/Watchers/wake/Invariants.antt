use Rattle.def_imports.proofs.watchers.Watchers.wake.Given as goal

abbrev pub decreases-watches : goal.decreases-watches
decreases-watches l = l.number
