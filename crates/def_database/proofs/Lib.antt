mod ByMacroLemmas
mod CallsLemmas
mod FillingLemmas
