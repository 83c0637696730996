pub mod DirectoriesLemmas
pub mod DirectoriesFacts
pub mod ProcMacrosFacts
