mod CensoredLemmas
pub mod MacrosLemmas
pub mod ProcMacrosLemmas
