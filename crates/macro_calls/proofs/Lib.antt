pub mod ResolverLemmas
pub mod PathLemmas
