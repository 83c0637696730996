pub mod PartnersLemmas
