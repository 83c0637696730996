pub mod Partners
pub mod Trees
