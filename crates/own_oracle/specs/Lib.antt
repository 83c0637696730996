pub mod OneTrait
