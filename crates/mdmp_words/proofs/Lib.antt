pub mod AskingLemmas
pub mod BadLemmas
pub mod InvocationRows
pub mod NearLemmas
pub mod TypeLemmas
pub mod WordLemmas
pub mod WordRows
