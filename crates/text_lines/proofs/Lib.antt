pub mod ByteTests
pub mod Ended
pub mod GrammarLemmas
pub mod LineLemmas
pub mod NumberLemmas
pub mod OneReading
pub mod WordLemmas
