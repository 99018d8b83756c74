pub mod Prelude
pub mod AnswerLemmas
pub mod DraftLemmas
pub mod LabelLemmas
pub mod LineLemmas
pub mod RoomLemmas
pub mod TextLemmas
pub mod WordLemmas
