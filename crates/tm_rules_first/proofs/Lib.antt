pub mod FirstLemmas
pub mod TurnLemmas
pub mod StatementLemmas
pub mod CountLemmas
pub mod FindLemmas
pub mod SoundLemmas
pub mod TemplateLemmas
