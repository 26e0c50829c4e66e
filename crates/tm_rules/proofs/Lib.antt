pub mod WrittenLemmas
pub mod EachLemmas
pub mod SlotLemmas
pub mod RuledLemmas
pub mod Passing
