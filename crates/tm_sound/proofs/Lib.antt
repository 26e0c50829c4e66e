pub mod Sound
mod Headline
