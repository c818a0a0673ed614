pub mod BoxLemmas
pub mod Answering
