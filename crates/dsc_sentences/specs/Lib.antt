pub mod Dsc
pub mod Calls
pub mod Dse
pub mod Expansions
pub mod Verdicts
pub mod Heard
pub mod CallSentences
pub mod inside
