pub mod PublicLaws
mod SymbolTexts
mod FieldTexts
mod CallTexts
mod ExpansionTexts
mod FieldSteps
mod CallLaws
mod BareTexts
mod ExpansionSteps
