-- Laws that proofs of other crates may cite. The other files here are this crate's own.

-- a token whose texts are those of the values in a range, one text for each value
pub use Rattle.line_grammar.proofs.Sections.{TokenTexts}
-- such are the texts of identities, natures of distress, communications, positions and addresses
pub use Rattle.call_texts.proofs.SymbolTexts.{identity_told, nature_told, comm_told}
pub use Rattle.call_texts.proofs.FieldTexts.{position_told, address_told}
-- the sound grammars whose lines are the texts of calls: with nothing after them, and with an expansion or none
pub use Rattle.call_texts.proofs.CallLaws.{bare_sound}
pub use Rattle.call_texts.proofs.CallLaws.{with_expansion, with_expansion_sound, call_texts_alike}
-- a call's texts have the parts of the lawful calls, each call its own, and so has what may come after it
pub use Rattle.call_texts.proofs.CallTexts.{calls_section}
pub use Rattle.call_texts.proofs.ExpansionTexts.{tail_section}
