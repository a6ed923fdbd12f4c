-- Laws that proofs of other crates may cite. The other files here are this crate's own.

-- elements, and lists of them, that are found equal are the same, and each is found equal to itself
pub use Rattle.ten_unit.proofs.Reading.{element_same, element_own, elements_same, elements_own}
-- a word has ten elements, none of them lost, and a list without elements is no word
pub use Rattle.ten_unit.proofs.Reading.{length-word, element-sent, is_word-none}
-- a bit of a shifted word
pub use Rattle.ten_unit.proofs.Bits.{bit_at-shr}
