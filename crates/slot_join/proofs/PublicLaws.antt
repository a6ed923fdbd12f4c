-- Laws that proofs of other crates may cite. The other files here are this crate's own.

-- a slot of a reception with errors in one sense alone shows what was sent in it or nothing
pub use Rattle.slot_join.proofs.OneWay.{Laws, slot_told}
-- the places of a call up to its check are those of what was sent
pub use Rattle.slot_join.proofs.OneWay.{in_call}
