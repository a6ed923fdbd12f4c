-- Laws that proofs of other crates may cite. The other files here are this crate's own.

-- what is sent: how many symbols, and the one of each slot
pub use Rattle.time_diversity.proofs.Shows.{length-on_air, sent_at}
-- the same in order: twelve phasing symbols, and then a DX slot and an RX slot for each character
pub use Rattle.time_diversity.proofs.InOrder.{front_of_on_air, length_after_front, dx_after_front, rx_after_front, first_rx_after_front}
