-- Laws that proofs of other crates may cite. The other files here are this crate's own.

-- the lines of each point of a file of an exchange are those of a sound grammar
pub use Rattle.traffic_lines.proofs.PointRows.{IsExchangePoint, world_grammar}
