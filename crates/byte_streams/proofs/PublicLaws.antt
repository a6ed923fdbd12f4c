-- Laws that proofs of other crates may cite. The other files here are this crate's own.

-- nothing was lost or gained where nothing was done, and what was lost or gained one after another is the two together
pub use Rattle.byte_streams.proofs.Runs.{Loses-none, Loses-more, Gains-none, Gains-more}
