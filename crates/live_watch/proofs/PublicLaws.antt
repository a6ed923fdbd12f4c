-- Laws that proofs of other crates may cite. The other files here are this crate's own.

-- of a batch of no receptions nothing is watched
pub use Rattle.live_watch.proofs.Watched.{no_batch}
