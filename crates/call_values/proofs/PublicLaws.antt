-- Laws that proofs of other crates may cite. The other files here are this crate's own.

-- ends of sequence have symbols of their own, which are characters
pub use Rattle.call_values.proofs.Values.{end_one, end_small}
-- positions, and areas, with the same parts are the same
pub use Rattle.call_values.proofs.Values.{same_fix, same_area}
