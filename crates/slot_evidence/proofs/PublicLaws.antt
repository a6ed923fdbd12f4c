-- Laws that proofs of other crates may cite. The other files here are this crate's own.

-- the same facts have the same sheets
pub use Rattle.slot_evidence.proofs.Ends.{IsEnds-same}
-- what is kept of a set of symbols says where its edges are, and the other way round; so do two sets together
pub use Rattle.slot_evidence.proofs.Edges.{seen_edges, edges_seen, edges_met, order_met}
-- a set of symbols and one that shows none are seen as the first
pub use Rattle.slot_evidence.proofs.Sets.{or_none-seen}
-- what the numbers of a place say: one symbol, or two that differ
pub use Rattle.slot_evidence.proofs.Kept.{one_or_differ}
-- what is kept of a lawful place is kept of the symbols that it names, and the blank sheet shows nothing
pub use Rattle.slot_evidence.proofs.Ends.{seen_by, blank_at}
-- a symbol that is kept was shown, and receptions show places and symbols that there are
pub use Rattle.slot_evidence.proofs.Ends.{kept_shown, fact_small, all_small}
-- a least symbol below the number past the greatest is in order
pub use Rattle.slot_evidence.proofs.Edges.{order_some}
-- a symbol is between itself and itself; sets that have the same symbols are alike, either way round
pub use Rattle.slot_evidence.proofs.Alike.{itself, same_alike, flip_alike}
