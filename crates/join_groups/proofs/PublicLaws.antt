-- Laws that proofs of other crates may cite. The other files here are this crate's own.

-- sets of the same facts are equal
pub use Rattle.join_groups.proofs.Naming.{same_facts}
-- one line more: which groups are named, and their facts
pub use Rattle.join_groups.proofs.Naming.{named_push, facts_push, facts_of_others}
-- a line, and lines, give no facts of a group that they don't name; a line of one group gives facts of this group alone
pub use Rattle.join_groups.proofs.Naming.{unnamed_line, unnamed_facts}
pub use Rattle.join_groups.proofs.Keeping.{line_of_one}
-- numbers that rise are known by which they are
pub use Rattle.join_groups.proofs.Rising.{same_rising}
-- what is held of groups is held of the same groups and facts
pub use Rattle.join_groups.proofs.Holding.{holds_same}
-- before the first line all is kept
pub use Rattle.join_groups.proofs.Keeping.{keeps_none}
-- lines one after another, and that lines say one thing
pub use Rattle.join_groups.proofs.LinesTaken.{lines_push, same_said}
-- groups are full exactly where a line brings one too many
pub use Rattle.join_groups.proofs.Keeping.{full_brings, brings_full}
-- what a line says, once it is read
pub use Rattle.join_groups.proofs.Keeping.{says_reception, says_evidence, short_read}
-- the groups that lines name can be listed, and facts of lines are symbols of characters
pub use Rattle.join_groups.proofs.NotLacking.{groups_of, AreSome, some_lines, group_small, AnswerLaw}
