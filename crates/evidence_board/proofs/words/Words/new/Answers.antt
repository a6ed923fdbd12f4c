use Rattle.evidence_board.proofs.Rests.{opening_kept}
use Rattle.evidence_board.proofs.words.Words.new.Goals as goal

pub of_words-requires : goal.of_words-requires
of_words-requires g c = opening_kept g.A.Allowed.facts c.empty_words-words.result c.empty_words-words.ensures.size c.empty_words-words.ensures.each
