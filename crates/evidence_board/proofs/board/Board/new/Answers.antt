use Rattle.std.proofs.Common.{subst, sym}
use Rattle.slot_evidence.specs.Facts.{no_facts}
use Rattle.slot_evidence.specs.Sheet.{IsEnds}
use Rattle.evidence_board.specs.declared.seats.TheConstants.{WHOLE}
use Rattle.evidence_board.specs.Views.{View, given_sheet, seen_sheet}
use Rattle.evidence_board.proofs.Unions.{nothing_given, nothing_seen}
use Rattle.evidence_board.proofs.board.Board.new.Goals as goal

pub returns-clause-empty : goal.returns-clause-empty
returns-clause-empty g c = subst (λ (v : View). IsEnds no_facts (given_sheet v)) (sym c.first.ensures.view) (nothing_given WHOLE)

pub returns-clause-unseen : goal.returns-clause-unseen
returns-clause-unseen g c = subst (λ (v : View). IsEnds no_facts (seen_sheet v)) (sym c.first.ensures.view) (nothing_seen WHOLE)
