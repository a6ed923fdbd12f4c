use Rattle.std.proofs.Common.{ℕ, ◌==◌, ◌∙◌, ap₂}
use Rattle.slot_join.specs.Answer.{is_reported}
use Rattle.generated_join.specs.Summary.{Answered}
use Rattle.generated_join.proofs.Counting.{all_are}
use Rattle.generated_join.proofs.summary.Summary.is_whole.Goals as goal

pub returns : goal.returns
returns c = λ said is. ap₂ (λ (a b : ℕ). a == b) is.reported is.groups ∙ all_are (λ (one : Answered). is_reported one.answer) is.all
