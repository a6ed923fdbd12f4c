-- the facts of groups determine what is told of them
use Rattle.std.proofs.Common.{◌≡◌, ℕ, List, subst}
use Rattle.line_engine.specs.Lines.{Lines}
use Rattle.input_lines.specs.ReceiverLine.{ReceiverLine}
use Rattle.join_groups.specs.Groups.{AreLines}
use Rattle.join_groups.specs.Output.{Telling, IsGroupsText}
use Rattle.join_groups.specs.Meanings.{EndsTelling}
use Rattle.join_groups.specs.Laws.{HaveAlikeFacts}
use Rattle.join_groups.proofs.LinesTaken.{OneLine, same_said}
use Rattle.join_groups.proofs.Determined.{TellsOnce, same_text}
use Rattle.join_groups.proofs.TextLaws.{GoesOver, text_over}

pub alike_over : (tells : Telling) → GoesOver tells → (said other : List ReceiverLine) (text : List ℕ) (status : ℕ) → HaveAlikeFacts said other
    → IsGroupsText tells said text status → IsGroupsText tells other text status
alike_over tells over said other text status same = text_over tells over said other text status same.named same.alike

-- inputs with alike facts have one text and status
pub alike_ends : OneLine → (tells : Telling) → GoesOver tells → TellsOnce tells → (first second : Lines) (said other : List ReceiverLine) → AreLines said first → AreLines other second
    → HaveAlikeFacts said other → (a b : List ℕ) (s t : ℕ) → EndsTelling tells first a s → EndsTelling tells second b t → (a ≡ b) × (s ≡ t)
alike_ends one tells over once first second said other are_first are_second same a b s t x y =
    let here : x.said ≡ said = same_said one x.said said first x.are_lines are_first in
    let there : y.said ≡ other = same_said one y.said other second y.are_lines are_second in
    same_text tells once other a b s t
    (alike_over tells over said other a s same (subst (λ (w : List ReceiverLine). IsGroupsText tells w a s) here x.is_text))
    (subst (λ (w : List ReceiverLine). IsGroupsText tells w b t) there y.is_text)
