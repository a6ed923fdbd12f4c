use Rattle.std.proofs.Common.{◌∷◌, [], ◌++◌, sym, ◌∙◌}
use Rattle.line_engine.specs.Saying.{said_determined}
use Rattle.command_tests.proofs.tests.engine.echoes_are_determined.Goals as goal

pub returns : goal.returns
returns c =
    said_determined _ (λ _ line. line ++ 10 ∷ []) (λ _. 0) (λ earlier line m n h k. h.1 ∙ sym k.1)
    (record { gives = λ lines text h. h; ends = λ lines text status h. h })
