use Rattle.std.proofs.Common.{sym, ◌∙◌, ap, arith}
use Rattle.byte_streams.specs.Sure.{Supply}
use Rattle.byte_streams.proofs.Runs.{read_result}
use Rattle.byte_streams.proofs.sure.SureSourceSource.read.Goals as goal

pub returns-clause-bytes : goal.returns-clause-bytes
returns-clause-bytes c =
    ap (λ (s : Supply). s.left) (sym c.self.view_is) ∙ read_result _ _ _ _ _ _ c.deref.ensures.value c.copy_from_slice.ensures.after (omega arith)
