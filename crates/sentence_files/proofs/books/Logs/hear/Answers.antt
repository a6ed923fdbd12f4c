use Rattle.std.proofs.lemmas.Result.{on_ok_weaker}
use Rattle.sentence_files.proofs.Heard.{heard_taken}
use Rattle.sentence_files.proofs.books.Logs.hear.Goals as goal

pub returns-in-Ok : goal.returns-in-Ok
returns-in-Ok c =
    on_ok_weaker c.note.result (λ rows. heard_taken c.args.self.now c.note.new.self c.args.line.now c.in-Ok.heard c.requires c.in-Ok.ensures rows c.note.ensures.refused) c.note.ensures.rows
