use Rattle.std.proofs.Common.{◌≡◌, length, sym, ◌∙◌, ap, arith}
use Rattle.std.proofs.lemmas.Bool.{eqb-true}
use Rattle.std.proofs.lemmas.List.{nil_from_length}
use Rattle.std.proofs.lemmas.Result.{on_ok_weaker}
use Rattle.line_engine.specs.Lines.{lines_of}
use Rattle.line_engine.proofs.Cutting.{cut_all, no_lines, not_empty}
use Rattle.line_engine.proofs.Faultless.{takes_none, takes_last}
use Rattle.line_engine.proofs.walk.take_last.Goals as goal

pub returns-then-is_empty-clause-taken : goal.returns-then-is_empty-clause-taken
returns-then-is_empty-clause-taken g c = λ lines text stands e.
    let none : length c.args.rest.now ≡ 0 = eqb-true _ 0 (sym c.if-is_empty.ensures) in
    takes_none (lines_of c.args.rest.now) (ap lines_of (nil_from_length c.args.rest.now none) ∙ no_lines) (omega arith) stands

pub returns-clause-taken : goal.returns-clause-taken
returns-clause-taken g c =
    on_ok_weaker c.take_line.result (takes_last {meaning = g.C.Command.meaning} {stands_for = g.C.Command.stands_for} {new = c.take_line.new.command} {count = c.args.count} c.args.command.now c.args.rest.now c.args.out.now.items c.take_line.new.out.items (cut_all c.args.rest.now c.requires.open_end (not_empty _ c.if-is_empty.ensures))) c.take_line.ensures.taken
