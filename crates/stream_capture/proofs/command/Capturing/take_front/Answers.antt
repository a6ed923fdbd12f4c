use Rattle.std.proofs.Common.{◌++◌, Option, map, take, refl, subst}
use Rattle.ten_unit.specs.Signs.{element_of}
use Rattle.long_capture.specs.declared.starts.Start.{Start}
use Rattle.long_capture.specs.Captures.{reached}
use Rattle.long_capture.specs.Told.{Tells}
use Rattle.stream_capture.proofs.Steps.{start_taken, quiet_taken}
use Rattle.stream_capture.proofs.command.Capturing.take_front.Goals as goal

pub returns-in_ok-append_start-in-Some-clause-told : goal.returns-in_ok-append_start-in-Some-clause-told
returns-in_ok-append_start-in-Some-clause-told c = λ e text h.
    let block = c.take_signs-block in
    let xs = take block.result.count (map element_of c.args.signs.now) in
    start_taken (record { quiet = c.starts_go_on.ensures.quiet; next = c.starts_go_on.ensures.next }) c.args.self.now _ c.append_start.new.self e xs c.in-Some.start text _ _ h
    (block.ensures.stands e h.stands)
    (λ more.
    subst (λ (answer : Option Start). Tells (e ++ (xs ++ more)) (reached c.args.self.now.capture) (reached block.new.self) answer) c.in-Some.is
    (block.ensures.tells e more h.stands)) refl refl c.in_ok-append_start-in-Some.ensures

pub returns-in-None-clause-told : goal.returns-in-None-clause-told
returns-in-None-clause-told c = λ e text h.
    let block = c.take_signs-block in
    let xs = take block.result.count (map element_of c.args.signs.now) in
    quiet_taken (record { quiet = c.starts_go_on.ensures.quiet; next = c.starts_go_on.ensures.next }) c.args.self.now _ e xs (text ++ c.args.out.now.items) h
    (block.ensures.stands e h.stands)
    (λ more.
    subst (λ (answer : Option Start). Tells (e ++ (xs ++ more)) (reached c.args.self.now.capture) (reached block.new.self) answer) c.in-None.is
    (block.ensures.tells e more h.stands)) refl refl
