use Rattle.std.proofs.Common.{refl, arith}
use Rattle.stream_capture.proofs.Ready.{fewer_left}
use Rattle.stream_capture.proofs.Steps.{start_at_end, all_told}
use Rattle.stream_capture.proofs.command.Capturing.take_end.Goals as goal

pub append_start-requires : goal.append_start-requires
append_start-requires c = omega (arith, c.loop-start.invariant.0, c.requires)

pub loop-start-preserved : goal.loop-start-preserved
loop-start-preserved c = (
  fewer_left c.loop-start.self c.append_start.new.self c.finish.new.self _ c.loop-start.invariant.0 (c.in-Some.ensures.some refl) c.in_ok-append_start.ensures.count_is c.in_ok-append_start.ensures.capture_is,
  λ e text h.
      let told = c.loop-start.invariant.1 e text h in
      start_at_end (record { quiet = c.starts_go_on.ensures.quiet; next = c.starts_go_on.ensures.next }) c.loop-start.self _ c.append_start.new.self e c.in-Some.start text _ _ told
      (c.in-Some.ensures.ending e told.ending) (c.in-Some.ensures.tells e told.ending) refl refl c.in_ok-append_start.ensures,
)

pub returns : goal.returns
returns c = λ e text h.
    let told = c.loop-start.invariant.1 e text h in
    all_told (record { quiet = c.starts_go_on.ensures.quiet; next = c.starts_go_on.ensures.next }) c.loop-start.self _ e _ told
    (c.in_default.ensures.ending e told.ending) (c.in_default.ensures.tells e told.ending) (c.in_default.ensures.none e told.ending refl) refl refl
