use Rattle.std.proofs.Common.{◌∙◌, refl, sym, arith}
use Rattle.long_capture.specs.Captures.{decided, reached}
use Rattle.long_capture.proofs.Endings.{IsStep, ending_step, tells_step, all_reached}
use Rattle.long_capture.proofs.Steps.{tells_later, tells_none, quiet_joined}
use Rattle.long_capture.proofs.captures.Capture.finish.Goals as goal

pub loop-self-init : goal.loop-self-init
loop-self-init c = record {
  fewer = omega arith;
  ending = λ e ending. ending;
  quiet = λ e ending. record { rising = omega arith; none = λ lead low high. absurd (omega arith) };
}

pub returns-then-is_some-clause-ending : goal.returns-then-is_some-clause-ending
returns-then-is_some-clause-ending c = λ e ending.
    let step : IsStep c.loop-self.self.scan c.step-start.new.self c.step-start.result = record { seen = c.step-start.ensures.seen; reads = c.step-start.ensures.reads; tells = c.step-start.ensures.tells } in
    ending_step c.loop-self.self _ c.step-start.result c.loop-self-test.true refl step e (c.loop-self.invariant.ending e ending)

pub returns-then-is_some-clause-tells : goal.returns-then-is_some-clause-tells
returns-then-is_some-clause-tells c = λ e ending.
    let step : IsStep c.loop-self.self.scan c.step-start.new.self c.step-start.result = record { seen = c.step-start.ensures.seen; reads = c.step-start.ensures.reads; tells = c.step-start.ensures.tells } in
    tells_later e (reached c.args.self.now) (reached c.loop-self.self) (decided c.step-start.new.self.seen) c.step-start.result (c.loop-self.invariant.quiet e ending)
    (tells_step c.loop-self.self c.step-start.new.self c.step-start.result step e (c.loop-self.invariant.ending e ending))

pub loop-self-preserved : goal.loop-self-preserved
loop-self-preserved c =
    let step : IsStep c.loop-self.self.scan c.step-start.new.self c.step-start.result = record { seen = c.step-start.ensures.seen; reads = c.step-start.ensures.reads; tells = c.step-start.ensures.tells } in
    record {
      fewer = omega (arith, c.loop-self.invariant.fewer);
      ending = λ e ending. ending_step c.loop-self.self _ c.step-start.result c.loop-self-test.true refl step e (c.loop-self.invariant.ending e ending);
      quiet =
          λ e ending.
          quiet_joined e (reached c.args.self.now) (reached c.loop-self.self) (decided c.step-start.new.self.seen) (c.loop-self.invariant.quiet e ending)
          (tells_none e (reached c.loop-self.self) (decided c.step-start.new.self.seen) c.step-start.result (sym c.is_some.ensures ∙ c.if-is_some.false)
          (tells_step c.loop-self.self c.step-start.new.self c.step-start.result step e (c.loop-self.invariant.ending e ending)));
    }

pub returns-clause-none : goal.returns-clause-none
returns-clause-none c = λ e ending none. all_reached c.loop-self.self e c.loop-self-test.false (c.loop-self.invariant.ending e ending)
