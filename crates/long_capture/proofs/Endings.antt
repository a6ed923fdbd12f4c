-- lost elements after a stream's end
use Rattle.std.proofs.Common.{◌≡◌, ℕ, ◌+◌, ◌-◌, ◌<◌, ◌≤◌, List, length, Option, arith, subst}
use Rattle.ten_unit.specs.declared.character.Element.{Element}
use Rattle.ten_unit.specs.declared.character.Element.TheVariants.{Lost}
use Rattle.phasing.specs.inside.Places.{element_at}
use Rattle.long_capture.specs.declared.captures.Capture.{Capture}
use Rattle.long_capture.specs.declared.scans.Scan.{Scan}
use Rattle.long_capture.specs.declared.starts.Start.{Start}
use Rattle.long_capture.specs.Captures.{decided, reached, Ending}
use Rattle.long_capture.specs.Told.{Tells}
use Rattle.long_capture.specs.inside.Reads.{Reads}
use Rattle.long_capture.proofs.Steps.{at_past}

-- what one step does
pub record IsStep (was new : Scan) (answer : Option Start) : Type 0 where
  pub seen : new.seen ≡ was.seen + 1
  pub reads : (e : List Element) (n : ℕ) → Reads was e n → element_at e (n + 150) ≡ Lost → Reads new e (n + 1)
  pub tells : (e : List Element) (n : ℕ) → Reads was e n → element_at e (n + 150) ≡ Lost → Tells e (n - 1449) (n + 1 - 1449) answer

pub ending_step : (was new : Capture) (answer : Option Start) → was.lost < 1599 → new.lost ≡ was.lost + 1 → IsStep was.scan new.scan answer → (e : List Element) → Ending was e → Ending new e
ending_step was new answer room lost step e ending =
    let count : length e + was.lost + 1 ≡ length e + new.lost = omega arith in
    record {
      some = omega arith;
      far = omega (arith, ending.far, step.seen);
      reads =
          subst (λ (n : ℕ). Reads new.scan e n) count
          (step.reads e (length e + was.lost) ending.reads (at_past e was.lost));
    }

pub tells_step : (was : Capture) (new : Scan) (answer : Option Start) → IsStep was.scan new answer → (e : List Element) → Ending was e → Tells e (reached was) (decided new.seen) answer
tells_step was new answer step e ending =
    let low : length e + was.lost - 1449 ≡ reached was = omega (arith, ending.reads.seen) in
    let high : length e + was.lost + 1 - 1449 ≡ decided new.seen = omega (arith, ending.reads.seen, step.seen) in
    subst (λ (n : ℕ). Tells e n (decided new.seen) answer) low
    (subst (λ (n : ℕ). Tells e (length e + was.lost - 1449) n answer) high
    (step.tells e (length e + was.lost) ending.reads (at_past e was.lost)))

-- where all lost elements were given, all leads are decided
pub all_reached : (capture : Capture) (e : List Element) → 1599 ≤ capture.lost → Ending capture e → reached capture ≡ length e + 150
all_reached capture e all ending = omega (arith, ending.some, ending.reads.seen)
