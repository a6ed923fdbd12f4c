-- what the command stands for before its first line, and the room in its count
use Rattle.std.proofs.Common.{◌≡◌, ℕ, ◌+◌, ◌-◌, ◌<◌, ◌≤◌, ◌^◌, true, List, [], ◌++◌, length, take, drop, refl, sym, ◌∙◌, ap, ap₂, arith, append_assoc, length-append}
use Rattle.std.specs.List.{range_with_len}
use Rattle.std.proofs.lemmas.List.{length-map, length-take-le, take-take, drop-take}
use Rattle.std.proofs.Math.ListN.{take-append-drop}
use Rattle.std.proofs.lemmas.List.FromFn.{length-range_with_len}
use Rattle.std.proofs.lemmas.List.Sums.{length-filter, count_by-le-length}
use Rattle.ten_unit.specs.declared.character.Element.{Element}
use Rattle.phasing.specs.Origin.{is_phased}
use Rattle.long_capture.specs.declared.captures.Capture.{Capture}
use Rattle.long_capture.specs.Starts.{starts_below}
use Rattle.long_capture.specs.Captures.{StandsFor as CaptureStandsFor, IsOpen, taken, left, decided}
use Rattle.stream_capture.specs.declared.command.Capturing.{Capturing}
use Rattle.stream_capture.specs.Telling.{AnsweredStart, AreAnsweredStarts, told_text}
use Rattle.stream_capture.specs.inside.Progress.{HasTold, StandsFor}

none_told : (e : List Element) → AreAnsweredStarts e 0 []
unfolding starts_below
none_told e = record { leads = refl; answers = tt }

pub stands_new : (capture : Capture) → CaptureStandsFor capture [] → StandsFor (record { capture = capture; count = 0; is_well = true }) [] []
unfolding told_text
stands_new capture stands = record {
  said = [];
  are_lines = tt;
  told = record {
    stands = stands;
    told = [];
    are_told = λ more. none_told more;
    text_is = refl;
    counts = record { count_is = refl; well_is = refl };
  };
  short = omega arith;
}

-- ---- the room in its count

below_few : (e : List Element) (bound : ℕ) → length (starts_below e bound) ≤ bound
unfolding starts_below
below_few e bound = omega (
  arith,
  length-filter (is_phased e) (range_with_len 0 bound),
  count_by-le-length (is_phased e) (range_with_len 0 bound),
  length-range_with_len 0 bound,
)

pub few_told : (e : List Element) (bound : ℕ) (told : List AnsweredStart) → AreAnsweredStarts e bound told → length told ≤ bound
few_told e bound told are = omega (arith, length-map told (λ (one : AnsweredStart). one.lead), ap length are.leads, below_few e bound)

-- it may take so many elements more
pub record MayTake (command : Capturing) (more : ℕ) : Type 0 where
  pub few : command.count < 2 ^ 32 - 1
  pub short : taken command.capture + more ≤ 2 ^ 40
  pub going : IsOpen command.capture

pub may_take : (command : Capturing) (e : List Element) (text : List ℕ) (more : ℕ) → HasTold command e text → length e + more < 2 ^ 31 → MayTake command more
may_take command e text more h short =
    let count = few_told (e ++ []) (decided (length e)) h.told (h.are_told []) in
    record {
      few = omega (arith, h.counts.count_is, count, short);
      short = omega (arith, h.stands.count, short);
      going = h.stands.going;
    }

-- after a front of elements, it may take the rest
pub may_take_rest : (command : Capturing) (e xs : List Element) (i : ℕ) (text : List ℕ) → HasTold command (e ++ take i xs) text → length e + length xs < 2 ^ 31 → i ≤ length xs
    → MayTake command (length xs - i)
may_take_rest command e xs i text h short inside =
    may_take command (e ++ take i xs) text (length xs - i) h (omega (arith, length-append e (take i xs), length-take-le i xs inside, short, inside))

-- a front, and a front of the rest
pub fronts : (xs : List Element) (i n : ℕ) → take i xs ++ take n (drop i xs) ≡ take (i + n) xs
fronts xs i n =
    ap₂ (λ (a b : List Element). a ++ b) (sym (take-take i (i + n) xs (omega arith))) (sym (drop-take i n xs)) ∙ take-append-drop i (take (i + n) xs)

pub part_more : (e xs : List Element) (i n : ℕ) → (e ++ take i xs) ++ take n (drop i xs) ≡ e ++ take (i + n) xs
part_more e xs i n = append_assoc e (take i xs) (take n (drop i xs)) ∙ ap (λ (l : List Element). e ++ l) (fronts xs i n)

-- a start that is told at the end leaves fewer
pub fewer_left : (old new : Capturing) (lost : Capture) (most : ℕ) → old.count + left old.capture ≤ most → left lost < left old.capture → new.count ≡ old.count + 1 → new.capture ≡ lost
    → new.count + left new.capture ≤ most
fewer_left old new lost most room less count capture = omega (arith, room, less, count, ap left capture)
