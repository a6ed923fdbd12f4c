-- what is read of a stream, many elements at once
use Rattle.std.proofs.Common.{◌≡◌, ℕ, ◌+◌, ◌-◌, ◌<◌, ◌≤◌, List, [], ◌∷◌, ◌++◌, length, take, drop, get_or, slice_get, Option, Some, inl, inr, refl, arith, ap, sym, subst, ◌∙◌, append_assoc, length-append}
use Rattle.std.proofs.lemmas.Bool.{cases_lt}
use Rattle.std.proofs.lemmas.List.{length-take-le, get_or-take, get_or-drop, get_or_append_left, get_or-append_right}
use Rattle.ten_unit.specs.declared.character.Element.{Element}
use Rattle.ten_unit.specs.declared.character.Element.TheVariants.{Lost}
use Rattle.phasing.specs.inside.Places.{element_at}
use Rattle.long_capture.specs.declared.scans.Scan.{Scan}
use Rattle.long_capture.specs.declared.captures.Capture.{Capture}
use Rattle.long_capture.specs.declared.starts.Start.{Start}
use Rattle.long_capture.specs.Captures.{StandsFor, decided, reached}
use Rattle.long_capture.specs.Told.{AreQuiet, Tells}
use Rattle.long_capture.specs.inside.Reads.{Reads}
use Rattle.long_capture.proofs.Near.{at_index}
use Rattle.long_capture.proofs.LastElements.{length-put}
use Rattle.long_capture.proofs.Steps.{at_end}

-- so many of these elements are in the stream from a place on
abbrev pub AreNext : List Element → ℕ → ℕ → List Element → Type 0
AreNext e n count ys = (k : ℕ) → k < count → element_at e (n + 150 + k) ≡ get_or ys k Lost

-- the window with the next elements
window_block : (was : Scan) (window ys e : List Element) (n count : ℕ) → window ≡ drop count (was.window ++ ys) → Reads was e n → AreNext e n count ys
    → (k place : ℕ) → k < 1600 → place + 1450 ≡ n + count + k → get_or window k Lost ≡ element_at e place
window_block was window ys e n count put reads next k place below is =
    let long : length was.window ≡ 1600 = reads.long in
    ap (λ (w : List Element). get_or w k Lost) put ∙ get_or-drop count (was.window ++ ys) k Lost
    ∙ elim (cases_lt (count + k) 1600) as (λ _. get_or (was.window ++ ys) (count + k) Lost ≡ element_at e place) [
      | inl before ↦
          get_or_append_left was.window ys Lost (count + k) (omega (arith, long, before)) ∙ reads.window (count + k) place before (omega arith)
      | inr late ↦
          let there : n + 150 + (count + k - 1600) ≡ place = omega arith in
          get_or-append_right was.window ys 1600 (count + k) Lost long late ∙ sym (next (count + k - 1600) (omega arith)) ∙ ap (element_at e) there
    ]

-- as many as are known to decide no start
pub reads_block : (was : Scan) (window ys : List Element) (count : ℕ) → window ≡ drop count (was.window ++ ys) → length ys ≡ count → count ≤ was.quiet → (e : List Element) (n : ℕ) → Reads was e n
    → AreNext e n count ys → Reads (record { window = window; seen = was.seen + count; quiet = was.quiet - count }) e (n + count)
reads_block was window ys count put size few e n reads next = record {
  seen = omega (arith, reads.seen);
  long = ap length put ∙ length-put was.window ys count reads.long size;
  window = window_block was window ys e n count put reads next;
  quiet = λ k lead below is. reads.quiet (k + count) lead (omega arith) (omega arith);
  early = λ short. omega (arith, reads.early (omega arith));
}

pub quiet_block : (was : Scan) (count : ℕ) → count ≤ was.quiet → (e : List Element) (n : ℕ) → Reads was e n → AreQuiet e (n - 1449) (n + count - 1449)
quiet_block was count few e n reads = record {
  rising = omega arith;
  none = λ lead low high. reads.quiet (lead + 1449 - n) lead (omega arith) (omega arith);
}

-- the elements that were put after others
pub next_block : (e ys more : List Element) (count : ℕ) → length ys ≡ count → AreNext (e ++ (ys ++ more)) (length e) count ys
next_block e ys more count size k below =
    let place : length e + 150 + k ≡ 150 + (length e + k) = omega arith in
    let index : length e + k - length e ≡ k = omega arith in
    ap (element_at (e ++ (ys ++ more))) place ∙ at_index (e ++ (ys ++ more)) (length e + k)
    ∙ get_or-append_right e (ys ++ more) (length e) (length e + k) Lost refl (omega arith)
    ∙ ap (λ (i : ℕ). get_or (ys ++ more) i Lost) index
    ∙ get_or_append_left ys more Lost k (omega arith)

-- ---- what a block is for a stream

-- a front of some elements was taken, and decides no start
pub record IsSkip (old new : Scan) (xs : List Element) (count : ℕ) : Type 0 where
  pub front : count ≤ length xs
  pub seen : new.seen ≡ old.seen + count
  pub reads : (e : List Element) (n : ℕ) → Reads old e n → AreNext e n count xs → Reads new e (n + count)
  pub quiet : (e : List Element) (n : ℕ) → Reads old e n → AreQuiet e (n - 1449) (n + count - 1449)

-- a front of the elements is where they are
front_next : (e xs more : List Element) (count : ℕ) → count ≤ length xs → AreNext (e ++ (take count xs ++ more)) (length e) count xs
front_next e xs more count front k below = next_block e (take count xs) more count (length-take-le count xs front) k below ∙ get_or-take count xs k Lost below

pub skip_stands : (old new : Capture) (xs : List Element) (count : ℕ) → new.lost ≡ old.lost → IsSkip old.scan new.scan xs count → (e : List Element) → StandsFor old e → StandsFor new (e ++ take count xs)
skip_stands old new xs count lost skip e stands =
    let ys = take count xs in
    let size : length (e ++ ys) ≡ length e + count = omega (arith, length-append e ys, length-take-le count xs skip.front) in
    record {
      going = lost ∙ stands.going;
      count = omega (arith, size, skip.seen, stands.count, stands.going, lost);
      far = omega (arith, size, skip.seen, stands.count, stands.going);
      reads =
          λ more.
          subst (λ (n : ℕ). Reads new.scan ((e ++ ys) ++ more) n) (sym size)
          (subst (λ (l : List Element). Reads new.scan l (length e + count)) (sym (append_assoc e ys more))
          (skip.reads (e ++ (ys ++ more)) (length e) (stands.reads (ys ++ more)) (front_next e xs more count skip.front)));
    }

pub skip_tells : (old : Capture) (new : Scan) (xs : List Element) (count : ℕ) → IsSkip old.scan new xs count → (e more : List Element) → StandsFor old e → AreQuiet (e ++ (take count xs ++ more)) (reached old) (decided new.seen)
skip_tells old new xs count skip e more stands =
    let low : length e - 1449 ≡ old.scan.seen - 1449 = omega (arith, stands.count, stands.going) in
    let high : length e + count - 1449 ≡ new.seen - 1449 = omega (arith, stands.count, stands.going, skip.seen) in
    let f = e ++ (take count xs ++ more) in
    subst (λ (n : ℕ). AreQuiet f n (new.seen - 1449)) low
    (subst (λ (n : ℕ). AreQuiet f (length e - 1449) n) high (skip.quiet f (length e) (stands.reads (take count xs ++ more))))

-- none was taken
none_skipped : (old new : Scan) (xs e : List Element) (n : ℕ) → IsSkip old new xs 0 → Reads old e n → Reads new e n
none_skipped old new xs e n skip reads =
    let same : n + 0 ≡ n = omega arith in
    subst (λ (m : ℕ). Reads new e m) same (skip.reads e n reads (λ k below. absurd (omega arith)))

-- a step took this element
pub record IsStepOf (x : Element) (old new : Scan) (answer : Option Start) : Type 0 where
  pub seen : new.seen ≡ old.seen + 1
  pub reads : (e : List Element) (n : ℕ) → Reads old e n → element_at e (n + 150) ≡ x → Reads new e (n + 1)
  pub tells : (e : List Element) (n : ℕ) → Reads old e n → element_at e (n + 150) ≡ x → Tells e (n - 1449) (n + 1 - 1449) answer

-- the first element alone was taken, by a step
pub step_stands : (old new : Capture) (middle : Scan) (xs : List Element) (x : Element) (answer : Option Start) → new.lost ≡ old.lost → IsSkip old.scan middle xs 0 → IsStepOf x middle new.scan answer
    → take 1 xs ≡ x ∷ [] → (e : List Element) → StandsFor old e → StandsFor new (e ++ take 1 xs)
step_stands old new middle xs x answer lost skip step first e stands =
    let one : length (e ++ x ∷ []) ≡ length e + 1 = length-append e (x ∷ []) in
    subst (λ (l : List Element). StandsFor new (e ++ l)) (sym first)
    (record {
      going = lost ∙ stands.going;
      count = omega (arith, one, step.seen, skip.seen, stands.count, stands.going, lost);
      far = omega (arith, one, step.seen, skip.seen, stands.count, stands.going);
      reads =
          λ more.
          subst (λ (n : ℕ). Reads new.scan ((e ++ x ∷ []) ++ more) n) (sym one)
          (subst (λ (l : List Element). Reads new.scan l (length e + 1)) (sym (append_assoc e (x ∷ []) more))
          (step.reads (e ++ x ∷ more) (length e) (none_skipped old.scan middle xs (e ++ x ∷ more) (length e) skip (stands.reads (x ∷ more))) (at_end e x more)));
    })

pub step_tells : (old : Capture) (middle new : Scan) (xs : List Element) (x : Element) (answer : Option Start) → IsSkip old.scan middle xs 0 → IsStepOf x middle new answer → take 1 xs ≡ x ∷ []
    → (e more : List Element) → StandsFor old e → Tells (e ++ (take 1 xs ++ more)) (reached old) (decided new.seen) answer
step_tells old middle new xs x answer skip step first e more stands =
    let low : length e - 1449 ≡ old.scan.seen - 1449 = omega (arith, stands.count, stands.going) in
    let high : length e + 1 - 1449 ≡ new.seen - 1449 = omega (arith, stands.count, stands.going, step.seen, skip.seen) in
    subst (λ (l : List Element). Tells (e ++ (l ++ more)) (reached old) (decided new.seen) answer) (sym first)
    (subst (λ (n : ℕ). Tells (e ++ x ∷ more) n (new.seen - 1449) answer) low
    (subst (λ (n : ℕ). Tells (e ++ x ∷ more) (length e - 1449) n answer) high
    (step.tells (e ++ x ∷ more) (length e) (none_skipped old.scan middle xs (e ++ x ∷ more) (length e) skip (stands.reads (x ∷ more))) (at_end e x more))))

-- the first of some items
pub first_one : {X : Type 0} (xs : List X) (x : X) → Some x ≡ slice_get xs 0 → take 1 xs ≡ x ∷ []
first_one [] x is = absurd (cc)
first_one {X} (y ∷ xs) x is =
    let same : y ≡ x = cc in
    ap (λ (z : X). z ∷ []) same
