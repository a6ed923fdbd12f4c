-- what is read of a stream, step by step
use Rattle.std.proofs.Common.{◌≡◌, ℕ, ◌+◌, ◌-◌, ◌<◌, ◌≤◌, false, List, [], ◌∷◌, ◌++◌, length, drop, get_or, replicate, Option, Some, None, is_some, inl, inr, refl, arith, ap, sym, ◌∙◌}
use Rattle.std.proofs.lemmas.Bool.{cases_lt}
use Rattle.std.proofs.lemmas.List.{get_or-replicate, length-replicate, get_or_past}
use Rattle.std.proofs.Math.Seq.{get_or-append_seam}
use Rattle.ten_unit.specs.declared.character.Element.{Element}
use Rattle.ten_unit.specs.declared.character.Element.TheVariants.{Lost}
use Rattle.phasing.specs.Origin.{is_phased}
use Rattle.phasing.specs.inside.Places.{element_at}
use Rattle.phasing.proofs.PublicLaws.{element_at-before}
use Rattle.long_capture.specs.declared.scans.Scan.{Scan}
use Rattle.long_capture.specs.declared.starts.Start.{Start}
use Rattle.long_capture.specs.Told.{AreQuiet, Tells}
use Rattle.long_capture.specs.inside.Reads.{IsWindow, Looks, Reads}
use Rattle.long_capture.proofs.Near.{at_index}
use Rattle.long_capture.proofs.LastElements.{pushed_before, pushed_last, length-pushed}

-- before the first element
pub reads_none : (window : List Element) → window ≡ replicate 1600 Lost → (e : List Element) → Reads (record { window = window; seen = 0; quiet = 1449 }) e 0
reads_none window lost e = record {
  seen = refl;
  long = ap length lost ∙ length-replicate 1600 Lost;
  window =
      λ k place below is.
      ap (λ (w : List Element). get_or w k Lost) lost ∙ get_or-replicate 1600 k Lost Lost below ∙ sym (element_at-before e place (omega arith));
  quiet = λ k lead below is. absurd (omega arith);
  early = λ _. refl;
}

-- the window with the next element
pub window_step : (was : Scan) (window : List Element) (x : Element) (e : List Element) (n : ℕ) → window ≡ drop 1 was.window ++ x ∷ [] → Reads was e n → element_at e (n + 150) ≡ x
    → (k place : ℕ) → k < 1600 → place + 1450 ≡ n + 1 + k → get_or window k Lost ≡ element_at e place
window_step was window x e n pushed reads here k place below is =
    let long : length was.window ≡ 1600 = reads.long in
    ap (λ (w : List Element). get_or w k Lost) pushed
    ∙ elim (cases_lt k 1599) as (λ _. get_or (drop 1 was.window ++ x ∷ []) k Lost ≡ element_at e place) [
      | inl before ↦ pushed_before Lost was.window x k long before ∙ reads.window (1 + k) place (omega arith) (omega arith)
      | inr last ↦
          let at : k ≡ 1599 = omega arith in
          let there : n + 150 ≡ place = omega arith in
          ap (λ (i : ℕ). get_or (drop 1 was.window ++ x ∷ []) i Lost) at ∙ pushed_last Lost was.window x long ∙ sym here ∙ ap (element_at e) there
    ]

pub long_step : (was : Scan) (window : List Element) (x : Element) (e : List Element) (n : ℕ) → window ≡ drop 1 was.window ++ x ∷ [] → Reads was e n → length window ≡ 1600
long_step was window x e n pushed reads = ap length pushed ∙ length-pushed was.window x reads.long

-- without a look
pub reads_on : (was : Scan) (window : List Element) (x : Element) → window ≡ drop 1 was.window ++ x ∷ [] → 0 < was.quiet → (e : List Element) (n : ℕ) → Reads was e n → element_at e (n + 150) ≡ x
    → Reads (record { window = window; seen = was.seen + 1; quiet = was.quiet - 1 }) e (n + 1)
reads_on was window x pushed some e n reads here = record {
  seen = omega (arith, reads.seen);
  long = long_step was window x e n pushed reads;
  window = window_step was window x e n pushed reads here;
  quiet = λ k lead below is. reads.quiet (k + 1) lead (omega arith) (omega arith);
  early = λ few. omega (arith, reads.early (omega arith));
}

pub quiet_on : (was : Scan) (e : List Element) (n : ℕ) → 0 < was.quiet → Reads was e n → AreQuiet e (n - 1449) (n + 1 - 1449)
quiet_on was e n some reads = record {
  rising = omega arith;
  none = λ lead low high. reads.quiet 0 lead some (omega arith);
}

-- a look comes where the first origin can be decided, and not before
pub late_enough : (was : Scan) (e : List Element) (n : ℕ) → was.quiet ≤ 0 → Reads was e n → 1449 ≤ n
late_enough was e n none reads =
    elim (cases_lt n 1450) [ inl few ↦ omega (arith, reads.early few) | inr many ↦ omega arith ]

pub window_at : (was : Scan) (window : List Element) (x : Element) (e : List Element) (n : ℕ) → window ≡ drop 1 was.window ++ x ∷ [] → Reads was e n → element_at e (n + 150) ≡ x → 1449 ≤ n → IsWindow window e (n - 1449)
window_at was window x e n pushed reads here late = record {
  long = long_step was window x e n pushed reads;
  same = λ k below. window_step was window x e n pushed reads here k (n - 1449 + k) below (omega arith);
}

-- what a look says of the leads after it
looked_quiet : (e : List Element) (q : ℕ) (answer : Option Start) (quiet : ℕ) → Looks e q answer quiet → (k : ℕ) → k < quiet → is_phased e (q + 1 + k) ≡ false
looked_quiet e q None quiet looks k below =
    let index : q + 1 + k ≡ q + (k + 1) = omega arith in
    ap (is_phased e) index ∙ looks (k + 1) (omega arith)
looked_quiet e q (Some start) quiet looks k below = looks.1 k below

-- with a look
pub reads_looked : (was new : Scan) (window : List Element) (x : Element) (answer : Option Start) → window ≡ drop 1 was.window ++ x ∷ [] → was.quiet ≤ 0 → new.window ≡ window → new.seen ≡ was.seen + 1
    → (e : List Element) (n : ℕ) → Reads was e n → element_at e (n + 150) ≡ x → Looks e (n - 1449) answer new.quiet → Reads new e (n + 1)
reads_looked was new window x answer pushed none kept seen e n reads here looks =
    let late = late_enough was e n none reads in
    record {
      seen = omega (arith, reads.seen);
      long = ap length kept ∙ long_step was window x e n pushed reads;
      window =
          λ k place below is.
          ap (λ (w : List Element). get_or w k Lost) kept ∙ window_step was window x e n pushed reads here k place below is;
      quiet =
          λ k lead below is.
          let index : lead ≡ n - 1449 + 1 + k = omega arith in
          ap (is_phased e) index ∙ looked_quiet e (n - 1449) answer new.quiet looks k below;
      early = λ few. absurd (omega arith);
    }

pub tells_looked : (e : List Element) (n quiet : ℕ) (answer : Option Start) → 1449 ≤ n → Looks e (n - 1449) answer quiet → Tells e (n - 1449) (n + 1 - 1449) answer
tells_looked e n quiet None late looks = record {
  rising = omega arith;
  none =
      λ lead low high.
      let index : lead ≡ n - 1449 + 0 = omega arith in
      ap (is_phased e) index ∙ looks 0 (omega arith);
}
tells_looked e n quiet (Some start) late looks = record {
  lead = n - 1449;
  last = omega arith;
  quiet = record { rising = omega arith; none = λ lead low high. absurd (omega arith) };
  is = looks.0;
}

pub quiet_joined : (e : List Element) (low middle high : ℕ) → AreQuiet e low middle → AreQuiet e middle high → AreQuiet e low high
quiet_joined e low middle high first second = record {
  rising = omega (arith, first.rising, second.rising);
  none =
      λ lead from below.
      elim (cases_lt lead middle) [ inl early ↦ first.none lead from early | inr late ↦ second.none lead late below ];
}

-- quiet leads before those of an answer
pub tells_later : (e : List Element) (low middle high : ℕ) (answer : Option Start) → AreQuiet e low middle → Tells e middle high answer → Tells e low high answer
tells_later e low middle high None quiet tells = quiet_joined e low middle high quiet tells
tells_later e low middle high (Some start) quiet tells = record {
  lead = tells.lead;
  last = tells.last;
  quiet = quiet_joined e low middle tells.lead quiet tells.quiet;
  is = tells.is;
}

-- an answer without a start
pub tells_none : (e : List Element) (low high : ℕ) (answer : Option Start) → is_some answer ≡ false → Tells e low high answer → AreQuiet e low high
tells_none e low high None none tells = tells
tells_none e low high (Some start) none tells = absurd (cc)

-- the element that was put after others
pub at_end : (e : List Element) (x : Element) (more : List Element) → element_at (e ++ x ∷ more) (length e + 150) ≡ x
at_end e x more =
    let place : length e + 150 ≡ 150 + length e = omega arith in
    ap (element_at (e ++ x ∷ more)) place ∙ at_index (e ++ x ∷ more) (length e) ∙ get_or-append_seam e x more Lost

-- past the end elements are lost
pub at_past : (e : List Element) (n : ℕ) → element_at e (length e + n + 150) ≡ Lost
at_past e n =
    let place : length e + n + 150 ≡ 150 + (length e + n) = omega arith in
    ap (element_at e) place ∙ at_index e (length e + n) ∙ get_or_past e (length e + n) Lost (omega arith)
