-- elements that are kept as bits, and what two words of bits keep
use Rattle.std.proofs.Common.{◌≡◌, ℕ, ◌+◌, ◌-◌, ◌*◌, ◌/◌, ◌%◌, ◌<◌, ◌≤◌, ◌==◌, Bool, cond, min, inl, inr, true, false, ◌&&◌, zero, suc, List, [], ◌∷◌, ◌++◌, length, map, take, drop, replicate, slice_index_or, get_or, refl, sym, ap, subst, ◌∙◌, arith}
use Rattle.std.specs.List.{list_all}
use Rattle.std.proofs.lemmas.Grind.{div_ceil_times}
use Rattle.std.proofs.lemmas.Bool.{and_parts, and_from, cases_lt, false_from_ne_true}
use Rattle.std.proofs.lemmas.Bool.Decides.{nat_tests}
use Rattle.std.proofs.lemmas.List.{get_or_past, get_or_default, get_or-take, get_or-drop, get_or_append_left, get_or_push, length_push, length-map, length-take-le, length-drop, drop-drop, take_all}
use Rattle.std.proofs.lemmas.List.Folds.{list_all-append}
use Rattle.std.proofs.lemmas.List.FromFn.{fill_by_all, length-map-range_with_len}
use Rattle.std.proofs.Math.ListN.{get_or-map}
use Rattle.std.proofs.Math.Nat.{div-add-mod}
use Rattle.std.proofs.Math.Seq.{take-add}
use Rattle.ten_unit.specs.declared.character.Element.{Element}
use Rattle.ten_unit.specs.declared.character.Element.TheVariants.{Y, B, Lost}
use Rattle.ten_unit.specs.declared.packing.Planes.{Planes}
use Rattle.ten_unit.specs.inside.Marks.{IsMarks, IsPlanes}
use Rattle.ten_unit.specs.Word.{element_eq}
use Rattle.ten_unit.specs.Signs.{element_of, is_sign}
use Rattle.phasing.specs.Packed.{Keep, element_of_bits, element_in, elements_in, no_planes}
use Rattle.phasing.specs.inside.Places.{element_at}
use Rattle.phasing.proofs.BitTests.{no_marks, same_marks}
use Rattle.phasing.proofs.Padding.{padded_at, padded_length}
use Rattle.phasing.proofs.Words.{element_at-inside}

-- an element by its bits
decoded : (x : Element) (y b : ℕ) → y ≡ cond (element_eq x Y) 1 0 → b ≡ cond (element_eq x B) 1 0 → element_of_bits y b ≡ x
decoded Y y b is_y is_b = ap (λ (n : ℕ). element_of_bits n b) is_y
decoded B y b is_y is_b = ap (λ (n : ℕ). element_of_bits n b) is_y ∙ ap (λ (n : ℕ). element_of_bits 0 n) is_b
decoded Lost y b is_y is_b = ap (λ (n : ℕ). element_of_bits n b) is_y ∙ ap (λ (n : ℕ). element_of_bits 0 n) is_b

pub kept_element : (planes : List Planes) (e : List Element) (i : ℕ) → Keep planes e → i < length e → element_in planes i ≡ get_or e i Lost
kept_element planes e i kept inside =
    let k = i / 64 in
    let j = i % 64 in
    let whole : 64 * k + j ≡ i = div-add-mod i 64 in
    let few : j < 64 = omega arith in
    let there : k < length planes = omega (arith, kept.room, inside, whole) in
    let is = kept.each k there in
    decoded (get_or e (64 * k + j) Lost) _ _ (is.ys.each j few) (is.bs.each j few) ∙ ap (λ (n : ℕ). get_or e n Lost) whole

pub kept_view : (planes : List Planes) (e : List Element) (n : ℕ) → Keep planes e → n ≡ length e → elements_in planes n ≡ e
unfolding elements_in
kept_view planes e n kept count = sym (fill_by_all (element_in planes) e n Lost (sym count) (λ i below. sym (kept_element planes e i kept (omega (arith, count, below)))))

pub kept_same : (planes : List Planes) (e : List Element) (n : ℕ) → Keep planes e → n ≡ length e → Keep planes (elements_in planes n)
kept_same planes e n kept count = subst (Keep planes) (sym (kept_view planes e n kept count)) kept

-- how many are kept
pub kept_count : (planes : List Planes) (n : ℕ) (e : List Element) → elements_in planes n ≡ e → n ≡ length e
unfolding elements_in
kept_count planes n e is = sym (length-map-range_with_len (element_in planes) 0 n) ∙ ap length is

-- the elements of a place, from the reception's first on
pub place_at : (e : List Element) (k i : ℕ) → element_at e (64 * k + 150 + i) ≡ get_or e (64 * k + i) Lost
place_at e k i =
    let index : 64 * k + 150 + i - 150 ≡ 64 * k + i = omega arith in
    element_at-inside e (64 * k + 150 + i) (omega arith) ∙ ap (λ (n : ℕ). get_or e n Lost) index

marks_at : (word k : ℕ) (e : List Element) (x : Element) → IsMarks word (64 * k) (λ p. element_eq (get_or e p Lost) x) → IsMarks word (64 * k + 150) (λ p. element_eq (element_at e p) x)
marks_at word k e x h = record {
  fits = h.fits;
  each = λ i below. h.each i below ∙ ap (λ (y : Element). cond (element_eq y x) 1 0) (sym (place_at e k i));
}

pub words_kept : (planes : List Planes) (e : List Element) (k : ℕ) (here : Planes) → Keep planes e → k < length planes → here ≡ slice_index_or planes k no_planes → IsPlanes here.y here.b (64 * k + 150) (element_at e)
words_kept planes e k here kept inside is =
    subst (λ (h : Planes). IsPlanes h.y h.b (64 * k + 150) (element_at e)) (sym is)
    (record { ys = marks_at _ k e Y (kept.each k inside).ys; bs = marks_at _ k e B (kept.each k inside).bs })

-- past the last words elements are lost
lost_at : (planes : List Planes) (e : List Element) (k i : ℕ) (x : Element) → Keep planes e → length planes ≤ k → element_eq Lost x ≡ false → element_eq (element_at e (64 * k + 150 + i)) x ≡ false
lost_at planes e k i x kept past other =
    ap (λ (y : Element). element_eq y x) (place_at e k i ∙ get_or_past e (64 * k + i) Lost (omega (arith, kept.room, past))) ∙ other

pub words_past : (planes : List Planes) (e : List Element) (k : ℕ) → Keep planes e → length planes ≤ k → IsPlanes 0 0 (64 * k + 150) (element_at e)
words_past planes e k kept past = record {
  ys = no_marks (64 * k + 150) (λ p. element_eq (element_at e p) Y) (λ i below. lost_at planes e k i Y kept past refl);
  bs = no_marks (64 * k + 150) (λ p. element_eq (element_at e p) B) (λ i below. lost_at planes e k i B kept past refl);
}

-- two planes of elements, and what they are from a place between on
pub planes_between : (y b begin : ℕ) (here next : Planes) (e : ℕ → Element)
    → ((base : ℕ) (f : ℕ → Bool) → IsMarks here.y base f → IsMarks next.y (base + 64) f → IsMarks y (base + begin % 64) f)
    → ((base : ℕ) (f : ℕ → Bool) → IsMarks here.b base f → IsMarks next.b (base + 64) f → IsMarks b (base + begin % 64) f)
    → IsPlanes here.y here.b (64 * (begin / 64) + 150) e → IsPlanes next.y next.b (64 * (begin / 64 + 1) + 150) e → IsPlanes y b (begin + 150) e
planes_between y b begin here next e made_y made_b first second =
    let base = 64 * (begin / 64) + 150 in
    let behind : 64 * (begin / 64 + 1) + 150 ≡ base + 64 = omega arith in
    let there : base + begin % 64 ≡ begin + 150 = omega (arith, div-add-mod begin 64) in
    let moved = subst (λ (n : ℕ). IsPlanes next.y next.b n e) behind second in
    subst (λ (n : ℕ). IsPlanes y b n e) there
    (record { ys = made_y base (λ p. element_eq (e p) Y) first.ys moved.ys; bs = made_b base (λ p. element_eq (e p) B) first.bs moved.bs })

-- the signs of so many blocks are packed
pub record PackedSoFar (signs : List ℕ) (n : ℕ) (planes : List Planes) : Type 0 where
  pub long : length planes ≡ n
  pub all : list_all is_sign (take (64 * n) signs) ≡ true
  pub each : (k : ℕ) → k < n → IsPlanes (slice_index_or planes k no_planes).y (slice_index_or planes k no_planes).b (64 * k) (λ p. element_of (get_or signs p 45))

all_dropped : (p : ℕ → Bool) (xs : List ℕ) (n : ℕ) → list_all p xs ≡ true → list_all p (drop n xs) ≡ true
all_dropped p xs zero h = h
all_dropped p [] (suc n) h = h
all_dropped p (x ∷ xs) (suc n) h = all_dropped p xs n (and_parts (p x) (list_all p xs) h).1

and_true : (t : Bool) → (t && true) ≡ t
and_true true = refl
and_true false = refl

-- 64 bytes are the signs from one of them on, and after the last sign those of lost elements
pub record IsBlock (signs : List ℕ) (begin : ℕ) (block : List ℕ) : Type 0 where
  pub each : (i : ℕ) → i < 64 → get_or block i 0 ≡ get_or signs (begin + i) 45
  pub all : list_all is_sign block ≡ list_all is_sign (take 64 (drop begin signs))

-- a whole block
pub block_inside : (signs block rest : List ℕ) (begin : ℕ) → rest ≡ drop begin signs → block ≡ take 64 rest → length block ≡ 64 → IsBlock signs begin block
block_inside signs block rest begin is same long = record {
  each =
      λ i below.
      get_or_default block i 0 45 (omega (arith, long, below))
      ∙ ap (λ (l : List ℕ). get_or l i 45) (same ∙ ap (take 64) is)
      ∙ get_or-take 64 (drop begin signs) i 45 below
      ∙ get_or-drop begin signs i 45;
  all = ap (list_all is_sign) (same ∙ ap (take 64) is);
}

-- the last signs, fewer than 64
padding : (n : ℕ) → list_all is_sign (drop n (replicate 64 45)) ≡ true
padding n = all_dropped is_sign (replicate 64 45) n refl

pub block_padded : (signs block rest : List ℕ) (begin : ℕ) → rest ≡ drop begin signs → length rest < 64 → block ≡ rest ++ drop (length rest) (replicate 64 45) → IsBlock signs begin block
block_padded signs block rest begin is few same =
    let front = rest ++ drop (length rest) (replicate 64 45) in
    let long : length front ≡ 64 = padded_length rest 45 few in
    let whole : take 64 (drop begin signs) ≡ rest = ap (take 64) (sym is) ∙ take_all 64 rest (omega (arith, few)) in
    record {
      each =
          λ i below.
          ap (λ (l : List ℕ). get_or l i 0) same
          ∙ get_or_default front i 0 45 (omega (arith, long, below))
          ∙ padded_at rest 45 i below
          ∙ ap (λ (l : List ℕ). get_or l i 45) is
          ∙ get_or-drop begin signs i 45;
      all =
          ap (list_all is_sign) same
          ∙ list_all-append is_sign rest (drop (length rest) (replicate 64 45))
          ∙ ap (λ (t : Bool). list_all is_sign rest && t) (padding (length rest))
          ∙ and_true (list_all is_sign rest)
          ∙ ap (list_all is_sign) (sym whole);
    }

-- one block more
pub packed_more : (signs : List ℕ) (n : ℕ) (planes new : List Planes) (here : Planes) → PackedSoFar signs n planes → IsPlanes here.y here.b (64 * n) (λ p. element_of (get_or signs p 45))
    → list_all is_sign (take 64 (drop (64 * n) signs)) ≡ true → new ≡ planes ++ here ∷ [] → PackedSoFar signs (n + 1) new
packed_more signs n planes new here so is all e =
    let next : 64 * (n + 1) ≡ 64 * n + 64 = omega arith in
    record {
      long = ap length e ∙ length_push planes here ∙ ap (λ (k : ℕ). k + 1) so.long;
      all =
          ap (λ (k : ℕ). list_all is_sign (take k signs)) next
          ∙ ap (list_all is_sign) (take-add (64 * n) 64 signs)
          ∙ list_all-append is_sign (take (64 * n) signs) (take 64 (drop (64 * n) signs))
          ∙ and_from (list_all is_sign (take (64 * n) signs)) (list_all is_sign (take 64 (drop (64 * n) signs))) so.all all;
      each =
          λ k below.
          elim (cases_lt k n) [
            | inl before ↦
                let same : slice_index_or planes k no_planes ≡ slice_index_or new k no_planes =
                sym (ap (λ (l : List Planes). get_or l k no_planes) e ∙ get_or_append_left planes (here ∷ []) no_planes k (omega (arith, before, so.long)))
                in
                subst (λ (h : Planes). IsPlanes h.y h.b (64 * k) (λ p. element_of (get_or signs p 45))) same (so.each k before)
            | inr last ↦
                let at : n ≡ k = omega arith in
                let same : here ≡ slice_index_or new k no_planes =
                sym (ap (λ (l : List Planes). get_or l k no_planes) e ∙ get_or_push planes here no_planes k (so.long ∙ at))
                in
                subst (λ (m : ℕ). IsPlanes (slice_index_or new k no_planes).y (slice_index_or new k no_planes).b (64 * m) (λ p. element_of (get_or signs p 45))) at
                (subst (λ (h : Planes). IsPlanes h.y h.b (64 * n) (λ p. element_of (get_or signs p 45))) same is)
          ];
    }

all_taken : (p : ℕ → Bool) (xs : List ℕ) (n : ℕ) → list_all p xs ≡ true → list_all p (take n xs) ≡ true
all_taken p xs zero h = refl
all_taken p [] (suc n) h = h
all_taken p (x ∷ xs) (suc n) h =
    let parts = and_parts (p x) (list_all p xs) h in
    and_from (p x) (list_all p (take n xs)) parts.0 (all_taken p xs n parts.1)

pub not_all : (signs : List ℕ) (begin : ℕ) → list_all is_sign (take 64 (drop begin signs)) ≡ false → list_all is_sign signs ≡ false
not_all signs begin fails =
    false_from_ne_true (list_all is_sign signs) (λ all.
    let h = sym fails ∙ all_taken is_sign (drop begin signs) 64 (all_dropped is_sign signs begin all) in absurd (cc))

-- a block with a byte that is no sign
pub not_all_of : (signs block : List ℕ) (begin : ℕ) → IsBlock signs begin block → list_all is_sign block ≡ false → list_all is_sign signs ≡ false
not_all_of signs block begin is fails = not_all signs begin (sym is.all ∙ fails)

pub all_blocks : (n ceiling block : ℕ) → ceiling ≡ n / 64 + min 1 (n % 64) → ceiling ≤ block → n ≤ 64 * block
all_blocks n ceiling block is past = let times = div_ceil_times n 64 (omega arith) in omega (arith, times.0, is, past)

-- all blocks are packed
pub packed_signs : (signs : List ℕ) (n : ℕ) (planes : List Planes) → PackedSoFar signs n planes → length signs ≤ 64 * n → list_all is_sign signs ≡ true
packed_signs signs n planes so enough = ap (list_all is_sign) (sym (take_all (64 * n) signs enough)) ∙ so.all

pub packed_keep : (signs : List ℕ) (n : ℕ) (planes : List Planes) → PackedSoFar signs n planes → length signs ≤ 64 * n → Keep planes (map element_of signs)
packed_keep signs n planes so enough = record {
  room = (omega (arith, enough, so.long, length-map signs element_of));
  each =
      λ k below.
      let is = so.each k (omega (arith, so.long, below)) in
      record { ys = same_marks _ (64 * k) _ _ (λ p. ap (λ (x : Element). element_eq x Y) (sym (get_or-map element_of signs p 45))) is.ys; bs = same_marks _ (64 * k) _ _ (λ p. ap (λ (x : Element). element_eq x B) (sym (get_or-map element_of signs p 45))) is.bs };
}

-- so many blocks of elements are packed
pub record KeptSoFar (e : List Element) (n : ℕ) (planes : List Planes) : Type 0 where
  pub long : length planes ≡ n
  pub each : (k : ℕ) → k < n → IsPlanes (slice_index_or planes k no_planes).y (slice_index_or planes k no_planes).b (64 * k) (λ p. get_or e p Lost)

pub kept_keep : (e : List Element) (n : ℕ) (planes : List Planes) → KeptSoFar e n planes → length e ≤ 64 * n → Keep planes e
kept_keep e n planes so enough = record { room = (omega (arith, enough, so.long)); each = λ k below. so.each k (omega (arith, so.long, below)) }

-- the whole blocks of a front are packed, and this is the rest
pub record PackedFront (signs rest : List ℕ) (planes : List Planes) : Type 0 where
  pub so_far : PackedSoFar signs (length planes) planes
  pub behind : rest ≡ drop (64 * length planes) signs

pub none_packed : (signs : List ℕ) (planes : List Planes) → planes ≡ [] → PackedFront signs signs planes
none_packed signs planes empty =
    subst (PackedFront signs signs) (sym empty)
    (record {
      so_far = record { long = refl; all = refl; each = λ k below. absurd (omega (arith, below)) };
      behind = refl;
    })

-- a whole block of the rest
pub front_block : (signs rest block : List ℕ) (planes : List Planes) → PackedFront signs rest planes → block ≡ take 64 rest → 64 ≤ length rest → IsBlock signs (64 * length planes) block
front_block signs rest block planes front same enough =
    block_inside signs block rest (64 * length planes) front.behind same (ap length same ∙ length-take-le 64 rest enough)

-- no sign is left
pub none_left : (n : ℕ) → true ≡ (n == 0) → n ≡ 0
none_left n h = grind (arith, nat_tests, h)

pub some_left : (n : ℕ) → false ≡ (n == 0) → 0 < n
some_left n h = grind (arith, nat_tests, h)

-- one block more
pub front_more : (signs rest more block : List ℕ) (planes new : List Planes) (here : Planes) → PackedFront signs rest planes → IsBlock signs (64 * length planes) block → list_all is_sign block ≡ true
    → ((base : ℕ) (e : ℕ → Element) → ((i : ℕ) → i < 64 → e (base + i) ≡ element_of (get_or block i 0)) → IsPlanes here.y here.b base e)
    → new ≡ planes ++ here ∷ [] → more ≡ drop 64 rest → PackedFront signs more new
front_more signs rest more block planes new here front is all made longer left =
    let n = length planes in
    let planes_here = made (64 * n) (λ p. element_of (get_or signs p 45)) (λ i below. ap element_of (sym (is.each i below))) in
    let so = packed_more signs n planes new here front.so_far planes_here (sym is.all ∙ all) longer in
    let count : 64 * n + 64 ≡ 64 * length new = omega (arith, so.long) in
    record {
      so_far = subst (λ (k : ℕ). PackedSoFar signs k new) (sym so.long) so;
      behind = left ∙ ap (drop 64) front.behind ∙ drop-drop 64 (64 * n) signs ∙ ap (λ (k : ℕ). drop k signs) count;
    }

-- how many are left
pub front_left : (signs rest : List ℕ) (planes : List Planes) → PackedFront signs rest planes → length rest ≡ length signs - 64 * length planes
front_left signs rest planes front = ap length front.behind ∙ length-drop (64 * length planes) signs

-- all signs are packed where none is left
front_enough : (signs rest : List ℕ) (planes : List Planes) → PackedFront signs rest planes → length rest ≡ 0 → length signs ≤ 64 * length planes
front_enough signs rest planes front none = omega (arith, front_left signs rest planes front, none)

pub front_signs : (signs rest : List ℕ) (planes : List Planes) → PackedFront signs rest planes → length rest ≡ 0 → list_all is_sign signs ≡ true
front_signs signs rest planes front none = packed_signs signs (length planes) planes front.so_far (front_enough signs rest planes front none)

front_kept : (signs rest : List ℕ) (planes : List Planes) → PackedFront signs rest planes → length rest ≡ 0 → Keep planes (map element_of signs)
front_kept signs rest planes front none = packed_keep signs (length planes) planes front.so_far (front_enough signs rest planes front none)

pub front_keep : (signs rest : List ℕ) (planes : List Planes) → PackedFront signs rest planes → length rest ≡ 0 → Keep planes (elements_in planes (length signs))
front_keep signs rest planes front none = kept_same planes (map element_of signs) (length signs) (front_kept signs rest planes front none) (sym (length-map signs element_of))

pub front_view : (signs rest : List ℕ) (planes : List Planes) → PackedFront signs rest planes → length rest ≡ 0 → elements_in planes (length signs) ≡ map element_of signs
front_view signs rest planes front none = kept_view planes (map element_of signs) (length signs) (front_kept signs rest planes front none) (sym (length-map signs element_of))
