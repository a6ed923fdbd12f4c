-- elements that are kept as bits: one of them, and one more after them
use Rattle.std.proofs.Common.{◌≡◌, ◌≢◌, ℕ, ◌+◌, ◌*◌, ◌/◌, ◌%◌, ◌^◌, ◌<◌, ◌≤◌, Bool, cond, bit_and, bit_or, inl, inr, false, true, List, [], ◌∷◌, ◌++◌, length, get_or, set, slice_index_or, refl, sym, ap, subst, ◌∙◌, arith}
use Rattle.std.specs.Int.{bit_at, w64}
use Rattle.std.proofs.lemmas.Bool.{cases_eq, cases_lt}
use Rattle.std.proofs.lemmas.Nat.{or_lt}
use Rattle.std.proofs.lemmas.Nat.Bits.{bit_at-lt, bit_at_set_same, bit_at_set_other, shr_and_one}
use Rattle.std.proofs.lemmas.List.{get_or_past, get_or_default, get_or_append_left, get_or_push, get_or-set_same, get_or-set_other, length-set, length_push}
use Rattle.std.proofs.Math.Nat.{div-add-mod}
use Rattle.ten_unit.specs.declared.character.Element.{Element}
use Rattle.ten_unit.specs.declared.character.Element.TheVariants.{Y, B, Lost}
use Rattle.ten_unit.specs.declared.packing.Planes.{Planes}
use Rattle.ten_unit.specs.inside.Marks.{IsMarks, IsPlanes}
use Rattle.ten_unit.specs.Word.{element_eq}
use Rattle.phasing.specs.Packed.{Keep, element_of_bits, elements_in, no_planes}
use Rattle.phasing.specs.inside.Places.{element_at}
use Rattle.phasing.proofs.PackedBits.{kept_count, kept_element, place_at}

-- an element by tests of its bits
pub told_y : (y b i : ℕ) → bit_and (y / 2 ^ i) 1 ≡ 1 → Y ≡ element_of_bits (bit_at y i) (bit_at b i)
told_y y b i set = ap (λ (n : ℕ). element_of_bits n (bit_at b i)) (sym set ∙ shr_and_one y i)

no_bit : (n i : ℕ) → bit_and (n / 2 ^ i) 1 ≢ 1 → bit_at n i ≡ 0
no_bit n i other = let few : bit_at n i < 2 = bit_at-lt n i in let not_one : bit_at n i ≢ 1 = λ is. other (shr_and_one n i ∙ is) in omega arith

pub told_b : (y b i : ℕ) → bit_and (y / 2 ^ i) 1 ≢ 1 → bit_and (b / 2 ^ i) 1 ≡ 1 → B ≡ element_of_bits (bit_at y i) (bit_at b i)
told_b y b i other set =
    ap (λ (n : ℕ). element_of_bits 0 n) (sym set ∙ shr_and_one b i) ∙ ap (λ (n : ℕ). element_of_bits n (bit_at b i)) (sym (no_bit y i other))

pub told_lost : (y b i : ℕ) → bit_and (y / 2 ^ i) 1 ≢ 1 → bit_and (b / 2 ^ i) 1 ≢ 1 → Lost ≡ element_of_bits (bit_at y i) (bit_at b i)
told_lost y b i other neither =
    ap (λ (n : ℕ). element_of_bits 0 n) (sym (no_bit b i neither)) ∙ ap (λ (n : ℕ). element_of_bits n (bit_at b i)) (sym (no_bit y i other))

pub told_kept : (planes : List Planes) (e : List Element) (n i : ℕ) (here d : Planes) → Keep planes (elements_in planes n) → elements_in planes n ≡ e → here ≡ slice_index_or planes (i / 64) d → i < length e
    → element_of_bits (bit_at here.y (i % 64)) (bit_at here.b (i % 64)) ≡ get_or e i Lost
told_kept planes e n i here d kept is at inside =
    let keep = subst (Keep planes) is kept in
    let there : i / 64 < length planes = omega (arith, keep.room, inside) in
    ap (λ (h : Planes). element_of_bits (bit_at h.y (i % 64)) (bit_at h.b (i % 64))) (at ∙ get_or_default planes (i / 64) d no_planes there) ∙ kept_element planes e i keep inside

-- a word with one bit more, and one that stays
more_marks : (w at base : ℕ) (e f : ℕ → Element) (x : Element) → at < 64 → IsMarks w base (λ p. element_eq (e p) x) → f (base + at) ≡ x → element_eq x x ≡ true
    → ((i : ℕ) → i < 64 → i ≢ at → f (base + i) ≡ e (base + i)) → IsMarks (bit_or w (1 * 2 ^ at % 2 ^ 64)) base (λ p. element_eq (f p) x)
more_marks w at base e f x inside marks here own others = record {
  fits = or_lt 64 w (1 * 2 ^ at % 2 ^ 64) marks.fits (omega arith);
  each =
      λ i below.
      elim (cases_eq i at) [
        | inl same ↦
            ap (bit_at (bit_or w (1 * 2 ^ at % 2 ^ 64))) same ∙ bit_at_set_same w64 w at inside
            ∙ sym (ap (λ (n : ℕ). cond (element_eq (f (base + n)) x) 1 0) same ∙ ap (λ (y : Element). cond (element_eq y x) 1 0) here ∙ ap (λ (b : Bool). cond b 1 0) own)
        | inr other ↦
            bit_at_set_other w64 w at inside i other ∙ marks.each i below ∙ ap (λ (y : Element). cond (element_eq y x) 1 0) (sym (others i below other))
      ];
}

same_word : (w at base : ℕ) (e f : ℕ → Element) (x : Element) → IsMarks w base (λ p. element_eq (e p) x) → element_eq (f (base + at)) x ≡ element_eq (e (base + at)) x
    → ((i : ℕ) → i < 64 → i ≢ at → f (base + i) ≡ e (base + i)) → IsMarks w base (λ p. element_eq (f p) x)
same_word w at base e f x marks here others = record {
  fits = marks.fits;
  each =
      λ i below.
      marks.each i below
      ∙ elim (cases_eq i at) as (λ _. ◌≡◌ {A = ℕ} (cond (element_eq (e (base + i)) x) 1 0) (cond (element_eq (f (base + i)) x) 1 0)) [
        | inl same ↦ ap (λ (b : Bool). cond b 1 0) (ap (λ (n : ℕ). element_eq (e (base + n)) x) same ∙ sym here ∙ sym (ap (λ (n : ℕ). element_eq (f (base + n)) x) same))
        | inr other ↦ ap (λ (y : Element). cond (element_eq y x) 1 0) (sym (others i below other))
      ];
}

-- one element of a block in place of a lost one
pub record Differ (at base : ℕ) (e f : ℕ → Element) (x : Element) : Type 0 where
  pub lost : e (base + at) ≡ Lost
  pub here : f (base + at) ≡ x
  pub others : (i : ℕ) → i < 64 → i ≢ at → f (base + i) ≡ e (base + i)

untouched : (at base : ℕ) (e f : ℕ → Element) (x z : Element) → Differ at base e f x → element_eq x z ≡ false → element_eq Lost z ≡ false → element_eq (f (base + at)) z ≡ element_eq (e (base + at)) z
untouched at base e f x z d other lost =
    ap (λ (y : Element). element_eq y z) d.here ∙ other ∙ sym (ap (λ (y : Element). element_eq y z) d.lost ∙ lost)

pub with_y : (here : Planes) (at base : ℕ) (e f : ℕ → Element) → at < 64 → IsPlanes here.y here.b base e → Differ at base e f Y → IsPlanes (bit_or here.y (1 * 2 ^ at % 2 ^ 64)) here.b base f
with_y here at base e f inside is d = record {
  ys = more_marks here.y at base e f Y inside is.ys d.here refl d.others;
  bs = same_word here.b at base e f B is.bs (untouched at base e f Y B d refl refl) d.others;
}

pub with_b : (here : Planes) (at base : ℕ) (e f : ℕ → Element) → at < 64 → IsPlanes here.y here.b base e → Differ at base e f B → IsPlanes here.y (bit_or here.b (1 * 2 ^ at % 2 ^ 64)) base f
with_b here at base e f inside is d = record {
  ys = same_word here.y at base e f Y is.ys (untouched at base e f B Y d refl refl) d.others;
  bs = more_marks here.b at base e f B inside is.bs d.here refl d.others;
}

pub with_lost : (here : Planes) (at base : ℕ) (e f : ℕ → Element) → IsPlanes here.y here.b base e → Differ at base e f Lost → IsPlanes here.y here.b base f
with_lost here at base e f is d = record {
  ys = same_word here.y at base e f Y is.ys (untouched at base e f Lost Y d refl refl) d.others;
  bs = same_word here.b at base e f B is.bs (untouched at base e f Lost B d refl refl) d.others;
}

-- a list with one element more
other_at : (e : List Element) (x : Element) (p : ℕ) → p ≢ length e → get_or (e ++ x ∷ []) p Lost ≡ get_or e p Lost
other_at e x p other =
    elim (cases_lt p (length e)) as (λ _. get_or (e ++ x ∷ []) p Lost ≡ get_or e p Lost) [
      | inl inside ↦ get_or_append_left e (x ∷ []) Lost p inside
      | inr past ↦
          get_or_past (e ++ x ∷ []) p Lost (omega (arith, length_push e x)) ∙ sym (get_or_past e p Lost past)
    ]

pub differ : (e : List Element) (x : Element) → Differ (length e % 64) (64 * (length e / 64) + 150) (element_at e) (element_at (e ++ x ∷ [])) x
differ e x =
    let k = length e / 64 in
    let whole : 64 * k + length e % 64 ≡ length e = div-add-mod (length e) 64 in
    record {
      lost = place_at e k (length e % 64) ∙ get_or_past e (64 * k + length e % 64) Lost (omega arith);
      here = place_at (e ++ x ∷ []) k (length e % 64) ∙ get_or_push e x Lost _ (sym whole);
      others =
          λ i below other.
          place_at (e ++ x ∷ []) k i ∙ other_at e x (64 * k + i) (λ is. other (omega arith)) ∙ sym (place_at e k i);
    }

-- the words of a block, counted from the reception's first element
marks_from : (word k : ℕ) (e : List Element) (x : Element) → IsMarks word (64 * k + 150) (λ p. element_eq (element_at e p) x) → IsMarks word (64 * k) (λ p. element_eq (get_or e p Lost) x)
marks_from word k e x h = record {
  fits = h.fits;
  each = λ i below. h.each i below ∙ ap (λ (y : Element). cond (element_eq y x) 1 0) (place_at e k i);
}

marks_of_more : (word k : ℕ) (e : List Element) (x z : Element) → k ≢ length e / 64 → IsMarks word (64 * k) (λ p. element_eq (get_or e p Lost) z) → IsMarks word (64 * k) (λ p. element_eq (get_or (e ++ x ∷ []) p Lost) z)
marks_of_more word k e x z other h = record {
  fits = h.fits;
  each = λ i below. h.each i below ∙ ap (λ (y : Element). cond (element_eq y z) 1 0) (sym (other_at e x (64 * k + i) (λ is. other (omega arith))));
}

pub none_kept : Keep [] []
none_kept = record { room = omega arith; each = λ k below. absurd (omega arith) }

-- new words in the last block, and the others as before
pub kept_more : (planes new : List Planes) (here : Planes) (e : List Element) (x : Element) → Keep planes e → IsPlanes here.y here.b (64 * (length e / 64) + 150) (element_at (e ++ x ∷ []))
    → length e < 64 * length new → here ≡ slice_index_or new (length e / 64) no_planes
    → ((k : ℕ) → k < length new → k ≢ length e / 64 → (k < length planes) × (slice_index_or planes k no_planes ≡ slice_index_or new k no_planes)) → Keep new (e ++ x ∷ [])
kept_more planes new here e x kept is room at others = record {
  room = omega (arith, room, length_push e x);
  each =
      λ k below.
      elim (cases_eq k (length e / 64)) [
        | inl same ↦
            subst (λ (n : ℕ). IsPlanes (slice_index_or new n no_planes).y (slice_index_or new n no_planes).b (64 * n) (λ p. get_or (e ++ x ∷ []) p Lost)) (sym same)
            (subst (λ (h : Planes). IsPlanes h.y h.b (64 * (length e / 64)) (λ p. get_or (e ++ x ∷ []) p Lost)) at
            (record { ys = marks_from here.y (length e / 64) (e ++ x ∷ []) Y is.ys; bs = marks_from here.b (length e / 64) (e ++ x ∷ []) B is.bs }))
        | inr other ↦
            let old = others k below other in
            let was = kept.each k old.0 in
            subst (λ (h : Planes). IsPlanes h.y h.b (64 * k) (λ p. get_or (e ++ x ∷ []) p Lost)) old.1
            (record { ys = marks_of_more _ k e x Y other was.ys; bs = marks_of_more _ k e x B other was.bs })
      ];
}

-- what one function says of the words that it changed at one place
abbrev Changed : ℕ → Planes → Planes → Element → Type 0
Changed at was here x =
    (base : ℕ) (e f : ℕ → Element) → IsPlanes was.y was.b base e → e (base + at) ≡ Lost → f (base + at) ≡ x → ((i : ℕ) → i < 64 → i ≢ at → f (base + i) ≡ e (base + i)) → IsPlanes here.y here.b base f

last_words : (was here : Planes) (e : List Element) (x : Element) (n : ℕ) → n ≡ length e → IsPlanes was.y was.b (64 * (n / 64) + 150) (element_at e) → Changed (n % 64) was here x
    → IsPlanes here.y here.b (64 * (length e / 64) + 150) (element_at (e ++ x ∷ []))
last_words was here e x n count is changed =
    let d = differ e x in
    subst (λ (m : ℕ). Changed (m % 64) was here x) count changed (64 * (length e / 64) + 150) (element_at e) (element_at (e ++ x ∷ []))
    (subst (λ (m : ℕ). IsPlanes was.y was.b (64 * (m / 64) + 150) (element_at e)) count is) d.lost d.here d.others

module _ (planes new : List Planes) (was here : Planes) (e : List Element) (x : Element) (n : ℕ) (kept : Keep planes (elements_in planes n)) (is : elements_in planes n ≡ e)
    (words : IsPlanes was.y was.b (64 * (n / 64) + 150) (element_at e)) (changed : Changed (n % 64) was here x) where
  count : n ≡ length e
  count = kept_count planes n e is

  keep : Keep planes e
  keep = subst (Keep planes) is kept

  pub kept_push : length planes ≤ n / 64 → new ≡ planes ++ here ∷ [] → Keep new (e ++ x ∷ [])
  kept_push past same =
      let last : length planes ≡ length e / 64 = omega (arith, keep.room, count, past) in
      let long : length new ≡ length planes + 1 = ap length same ∙ length_push planes here in
      kept_more planes new here e x keep (last_words was here e x n count words changed) (omega arith)
      (sym (ap (λ (l : List Planes). get_or l (length e / 64) no_planes) same ∙ get_or_push planes here no_planes (length e / 64) last))
      (λ k below other.
      let inside : k < length planes = omega arith in
      (inside, sym (ap (λ (l : List Planes). get_or l k no_planes) same ∙ get_or_append_left planes (here ∷ []) no_planes k inside)))

  pub kept_set : n / 64 < length planes → new ≡ set planes (n / 64) here → Keep new (e ++ x ∷ [])
  kept_set before same =
      let inside : length e / 64 < length planes = omega (arith, count, before) in
      let here_set : new ≡ set planes (length e / 64) here = same ∙ ap (λ (m : ℕ). set planes (m / 64) here) count in
      let long : length new ≡ length planes = ap length same ∙ length-set planes (n / 64) here in
      kept_more planes new here e x keep (last_words was here e x n count words changed) (omega arith)
      (sym (ap (λ (l : List Planes). get_or l (length e / 64) no_planes) here_set ∙ get_or-set_same planes (length e / 64) here no_planes inside))
      (λ k below other.
      (omega arith, sym (ap (λ (l : List Planes). get_or l k no_planes) here_set ∙ get_or-set_other planes (length e / 64) k here no_planes other)))
