-- positions, times, areas, frequencies and addresses in their digits
use Rattle.std.proofs.Common.{◌≡◌, ℕ, suc, ◌+◌, ◌-◌, ◌≤◌, true, List, [], ◌∷◌, ◌++◌, length, slice_index_or, ◌⊎◌, inl, inr, Option, Some, None, codes, refl, sym, ◌∙◌, ap, append_assoc, arith}
use Rattle.std.proofs.lemmas.Bool.Decides.{nat_tests}
use Rattle.std.proofs.lemmas.List.{append_cancel_left}
use Rattle.line_grammar.specs.Shapes.{Shape, letters, fixed_number, pair, choice, is_within, digits, IsShaped}
use Rattle.line_grammar.specs.Tokens.{IsToken}
use Rattle.line_grammar.proofs.ShapesNumerals.{digits_length}
use Rattle.line_grammar.proofs.Digits.{one_number, one_front}
use Rattle.call_values.specs.declared.positions.Fix.{Fix}
use Rattle.call_values.specs.declared.fields.FieldKind.{FieldKind}
use Rattle.call_values.specs.declared.fields.FieldKind.TheVariants.{Absent, Hundreds, Hf, Vhf, Tens}
use Rattle.call_values.specs.declared.parts.To.{To}
use Rattle.call_values.specs.declared.parts.To.TheVariants as to
use Rattle.call_values.specs.Clock.{IsHourMinute}
use Rattle.call_values.specs.Positions.{IsArc, IsFix, IsPosition}
use Rattle.call_values.specs.Areas.{Rectangle, IsArea}
use Rattle.call_values.specs.Fields.{IsField}
use Rattle.call_values.specs.Parts.{IsTo}
use Rattle.call_values.proofs.PublicLaws.{same_fix, same_area}
use Rattle.call_texts.specs.CallGrammar.{minutes, position, time, area_shape, area, frequency, address}
use Rattle.call_texts.specs.CallParts.{time_text, position_text, area_text, frequency_text, address_text}
use Rattle.line_grammar.proofs.Sections.{TokenTexts}
use Rattle.call_texts.proofs.SymbolTexts.{identity_told}

-- a number up to the most in so many digits
pub up_to : (width most n : ℕ) → n ≤ most → IsShaped (fixed_number width ((0, most) ∷ [])) (digits width n)
up_to width most n h = (n, grind (arith, nat_tests), refl)

pub most_of : (width most : ℕ) (bytes : List ℕ) (h : IsShaped (fixed_number width ((0, most) ∷ [])) bytes) → h.0 ≤ most
most_of width most bytes h = let e = h.1 in grind (arith, nat_tests)

-- times
eights : codes "8888" ≡ digits 2 88 ++ digits 2 88
unfolding digits
eights = refl

time_is : (t : Option (ℕ × ℕ)) → IsHourMinute t → IsToken time (time_text t)
time_is t h = grind arith

time_of : (bytes : List ℕ) → IsToken time bytes → (t : Option (ℕ × ℕ)) × IsHourMinute t × (bytes ≡ time_text t)
time_of bytes (inl h) =
    let hour = most_of 2 23 h.0 h.3 in
    let minute = most_of 2 59 h.1 h.4 in
    (Some (h.3.0, h.4.0), (omega (arith, hour), omega (arith, minute)), h.2 ∙ ap (λ (l : List ℕ). l ++ h.1) h.3.2 ∙ ap (λ (l : List ℕ). digits 2 h.3.0 ++ l) h.4.2)
time_of bytes (inr e) = (None, tt, e)

time_unknown : (t : ℕ × ℕ) → IsHourMinute (Some t) → digits 2 t.0 ++ digits 2 t.1 ≡ codes "8888" → ⊥
time_unknown t h e = let same = one_front 2 t.0 88 (digits 2 t.1) (digits 2 88) (omega (arith, h.0)) (omega arith) (e ∙ eights) in omega (arith, same.0, h.0)

time_one : (s t : Option (ℕ × ℕ)) → IsHourMinute s → IsHourMinute t → time_text s ≡ time_text t → s ≡ t
time_one None None h k e = refl
time_one (Some s) None h k e = absurd (time_unknown s h e)
time_one None (Some t) h k e = absurd (time_unknown t k (sym e))
time_one (Some s) (Some t) h k e =
    let front = one_front 2 s.0 t.0 (digits 2 s.1) (digits 2 t.1) (omega (arith, h.0)) (omega (arith, k.0)) e in
    let back = one_number 2 s.1 t.1 (omega (arith, h.1)) (omega (arith, k.1)) front.1 in
    ap (λ (n : ℕ). Some (n, s.1)) front.0 ∙ ap (λ (n : ℕ). Some (t.0, n)) back

pub time_told : TokenTexts time IsHourMinute time_text
time_told = record { is = time_is; of = time_of; one = time_one }

-- arcs of latitude and of longitude
abbrev arc : (width most : ℕ) (pole : List ℕ) → Shape
arc width most pole = choice (pair (fixed_number width ((0, most) ∷ [])) minutes) (letters pole)

arc_minutes : (degrees least most : ℕ) → IsArc degrees least most → (least ≤ 59) × (degrees ≤ most)
arc_minutes degrees least most h = (grind arith, grind arith)

arc_is : (width most degrees least : ℕ) (pole : List ℕ) → pole ≡ digits width (suc most) ++ digits 2 0 → IsArc degrees least (suc most) → IsShaped (arc width most pole) (digits width degrees ++ digits 2 least)
arc_is width most degrees least pole e h = grind arith

arc_of : (width most : ℕ) (pole bytes : List ℕ) → pole ≡ digits width (suc most) ++ digits 2 0 → IsShaped (arc width most pole) bytes
    → (degrees : ℕ) × (least : ℕ) × IsArc degrees least (suc most) × (bytes ≡ digits width degrees ++ digits 2 least)
arc_of width most pole bytes e h = grind arith

-- positions
north_pole : codes "9000" ≡ digits 2 90 ++ digits 2 0
unfolding digits
north_pole = refl

date_line : codes "18000" ≡ digits 3 180 ++ digits 2 0
unfolding digits
date_line = refl

nines : codes "9999999999" ≡ digits 1 9 ++ codes "999999999"
unfolding digits
nines = refl

position_is : (p : Option Fix) → IsPosition p → IsToken position (position_text p)
position_is (Some f) h = inl (
  digits 1 f.quadrant,
  (digits 2 f.lat_deg ++ digits 2 f.lat_min) ++ (digits 3 f.lon_deg ++ digits 2 f.lon_min),
  refl,
  up_to 1 3 f.quadrant h.quadrant,
  (
    digits 2 f.lat_deg ++ digits 2 f.lat_min,
    digits 3 f.lon_deg ++ digits 2 f.lon_min,
    refl,
    arc_is 2 89 f.lat_deg f.lat_min (codes "9000") north_pole h.latitude,
    arc_is 3 179 f.lon_deg f.lon_min (codes "18000") date_line h.longitude,
  ),
)
position_is None h = inr refl

position_of : (bytes : List ℕ) → IsToken position bytes → (p : Option Fix) × IsPosition p × (bytes ≡ position_text p)
position_of bytes (inl h) =
    let quadrant = h.3 in
    let lat = arc_of 2 89 (codes "9000") h.4.0 north_pole h.4.3 in
    let lon = arc_of 3 179 (codes "18000") h.4.1 date_line h.4.4 in
    let f : Fix = record { quadrant = quadrant.0; lat_deg = lat.0; lat_min = lat.1; lon_deg = lon.0; lon_min = lon.1 } in
    let lawful : IsFix f = record { quadrant = most_of 1 3 h.0 quadrant; latitude = lat.2; longitude = lon.2 } in (
      Some f,
      lawful,
      h.2 ∙ ap (λ (l : List ℕ). l ++ h.1) quadrant.2 ∙ ap (λ (l : List ℕ). digits 1 quadrant.0 ++ l) (h.4.2 ∙ ap (λ (l : List ℕ). l ++ h.4.1) lat.3
          ∙ ap (λ (l : List ℕ). (digits 2 lat.0 ++ digits 2 lat.1) ++ l) lon.3),
    )
position_of bytes (inr e) = (None, tt, e)

position_unknown : (f : Fix) → IsFix f → position_text (Some f) ≡ codes "9999999999" → ⊥
position_unknown f h e =
    let same = one_front 1 f.quadrant 9 _ (codes "999999999") (omega (arith, h.quadrant)) (omega arith) (e ∙ nines) in
    omega (arith, same.0, h.quadrant)

fix_one : (f g : Fix) → IsFix f → IsFix g → position_text (Some f) ≡ position_text (Some g) → f ≡ g
fix_one f g h k e =
    let a = arc_minutes f.lat_deg f.lat_min 90 h.latitude in
    let b = arc_minutes g.lat_deg g.lat_min 90 k.latitude in
    let c = arc_minutes f.lon_deg f.lon_min 180 h.longitude in
    let d = arc_minutes g.lon_deg g.lon_min 180 k.longitude in
    let one = one_front 1 f.quadrant g.quadrant _ _ (omega (arith, h.quadrant)) (omega (arith, k.quadrant)) e in
    let flat = sym (append_assoc (digits 2 f.lat_deg) (digits 2 f.lat_min) (digits 3 f.lon_deg ++ digits 2 f.lon_min)) in
    let two = one_front 2 f.lat_deg g.lat_deg _ _ (omega (arith, a)) (omega (arith, b))
    (flat ∙ one.1 ∙ append_assoc (digits 2 g.lat_deg) (digits 2 g.lat_min) (digits 3 g.lon_deg ++ digits 2 g.lon_min)) in
    let three = one_front 2 f.lat_min g.lat_min _ _ (omega (arith, a)) (omega (arith, b)) two.1 in
    let four = one_front 3 f.lon_deg g.lon_deg _ _ (omega (arith, c)) (omega (arith, d)) three.1 in
    let five = one_number 2 f.lon_min g.lon_min (omega (arith, c)) (omega (arith, d)) four.1 in
    same_fix f g one.0 two.0 three.0 four.0 five

position_one : (p q : Option Fix) → IsPosition p → IsPosition q → position_text p ≡ position_text q → p ≡ q
position_one None None h k e = refl
position_one (Some f) None h k e = absurd (position_unknown f h e)
position_one None (Some g) h k e = absurd (position_unknown g k (sym e))
position_one (Some f) (Some g) h k e = ap (λ (x : Fix). Some x) (fix_one f g h k e)

pub position_told : TokenTexts position IsPosition position_text
position_told = record { is = position_is; of = position_of; one = position_one }

-- areas
area_is : (a : Rectangle) → IsArea a → IsShaped area_shape (area_text a)
area_is a h = grind arith

area_of : (bytes : List ℕ) → IsShaped area_shape bytes → (a : Rectangle) × IsArea a × (bytes ≡ area_text a)
area_of bytes h =
    let lat = h.4 in
    let lon = lat.4 in
    let sides = lon.4 in
    let a : Rectangle = record { quadrant = h.3.0; latitude = lat.3.0; longitude = lon.3.0; south = sides.3.0; east = sides.4.0 } in
    let lawful : IsArea a =
    record {
      quadrant = most_of 1 3 h.0 h.3;
      latitude = most_of 2 90 lat.0 lat.3;
      longitude = most_of 3 180 lon.0 lon.3;
      south = most_of 2 99 sides.0 sides.3;
      east = most_of 2 99 sides.1 sides.4;
    } in
    let last : lon.1 ≡ digits 2 a.south ++ digits 2 a.east = sides.2 ∙ ap (λ (l : List ℕ). l ++ sides.1) sides.3.2 ∙ ap (λ (l : List ℕ). digits 2 a.south ++ l) sides.4.2 in
    let third : lat.1 ≡ digits 3 a.longitude ++ (digits 2 a.south ++ digits 2 a.east) =
    lon.2 ∙ ap (λ (l : List ℕ). l ++ lon.1) lon.3.2 ∙ ap (λ (l : List ℕ). digits 3 a.longitude ++ l) last in
    let two : h.1 ≡ digits 2 a.latitude ++ (digits 3 a.longitude ++ (digits 2 a.south ++ digits 2 a.east)) =
    lat.2 ∙ ap (λ (l : List ℕ). l ++ lat.1) lat.3.2 ∙ ap (λ (l : List ℕ). digits 2 a.latitude ++ l) third in
    (a, lawful, h.2 ∙ ap (λ (l : List ℕ). l ++ h.1) h.3.2 ∙ ap (λ (l : List ℕ). digits 1 a.quadrant ++ l) two)

area_one : (a b : Rectangle) → IsArea a → IsArea b → area_text a ≡ area_text b → a ≡ b
area_one a b h k e =
    let one = one_front 1 a.quadrant b.quadrant _ _ (omega (arith, h.quadrant)) (omega (arith, k.quadrant)) e in
    let two = one_front 2 a.latitude b.latitude _ _ (omega (arith, h.latitude)) (omega (arith, k.latitude)) one.1 in
    let three = one_front 3 a.longitude b.longitude _ _ (omega (arith, h.longitude)) (omega (arith, k.longitude)) two.1 in
    let four = one_front 2 a.south b.south _ _ (omega (arith, h.south)) (omega (arith, k.south)) three.1 in
    let five = one_number 2 a.east b.east (omega (arith, h.east)) (omega (arith, k.east)) four.1 in
    same_area a b one.0 two.0 three.0 four.0 five

pub area_told : TokenTexts area IsArea area_text
area_told = record { is = area_is; of = area_of; one = area_one }

frequency_is : (f : FieldKind) → IsField f → IsToken frequency (frequency_text f)
frequency_is f h = grind arith

six_of : (n : ℕ) → is_within ((0, 299999) ∷ (300000, 399999) ∷ (900000, 909999) ∷ []) n ≡ true → (f : FieldKind) × IsField f × (digits 6 n ≡ frequency_text f)
six_of n h =
    let three : (n ≤ 299999) ⊎ (((300000 ≤ n) × (n ≤ 399999)) ⊎ ((900000 ≤ n) × (n ≤ 909999))) = grind (arith, nat_tests) in
    elim three [
      | inl k ↦ (Hundreds n, k, refl)
      | inr more ↦ (elim more [
        | inl k ↦ (Hf (n - 300000), omega (arith, k), ap (digits 6) (omega (arith, k)))
        | inr k ↦ (Vhf (n - 900000), omega (arith, k), ap (digits 6) (omega (arith, k)))
      ])
    ]

frequency_of : (bytes : List ℕ) → IsToken frequency bytes → (f : FieldKind) × IsField f × (bytes ≡ frequency_text f)
frequency_of bytes (inl e) = (Absent, tt, e)
frequency_of bytes (inr (inl h)) = let f = six_of h.0 h.1 in (f.0, f.1, h.2 ∙ f.2)
frequency_of bytes (inr (inr h)) =
    let low : (40000000 ≤ h.0) × (h.0 ≤ 49999999) = (let e = h.1 in grind (arith, nat_tests)) in
    (Tens (h.0 - 40000000), omega (arith, low), h.2 ∙ ap (digits 8) (omega (arith, low)))

-- texts of other lengths
other_length : (a b : List ℕ) (m n : ℕ) → length a ≡ m → length b ≡ n → (m ≡ n → ⊥) → a ≡ b → ⊥
other_length a b m n h k differ e = differ (sym h ∙ ap length e ∙ k)

frequency_one : (f g : FieldKind) → IsField f → IsField g → frequency_text f ≡ frequency_text g → f ≡ g
frequency_one Absent Absent h k e = refl
frequency_one Absent (Hundreds n) h k e = absurd (other_length (codes "none") (digits 6 n) 4 6 refl (digits_length 6 n) (λ s. omega (arith, s)) e)
frequency_one Absent (Hf n) h k e = absurd (other_length (codes "none") (digits 6 (300000 + n)) 4 6 refl (digits_length 6 (300000 + n)) (λ s. omega (arith, s)) e)
frequency_one Absent (Vhf n) h k e = absurd (other_length (codes "none") (digits 6 (900000 + n)) 4 6 refl (digits_length 6 (900000 + n)) (λ s. omega (arith, s)) e)
frequency_one Absent (Tens n) h k e = absurd (other_length (codes "none") (digits 8 (40000000 + n)) 4 8 refl (digits_length 8 (40000000 + n)) (λ s. omega (arith, s)) e)
frequency_one (Hundreds m) Absent h k e = absurd (other_length (digits 6 m) (codes "none") 6 4 (digits_length 6 m) refl (λ s. omega (arith, s)) e)
frequency_one (Hundreds m) (Hundreds n) h k e = ap Hundreds (one_number 6 m n (omega (arith, h)) (omega (arith, k)) e)
frequency_one (Hundreds m) (Hf n) h k e = absurd (omega (arith, one_number 6 m (300000 + n) (omega (arith, h)) (omega (arith, k)) e, h, k))
frequency_one (Hundreds m) (Vhf n) h k e = absurd (omega (arith, one_number 6 m (900000 + n) (omega (arith, h)) (omega (arith, k)) e, h, k))
frequency_one (Hundreds m) (Tens n) h k e = absurd (other_length (digits 6 m) (digits 8 (40000000 + n)) 6 8 (digits_length 6 m) (digits_length 8 (40000000 + n)) (λ s. omega (arith, s)) e)
frequency_one (Hf m) Absent h k e = absurd (other_length (digits 6 (300000 + m)) (codes "none") 6 4 (digits_length 6 (300000 + m)) refl (λ s. omega (arith, s)) e)
frequency_one (Hf m) (Hundreds n) h k e = absurd (omega (arith, one_number 6 (300000 + m) n (omega (arith, h)) (omega (arith, k)) e, h, k))
frequency_one (Hf m) (Hf n) h k e = let same = one_number 6 (300000 + m) (300000 + n) (omega (arith, h)) (omega (arith, k)) e in ap Hf (omega (arith, same))
frequency_one (Hf m) (Vhf n) h k e = absurd (omega (arith, one_number 6 (300000 + m) (900000 + n) (omega (arith, h)) (omega (arith, k)) e, h, k))
frequency_one (Hf m) (Tens n) h k e = absurd (other_length (digits 6 (300000 + m)) (digits 8 (40000000 + n)) 6 8 (digits_length 6 (300000 + m)) (digits_length 8 (40000000 + n)) (λ s. omega (arith, s)) e)
frequency_one (Vhf m) Absent h k e = absurd (other_length (digits 6 (900000 + m)) (codes "none") 6 4 (digits_length 6 (900000 + m)) refl (λ s. omega (arith, s)) e)
frequency_one (Vhf m) (Hundreds n) h k e = absurd (omega (arith, one_number 6 (900000 + m) n (omega (arith, h)) (omega (arith, k)) e, h, k))
frequency_one (Vhf m) (Hf n) h k e = absurd (omega (arith, one_number 6 (900000 + m) (300000 + n) (omega (arith, h)) (omega (arith, k)) e, h, k))
frequency_one (Vhf m) (Vhf n) h k e = let same = one_number 6 (900000 + m) (900000 + n) (omega (arith, h)) (omega (arith, k)) e in ap Vhf (omega (arith, same))
frequency_one (Vhf m) (Tens n) h k e = absurd (other_length (digits 6 (900000 + m)) (digits 8 (40000000 + n)) 6 8 (digits_length 6 (900000 + m)) (digits_length 8 (40000000 + n)) (λ s. omega (arith, s)) e)
frequency_one (Tens m) Absent h k e = absurd (other_length (digits 8 (40000000 + m)) (codes "none") 8 4 (digits_length 8 (40000000 + m)) refl (λ s. omega (arith, s)) e)
frequency_one (Tens m) (Hundreds n) h k e = absurd (other_length (digits 8 (40000000 + m)) (digits 6 n) 8 6 (digits_length 8 (40000000 + m)) (digits_length 6 n) (λ s. omega (arith, s)) e)
frequency_one (Tens m) (Hf n) h k e = absurd (other_length (digits 8 (40000000 + m)) (digits 6 (300000 + n)) 8 6 (digits_length 8 (40000000 + m)) (digits_length 6 (300000 + n)) (λ s. omega (arith, s)) e)
frequency_one (Tens m) (Vhf n) h k e = absurd (other_length (digits 8 (40000000 + m)) (digits 6 (900000 + n)) 8 6 (digits_length 8 (40000000 + m)) (digits_length 6 (900000 + n)) (λ s. omega (arith, s)) e)
frequency_one (Tens m) (Tens n) h k e = let same = one_number 8 (40000000 + m) (40000000 + n) (omega (arith, h)) (omega (arith, k)) e in ap Tens (omega (arith, same))

pub frequency_told : TokenTexts frequency IsField frequency_text
frequency_told = record { is = frequency_is; of = frequency_of; one = frequency_one }

-- addresses
address_is : (t : To) → IsTo t → IsToken address (address_text t)
address_is to.All h = inl refl
address_is (to.Area a) h = inr (inl (codes "area:", area_text a, refl, refl, area_is a h))
address_is (to.Group n) h = inr (inr (inl (codes "group:", digits 9 n, refl, refl, identity_told.is n h)))
address_is (to.One n) h = inr (inr (inr (codes "one:", digits 9 n, refl, refl, identity_told.is n h)))

behind_label : (label front back text : List ℕ) (bytes : List ℕ) → bytes ≡ front ++ back → front ≡ label → back ≡ text → bytes ≡ label ++ text
behind_label label front back text bytes e f g = e ∙ ap (λ (l : List ℕ). l ++ back) f ∙ ap (λ (l : List ℕ). label ++ l) g

address_of : (bytes : List ℕ) → IsToken address bytes → (t : To) × IsTo t × (bytes ≡ address_text t)
address_of bytes (inl e) = (to.All, tt, e)
address_of bytes (inr (inl h)) = let a = area_of h.1 h.4 in (to.Area a.0, a.1, behind_label (codes "area:") h.0 h.1 (area_text a.0) bytes h.2 h.3 a.2)
address_of bytes (inr (inr (inl h))) = let n = identity_told.of h.1 h.4 in (to.Group n.0, n.1, behind_label (codes "group:") h.0 h.1 (digits 9 n.0) bytes h.2 h.3 n.2)
address_of bytes (inr (inr (inr h))) = let n = identity_told.of h.1 h.4 in (to.One n.0, n.1, behind_label (codes "one:") h.0 h.1 (digits 9 n.0) bytes h.2 h.3 n.2)

address_one : (s t : To) → IsTo s → IsTo t → address_text s ≡ address_text t → s ≡ t
address_one to.All to.All h k e = refl
address_one (to.Area a) (to.Area b) h k e = ap to.Area (area_one a b h k (append_cancel_left (codes "area:") (area_text a) (area_text b) e))
address_one (to.Group m) (to.Group n) h k e = ap to.Group (identity_told.one m n h k (append_cancel_left (codes "group:") (digits 9 m) (digits 9 n) e))
address_one (to.One m) (to.One n) h k e = ap to.One (identity_told.one m n h k (append_cancel_left (codes "one:") (digits 9 m) (digits 9 n) e))
address_one to.All (to.Area b) h k e = absurd (omega (arith, ap (λ (l : List ℕ). slice_index_or l 1 0) e))
address_one to.All (to.Group n) h k e = absurd (omega (arith, ap (λ (l : List ℕ). slice_index_or l 0 0) e))
address_one to.All (to.One n) h k e = absurd (omega (arith, ap (λ (l : List ℕ). slice_index_or l 0 0) e))
address_one (to.Area a) to.All h k e = absurd (omega (arith, ap (λ (l : List ℕ). slice_index_or l 1 0) e))
address_one (to.Area a) (to.Group n) h k e = absurd (omega (arith, ap (λ (l : List ℕ). slice_index_or l 0 0) e))
address_one (to.Area a) (to.One n) h k e = absurd (omega (arith, ap (λ (l : List ℕ). slice_index_or l 0 0) e))
address_one (to.Group m) to.All h k e = absurd (omega (arith, ap (λ (l : List ℕ). slice_index_or l 0 0) e))
address_one (to.Group m) (to.Area b) h k e = absurd (omega (arith, ap (λ (l : List ℕ). slice_index_or l 0 0) e))
address_one (to.Group m) (to.One n) h k e = absurd (omega (arith, ap (λ (l : List ℕ). slice_index_or l 0 0) e))
address_one (to.One m) to.All h k e = absurd (omega (arith, ap (λ (l : List ℕ). slice_index_or l 0 0) e))
address_one (to.One m) (to.Area b) h k e = absurd (omega (arith, ap (λ (l : List ℕ). slice_index_or l 0 0) e))
address_one (to.One m) (to.Group n) h k e = absurd (omega (arith, ap (λ (l : List ℕ). slice_index_or l 0 0) e))

pub address_told : TokenTexts address IsTo address_text
address_told = record { is = address_is; of = address_of; one = address_one }
