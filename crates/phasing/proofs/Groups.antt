-- five groups of slots, of which a phased lead has two with a right phasing symbol: the DX slots, and the RX slots two by
-- two
use Rattle.std.proofs.Common.{◌≡◌, ℕ, ◌+◌, ◌*◌, ◌≤◌, Bool, true, false, ◌||◌, cond, nat_le, List, refl, lit≤, arith, ap, sym, ◌∙◌}
use Rattle.std.proofs.lemmas.Bool.{both_ways}
use Rattle.std.proofs.lemmas.Bool.Decides.{nat_tests}
use Rattle.dsc_symbols.specs.declared.phasing.TheConstants.{DX, RX_0, RX_1, RX_2, RX_3, RX_4, RX_5, RX_6, RX_7}
use Rattle.ten_unit.specs.declared.character.Element.{Element}
use Rattle.ten_unit.specs.inside.Marks.{IsMarks}
use Rattle.ten_unit.specs.Word.{word_of}
use Rattle.phasing.specs.Origin.{dx_right, rx_right, is_enough, is_phased}
use Rattle.phasing.specs.Slot.{shows}
use Rattle.phasing.specs.inside.Likely.{HasAll, filled}
use Rattle.phasing.specs.inside.Places.{element_at, is_at}
use Rattle.phasing.proofs.Filled.{shown_begins}

-- a word begins in a slot
abbrev pub begins : (ℕ → Element) → ℕ → ℕ → ℕ → Bool
begins e s v lead = is_at e (word_of v) (lead + 10 * s)

-- the groups, and how many of them have a word that begins where it should
abbrev pub any_dx : (ℕ → Element) → ℕ → Bool
any_dx e p = begins e 0 DX p || begins e 2 DX p || begins e 4 DX p || begins e 6 DX p || begins e 8 DX p || begins e 10 DX p

abbrev pub groups : (ℕ → Element) → ℕ → ℕ
groups e p =
    0 + cond (any_dx e p) 1 0 + cond (begins e 1 RX_7 p || begins e 3 RX_6 p) 1 0 + cond (begins e 5 RX_5 p || begins e 7 RX_4 p) 1 0
    + cond (begins e 9 RX_3 p || begins e 11 RX_2 p) 1 0
    + cond (begins e 13 RX_1 p || begins e 15 RX_0 p) 1 0

small : (x : Bool) → cond x 1 0 ≤ 1
small true = lit≤ tt
small false = lit≤ tt

-- two slots of a group
pair : (x y X Y : Bool) → (x ≡ true → X ≡ true) → (y ≡ true → Y ≡ true) → cond x 1 0 + cond y 1 0 ≤ 2 * cond (X || Y) 1 0
pair x y true Y hx hy = omega (arith, small x, small y)
pair x y false true hx hy = omega (arith, small x, small y)
pair true y false false hx hy = absurd (both_ways false refl (hx refl))
pair false true false false hx hy = absurd (both_ways false refl (hy refl))
pair false false false false hx hy = lit≤ tt

-- one slot more of a group that has none so far
more : (n : ℕ) (P x X : Bool) → (P ≡ false → n ≡ 0) → (x ≡ true → X ≡ true) → (P || X) ≡ false → n + cond x 1 0 ≡ 0
more n true x X none h empty = absurd (both_ways true empty refl)
more n false true X none h empty = absurd (both_ways X empty (h refl))
more n false false X none h empty =
    let zero : n ≡ 0 = none refl in
    omega (arith, zero)

bound : (n : ℕ) (P : Bool) → n ≤ 6 → (P ≡ false → n ≡ 0) → n ≤ 6 * cond P 1 0
bound n true few none = omega (arith, few)
bound n false few none =
    let empty : n ≡ 0 = none refl in
    omega (arith, empty)

-- six slots of a group
six : (a b c d f g A B C D F G : Bool) → (a ≡ true → A ≡ true) → (b ≡ true → B ≡ true) → (c ≡ true → C ≡ true) → (d ≡ true → D ≡ true) → (f ≡ true → F ≡ true) → (g ≡ true → G ≡ true)
    → 0 + cond a 1 0 + cond b 1 0 + cond c 1 0 + cond d 1 0 + cond f 1 0 + cond g 1 0 ≤ 6 * cond (A || B || C || D || F || G) 1 0
six a b c d f g A B C D F G ha hb hc hd hf hg =
    bound _ (A || B || C || D || F || G) (omega (arith, small a, small b, small c, small d, small f, small g))
    (more _ (A || B || C || D || F) g G
    (more _ (A || B || C || D) f F
    (more _ (A || B || C) d D
    (more _ (A || B) c C
    (more _ A b B
    (more 0 false a A (λ _. refl) ha) hb) hc) hd) hf) hg)

bounds_enough : (dx rx d q : ℕ) → dx ≤ 6 * d → d ≤ 1 → rx ≤ 2 * q → is_enough dx rx ≡ true → nat_le 2 (d + q) ≡ true
bounds_enough dx rx d q few one pairs enough = grind (arith, nat_tests)

-- a phased lead has two groups with a right symbol
pub two_groups : (e : List Element) (p : ℕ) → is_phased e p ≡ true → nat_le 2 (groups (filled (element_at e)) p) ≡ true
unfolding is_phased
two_groups e p phased =
    let f = filled (element_at e) in
    let dx : dx_right e p ≤ 6 * cond (any_dx f p) 1 0 =
    six (shows e p 0 DX) (shows e p 2 DX) (shows e p 4 DX) (shows e p 6 DX) (shows e p 8 DX) (shows e p 10 DX) _ _ _ _ _ _
    (shown_begins e p 0 DX) (shown_begins e p 2 DX) (shown_begins e p 4 DX) (shown_begins e p 6 DX) (shown_begins e p 8 DX) (shown_begins e p 10 DX)
    in
    let a = pair (shows e p 1 RX_7) (shows e p 3 RX_6) _ _ (shown_begins e p 1 RX_7) (shown_begins e p 3 RX_6) in
    let b = pair (shows e p 5 RX_5) (shows e p 7 RX_4) _ _ (shown_begins e p 5 RX_5) (shown_begins e p 7 RX_4) in
    let c = pair (shows e p 9 RX_3) (shows e p 11 RX_2) _ _ (shown_begins e p 9 RX_3) (shown_begins e p 11 RX_2) in
    let d = pair (shows e p 13 RX_1) (shows e p 15 RX_0) _ _ (shown_begins e p 13 RX_1) (shown_begins e p 15 RX_0) in
    let q = cond (begins f 1 RX_7 p || begins f 3 RX_6 p) 1 0 + cond (begins f 5 RX_5 p || begins f 7 RX_4 p) 1 0
    + cond (begins f 9 RX_3 p || begins f 11 RX_2 p) 1 0
    + cond (begins f 13 RX_1 p || begins f 15 RX_0 p) 1 0
    in
    let rx : rx_right e p ≤ 2 * q = omega (arith, a, b, c, d) in
    let two = bounds_enough (dx_right e p) (rx_right e p) (cond (any_dx f p) 1 0) q dx (small (any_dx f p)) rx phased in
    let same : cond (any_dx f p) 1 0 + q ≡ groups f p = omega arith in
    ap (nat_le 2) (sym same) ∙ two

-- marks of a test that holds wherever another does have all marks of that one
pub has_all : (w base : ℕ) (f g : ℕ → Bool) → IsMarks w base g → ((p : ℕ) → f p ≡ true → g p ≡ true) → HasAll w base f
has_all w base f g marks holds = record {
  fits = marks.fits;
  each = λ i below h. marks.each i below ∙ ap (λ (b : Bool). cond b 1 0) (holds (base + i) h);
}
