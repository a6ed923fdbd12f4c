-- both copies of each character, over a table of the phasing symbols
use Rattle.std.proofs.Common.{◌≡◌, ℕ, ◌+◌, ◌-◌, ◌*◌, ◌/◌, ◌<◌, ◌≤◌, ◌⊎◌, ◌==◌, true, List, length, get_or, set, take, slice_index, inl, inr, refl, sym, ap, ◌∙◌, arith}
use Rattle.std.proofs.lemmas.Bool.{cases_eq, eqb-true, agree_below, agree_below_at}
use Rattle.std.proofs.lemmas.List.{get_or-set_same, get_or-set_other, get_or-take, length-take-le, length-set, ext_get_or}
use Rattle.time_diversity.specs.OnAir.{sent_symbol, on_air}
use Rattle.time_diversity.specs.declared.sending.TheConstants.{PHASING}
use Rattle.dsc_symbols.specs.declared.phasing.TheConstants.{DX, RX_7}
use Rattle.time_diversity.proofs.Shows.{shows_character, shows_phasing, phasing_even, phasing_odd, sent_at, length-on_air}

-- the slots so far: of the DX copies, and of the RX copies
pub record Shown (list symbols : List ℕ) (k : ℕ) : Type 0 where
  pub long : length symbols ≡ 144
  pub dx : (n : ℕ) → n < 6 + k → get_or symbols (2 * n) 0 ≡ sent_symbol list (2 * n)
  pub rx : (n : ℕ) → n < 8 + k → get_or symbols (2 * n + 1) 0 ≡ sent_symbol list (2 * n + 1)

-- the table has the phasing symbols
table_dx : agree_below (λ n. get_or PHASING (2 * n) 0 == DX) (λ _. true) 6 ≡ true
table_dx = refl

table_rx : agree_below (λ n. get_or PHASING (2 * n + 1) 0 == RX_7 - n) (λ _. true) 8 ≡ true
table_rx = refl

pub none_yet : (list : List ℕ) → Shown list PHASING 0
none_yet list = record {
  long = refl;
  dx = λ n below.
      eqb-true (get_or PHASING (2 * n) 0) DX (agree_below_at (λ n. get_or PHASING (2 * n) 0 == DX) (λ _. true) 6 n table_dx (omega arith))
      ∙ sym (shows_phasing list (2 * n) (inl (omega arith)) ∙ phasing_even n);
  rx = λ n below.
      eqb-true (get_or PHASING (2 * n + 1) 0) (RX_7 - n) (agree_below_at (λ n. get_or PHASING (2 * n + 1) 0 == RX_7 - n) (λ _. true) 8 n table_rx (omega arith))
      ∙ sym (shows_phasing list (2 * n + 1) (grind arith) ∙ phasing_odd n);
}

-- one more character in both of its slots
pub one_more : (list symbols : List ℕ) (k d r v : ℕ) → Shown list symbols k → k < 64 → d ≡ 12 + 2 * k → r ≡ 17 + 2 * k → v ≡ slice_index list k → Shown list (set (set symbols d v) r v) (k + 1)
one_more list symbols k d r v was few at_d at_r is =
    let once = set symbols d v in
    let long = length-set symbols d v ∙ was.long in
    record {
      long = length-set once r v ∙ long;
      dx = λ n below.
          get_or-set_other once r (2 * n) v 0 (omega (arith, at_r))
          ∙ elim (cases_eq (2 * n) d) [
            | inl same ↦ ap (λ (i : ℕ). get_or once i 0) same ∙ get_or-set_same symbols d v 0 (omega (arith, was.long, at_d)) ∙ is ∙ sym (shows_character list (2 * n) k (inl (same ∙ at_d)))
            | inr other ↦ get_or-set_other symbols d (2 * n) v 0 other ∙ was.dx n (omega (arith, at_d, other, below))
          ];
      rx = λ n below.
          elim (cases_eq (2 * n + 1) r) [
            | inl same ↦ ap (λ (i : ℕ). get_or (set once r v) i 0) same ∙ get_or-set_same once r v 0 (omega (arith, long, at_r)) ∙ is ∙ sym (shows_character list (2 * n + 1) k (inr (same ∙ at_r)))
            | inr other ↦ get_or-set_other once r (2 * n + 1) v 0 other ∙ get_or-set_other symbols d (2 * n + 1) v 0 (omega (arith, at_d)) ∙ was.rx n (omega (arith, at_r, other, below))
          ];
    }

-- after the last one, all slots
half : (s : ℕ) → (n : ℕ) × ((s ≡ 2 * n) ⊎ (s ≡ 2 * n + 1))
half s = (s / 2, grind arith)

shown_at : (list symbols : List ℕ) (k s : ℕ) → Shown list symbols k → s < 12 + 2 * k → get_or symbols s 0 ≡ sent_symbol list s
shown_at list symbols k s was below =
    let h = half s in
    elim h.1 [
      | inl even ↦ ap (λ (i : ℕ). get_or symbols i 0) even ∙ was.dx h.0 (omega (arith, below, even)) ∙ ap (sent_symbol list) (sym even)
      | inr odd ↦ ap (λ (i : ℕ). get_or symbols i 0) odd ∙ was.rx h.0 (omega (arith, below, odd)) ∙ ap (sent_symbol list) (sym odd)
    ]

pub all_shown : (list symbols : List ℕ) (k : ℕ) → Shown list symbols k → k ≡ length list → length list ≤ 64 → take (2 * length list + 12) symbols ≡ on_air list
all_shown list symbols k was all few =
    let count = 2 * length list + 12 in
    let long : length (take count symbols) ≡ count = length-take-le count symbols (omega (arith, was.long)) in
    ext_get_or 0 (take count symbols) (on_air list) (long ∙ sym (length-on_air list)) (λ i below.
    get_or-take count symbols i 0 (omega (arith, below, long)) ∙ shown_at list symbols k i was (omega (arith, below, long, all)) ∙ sym (sent_at list i (omega (arith, below, long))))
