-- Each kind of step keeps the rule, and its seat learns what the definitions say.
use Rattle.std.proofs.Common.{◌≡◌, ◌≢◌, ℕ, zero, suc, ◌+◌, ◌<◌, ◌≤◌, min, max, List, [], ◌∷◌, set, length, slice_index, slice_index_or, replicate, refl, arith, ap, sym, ◌∙◌, ◌⊎◌, subst, inl, inr, length-set}
use Rattle.std.proofs.lemmas.Bool.{cases_eq}
use Rattle.std.proofs.lemmas.List.{get_or-set_same, get_or-set_other, get_or-map, set-get_or, length-map, length-replicate}
use mathlib.Core.Option.{some, none}
use lib.ListN.{get_elem?}
use Rattle.atomic_table.proofs.Lists.{set_again, set_else}
use Rattle.atomic_table.specs.Table.{State, Me, step, keeps, Allows, Splits, Joins}
use Rattle.slot_evidence.specs.Allowed.{IsAllowed}
use Rattle.evidence_board.specs.Views.{Reach, Place, blank, View, place_at, blanks, spent}
use Rattle.evidence_board.specs.Rule.{words_of, Each, IsPlaceKept, IsKept}
use Rattle.evidence_board.specs.Steps.{posted_least, posted_past, loaded_least, loaded_past, uncounted, joined, joined_places, kept_half, new_half, both}
use Rattle.evidence_board.specs.inside.Tells.{Changed, posts_least, posts_past, loads_least, IsPastFound, loads_past, weighs}
use Rattle.evidence_board.proofs.Folds.{each_set, each_push, total_set, total_push, total_above}
use Rattle.evidence_board.proofs.OnePlace.{set_here_at, place_stays, least_posted, past_posted, least_loaded, past_loaded, half_comes, both_taken}

-- a view with place p changed
abbrev with_place : View → ℕ → Place → View
with_place v p c = record { share = v.share; places = set v.places p c }

with_changed : (v : View) (p : ℕ) (c : Place) → p < length v.places → Changed v p c (with_place v p c)
with_changed v p c inside = record {
  here = get_or-set_same v.places p c blank inside;
  others = λ q apart. get_or-set_other v.places p q c blank apart;
  share = refl;
  size = length-set v.places p c;
}

place_empty : (n p : ℕ) → slice_index_or (replicate n blank) p blank ≡ blank
place_empty zero p = refl
place_empty (suc n) zero = refl
place_empty (suc n) (suc p) = place_empty n p

-- each place of the first view is blank
pub place_blank : (p : ℕ) → slice_index_or blanks p blank ≡ blank
unfolding blanks
place_blank p = place_empty 64 p

-- the first view has 64 places
pub blanks_long : length blanks ≡ 64
unfolding blanks
blanks_long = length-replicate 64 blank

pub each_one : (P : View → Type 0) (v : View) → P v → Each P (v ∷ [])
each_one P v here h w at = grind arith

-- the two words of a place, where one of them is written, and those of other places
least_written : (words : List ℕ) (p n : ℕ) → length words ≡ 128 → p < 64 → words_of (set words p n) p ≡ record (words_of words p) { least = n }
least_written words p n size inside = λ i. record {
  least = get_or-set_same words p n 0 (omega arith) i;
  past = get_or-set_other words p (64 + p) n 0 (λ e. omega arith) i;
}

least_apart : (words : List ℕ) (p n q : ℕ) → p < 64 → q ≢ p → words_of (set words p n) q ≡ words_of words q
least_apart words p n q inside apart = λ i. record {
  least = get_or-set_other words p q n 0 apart i;
  past = get_or-set_other words p (64 + q) n 0 (λ e. omega arith) i;
}

past_written : (words : List ℕ) (p n : ℕ) → length words ≡ 128 → p < 64 → words_of (set words (64 + p) n) p ≡ record (words_of words p) { past = n }
past_written words p n size inside = λ i. record {
  least = get_or-set_other words (64 + p) p n 0 (λ e. omega arith) i;
  past = get_or-set_same words (64 + p) n 0 (omega arith) i;
}

past_apart : (words : List ℕ) (p n q : ℕ) → q < 64 → q ≢ p → words_of (set words (64 + p) n) q ≡ words_of words q
past_apart words p n q inside apart = λ i. record {
  least = get_or-set_other words (64 + p) q n 0 (λ e. omega arith) i;
  past = get_or-set_other words (64 + p) (64 + q) n 0 (λ e. apart (omega arith)) i;
}

pub place_uncounted : (v : View) (p : ℕ) → p < length v.places → place_at (new_half v) p ≡ uncounted (place_at v p)
place_uncounted v p inside = get_or-map uncounted v.places p blank blank inside

pub joined_long : (xs ys : List Place) → length xs ≡ length ys → length (joined_places xs ys) ≡ length xs
joined_long [] [] same = refl
joined_long [] (b ∷ ys) same = refl
joined_long (a ∷ xs) [] same = absurd (omega arith)
joined_long (a ∷ xs) (b ∷ ys) same = ap suc (joined_long xs ys (omega arith))

pub joined_at : (xs ys : List Place) (p : ℕ) → p < length xs → p < length ys → slice_index_or (joined_places xs ys) p blank ≡ joined (slice_index_or xs p blank) (slice_index_or ys p blank)
joined_at [] ys p left right = absurd (omega arith)
joined_at (a ∷ xs) [] p left right = absurd (omega arith)
joined_at (a ∷ xs) (b ∷ ys) zero left right = refl
joined_at (a ∷ xs) (b ∷ ys) (suc p) left right = joined_at xs ys p (omega arith) (omega arith)

module _ (facts : List (ℕ × ℕ)) where
  abbrev Rule : State ℕ View → Type 0
  Rule s = IsKept facts s.words s.views

  -- a step of kind 1 to 4 at place q
  one_step : (words : List ℕ) (views : List View) (id : ℕ) (v : View) (q : ℕ) (c : Place) (i n : ℕ) (r : Reach) → IsKept facts words views → get_elem? views id ≡ some v → 1 ≤ v.share → q < 64
      → words_of (set words i n) q ≡ r → ((p : ℕ) → p < 64 → p ≢ q → words_of (set words i n) p ≡ words_of words p)
      → IsPlaceKept facts q r (set views id (with_place v q c)) → IsKept facts (set words i n) (set views id (with_place v q c))
  one_step words views id v q c i n r kept at alive inside here others place =
      let w = with_place v q c in
      let after = set views id w in
      let shares = total_set views id v w at in
      let all = kept.shares in record {
        size = length-set words i n ∙ kept.size;
        sizes = each_set (λ view. length view.places ≡ 64) views id w kept.sizes (length-set v.places q c ∙ kept.sizes id v at);
        places = λ p below. elim (cases_eq p q) [
          | inl same ↦ subst (λ (j : ℕ). IsPlaceKept facts j (words_of (set words i n) j) after) (sym same) (subst (λ (x : Reach). IsPlaceKept facts q x after) (sym here) place)
          | inr apart ↦ subst (λ (x : Reach). IsPlaceKept facts p x after) (sym (others p below apart)) (place_stays facts p (words_of words p) views id v (kept.places p below) at w (get_or-set_other v.places q p c blank apart))
        ];
        shares = omega arith;
        alive = each_set (λ view. (view ≡ spent) ⊎ (1 ≤ view.share)) views id w kept.alive (inr alive);
      }

  inside_view : (words : List ℕ) (views : List View) (id : ℕ) (v : View) (p : ℕ) → IsKept facts words views → get_elem? views id ≡ some v → p < 64 → p < length v.places
  inside_view words views id v p kept at below = let size = kept.sizes id v at in omega arith

  pub posts_least_keeps : (slots id : ℕ) (me : Me ℕ View) (p x : ℕ) → p < 64 → IsAllowed facts p x → 1 ≤ me.0.share
      → Allows Rule slots id me p (λ n. min n x) (posts_least (step slots p x 0 none) me)
  posts_least_keeps slots id me p x below lawful alive s kept homes at small =
      let c = posted_least x (place_at me.0 p) in
      let w = with_place me.0 p c in
      let n = min (slice_index s.words p) x in
      let inside = inside_view s.words s.views id me.0 p kept at below in (
        w,
        keeps,
        tt,
        one_step s.words s.views id me.0 p c p n (record (words_of s.words p) { least = n }) kept at alive below
            (least_written s.words p n kept.size below) (λ q under apart. least_apart s.words p n q below apart)
            (least_posted facts p (words_of s.words p) s.views id me.0 (kept.places p below) at x w lawful (get_or-set_same me.0.places p c blank inside)),
        (with_changed me.0 p c inside, refl),
      )

  pub posts_past_keeps : (slots id : ℕ) (me : Me ℕ View) (p x n : ℕ) → p < 64 → IsAllowed facts p x → n ≡ suc x → (place_at me.0 p).given.least ≤ x → 1 ≤ me.0.share
      → Allows Rule slots id me (64 + p) (λ m. max m n) (posts_past (step slots (64 + p) n 0 none) me)
  posts_past_keeps slots id me p x n below lawful next low alive s kept homes at small =
      let c = posted_past n (place_at me.0 p) in
      let w = with_place me.0 p c in
      let m = max (slice_index s.words (64 + p)) n in
      let inside = inside_view s.words s.views id me.0 p kept at below in (
        w,
        keeps,
        tt,
        one_step s.words s.views id me.0 p c (64 + p) m (record (words_of s.words p) { past = m }) kept at alive below
            (past_written s.words p m kept.size below) (λ q under apart. past_apart s.words p m q under apart)
            (past_posted facts p (words_of s.words p) s.views id me.0 (kept.places p below) at x n w lawful next low (get_or-set_same me.0.places p c blank inside)),
        ((λ q is. let same : p ≡ q = omega arith in subst (λ (j : ℕ). Changed me.0 j (posted_past n (place_at me.0 j)) w) same (with_changed me.0 p c inside)), refl),
      )

  pub loads_least_keeps : (slots id : ℕ) (me : Me ℕ View) (p : ℕ) → p < 64 → 1 ≤ me.0.share
      → Allows Rule slots id me p (λ n. n) (loads_least facts (step slots p 0 0 none) me)
  loads_least_keeps slots id me p below alive s kept homes at small =
      let n = slice_index s.words p in
      let c = loaded_least n (place_at me.0 p) in
      let w = with_place me.0 p c in
      let place = kept.places p below in
      let fits = place.fits id me.0 at in
      let inside = inside_view s.words s.views id me.0 p kept at below in (
        w,
        keeps,
        tt,
        one_step s.words s.views id me.0 p c p n (words_of s.words p) kept at alive below
            (least_written s.words p n kept.size below) (λ q under apart. least_apart s.words p n q below apart)
            (least_loaded facts p (words_of s.words p) s.views id me.0 place at w (get_or-set_same me.0.places p c blank inside)),
        (with_changed me.0 p c inside, record { no_less = fits.seen_within.least; met = fits.seen_met; allowed = place.allowed.least }, refl),
      )

  pub loads_past_keeps : (slots id : ℕ) (me : Me ℕ View) (p : ℕ) → p < 64 → 1 ≤ me.0.share
      → Allows Rule slots id me (64 + p) (λ n. n) (loads_past facts (step slots (64 + p) 0 0 none) me)
  loads_past_keeps slots id me p below alive s kept homes at small =
      let n = slice_index s.words (64 + p) in
      let c = loaded_past n (place_at me.0 p) in
      let w = with_place me.0 p c in
      let place = kept.places p below in
      let fits = place.fits id me.0 at in
      let inside = inside_view s.words s.views id me.0 p kept at below in
      let found : IsPastFound facts p me.0 n = record {
        no_less = fits.seen_within.past;
        least_allowed = (place.seen_allowed id me.0 at).least;
        allowed = place.allowed.greatest;
      }
      in (
        w,
        keeps,
        tt,
        one_step s.words s.views id me.0 p c (64 + p) n (words_of s.words p) kept at alive below
            (past_written s.words p n kept.size below) (λ q under apart. past_apart s.words p n q under apart)
            (past_loaded facts p (words_of s.words p) s.views id me.0 place at w (get_or-set_same me.0.places p c blank inside)),
        ((λ q is. let same : p ≡ q = omega arith in subst (λ (j : ℕ). Changed me.0 j (loaded_past n (place_at me.0 j)) w × IsPastFound facts j me.0 n) same (with_changed me.0 p c inside, found)), refl),
      )

  -- a load that changes nothing
  pub weighs_keeps : (slots id : ℕ) (me : Me ℕ View) → Allows Rule slots id me 0 (λ n. n) (weighs (step slots 0 0 0 none) me)
  weighs_keeps slots id me s kept homes at small =
      let share = total_above s.views id me.0 at in
      let all = kept.shares in (
        me.0,
        keeps,
        tt,
        subst (λ (words : List ℕ). IsKept facts words (set s.views id me.0)) (sym (set-get_or s.words 0 0)) (subst (λ (views : List View). IsKept facts s.words views) (sym (set_again s.views id me.0 at)) kept),
        (refl, omega arith),
      )

  pub halves_keep : (id : ℕ) (v : View) → 2 ≤ v.share → Splits Rule id v (kept_half v) (new_half v)
  halves_keep id v enough s kept at =
      let left = kept_half v in
      let right = new_half v in
      let mid = set s.views id left in
      let shares = total_set s.views id v left at in
      let more = total_push mid right in
      let all = kept.shares in
      let size = kept.sizes id v at in record {
        size = kept.size;
        sizes = each_push (λ view. length view.places ≡ 64) mid right (each_set (λ view. length view.places ≡ 64) s.views id left kept.sizes size) (length-map v.places uncounted ∙ size);
        places = λ p below.
            half_comes facts p (words_of s.words p) mid id left (place_stays facts p (words_of s.words p) s.views id v (kept.places p below) at left refl) (set_here_at s.views id v left at) right (place_uncounted v p (omega arith));
        shares = omega arith;
        alive = each_push (λ view. (view ≡ spent) ⊎ (1 ≤ view.share)) mid right (each_set (λ view. (view ≡ spent) ⊎ (1 ≤ view.share)) s.views id left kept.alive (inr (omega arith))) (inr (omega arith));
      }

  pub joins_keep : (id : ℕ) (v : View) (other : ℕ) (u : View) → 1 ≤ v.share → Joins Rule id v other u (both v u) spent
  joins_keep id v other u alive s kept at apart there =
      let w = both v u in
      let mid = set s.views id w in
      let was : get_elem? s.views other ≡ some u = sym (set_else s.views id other w apart) ∙ there in
      let shares = total_set s.views id v w at in
      let less = total_set mid other u spent there in
      let all = kept.shares in
      let size = kept.sizes id v at in
      let other_size = kept.sizes other u was in record {
        size = kept.size;
        sizes = each_set (λ view. length view.places ≡ 64) mid other spent (each_set (λ view. length view.places ≡ 64) s.views id w kept.sizes (joined_long v.places u.places (size ∙ sym other_size) ∙ size)) blanks_long;
        places = λ p below.
            both_taken facts p (words_of s.words p) s.views id v (kept.places p below) at other u w spent apart was (joined_at v.places u.places p (omega arith) (omega arith)) (place_blank p);
        shares = omega arith;
        alive = each_set (λ view. (view ≡ spent) ⊎ (1 ≤ view.share)) mid other spent (each_set (λ view. (view ≡ spent) ⊎ (1 ≤ view.share)) s.views id w kept.alive (inr (omega arith))) (inl refl);
      }
