-- What is news of groups, beside what is known of them.
use Rattle.std.proofs.Common.{◌≡◌, ℕ, zero, suc, ◌<◌, ◌≤◌, ◌==◌, Bool, true, ◌&&◌, ◌||◌, not, List, [], length, slice_index, slice_index_or, refl, ap, sym, ◌∙◌, subst, inl, inr, arith}
use Rattle.std.proofs.lemmas.Bool.{cases_eq, eq-eqb, ne_eqb}
use Rattle.slot_evidence.specs.declared.places.Seen.{Seen}
use Rattle.slot_evidence.specs.Facts.{Symbols, Facts, no_facts, union}
use Rattle.slot_evidence.specs.Seen.{IsSeen, symbols_in}
use Rattle.slot_evidence.specs.Sheet.{IsEnds, facts_in, seen_at}
use Rattle.slot_evidence.specs.Alike.{IsBetween, AreAlike}
use Rattle.receiver_pool.specs.Groups.{AreAlikeBeyond, AreSheets, known_at}
use Rattle.atomic_table.specs.Seated.{TableId}
use Rattle.evidence_board.specs.Seats.{Held}
use Rattle.slot_evidence.proofs.PublicLaws.{flip_alike}
use Rattle.receiver_pool.specs.inside.Numbers.{AreKnown, HavePosted, KeepNews, NewsPosted, gathered}
use Rattle.receiver_pool.proofs.Parts.{fold_twice}

-- what is between two of a set is between two of one that it is alike
further : (T U : Symbols) (v : ℕ) → ((w : ℕ) → T w ≡ true → IsBetween U w) → IsBetween T v → IsBetween U v
further T U v forth is =
    let low = forth is.low is.has_low in
    let high = forth is.high is.has_high in
    record { low = low.low; high = high.high; has_low = low.has_low; has_high = high.has_high; above = omega (arith, low.above, is.above); below = omega (arith, high.below, is.below) }

alike_through : (S T U : Symbols) → AreAlike S T → AreAlike T U → AreAlike S U
alike_through S T U first second = record {
  forth = λ v has. further T U v second.forth (first.forth v has);
  back = λ v has. further T S v first.back (second.back v has);
}

alike_same : (S T U : Symbols) → ((v : ℕ) → T v ≡ U v) → AreAlike S T → AreAlike S U
alike_same S T U same alike = record {
  forth = λ v has.
      let is = alike.forth v has in
      record { low = is.low; high = is.high; has_low = sym (same is.low) ∙ is.has_low; has_high = sym (same is.high) ∙ is.has_high; above = is.above; below = is.below };
  back = λ v has. alike.back v (same v ∙ has);
}

pub beyond_through : (known : List Seen) (F G H : Facts) → AreAlikeBeyond known F G → AreAlikeBeyond known G H → AreAlikeBeyond known F H
beyond_through known F G H first second = λ p.
    alike_through (λ v. facts_in known p v || F p v) (λ v. facts_in known p v || G p v) (λ v. facts_in known p v || H p v) (first p) (second p)

pub beyond_same : (known : List Seen) (F G H : Facts) → ((p v : ℕ) → G p v ≡ H p v) → AreAlikeBeyond known F G → AreAlikeBeyond known F H
beyond_same known F G H same alike = λ p.
    alike_same (λ v. facts_in known p v || F p v) (λ v. facts_in known p v || G p v) (λ v. facts_in known p v || H p v) (λ v. ap (λ (b : Bool). facts_in known p v || b) (same p v)) (alike p)

pub beyond_itself : (known : List Seen) (F : Facts) → ((S : Symbols) → AreAlike S S) → AreAlikeBeyond known F F
beyond_itself known F itself = λ p. itself (λ v. facts_in known p v || F p v)

-- a sheet that shows no news was taken out of a row
pub news_left : (known : List (List Seen)) (F : ℕ → Facts) (old new : List (List Seen)) (n k : ℕ) → k < n
    → ((G : Facts) → IsEnds G (slice_index_or old k []) → AreAlikeBeyond (known_at known k) G no_facts)
    → ((G : ℕ → Facts) (m : ℕ) → AreSheets G old m → AreSheets (λ j p v. not (k == j) && G j p v) new m)
    → KeepNews known F old n → KeepNews known F new n
news_left known F old new n k inside adds taken was = record {
  news = λ j p v. not (k == j) && was.news j p v;
  are = taken was.news n was.are;
  alike = λ j below. elim (cases_eq k j) [
    | inl here ↦
        beyond_same (known_at known j) (F j) no_facts _ (λ p v. sym (ap (λ (b : Bool). not b && was.news j p v) (eq-eqb k j here)))
        (beyond_through (known_at known j) (F j) (was.news j) no_facts (was.alike j below)
        (subst (λ (i : ℕ). AreAlikeBeyond (known_at known i) (was.news i) no_facts) here (adds (was.news k) (was.are.each k inside))))
    | inr apart ↦
        beyond_same (known_at known j) (F j) (was.news j) _ (λ p v. sym (ap (λ (b : Bool). not b && was.news j p v) (ne_eqb k j apart)))
        (was.alike j below)
  ];
}

-- all was posted
pub all_news : (known : List (List Seen)) (F : ℕ → Facts) (boards : List TableId) (before after : List Held) → ((S : Symbols) → AreAlike S S)
    → HavePosted F boards before after → NewsPosted known F boards before after
all_news known F boards before after itself posted = record {
  news = F;
  posted = posted;
  alike = λ k below. beyond_itself (known_at known k) (F k) itself;
}

same_alike_both : (S T U V : Symbols) → ((v : ℕ) → S v ≡ U v) → ((v : ℕ) → T v ≡ V v) → AreAlike S T → AreAlike U V
same_alike_both S T U V left right alike = flip_alike V U (alike_same V S U left (flip_alike S V (alike_same S T V right alike)))

-- of two together
pub beyond_both : (known : List Seen) (E F G H : Facts) → ((S T U V : Symbols) → AreAlike S T → AreAlike U V → AreAlike (λ v. S v || U v) (λ v. T v || V v))
    → AreAlikeBeyond known E F → AreAlikeBeyond known G H → AreAlikeBeyond known (union E G) (union F H)
beyond_both known E F G H unions one other = λ p.
    same_alike_both (λ v. facts_in known p v || E p v || (facts_in known p v || G p v)) (λ v. facts_in known p v || F p v || (facts_in known p v || H p v))
    (λ v. facts_in known p v || union E G p v) (λ v. facts_in known p v || union F H p v)
    (λ v. fold_twice (facts_in known p v) (E p v) (G p v)) (λ v. fold_twice (facts_in known p v) (F p v) (H p v))
    (unions (λ v. facts_in known p v || E p v) (λ v. facts_in known p v || F p v) (λ v. facts_in known p v || G p v) (λ v. facts_in known p v || H p v) (one p) (other p))

-- the same facts on the left
pub beyond_same_left : (known : List Seen) (F G H : Facts) → ((p v : ℕ) → F p v ≡ H p v) → AreAlikeBeyond known F G → AreAlikeBeyond known H G
beyond_same_left known F G H same alike = λ p.
    same_alike_both (λ v. facts_in known p v || F p v) (λ v. facts_in known p v || G p v) (λ v. facts_in known p v || H p v) (λ v. facts_in known p v || G p v)
    (λ v. ap (λ (b : Bool). facts_in known p v || b) (same p v)) (λ v. refl) (alike p)

-- the sheets of all facts keep what is news
pub all_kept : (known : List (List Seen)) (F : ℕ → Facts) (sheets : List (List Seen)) (n : ℕ) → ((S : Symbols) → AreAlike S S) → AreSheets F sheets n → KeepNews known F sheets n
all_kept known F sheets n itself are = record { news = F; are = are; alike = λ k below. beyond_itself (known_at known k) (F k) itself }

-- what is gathered of the places
pub gathered_news : (known : List (List Seen)) (groups : List ℕ) (sheets : List (List Seen)) (F G : ℕ → Facts) (g m : ℕ) → ((S : Symbols) → AreAlike S S)
    → ((S T U V : Symbols) → AreAlike S T → AreAlike U V → AreAlike (λ v. S v || U v) (λ v. T v || V v))
    → AreKnown known groups sheets → m ≤ length groups → ((k : ℕ) → k < m → AreAlikeBeyond (known_at sheets k) (F k) (G k))
    → AreAlikeBeyond (known_at known g) (gathered groups F m g) (gathered groups G m g)
gathered_news known groups sheets F G g zero itself unions are inside alike = beyond_itself (known_at known g) (gathered groups F zero g) itself
gathered_news known groups sheets F G g (suc m) itself unions are inside alike =
    beyond_both (known_at known g) (gathered groups F m g) (gathered groups G m g) (λ p v. slice_index groups m == g && F m p v) (λ p v. slice_index groups m == g && G m p v) unions
    (gathered_news known groups sheets F G g m itself unions are (omega arith) (λ k below. alike k (omega arith)))
    (elim (cases_eq (slice_index groups m) g) [
      | inl here ↦
          beyond_same_left (known_at known g) (F m) (λ p v. slice_index groups m == g && G m p v) (λ p v. slice_index groups m == g && F m p v)
          (λ p v. sym (ap (λ (b : Bool). b && F m p v) (eq-eqb (slice_index groups m) g here)))
          (beyond_same (known_at known g) (F m) (G m) (λ p v. slice_index groups m == g && G m p v)
          (λ p v. sym (ap (λ (b : Bool). b && G m p v) (eq-eqb (slice_index groups m) g here)))
          (subst (λ (j : ℕ). AreAlikeBeyond (known_at known j) (F m) (G m)) here (are m (omega arith) (F m) (G m) (alike m (omega arith)))))
      | inr apart ↦
          beyond_same_left (known_at known g) no_facts (λ p v. slice_index groups m == g && G m p v) (λ p v. slice_index groups m == g && F m p v)
          (λ p v. sym (ap (λ (b : Bool). b && F m p v) (ne_eqb (slice_index groups m) g apart)))
          (beyond_same (known_at known g) no_facts no_facts (λ p v. slice_index groups m == g && G m p v)
          (λ p v. sym (ap (λ (b : Bool). b && G m p v) (ne_eqb (slice_index groups m) g apart)))
          (beyond_itself (known_at known g) no_facts itself))
    ])

-- sheets that say the same of each place
pub beyond_known : (s t : List Seen) (F G : Facts) → ((p : ℕ) → seen_at s p ≡ seen_at t p) → AreAlikeBeyond s F G → AreAlikeBeyond t F G
beyond_known s t F G same alike = λ p. subst (λ (x : Seen). AreAlike (λ v. symbols_in x v || F p v) (λ v. symbols_in x v || G p v)) (same p) (alike p)

-- facts whose ends are the same have the same sheets
pub ends_alike : ((S T : Symbols) (x : Seen) → AreAlike S T → IsSeen S x → IsSeen T x) → (F G : Facts) (sheet : List Seen) → ((p : ℕ) → AreAlike (F p) (G p)) → IsEnds F sheet → IsEnds G sheet
ends_alike kept F G sheet alike ends = record { places = ends.places; each = λ p. kept (F p) (G p) (seen_at sheet p) (alike p) (ends.each p) }

-- where nothing is known all was posted
pub no_news : ((S T : Symbols) (x : Seen) → AreAlike S T → IsSeen S x → IsSeen T x) → ((S : Symbols) → AreAlike S S)
    → ((S T U V : Symbols) → AreAlike S T → AreAlike U V → AreAlike (λ v. S v || U v) (λ v. T v || V v))
    → (R : ℕ → Facts) (boards : List TableId) (before after : List Held) → NewsPosted [] R boards before after → HavePosted R boards before after
no_news kept itself unions R boards before after posts = λ share F are.
    let posted = posts.posted share F are in
    record {
      count = posted.count;
      each = λ k below.
          let seat = posted.each k below in
          record {
            table = seat.table;
            amount = seat.amount;
            ends = ends_alike kept (union (F k) (posts.news k)) (union (F k) (R k)) _
                (λ p. unions (F k p) (F k p) (posts.news k p) (R k p) (itself (F k p)) (flip_alike (R k p) (posts.news k p) (posts.alike k below p)))
                seat.ends;
          };
    }

-- sheets that took in what is news beside them took in all
pub met_beyond : ((S T : Symbols) (x : Seen) → AreAlike S T → IsSeen S x → IsSeen T x) → ((S : Symbols) → AreAlike S S)
    → ((S T U V : Symbols) → AreAlike S T → AreAlike U V → AreAlike (λ v. S v || U v) (λ v. T v || V v))
    → ((F : Facts) (sheet : List Seen) (p : ℕ) → IsEnds F sheet → AreAlike (F p) (facts_in sheet p))
    → (F G : ℕ → Facts) (old new : List (List Seen)) (news : ℕ → Facts) (n : ℕ) → AreSheets F old n → ((k : ℕ) → AreAlikeBeyond (known_at old k) (G k) (news k))
    → AreSheets (λ k. union (F k) (news k)) new n → AreSheets (λ k. union (F k) (G k)) new n
met_beyond kept itself unions sheet F G old new news n were beyond are = record {
  count = are.count;
  each = λ k below.
      ends_alike kept (union (F k) (news k)) (union (F k) (G k)) (known_at new k)
      (λ p.
      let now : Symbols = facts_in (known_at old k) p in
      let same : AreAlike (F k p) now = sheet (F k) (known_at old k) p (were.each k below) in
      alike_through (λ v. F k p v || news k p v) (λ v. now v || news k p v) (λ v. F k p v || G k p v)
      (unions (F k p) now (news k p) (news k p) same (itself (news k p)))
      (alike_through (λ v. now v || news k p v) (λ v. now v || G k p v) (λ v. F k p v || G k p v)
      (flip_alike (λ v. now v || G k p v) (λ v. now v || news k p v) (beyond k p))
      (unions now (F k p) (G k p) (G k p) (flip_alike (F k p) now same) (itself (G k p)))))
      (are.each k below);
}
