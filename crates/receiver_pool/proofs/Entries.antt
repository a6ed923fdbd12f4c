-- What entries show together.
use Rattle.std.proofs.Common.{◌≡◌, ℕ, ◌+◌, ◌<◌, ◌≤◌, ◌==◌, Bool, ◌&&◌, ◌||◌, List, [], ◌∷◌, ◌++◌, length, drop, slice_index_or, refl, ap, sym, ◌∙◌, subst}
use Rattle.std.proofs.lemmas.List.{drop_more, drop_all}
use Rattle.std.proofs.Math.Bool.{or-false, or_assoc}
use Rattle.plain_laws.proofs.Tests.{or_false_left, or_false_right}
use Rattle.slot_evidence.specs.declared.places.Seen.{Seen}
use Rattle.slot_evidence.specs.Facts.{Facts, no_facts, union}
use Rattle.slot_evidence.specs.Sheet.{IsEnds}
use Rattle.receiver_pool.specs.declared.group_entries.GroupSheet.{GroupSheet}
use Rattle.receiver_pool.specs.Groups.{AreSheets, AreShown}
use Rattle.receiver_pool.proofs.Parts.{same_sheets}

-- the same facts
pub shown_same : (F G : ℕ → Facts) (entries : List GroupSheet) → ((k p v : ℕ) → F k p v ≡ G k p v) → AreShown F entries → AreShown G entries
shown_same F G [] same are = λ k p v. sym (same k p v) ∙ are k p v
shown_same F G (entry ∷ entries) same are = record {
  facts = are.facts;
  ends = are.ends;
  rest = are.rest;
  others = are.others;
  are = λ k p v. sym (same k p v) ∙ are.are k p v;
}

-- two lists of entries, one after the other
pub shown_append : (F G : ℕ → Facts) (xs ys : List GroupSheet) → AreShown F xs → AreShown G ys → AreShown (λ k. union (F k) (G k)) (xs ++ ys)
shown_append F G [] ys f g = shown_same G (λ k. union (F k) (G k)) ys (λ k p v. sym (or_false_left (F k p v) (G k p v) (f k p v))) g
shown_append F G (x ∷ xs) ys f g = record {
  facts = f.facts;
  ends = f.ends;
  rest = λ k. union (f.rest k) (G k);
  others = shown_append f.rest G xs ys f.others g;
  are = λ k p v. ap (λ (b : Bool). b || G k p v) (f.are k p v) ∙ or_assoc (x.group == k && f.facts p v) (f.rest k p v) (G k p v);
}

pub shown_one : (entry : GroupSheet) (G : Facts) → IsEnds G entry.sheet → AreShown (λ k p v. entry.group == k && G p v) (entry ∷ [])
shown_one entry G ends = record {
  facts = G;
  ends = ends;
  rest = λ k. no_facts;
  others = λ k p v. refl;
  are = λ k p v. sym (or-false (entry.group == k && G p v));
}

-- sheets that entries are being met with: what they keep and what the other entries show are all facts together
pub record Meeting (F G : ℕ → Facts) (sheets : List (List Seen)) (n : ℕ) (others : List GroupSheet) : Type 0 where
  pub kept : ℕ → Facts
  pub rest : ℕ → Facts
  pub are_sheets : AreSheets kept sheets n
  pub are_shown : AreShown rest others
  pub same : (k p v : ℕ) → (F k p v || G k p v) ≡ (kept k p v || rest k p v)

pub goes_on_meeting : (F G : ℕ → Facts) (old new : List (List Seen)) (n i : ℕ) (entries : List GroupSheet) (entry : GroupSheet) → i < length entries → entry ≡ slice_index_or entries i entry
    → ((H : ℕ → Facts) (E : Facts) (m : ℕ) → AreSheets H old m → IsEnds E entry.sheet → AreSheets (λ k. union (H k) (λ p v. entry.group == k && E p v)) new m)
    → Meeting F G old n (drop i entries) → Meeting F G new n (drop (i + 1) entries)
goes_on_meeting F G old new n i entries entry below is meets was =
    let all : AreShown was.rest (entry ∷ drop (i + 1) entries) =
    subst (λ (x : GroupSheet). AreShown was.rest (x ∷ drop (i + 1) entries)) (sym is) (subst (λ (es : List GroupSheet). AreShown was.rest es) (drop_more entries i entry below) was.are_shown) in
    record {
      kept = λ k. union (was.kept k) (λ p v. entry.group == k && all.facts p v);
      rest = all.rest;
      are_sheets = meets was.kept all.facts n was.are_sheets all.ends;
      are_shown = all.others;
      same = λ k p v.
          was.same k p v ∙ ap (λ (b : Bool). was.kept k p v || b) (all.are k p v)
          ∙ sym (or_assoc (was.kept k p v) (entry.group == k && all.facts p v) (all.rest k p v));
    }

pub ends_meeting : (F G : ℕ → Facts) (sheets : List (List Seen)) (n i : ℕ) (entries : List GroupSheet) → length entries ≤ i → Meeting F G sheets n (drop i entries) → AreSheets (λ k. union (F k) (G k)) sheets n
ends_meeting F G sheets n i entries over was =
    let none : AreShown was.rest [] = subst (λ (es : List GroupSheet). AreShown was.rest es) (drop_all i entries over) was.are_shown in
    same_sheets was.kept (λ k. union (F k) (G k)) sheets n (λ k p v. sym (was.same k p v ∙ or_false_right (was.kept k p v) (was.rest k p v) (none k p v))) was.are_sheets
