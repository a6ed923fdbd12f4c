-- A row of boards, and rows of their seats and sheets.
use Rattle.std.proofs.Common.{◌≡◌, ℕ, ◌+◌, ◌-◌, ◌/◌, ◌<◌, ◌≤◌, ◌==◌, Bool, ◌&&◌, ◌||◌, List, [], length, set, slice_index_or, arith, ap, sym, ◌∙◌, subst, inl, inr}
use Rattle.std.proofs.lemmas.Bool.{cases_eq, eq-eqb, ne_eqb}
use Rattle.std.proofs.Math.Bool.{or-false}
use Rattle.std.proofs.lemmas.List.{length-set, get_or-set_same, get_or-set_other}
use Rattle.atomic_table.specs.Seated.{TableId}
use Rattle.slot_evidence.specs.Facts.{Facts, no_facts, union}
use Rattle.slot_evidence.specs.declared.places.Seen.{Seen}
use Rattle.slot_evidence.specs.Sheet.{IsEnds, seen_at}
use Rattle.slot_evidence.proofs.PublicLaws.{IsEnds-same}
use Rattle.evidence_board.specs.Views.{Reach, united, reach_of, Place, place_at, given_sheet, seen_sheet}
use Rattle.evidence_board.specs.Rule.{IsWithin}
use Rattle.evidence_board.specs.Steps.{joined}
use Rattle.receiver_pool.specs.Groups.{AreSheets}
use Rattle.evidence_board.specs.Seats.{Held}
use Rattle.receiver_pool.specs.Rows.{IsSeatOf, AreSeats, no_seat, seat_at, table_at}
use Rattle.receiver_pool.proofs.Turning.{Row}

-- what is at each place
abbrev pub Seats : ℕ → (ℕ → Facts) → List TableId → ℕ → Held → Type 0
Seats share F boards j seat = IsSeatOf (table_at boards j) share (F j) seat

-- sheets from this number on keep the ends of their groups' facts
abbrev pub Sheets : (ℕ → Facts) → ℕ → List Seen → Type 0
Sheets F j sheet = IsEnds (F j) sheet

abbrev pub Any : ℕ → List Seen → Type 0
Any j sheet = sheet ≡ sheet

abbrev pub Tables : List TableId → ℕ → TableId → Type 0
Tables boards j board = board ≡ table_at boards j

abbrev pub AnySeat : ℕ → Held → Type 0
AnySeat j seat = seat ≡ seat

-- the seat has seen nothing
abbrev pub Unseen : ℕ → Held → Type 0
Unseen j seat = IsEnds no_facts (seen_sheet seat.view)

-- the seat at that place of a row
abbrev pub Same : List Held → ℕ → Held → Type 0
Same seats j seat = seat ≡ seat_at seats j

-- a seat saw what that seat of a row saw, and a sheet reaches as far
abbrev pub Covers : List Held → ℕ → Held → Type 0
Covers seats j seat = (p : ℕ) → p < 64 → IsWithin (place_at (seat_at seats j).view p).seen (place_at seat.view p).seen

abbrev pub SheetCovers : List Held → ℕ → List Seen → Type 0
SheetCovers seats j sheet = (p : ℕ) → p < 64 → IsWithin (place_at (seat_at seats j).view p).seen (reach_of (seen_at sheet p))

united_right : (a b : Reach) → IsWithin b (united a b)
united_right a b = record { least = omega arith; past = omega arith }

pub within_both : (a b c : Reach) → IsWithin a b → IsWithin b c → IsWithin a c
within_both a b c first last =
    let low = first.least in
    let lower = last.least in
    let high = first.past in
    let higher = last.past in
    record { least = omega arith; past = omega arith }

-- a seat that another was joined into saw what that one saw
pub joined_covers : (seats : List Held) (j : ℕ) (old new other : Held) → other ≡ seat_at seats j → ((p : ℕ) → p < 64 → place_at new.view p ≡ joined (place_at old.view p) (place_at other.view p)) → Covers seats j new
joined_covers seats j old new other is places = λ p below.
    subst (λ (s : Held). IsWithin (place_at s.view p).seen (place_at new.view p).seen) is
    (subst (λ (c : Place). IsWithin (place_at other.view p).seen c.seen) (sym (places p below)) (united_right (place_at old.view p).seen (place_at other.view p).seen))

-- and a sheet that reaches as far as the seat
pub sheet_covers : (seats : List Held) (j : ℕ) (seat : Held) (sheet : List Seen) → seat ≡ seat_at seats j → ((p : ℕ) → p < 64 → IsWithin (place_at seat.view p).seen (reach_of (seen_at sheet p))) → SheetCovers seats j sheet
sheet_covers seats j seat sheet is covers = λ p below. subst (λ (s : Held). IsWithin (place_at s.view p).seen (reach_of (seen_at sheet p))) is (covers p below)

pub seats_row : (share : ℕ) (F : ℕ → Facts) (boards : List TableId) (seats : List Held) → AreSeats share F boards seats → Row (Seats share F boards) no_seat seats (length boards)
seats_row share F boards seats are = record { count = are.count; each = are.each }

-- a row of seats is one seat of each board
pub row_seats : (share : ℕ) (F : ℕ → Facts) (boards : List TableId) (seats : List Held) → Row (Seats share F boards) no_seat seats (length boards) → AreSeats share F boards seats
row_seats share F boards seats row = record { count = row.count; each = row.each }

pub row_sheets : (F : ℕ → Facts) (sheets : List (List Seen)) (n : ℕ) → Row (Sheets F) [] sheets n → AreSheets F sheets n
row_sheets F sheets n row = record { count = row.count; each = row.each }

-- a sheet was posted through a seat
pub posted : (share : ℕ) (F G : Facts) (board : TableId) (old new : Held) (sheet : List Seen) → new.table ≡ board → new.view.share ≡ old.view.share
    → ((F G : Facts) → IsEnds F (given_sheet old.view) → IsEnds G sheet → IsEnds (union F G) (given_sheet new.view))
    → IsSeatOf board share F old → IsEnds G sheet → IsSeatOf board share (union F G) new
posted share F G board old new sheet table same meets was ends = record { table = table; amount = same ∙ was.amount; ends = meets F G was.ends ends }

-- a seat was split
pub half_kept : (share : ℕ) (F : Facts) (board : TableId) (old new other : Held) → new.table ≡ board → new.view.share + other.view.share ≡ old.view.share
    → other.view.share ≤ new.view.share → new.view.share ≤ other.view.share + 1 → given_sheet new.view ≡ given_sheet old.view → IsSeatOf board share F old → IsSeatOf board (share - share / 2) F new
half_kept share F board old new other table shares less more given was = record {
  table = table;
  amount = omega (arith, was.amount);
  ends = subst (λ (s : List Seen). IsEnds F s) (sym given) was.ends;
}

pub half_given : (share : ℕ) (F : Facts) (board : TableId) (old new other : Held) → other.table ≡ board → new.view.share + other.view.share ≡ old.view.share
    → other.view.share ≤ new.view.share → new.view.share ≤ other.view.share + 1 → given_sheet other.view ≡ given_sheet old.view → IsSeatOf board share F old → IsSeatOf board (share / 2) F other
half_given share F board old new other table shares less more given was = record {
  table = table;
  amount = omega (arith, was.amount);
  ends = subst (λ (s : List Seen). IsEnds F s) (sym given) was.ends;
}

-- two were joined
pub both_seats : (share amount : ℕ) (F G : Facts) (board : TableId) (old new other : Held) → new.table ≡ board → new.view.share ≡ old.view.share + other.view.share
    → ((F G : Facts) → IsEnds F (given_sheet old.view) → IsEnds G (given_sheet other.view) → IsEnds (union F G) (given_sheet new.view))
    → IsSeatOf board share F old → IsSeatOf board amount G other → IsSeatOf board (share + amount) (union F G) new
both_seats share amount F G board old new other table shares meets was and = record {
  table = table;
  amount = omega (arith, shares, was.amount, and.amount);
  ends = meets F G was.ends and.ends;
}

-- seats of the same facts
pub same_seats : (share amount : ℕ) (F G : ℕ → Facts) (boards : List TableId) (seats : List Held) → share ≡ amount → ((k p v : ℕ) → F k p v ≡ G k p v) → AreSeats share F boards seats → AreSeats amount G boards seats
same_seats share amount F G boards seats same alike are = record {
  count = are.count;
  each = λ k below.
      let seat = are.each k below in
      record { table = seat.table; amount = seat.amount ∙ same; ends = IsEnds-same (F k) (G k) _ (alike k) seat.ends };
}

-- a seat looked: it keeps its board, its share and what it posted
pub looked : (share : ℕ) (F : Facts) (board : TableId) (old new : Held) → new.table ≡ board → new.view.share ≡ old.view.share
    → given_sheet new.view ≡ given_sheet old.view → IsSeatOf board share F old → IsSeatOf board share F new
looked share F board old new table shares given was = record {
  table = table;
  amount = shares ∙ was.amount;
  ends = subst (λ (s : List Seen). IsEnds F s) (sym given) was.ends;
}

same_seat : (share : ℕ) (F G : Facts) (board : TableId) (seat : Held) → ((p v : ℕ) → F p v ≡ G p v) → IsSeatOf board share F seat → IsSeatOf board share G seat
same_seat share F G board seat alike was = record { table = was.table; amount = was.amount; ends = IsEnds-same F G _ alike was.ends }

-- more was posted through one seat of a row
pub seats_more : (share : ℕ) (F : ℕ → Facts) (G : Facts) (boards : List TableId) (seats : List Held) (k : ℕ) (new : Held) → k < length boards
    → IsSeatOf (table_at boards k) share (union (F k) G) new → AreSeats share F boards seats
    → AreSeats share (λ j. union (F j) (λ p v. k == j && G p v)) boards (set seats k new)
seats_more share F G boards seats k new inside held are = record {
  count = length-set seats k new ∙ are.count;
  each = λ j below. elim (cases_eq j k) [
    | inl here ↦
        subst (λ (s : Held). IsSeatOf (table_at boards j) share (union (F j) (λ p v. k == j && G p v)) s)
        (sym (ap (λ (i : ℕ). slice_index_or (set seats k new) i no_seat) here ∙ get_or-set_same seats k new no_seat (omega (arith, are.count))))
        (same_seat share (union (F j) G) _ (table_at boards j) new (λ p v. ap (λ (b : Bool). F j p v || (b && G p v)) (sym (eq-eqb k j (sym here))))
        (subst (λ (i : ℕ). IsSeatOf (table_at boards i) share (union (F i) G) new) (sym here) held))
    | inr apart ↦
        subst (λ (s : Held). IsSeatOf (table_at boards j) share (union (F j) (λ p v. k == j && G p v)) s) (sym (get_or-set_other seats k j new no_seat apart))
        (same_seat share (F j) _ (table_at boards j) _
        (λ p v. sym (ap (λ (b : Bool). F j p v || (b && G p v)) (ne_eqb k j (λ e. apart (sym e))) ∙ or-false (F j p v)))
        (are.each j below))
  ];
}

-- one seat of a row became another of its board
pub seats_set : (share : ℕ) (F : ℕ → Facts) (boards : List TableId) (seats : List Held) (k : ℕ) (new : Held) → k < length boards
    → Seats share F boards k new → AreSeats share F boards seats → AreSeats share F boards (set seats k new)
seats_set share F boards seats k new inside held are = record {
  count = length-set seats k new ∙ are.count;
  each = λ j below. elim (cases_eq j k) [
    | inl here ↦
        subst (λ (i : ℕ). Seats share F boards i (slice_index_or (set seats k new) i no_seat)) (sym here)
        (subst (Seats share F boards k) (sym (get_or-set_same seats k new no_seat (omega (arith, are.count)))) held)
    | inr apart ↦ subst (Seats share F boards j) (sym (get_or-set_other seats k j new no_seat apart)) (are.each j below)
  ];
}
