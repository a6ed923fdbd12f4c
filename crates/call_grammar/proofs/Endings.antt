-- The places after the first end of sequence, as `read` meets them.
use Rattle.std.proofs.Common.{◌≡◌, ℕ, ◌+◌, ◌-◌, ◌<◌, ◌≤◌, List, [], ◌∷◌, ◌++◌, length, take, drop, get_or, Err, refl, sym, ◌∙◌, ap, subst, append-nil, append_assoc, length-append, arith}
use Rattle.std.proofs.lemmas.List.{append_cancel_left, take-append-le, nil_from_length}
use Rattle.std.proofs.Math.Seq.{take-length}
use Rattle.call_values.specs.declared.calls.Call.{Call}
use Rattle.call_values.specs.Calls.{IsCall}
use Rattle.call_grammar.specs.Spelling.{format_of, covered, check_of, end_of, up_to_end, spell}
use Rattle.call_grammar.specs.Walk.{IsViable, IsAtCheck}
use Rattle.call_grammar.specs.Reading.{IsPart, BeginsWith, EndsShort, EndsOutside, EndsWrong, IsReading, Shows, Misses}
use Rattle.symbol_reader.specs.declared.refusals.ReadRefusal.{ReadRefusal}
use Rattle.symbol_reader.specs.declared.refusals.ReadRefusal.TheVariants.{Short, Outside, Check}
use Rattle.call_grammar.proofs.Fronts.{same_covered}
use Rattle.call_grammar.proofs.Lengths.{length-covered}
use Rattle.call_grammar.proofs.Readings.{tail_of, spell-tail}

-- at place n the list has shown a call up to its first end of sequence, and of what follows this much
pub record At (call : Call) (list : List ℕ) (n : ℕ) (done pending : List ℕ) : Type 0 where
  pub lawful : IsCall call
  pub tails : tail_of call ≡ done ++ pending
  pub rest : List ℕ
  pub whole : list ≡ (up_to_end call ++ done) ++ rest
  pub place : n ≡ length (up_to_end call ++ done)

-- where the list goes on, the symbol at the place is next
goes_on : (front rest : List ℕ) → length front < length (front ++ rest) → rest ≡ get_or (front ++ rest) (length front) 0 ∷ drop 1 rest
goes_on [] [] h = absurd (omega arith)
goes_on [] (x ∷ rest) h = refl
goes_on (y ∷ front) rest h = goes_on front rest (omega arith)

goes_on_at : (l front rest : List ℕ) (n : ℕ) → l ≡ front ++ rest → n ≡ length front → n < length l → rest ≡ get_or l n 0 ∷ drop 1 rest
goes_on_at l front rest n e p h =
    let lengths : length l ≡ length (front ++ rest) = ap length e in
    let place : length front < length (front ++ rest) = omega arith in
    goes_on front rest place ∙ ap (λ a. get_or a (length front) 0 ∷ drop 1 rest) (sym e) ∙ ap (λ a. get_or l a 0 ∷ drop 1 rest) (sym p)

is_part : (call : Call) (l : List ℕ) (n y : ℕ) (done pending : List ℕ) → At call l n done (y ∷ pending) → IsPart (up_to_end call ++ done)
is_part call l n y done pending a = record {
  call = call;
  next = y;
  rest = pending;
  lawful = a.lawful;
  list = spell-tail call ∙ ap (λ m. up_to_end call ++ m) a.tails ∙ sym (append_assoc (up_to_end call) done (y ∷ pending));
}

pub at_short : (call : Call) (l : List ℕ) (n y : ℕ) (done pending : List ℕ) → At call l n done (y ∷ pending) → length l ≤ n → EndsShort l n
at_short call l n y done pending a h =
    let lengths : length l ≡ length (up_to_end call ++ done) + length a.rest = ap length a.whole ∙ length-append (up_to_end call ++ done) a.rest in
    let place : n ≡ length (up_to_end call ++ done) = a.place in
    let none : a.rest ≡ [] = nil_from_length a.rest (omega arith) in
    let whole : l ≡ up_to_end call ++ done = a.whole ∙ ap (λ m. (up_to_end call ++ done) ++ m) none ∙ append-nil (up_to_end call ++ done) in
    record { part = subst IsPart (sym whole) (is_part call l n y done pending a); place = omega arith }

-- no call's list goes on with another symbol than the one that is next
never_other : (call : Call) (l : List ℕ) (n x y : ℕ) (done pending : List ℕ) → At call l n done (y ∷ pending) → (x ≡ y → ⊥)
    → IsViable ((up_to_end call ++ done) ++ (x ∷ [])) → ⊥
never_other call l n x y done pending a differ v =
    let d = v.call in
    let front : List ℕ = up_to_end call ++ done in
    let e1 : up_to_end d ++ tail_of d ≡ (front ++ (x ∷ [])) ++ v.rest = sym (spell-tail d) ∙ v.list in
    let e2 : (front ++ (x ∷ [])) ++ v.rest ≡ up_to_end call ++ (done ++ (x ∷ v.rest)) =
    append_assoc front (x ∷ []) v.rest ∙ append_assoc (up_to_end call) done (x ∷ v.rest) in
    let e3 : format_of d ∷ (covered d ++ tail_of d) ≡ format_of call ∷ (covered call ++ (done ++ (x ∷ v.rest))) = e1 ∙ e2 in
    let e4 : covered d ++ tail_of d ≡ covered call ++ (done ++ (x ∷ v.rest)) = cc in
    let same = same_covered call d (tail_of d) (done ++ (x ∷ v.rest)) a.lawful v.lawful e4 in
    let e5 : done ++ (x ∷ v.rest) ≡ done ++ (y ∷ pending) = sym same.1 ∙ ap tail_of (sym same.0) ∙ a.tails in
    let e6 : x ∷ v.rest ≡ y ∷ pending = append_cancel_left done (x ∷ v.rest) (y ∷ pending) e5 in
    let e7 : x ≡ y = cc in
    differ e7

past_check : (call : Call) (z : ℕ) (done : List ℕ) → IsCall call → IsAtCheck (up_to_end call ++ (z ∷ done)) → ⊥
past_check call z done h a =
    let d = a.call in
    let e1 : format_of call ∷ (covered call ++ (z ∷ done)) ≡ format_of d ∷ covered d = a.list in
    let e2 : covered call ++ (z ∷ done) ≡ covered d = cc in
    let same = same_covered call d [] (z ∷ done) h a.lawful (append-nil (covered d) ∙ sym e2) in
    let e3 : [] ≡ z ∷ done = same.1 in
    cc

pub at_outside : (call : Call) (l : List ℕ) (n x y z : ℕ) (done pending : List ℕ) → At call l n (z ∷ done) (y ∷ pending) → n < length l
    → get_or l n 0 ≡ x → (x ≡ y → ⊥) → EndsOutside l n x
at_outside call l n x y z done pending a h e differ =
    let front : List ℕ = up_to_end call ++ (z ∷ done) in
    let next = goes_on_at l front a.rest n a.whole a.place h in
    record {
      front = front;
      rest = drop 1 a.rest;
      list = a.whole ∙ ap (λ m. front ++ m) next ∙ ap (λ b. front ++ (b ∷ drop 1 a.rest)) e;
      place = a.place;
      part = is_part call l n y (z ∷ done) pending a;
      never = never_other call l n x y (z ∷ done) pending a differ;
      elsewhere = past_check call z done a.lawful;
    }

pub at_wrong : (call : Call) (l : List ℕ) (n x want y : ℕ) (pending : List ℕ) → At call l n [] (y ∷ pending) → n < length l
    → get_or l n 0 ≡ x → want ≡ check_of (covered call) → (x ≡ want → ⊥) → EndsWrong l n want x
at_wrong call l n x want y pending a h e w differ =
    let front : List ℕ = up_to_end call ++ [] in
    let same : up_to_end call ++ [] ≡ up_to_end call = append-nil (up_to_end call) in
    let next = goes_on_at l front a.rest n a.whole a.place h in
    let check : check_of (covered call) ≡ y = (let t : tail_of call ≡ y ∷ pending = a.tails in cc) in
    record {
      front = front;
      rest = drop 1 a.rest;
      list = a.whole ∙ ap (λ m. front ++ m) next ∙ ap (λ b. front ++ (b ∷ drop 1 a.rest)) e;
      place = a.place;
      check_place = record { call = call; lawful = a.lawful; list = same };
      never = never_other call l n x y [] pending a (λ p. differ (p ∙ sym check ∙ sym w));
      check = w ∙ ap (λ m. check_of (drop 1 m)) (sym same);
    }

pub at_next : (call : Call) (l : List ℕ) (n y : ℕ) (done pending : List ℕ) → At call l n done (y ∷ pending) → n < length l → get_or l n 0 ≡ y
    → At call l (n + 1) (done ++ (y ∷ [])) pending
at_next call l n y done pending a h e =
    let u : List ℕ = up_to_end call in
    let next = goes_on_at l (u ++ done) a.rest n a.whole a.place h in
    let longer : (u ++ done) ++ (y ∷ []) ≡ u ++ (done ++ (y ∷ [])) = append_assoc u done (y ∷ []) in
    let place : n ≡ length (u ++ done) = a.place in
    record {
      lawful = a.lawful;
      tails = a.tails ∙ sym (append_assoc done (y ∷ []) pending);
      rest = drop 1 a.rest;
      whole = a.whole ∙ ap (λ m. (u ++ done) ++ m) next ∙ ap (λ b. (u ++ done) ++ (b ∷ drop 1 a.rest)) e
          ∙ sym (append_assoc (u ++ done) (y ∷ []) (drop 1 a.rest)) ∙ ap (λ m. m ++ drop 1 a.rest) longer;
      place = omega (arith, length-append (u ++ done) (y ∷ []), ap length longer);
    }

pub at_done : (call : Call) (l : List ℕ) (n : ℕ) (done : List ℕ) → At call l n done [] → BeginsWith l call n
at_done call l n done a =
    let u : List ℕ = up_to_end call in
    let all : done ≡ tail_of call = sym (a.tails ∙ append-nil done) in
    let whole : u ++ done ≡ spell call = ap (λ m. u ++ m) all ∙ sym (spell-tail call) in
    record { rest = a.rest; lawful = a.lawful; list = a.whole ∙ ap (λ m. m ++ a.rest) whole; place = a.place ∙ ap length whole }

pub at_start : (call : Call) (l rest : List ℕ) (n : ℕ) → IsCall call → l ≡ up_to_end call ++ rest → n ≡ length (up_to_end call)
    → At call l n [] (tail_of call)
at_start call l rest n h e p = record {
  lawful = h;
  tails = refl;
  rest = rest;
  whole = e ∙ ap (λ m. m ++ rest) (sym (append-nil (up_to_end call)));
  place = p ∙ ap length (sym (append-nil (up_to_end call)));
}

-- the place of the check is below 30
pub place_short : (call : Call) (n : ℕ) → n ≡ length (up_to_end call) → n ≤ 29
place_short call n p = omega (arith, length-covered call)

-- what the check covers is between the first symbol and the check
pub covered_part : (call : Call) (l rest : List ℕ) (n : ℕ) → l ≡ up_to_end call ++ rest → n ≡ length (up_to_end call)
    → take (n - 1) (drop 1 l) ≡ covered call
covered_part call l rest n e p =
    let once : drop 1 l ≡ covered call ++ rest = ap (λ a. drop 1 a) e in
    let count : n - 1 ≡ length (covered call) = omega arith in
    ap (λ a. take (n - 1) a) once ∙ ap (λ k. take k (covered call ++ rest)) count
    ∙ take-append-le (length (covered call)) (covered call) rest (omega arith) ∙ take-length (covered call)

-- the place of the last end of sequence but one
pub after_check : (call : Call) (l rest : List ℕ) (n x : ℕ) → IsCall call → l ≡ up_to_end call ++ rest → n ≡ length (up_to_end call) → n < length l
    → get_or l n 0 ≡ x → x ≡ check_of (take (n - 1) (drop 1 l)) → At call l (n + 1) (check_of (covered call) ∷ []) (end_of call ∷ end_of call ∷ [])
after_check call l rest n x h e p i q k =
    at_next call l n (check_of (covered call)) [] (end_of call ∷ end_of call ∷ []) (at_start call l rest n h e p) i
    (q ∙ k ∙ ap check_of (covered_part call l rest n e p))

-- the place of the last end of sequence
pub after_end : (call : Call) (l : List ℕ) (n x y : ℕ) → At call l (n + 1) (y ∷ []) (end_of call ∷ end_of call ∷ []) → Shows l (n + 1) x → x ≡ end_of call
    → At call l (n + 2) (y ∷ end_of call ∷ []) (end_of call ∷ [])
after_end call l n x y a s e =
    let two : n + 1 + 1 ≡ n + 2 = omega arith in
    subst (λ m. At call l m (y ∷ end_of call ∷ []) (end_of call ∷ [])) two
    (at_next call l (n + 1) (end_of call) (y ∷ []) (end_of call ∷ []) a s.inside (s.symbol ∙ e))

-- the whole list was met
pub after_last : (call : Call) (l : List ℕ) (n x y z : ℕ) → At call l (n + 2) (y ∷ z ∷ []) (end_of call ∷ []) → Shows l (n + 2) x → x ≡ end_of call
    → BeginsWith l call (n + 3)
after_last call l n x y z a s e =
    let three : n + 2 + 1 ≡ n + 3 = omega arith in
    subst (λ m. BeginsWith l call m) three
    (at_done call l (n + 2 + 1) (y ∷ z ∷ end_of call ∷ []) (at_next call l (n + 2) (end_of call) (y ∷ z ∷ []) [] a s.inside (s.symbol ∙ e)))

-- an end of sequence was not met
pub missed : (call : Call) (l : List ℕ) (n x y z : ℕ) (done pending : List ℕ) (refusal : ReadRefusal) → At call l n (z ∷ done) (y ∷ pending) → x ≡ y
    → Misses l n x refusal → IsReading l (Err refusal)
missed call l n x y z done pending (Short m) a e h =
    subst (λ k. EndsShort l k) (sym h.0) (at_short call l n y (z ∷ done) pending a h.1)
missed call l n x y z done pending (Outside m got) a e h =
    subst (λ k. EndsOutside l k got) (sym h.0)
    (at_outside call l n got y z done pending a h.1.inside h.1.symbol (λ p. h.2 (p ∙ sym e)))
missed call l n x y z done pending (Check m want got) a e h = absurd h
