use Rattle.std.proofs.Common.{◌≡◌, ℕ, ◌+◌, ◌-◌, ◌≤◌, min, Bool, true, false, ◌&&◌, nat_eq, nat_le, List, [], ◌++◌, length, take, drop, Option, Some, None, Result, Ok, Err, IsOk, is_ok, if◌then◌else◌, refl, sym, ◌∙◌, ap, arith, length-drop, append_assoc, append-nil}
use Rattle.std.proofs.lemmas.List.{take-append-drop, length-take, length-take-le, take_min, drop-drop, take_at}
use Rattle.std.proofs.Math.Seq.{take-length, take-append-add}
use Rattle.std.proofs.lemmas.Bool.Decides.{nat_tests}
use Rattle.byte_streams.specs.Streams.{Loses, Gains, SeenBefore}
use Rattle.byte_streams.specs.Sure.{Store, stored}

pub Loses-none : (a : Option (List ℕ)) → Loses a a []
Loses-none (Some all) = refl
Loses-none None = tt

pub Loses-more : (a b c : Option (List ℕ)) (xs ys : List ℕ) → Loses a b xs → Loses b c ys → Loses a c (xs ++ ys)
Loses-more (Some all) (Some rest) (Some end) xs ys h k = h ∙ ap (λ (r : List ℕ). xs ++ r) k ∙ sym (append_assoc xs ys end)
Loses-more None (Some rest) (Some end) xs ys h k = absurd h
Loses-more (Some all) None (Some end) xs ys h k = absurd k
Loses-more None None (Some end) xs ys h k = absurd k
Loses-more a b None xs ys h k = tt

pub Gains-none : (a : Option (List ℕ)) → Gains a a []
Gains-none (Some all) = sym (append-nil all)
Gains-none None = tt

pub Gains-more : (a b c : Option (List ℕ)) (xs ys : List ℕ) → Gains a b xs → Gains b c ys → Gains a c (xs ++ ys)
Gains-more (Some old) (Some mid) (Some new) xs ys h k = k ∙ ap (λ (m : List ℕ). m ++ ys) h ∙ append_assoc old xs ys
Gains-more None (Some mid) (Some new) xs ys h k = absurd h
Gains-more (Some old) None (Some new) xs ys h k = absurd k
Gains-more None None (Some new) xs ys h k = absurd k
Gains-more a b None xs ys h k = tt

-- one write more of the front of a text
pub front_more : (a b c : Option (List ℕ)) (text front rest after : List ℕ) (n : ℕ) → text ≡ front ++ rest → after ≡ drop n rest → Gains a b front → Gains b c (take n rest) → (x : List ℕ) × (text ≡ x ++ after) × Gains a c x
front_more a b c text front rest after n e d g h =
    (front ++ take n rest, e ∙ ap (λ (r : List ℕ). front ++ r) (sym (take-append-drop n rest)) ∙ sym (append_assoc front (take n rest) (drop n rest)) ∙ ap (λ (r : List ℕ). (front ++ take n rest) ++ r) (sym d), Gains-more a b c front (take n rest) g h)

-- what a read gives, and what is then left
pub read_parts : (bytes given into : List ℕ) (at n : ℕ) → given ≡ take n (drop at bytes) → n ≤ length (drop at bytes) → drop at bytes ≡ take n (given ++ drop n into) ++ drop (at + n) bytes
read_parts bytes given into at n e le =
    let len : length given ≡ n = ap length e ∙ length-take-le n (drop at bytes) le in
    let front : take n (given ++ drop n into) ≡ take n (drop at bytes) = take_at given (drop n into) n len ∙ e in
    sym (take-append-drop n (drop at bytes)) ∙ ap (λ (l : List ℕ). l ++ drop n (drop at bytes)) (sym front) ∙ ap (λ (l : List ℕ). take n (given ++ drop n into) ++ l) (drop-drop n at bytes)

slice_end : (l bytes : List ℕ) (at : ℕ) → l ≡ bytes → take (length l - at) (drop at l) ≡ drop at bytes
slice_end l bytes at e =
    ap (λ (k : ℕ). take k (drop at l)) (sym (length-drop at l)) ∙ take-length (drop at l) ∙ ap (λ (m : List ℕ). drop at m) e

pub read_result : (l bytes given into : List ℕ) (at n : ℕ) → l ≡ bytes → given ≡ take n (take (length l - at) (drop at l)) → n ≤ length (take (length l - at) (drop at l)) → drop at bytes ≡ take n (given ++ drop n into) ++ drop (at + n) bytes
read_result l bytes given into at n e f le =
    let rest = slice_end l bytes at e in
    let short : n ≤ length (drop at bytes) = omega (arith, ap length rest) in
    read_parts bytes given into at n (f ∙ ap (λ (m : List ℕ). take n m) rest) short

-- what a call that has the room appends
pub appended : {T E : Type 0} (r : Result T E) (kept bytes new : List ℕ) (fits room count capacity : ℕ) → count ≡ length kept → (count + length (take fits bytes) ≤ capacity → IsOk r) → length kept ≤ room → room ≤ capacity → fits ≡ min (length bytes) (room - length kept) → new ≡ (if is_ok r then kept ++ take fits bytes else kept) → new ≡ kept ++ take fits bytes
appended (Ok x) kept bytes new fits room count capacity same ok le room_is e h = h
appended (Err x) kept bytes new fits room count capacity same ok le room_is e h =
    let short = length-take fits bytes in
    let never : false ≡ true = ok (omega arith) in
    cc

-- what a sink keeps is the front that fits
kept_front : (kept bytes : List ℕ) (room fits : ℕ) → length kept ≤ room → fits ≡ min (length bytes) (room - length kept) → kept ++ take fits bytes ≡ take room (kept ++ bytes)
kept_front kept bytes room fits le e =
    let all : length kept + (room - length kept) ≡ room = omega arith in
    let turned : fits ≡ min (room - length kept) (length bytes) = omega arith in
    let front : take fits bytes ≡ take (room - length kept) bytes = ap (λ (k : ℕ). take k bytes) turned ∙ take_min (room - length kept) bytes in
    ap (λ (l : List ℕ). kept ++ l) front ∙ sym (take-append-add kept bytes (room - length kept)) ∙ ap (λ (k : ℕ). take k (kept ++ bytes)) all

-- all of it fits, or not
all_fits : (kept bytes room fits : ℕ) → kept ≤ room → fits ≡ min bytes (room - kept) → nat_eq fits bytes ≡ nat_le (kept + bytes) room
all_fits kept bytes room fits le e = grind (arith, nat_tests)

pub stored_is : (s : Store) (items bytes : List ℕ) (whole : Bool) (fits : ℕ) → length s.kept ≤ s.room → fits ≡ min (length bytes) (s.room - length s.kept) → items ≡ s.kept ++ take fits bytes → whole ≡ s.whole && nat_eq fits (length bytes) → record s { kept = items; whole = whole } ≡ stored s bytes
stored_is s items bytes whole fits le e h k =
    ap (λ (l : List ℕ). record s { kept = l; whole = whole }) (h ∙ kept_front s.kept bytes s.room fits le e)
    ∙ ap (λ (w : Bool). record s { kept = take s.room (s.kept ++ bytes); whole = w }) (k ∙ ap (λ (b : Bool). s.whole && b) (all_fits (length s.kept) (length bytes) s.room fits le e))
