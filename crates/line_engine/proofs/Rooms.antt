-- the bytes of a window
use Rattle.std.proofs.Common.{◌≡◌, ℕ, ◌+◌, ◌-◌, ◌≤◌, List, ◌++◌, length, take, drop, Vec, Global, sym, ◌∙◌, ap, arith, length-drop, length-append}
use Rattle.std.specs.Vec.{with_items}
use Rattle.std.specs.List.{copy_within}
use Rattle.std.proofs.lemmas.List.{length-take, length-take-le, take-append-le, with_items_is, take_at, drop-take}
use Rattle.std.proofs.Math.Seq.{take-append-add}
use borrow.Rule.Slice.PartMut.{post_of}

-- one piece is written after the bytes
abbrev written : List ℕ → List ℕ → ℕ → ℕ → List ℕ
written bytes into len k = take len bytes ++ (into ++ post_of len k bytes)

length_written : (bytes into : List ℕ) (len k : ℕ) → len + k ≤ length bytes → length into ≡ k → length (written bytes into len k) ≡ length bytes
length_written bytes into len k fits e =
    omega (arith, length-append (take len bytes) (into ++ post_of len k bytes), length-append into (post_of len k bytes), length-take len bytes, length-drop k (drop len bytes), length-drop len bytes)

take_written : (bytes into : List ℕ) (len k n : ℕ) → len + k ≤ length bytes → length into ≡ k → n ≤ k → take (len + n) (written bytes into len k) ≡ take len bytes ++ take n into
take_written bytes into len k n fits e le =
    let front : length (take len bytes) ≡ len = length-take-le len bytes (omega arith) in
    ap (λ (m : ℕ). take (m + n) (written bytes into len k)) (sym front) ∙ take-append-add (take len bytes) (into ++ post_of len k bytes) n
    ∙ ap (λ (l : List ℕ). take len bytes ++ l) (take-append-le n into (post_of len k bytes) (omega arith))

pub read_behind : (room : Vec ℕ Global) (bytes into old : List ℕ) (len k n : ℕ) → bytes ≡ room.items → len + k ≤ length bytes → length into ≡ k → n ≤ k → take len room.items ≡ old
    → take (len + n) (with_items room (written bytes into len k)).items ≡ old ++ take n into
read_behind room bytes into old len k n e fits f le g =
    let all : length (written bytes into len k) ≡ room.len = length_written bytes into len k fits f ∙ ap length e ∙ sym room.ok.0 in
    ap (λ (l : List ℕ). take (len + n) l) (with_items_is room (written bytes into len k) all) ∙ take_written bytes into len k n fits f le
    ∙ ap (λ (l : List ℕ). take len l ++ take n into) e ∙ ap (λ (l : List ℕ). l ++ take n into) g

-- the last bytes are moved to the front
pub kept_last : (items copied old : List ℕ) (len left : ℕ) → copied ≡ copy_within items (len - left) len 0 → take len items ≡ old → len ≤ length items → left ≤ length old → take left copied ≡ drop (length old - left) old
kept_last items copied old len left e f fits le =
    let all : length old ≡ len = ap length (sym f) ∙ length-take-le len items fits in
    let same : len - (len - left) ≡ left = omega arith in
    let start : (len - left) + left ≡ len = omega arith in
    let back = drop (len - left) items in
    let enough : left ≤ length back = omega (arith, length-drop (len - left) items) in
    let front : take (len - (len - left)) back ≡ take left back = ap (λ (n : ℕ). take n back) same in
    ap (λ (l : List ℕ). take left l) (e ∙ ap (λ (l : List ℕ). l ++ drop (0 + (len - (len - left))) items) front)
    ∙ take_at (take left back) (drop (0 + (len - (len - left))) items) left (length-take-le left back enough)
    ∙ sym (drop-take (len - left) left items) ∙ ap (λ (n : ℕ). drop (len - left) (take n items)) start ∙ ap (λ (l : List ℕ). drop (len - left) l) f
    ∙ ap (λ (n : ℕ). drop (n - left) old) (sym all)
