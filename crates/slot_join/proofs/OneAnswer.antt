-- A set of facts has one answer.
use Rattle.std.proofs.Common.{◌≡◌, ℕ, ◌≤◌, ◌⊎◌, List, ◌++◌, length, drop, sym, ap, subst, ◌∙◌, inl, inr, arith}
use Rattle.std.proofs.lemmas.Bool.{cases_lt}
use Rattle.std.proofs.lemmas.List.{append-nil, drop_all}
use Rattle.call_values.specs.declared.calls.Call.{Call}
use Rattle.call_values.specs.Calls.{IsCall}
use Rattle.call_grammar.specs.Spelling.{through_check}
use Rattle.slot_evidence.specs.declared.places.Seen.{Seen}
use Rattle.slot_evidence.specs.declared.places.Seen.TheVariants as seen
use Rattle.slot_evidence.specs.Facts.{Facts, Symbols}
use Rattle.slot_evidence.specs.Seen.{IsSeen}
use Rattle.slot_join.specs.declared.joined.Joined.{Joined}
use Rattle.slot_join.specs.declared.joined.Joined.TheVariants.{Reported}
use Rattle.slot_join.specs.declared.joined.Extra.{Extra}
use Rattle.slot_join.specs.Extra.{Follows}
use Rattle.slot_join.specs.Shown.{head_of, IsShown}
use Rattle.slot_join.specs.Answer.{IsAnswer, IsReported, IsStopped, StopsAt, StopsWith, BehindFormat, BehindHead}
use Rattle.slot_join.proofs.ShownLists.{agree}
use Rattle.slot_join.proofs.Stops.{FrontsDiffer}
use Rattle.slot_join.proofs.Followers.{ExpansionsDiffer, CallsAreShort, same_follows}

-- a set of symbols is kept in one way
abbrev pub OneSeen : Type 0
OneSeen = (S : Symbols) (a b : Seen) → IsSeen S a → IsSeen S b → a ≡ b

-- two calls that are shown are one
pub same_call : FrontsDiffer → (F : Facts) (c d : Call) → IsCall c → IsCall d → IsShown F (through_check c) → IsShown F (through_check d) → c ≡ d
same_call differ F c d lc ld sc sd = elim (cases_lt (length (through_check d)) (length (through_check c))) [
  | inl lt ↦ sym (differ d c (drop (length (through_check d)) (through_check c)) ld lc (agree F (through_check d) (through_check c) sd sc (omega arith))).0
  | inr le ↦ (differ c d (drop (length (through_check c)) (through_check d)) lc ld (agree F (through_check c) (through_check d) sc sd le)).0
]

-- the laws of calls and of expansions
pub record Laws : Type 0 where
  pub one : OneSeen
  pub differ : FrontsDiffer
  pub expansions : ExpansionsDiffer
  pub short : CallsAreShort

both_reported : Laws → (F : Facts) (a b : Joined) → IsReported F a → IsReported F b → a ≡ b
both_reported laws F a b x y =
    let calls : x.call ≡ y.call = same_call laws.differ F x.call y.call x.lawful y.lawful x.shown y.shown in
    let extras : x.extra ≡ y.extra =
    same_follows laws.expansions laws.short F y.call x.extra y.extra y.lawful (subst (λ (c : Call). Follows F c x.extra) calls x.follows) y.follows in
    x.answer_is ∙ ap (λ (c : Call). Reported c x.extra) calls ∙ ap (λ (e : Extra). Reported y.call e) extras ∙ sym y.answer_is

same_list : (F : Facts) (l m : List ℕ) → IsShown F l → IsShown F m → length l ≤ length m → length m ≤ length l → l ≡ m
same_list F l m a b le ge =
    sym (agree F l m a b le ∙ ap (λ (x : List ℕ). l ++ x) (drop_all (length l) m ge) ∙ append-nil l)

same_stop_at : (F : Facts) (l : List ℕ) (v : ℕ) (a b : Joined) → StopsAt F l v a → StopsAt F l v b → a ≡ b
same_stop_at F l v a b (inl x) (inl y) = x.1 ∙ sym y.1
same_stop_at F l v a b (inl x) (inr (inl y)) = absurd (y.0 x.0)
same_stop_at F l v a b (inl x) (inr (inr y)) = absurd (y.0 x.0)
same_stop_at F l v a b (inr (inl x)) (inl y) = absurd (x.0 y.0)
same_stop_at F l v a b (inr (inl x)) (inr (inl y)) = x.2 ∙ sym y.2
same_stop_at F l v a b (inr (inl x)) (inr (inr y)) = absurd (y.1 x.1)
same_stop_at F l v a b (inr (inr x)) (inl y) = absurd (x.0 y.0)
same_stop_at F l v a b (inr (inr x)) (inr (inl y)) = absurd (x.1 y.1)
same_stop_at F l v a b (inr (inr x)) (inr (inr y)) = x.2 ∙ sym y.2

same_stop : (F : Facts) (l : List ℕ) (here : Seen) (a b : Joined) → StopsWith F l here a → StopsWith F l here b → a ≡ b
same_stop F l seen.None a b x y = x ∙ sym y
same_stop F l (seen.Differ u v) a b x y = x ∙ sym y
same_stop F l (seen.One v) a b x y = same_stop_at F l v a b x y

both_stopped : OneSeen → (F : Facts) (a b : Joined) → IsStopped F a → IsStopped F b → a ≡ b
both_stopped one F a b x y =
    let ge : length y.list ≤ length x.list = x.longest.longest y.list y.longest.shown y.longest.viable in
    let le : length x.list ≤ length y.list = y.longest.longest x.list x.longest.shown x.longest.viable in
    let same : y.list ≡ x.list = same_list F y.list x.list y.longest.shown x.longest.shown ge le in
    let seen_y : IsSeen (F (length x.list)) y.here = subst (λ (l : List ℕ). IsSeen (F (length l)) y.here) same y.seen in
    let here : y.here ≡ x.here = one (F (length x.list)) y.here x.here seen_y x.seen in
    let stops_y : StopsWith F x.list y.here b = subst (λ (l : List ℕ). StopsWith F l y.here b) same y.stops in
    same_stop F x.list x.here a b x.stops (subst (λ (s : Seen). StopsWith F x.list s b) here stops_y)

same_end : Laws → (F : Facts) (a b : Joined) → IsReported F a ⊎ IsStopped F a → IsReported F b ⊎ IsStopped F b → a ≡ b
same_end laws F a b (inl x) (inl y) = both_reported laws F a b x y
same_end laws F a b (inl x) (inr y) = absurd (y.unreported x.call x.lawful x.shown)
same_end laws F a b (inr x) (inl y) = absurd (x.unreported y.call y.lawful y.shown)
same_end laws F a b (inr x) (inr y) = both_stopped laws.one F a b x y

same_behind_format : Laws → (F : Facts) (f : ℕ) (a b : Joined) → BehindFormat F f a → BehindFormat F f b → a ≡ b
same_behind_format laws F f a b (inl x) (inl y) = x.1 ∙ sym y.1
same_behind_format laws F f a b (inl x) (inr (inl y)) = absurd (x.0 y.0)
same_behind_format laws F f a b (inl x) (inr (inr (inl y))) = absurd (x.0 y.0)
same_behind_format laws F f a b (inl x) (inr (inr (inr y))) = absurd (x.0 y.0.is_one)
same_behind_format laws F f a b (inr (inl x)) (inl y) = absurd (y.0 x.0)
same_behind_format laws F f a b (inr (inl x)) (inr (inl y)) = x.3 ∙ sym y.3
same_behind_format laws F f a b (inr (inl x)) (inr (inr (inl y))) = absurd (y.2 x.2)
same_behind_format laws F f a b (inr (inl x)) (inr (inr (inr y))) = absurd (y.0.first x.1 x.2)
same_behind_format laws F f a b (inr (inr (inl x))) (inl y) = absurd (y.0 x.0)
same_behind_format laws F f a b (inr (inr (inl x))) (inr (inl y)) = absurd (x.2 y.2)
same_behind_format laws F f a b (inr (inr (inl x))) (inr (inr (inl y))) = x.4 ∙ sym y.4
same_behind_format laws F f a b (inr (inr (inl x))) (inr (inr (inr y))) = absurd (y.0.second x.1 x.3)
same_behind_format laws F f a b (inr (inr (inr x))) (inl y) = absurd (y.0 x.0.is_one)
same_behind_format laws F f a b (inr (inr (inr x))) (inr (inl y)) = absurd (x.0.first y.1 y.2)
same_behind_format laws F f a b (inr (inr (inr x))) (inr (inr (inl y))) = absurd (x.0.second y.1 y.3)
same_behind_format laws F f a b (inr (inr (inr x))) (inr (inr (inr y))) = same_end laws F a b x.1 y.1

same_behind_head : Laws → (F : Facts) (h : Seen) (a b : Joined) → BehindHead F h a → BehindHead F h b → a ≡ b
same_behind_head laws F seen.None a b x y = x ∙ sym y
same_behind_head laws F (seen.Differ u v) a b x y = x ∙ sym y
same_behind_head laws F (seen.One f) a b x y = same_behind_format laws F f a b x y

pub same_answer : Laws → (F : Facts) (a b : Joined) → IsAnswer F a → IsAnswer F b → a ≡ b
same_answer laws F a b x y =
    let heads : y.head ≡ x.head = laws.one (head_of F) y.head x.head y.seen x.seen in
    same_behind_head laws F x.head a b x.answers (subst (λ (h : Seen). BehindHead F h b) heads y.answers)
