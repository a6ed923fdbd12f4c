-- what a sink gains
use Rattle.std.proofs.Common.{◌≡◌, ℕ, List, [], ◌++◌, length, false, nat_eq, Option, Result, OnOk, OnErr, IfErr, IsErrAnd, refl, sym, ◌∙◌, ap, subst, append_assoc, append-nil, arith}
use Rattle.byte_streams.specs.Streams.{Gains, Rises}
use Rattle.byte_streams.proofs.PublicLaws.{Gains-none, Gains-more}
use Rattle.line_engine.specs.inside.Progress.{HasWritten, Fails}

-- a sink to which nothing was appended yet
pub nothing_written : {Sink : Type 0} (written : Sink → Option (List ℕ)) (faults : Sink → ℕ) (sink : Sink) → HasWritten written faults sink sink []
nothing_written written faults sink = record { gained = Gains-none (written sink); sound = refl; idle = λ _. refl }

-- what write_all says of a text that was not written in whole
abbrev pub IsPart : (before after : Option (List ℕ)) → List ℕ → Type 0
IsPart before after text = (front : List ℕ) × (rest : List ℕ) × (text ≡ front ++ rest) × Gains before after front

-- a front of a text was written after another, and then there was a fault
pub fails_behind : {Sink : Type 0} {written : Sink → Option (List ℕ)} {faults : Sink → ℕ} {old new : Sink} (mid : Sink) (done front back text : List ℕ) → Gains (written old) (written mid) done → faults mid ≡ faults old
    → Gains (written mid) (written new) front → Rises (faults mid) (faults new) → text ≡ (done ++ front) ++ back → (start : Sink) (before : List ℕ) → HasWritten written faults start old before
    → Fails written faults start new (before ++ text)
fails_behind {written = written} {faults = faults} {old = old} {new = new} mid done front back text first sound second rises e start before has = record {
  writes = record {
    front = before ++ (done ++ front);
    back = back;
    text_is = ap (λ (t : List ℕ). before ++ t) e ∙ sym (append_assoc before (done ++ front) back);
    appended = Gains-more (written start) (written old) (written new) before (done ++ front) has.gained (Gains-more (written old) (written mid) (written new) done front first second);
  };
  rises = subst (λ (n : ℕ). Rises n (faults new)) (sound ∙ has.sound) rises;
}

pub fails_pending : {Sink : Type 0} {written : Sink → Option (List ℕ)} {faults : Sink → ℕ} {old new : Sink} (text : List ℕ) → IsPart (written old) (written new) text → Rises (faults old) (faults new)
    → (start : Sink) (before : List ℕ) → HasWritten written faults start old before → Fails written faults start new (before ++ text)
fails_pending {written = written} {old = old} text part rises = fails_behind old [] part.0 part.1 text (Gains-none (written old)) refl part.3 rises part.2

-- of two texts the first, the second or the flush failed
behind : {Sink : Type 0} {written : Sink → Option (List ℕ)} {faults : Sink → ℕ} {old new : Sink} (text last : List ℕ) → ((start : Sink) (before : List ℕ) → HasWritten written faults start old before → Fails written faults start new (before ++ (text ++ last)))
    → (start : Sink) (before : List ℕ) → HasWritten written faults start old before → Fails written faults start new (before ++ text ++ last)
behind {written = written} {faults = faults} {new = new} text last h start before has = subst (λ (t : List ℕ). Fails written faults start new t) (sym (append_assoc before text last)) (h start before has)

pub fails_first : {Sink : Type 0} {written : Sink → Option (List ℕ)} {faults : Sink → ℕ} {old new : Sink} (text last : List ℕ) → IsPart (written old) (written new) text → Rises (faults old) (faults new)
    → (start : Sink) (before : List ℕ) → HasWritten written faults start old before → Fails written faults start new (before ++ text ++ last)
fails_first {written = written} {old = old} text last part rises =
    behind text last (fails_behind old [] part.0 (part.1 ++ last) (text ++ last) (Gains-none (written old)) refl part.3 rises (ap (λ (t : List ℕ). t ++ last) part.2 ∙ append_assoc part.0 part.1 last))

pub fails_second : {Sink : Type 0} {written : Sink → Option (List ℕ)} {faults : Sink → ℕ} {old new : Sink} (mid : Sink) (text last : List ℕ) → Gains (written old) (written mid) text → faults mid ≡ faults old
    → IsPart (written mid) (written new) last → Rises (faults mid) (faults new) → (start : Sink) (before : List ℕ) → HasWritten written faults start old before → Fails written faults start new (before ++ text ++ last)
fails_second mid text last first sound part rises =
    behind text last (fails_behind mid text part.0 part.1 (text ++ last) first sound part.3 rises (ap (λ (t : List ℕ). text ++ t) part.2 ∙ sym (append_assoc text part.0 part.1)))

pub fails_flush : {Sink : Type 0} {written : Sink → Option (List ℕ)} {faults : Sink → ℕ} {old new : Sink} (mid last_mid : Sink) (text last : List ℕ) → Gains (written old) (written mid) text → faults mid ≡ faults old
    → Gains (written mid) (written last_mid) last → faults last_mid ≡ faults mid → Gains (written last_mid) (written new) [] → Rises (faults last_mid) (faults new)
    → (start : Sink) (before : List ℕ) → HasWritten written faults start old before → Fails written faults start new (before ++ text ++ last)
fails_flush {written = written} {old = old} mid last_mid text last first sound second sound_too flushed rises =
    behind text last (fails_behind last_mid (text ++ last) [] [] (text ++ last) (Gains-more (written old) (written mid) (written last_mid) text last first second) (sound_too ∙ sound) flushed rises
    (sym (append-nil (text ++ last)) ∙ sym (append-nil ((text ++ last) ++ []))))

pub some_items : (n : ℕ) (items : List ℕ) → n ≡ length items → nat_eq n 0 ≡ false → items ≡ [] → ⊥
some_items n items len not_zero none = let zero_too : n ≡ 0 = len ∙ ap length none in absurd (cc (ap (λ (k : ℕ). nat_eq k 0) zero_too))

pub on_err : {T E P : Type 0} (r : Result T E) → P → OnErr r P
on_err r h = grind arith

-- what the exit of a `?` says of its error
pub exit : {T E : Type 0} (r : Result T E) (e : E) (Q : E → Type 0) → IsErrAnd r (λ y. y ≡ e) → Q e → IfErr r Q
exit r e Q is h = grind arith

pub on_ok_both : {T E P Q R : Type 0} (r : Result T E) → OnOk r P → OnOk r Q → (P → Q → R) → OnOk r R
on_ok_both r p q h = grind arith
