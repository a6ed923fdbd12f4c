-- Results: what follows from what holds of an answer.
use Rattle.std.specs.Prelude.{Result, Ok, Err, OnOk}

-- what follows of an answer from two things that hold of it
pub on_ok_both : {X E : Type 0} {P Q R : Type 0} (r : Result X E) → (P → Q → R) → OnOk r P → OnOk r Q → OnOk r R
on_ok_both (Ok x) f p q = f p q
on_ok_both (Err e) f p q = tt
