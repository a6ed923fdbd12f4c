use Rattle.std.proofs.Common.{◌≡◌, ◌∙◌, ap, sym, subst, refl, List, map, Err, Option, Some, None, Result, Ok}
use Rattle.std.specs.Prelude.{string_bytes, IfOk, IfSome, IsErrAnd, IsErrOf, IsNone}
use Rattle.std.specs.Option.{ok_or}
use Rattle.std.proofs.lemmas.Result.{IfOk-weaker}
use Rattle.clap.specs.Words.{Text}
use Rattle.command_line.specs.Words.{IsInRange, IsPlan}
use Rattle.command_line.specs.declared.plans.Plan.{Plan}
use Rattle.command_line.specs.declared.plans.PlanError.{PlanError}
use Rattle.command_line.specs.declared.plans.PlanError.TheVariants.{Refused}
use Rattle.command_line.proofs.PlanWords.{asked_is_plan, behind_dashed, behind_undashed, plan_in_range, plan_is_taken}
use Rattle.command_line.proofs.reading.plan_of.Goals as goal

pub returns-then-has_dashes-clause-refused : goal.returns-then-has_dashes-clause-refused
returns-then-has_dashes-clause-refused c _ plan is = behind_dashed string_bytes c.args.words.now (sym c.if-has_dashes.ensures) (plan_is_taken _ plan is).undashed

-- `?` passes the error on
passed_on : (r : Result Plan PlanError) (e : PlanError) → IsErrAnd r (λ y. y ≡ e) → IsErrOf r Refused → e ≡ Refused
passed_on (Ok x) e is refused = absurd is
passed_on (Err y) e is refused = let same : y ≡ Refused = cc in sym is ∙ same

pub returns-in_err-matches-clause-refused : goal.returns-in_err-matches-clause-refused
returns-in_err-matches-clause-refused c refused plan is =
    c.in_err-matches.ensures.refused (ap (λ e. Err e) (passed_on c.from_residual.result c.in_err-matches.field-0.0 c.from_residual.ensures.1 refused)) (plan_is_taken _ plan is).passes

-- a plan that was read is that of the words
read_is : (words : List Text) (r : Option Plan) (P : Plan → Type 0) → ((plan : Plan) → P plan → IsPlan words plan) → IfSome r P → IfOk (ok_or r Refused) (IsPlan words)
read_is words None P from is = tt
read_is words (Some plan) P from is = from plan is

pub returns-clause-planned : goal.returns-clause-planned
returns-clause-planned c =
    let undashed = behind_undashed string_bytes c.args.words.now (sym c.if-has_dashes.ensures) in
    let words = map string_bytes c.args.words.now in
    subst (λ (r : Result Plan PlanError). IfOk r (IsPlan words)) (sym c.ok_or.ensures.value)
    (read_is words c.read.result _ (λ plan got. asked_is_plan words undashed c.in_ok-matches.ensures.passed got.0 got.1 plan (sym c.in_ok-matches.ensures.rows ∙ got.2) got.3) c.read.ensures.some)

pub returns-clause-range : goal.returns-clause-range
returns-clause-range c = IfOk-weaker c.ok_or.result _ IsInRange (plan_in_range (map string_bytes c.args.words.now)) (returns-clause-planned c)

none_read : (r : Option Plan) → IsErrOf (ok_or r Refused) Refused → IsNone r
none_read None refused = refl
none_read (Some plan) refused = let bad : ⊥ = cc in absurd bad

pub returns-clause-refused : goal.returns-clause-refused
returns-clause-refused c refused plan is =
    let taken = plan_is_taken _ plan is in
    c.read.ensures.none (none_read c.read.result (subst (λ (r : Result Plan PlanError). IsErrOf r Refused) c.ok_or.ensures.value refused))
    taken.found taken.rows plan (c.in_ok-matches.ensures.rows ∙ taken.gives) taken.asked
