-- A session in which some are begun and nothing else is done.
use Rattle.std.proofs.Common.{◌≡◌, ℕ, zero, suc, ◌+◌, ◌<◌, ◌≤◌, List, [], ◌∷◌, ◌++◌, replicate, refl, ap, ◌∙◌, arith}
use Rattle.std.proofs.lemmas.Bool.{lt-leb}
use Rattle.model.specs.Calls.{Call, begin}
use Rattle.model.specs.State.{State}
use Rattle.model.specs.Step.{after, Run, step, run}
use Rattle.model.specs.Checks.{begin_checks, unrefused, answer}
use Rattle.model.proofs.Refusing.{none_applies}

-- one call more
pub run_push : (r : Run) (cs : List Call) (c : Call) → run r (cs ++ (c ∷ [])) ≡ step (run r cs) c
run_push r [] c = refl
run_push r (x ∷ cs) c = run_push (step r x) cs c

pub begins : (s : State) → s.begun < 32 → after s begin (answer s begin) ≡ after s begin (unrefused s begin)
begins s h = ap (after s begin) (none_applies (begin_checks s) (unrefused s begin) (lt-leb 32 s.begun h, tt))

pub begun_run : (k : ℕ) (r : Run) → r.state.begun + k ≤ 32
    → ((run r (replicate k begin)).state.begun ≡ r.state.begun + k) × ((run r (replicate k begin)).state.records ≡ r.state.records)
begun_run zero r h = (omega arith, refl)
begun_run (suc k) r h =
    let e = begins r.state (omega arith) in
    let b : (step r begin).state.begun ≡ r.state.begun + 1 = ap (λ s. s.begun) e in
    let (x, y) = begun_run k (step r begin) (omega arith) in
    (x ∙ omega arith, y ∙ ap (λ s. s.records) e)
