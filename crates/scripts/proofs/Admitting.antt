-- The start of a run: what may not run is refused, and what may is begun.
use Rattle.std.proofs.Common.{◌≡◌, ℕ, ◌+◌, List, [], map, length, replicate, ap, sym, ◌∙◌, ap₂}
use lib.ListN.{replicate-append-replicate}
use Rattle.rules.specs.Rule.{Rule}
use Rattle.stores.specs.Store.{Store}
use Rattle.model.specs.Calls.{begin, Answer}
use Rattle.model.specs.Checks.{answer}
use Rattle.model.specs.State.{State}
use Rattle.model.specs.Step.{after, run}
use Rattle.scripts_model.specs.declared.step.Step.{Step}
use Rattle.scripts_model.specs.Buffer.{scripts_of, script_at, scripted_by}
use Rattle.scripts_model.specs.History.{begun_session}
use Rattle.scripts_model.specs.Schedule.{first_run}
use Rattle.scripts_model.specs.Script.{Script}
use Rattle.scripts_model.proofs.Cursors.{by_cursors}
use Rattle.scripts_model.proofs.Starts.{run_push}
use Rattle.scripts.specs.declared.cursors.Cursors.{Cursors}
use Rattle.scripts.specs.Found.{Finds}
use Rattle.scripts.proofs.Finding.{same_count}

-- as many are found as there are
pub count_is : (es : List Step) (f : Cursors) → Finds es f → length f.places.items ≡ length (scripts_of es)
count_is es f x = ap length x.first ∙ same_count es

-- one more is begun
pub begun_more : (first s s' : State) (i : ℕ) (a : Answer) → s ≡ (run (record { state = first; log = [] }) (replicate i begin)).state
    → a ≡ answer s begin → s' ≡ after s begin a → s' ≡ (run (record { state = first; log = [] }) (replicate (i + 1) begin)).state
begun_more first s s' i a e p q =
    q ∙ ap (after s begin) p ∙ ap (λ s. after s begin (answer s begin)) e
    ∙ sym (ap (λ r. r.state) (run_push (record { state = first; log = [] }) (replicate i begin) begin))
    ∙ ap (λ cs. (run (record { state = first; log = [] }) cs).state) (replicate-append-replicate i 1 begin)

-- what is found and begun is the run before its first turn
pub first_is : (rule : Rule) (store : Store) (es : List Step) (f : Cursors) (list : List ℕ) (s : State) → Finds es f → s ≡ (begun_session rule store (length f.places.items)).state
    → record { scripted = scripted_by es (record { session = s; cursors = f.places.items }); list = list; place = 0; turns = 0 } ≡ first_run rule store (scripts_of es) list
first_is rule store es f list s x e =
    ap₂ (λ (s : State) (l : List Script). record { scripted = record { session = s; scripts = l }; list = list; place = 0; turns = 0 })
    (e ∙ ap (λ k. (begun_session rule store k).state) (count_is es f x))
    (ap (map (script_at es)) x.first ∙ by_cursors.1 es)
