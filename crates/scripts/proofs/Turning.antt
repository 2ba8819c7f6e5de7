-- The turns of a run, by its fields.
use Rattle.std.proofs.Common.{◌≡◌, ℕ, true, false, zero, suc, ◌+◌, ◌-◌, ◌<◌, ◌≤◌, List, ◌∷◌, length, Some, None, Option, sym, refl, ap, ◌∙◌, inl, inr, arith}
use Rattle.std.proofs.lemmas.List.{nil_from_length}
use Rattle.std.proofs.lemmas.Bool.{cases_lt, cond-true, cond-false, lt-ltb, le-ltb, true≢false, false≢true}
use Rattle.basics.specs.declared.transaction.TransactionNumber.{TransactionNumber}
use Rattle.model.specs.Calls.{Answer}
use Rattle.scripts_model.specs.Script.{Scripted, turn}
use Rattle.scripts_model.specs.Schedule.{RunState, in_round, whose, with_turn, by_turn, turned_alone, played}
use Rattle.scripts_model.specs.Limits.{numbers}
use Rattle.scripts.specs.declared.report.Turn.{Turn}
use Rattle.scripts.specs.Of.{scheduled, told, turn_counted, turn_of, answer_or_none}
use Rattle.std.specs.Option.{is_some}

-- only the session and the scripts change
pub alone : (r : RunState) (d : Scripted) (t : ℕ) → d ≡ turn r.scripted t
    → record { scripted = d; list = r.list; place = r.place; turns = r.turns } ≡ turned_alone r t
alone r d t e = ap (λ (x : Scripted). record { scripted = x; list = r.list; place = r.place; turns = r.turns }) e

pub used_up : (r : RunState) (allowance : ℕ) → allowance ≤ r.turns → None ≡ scheduled allowance r
used_up r allowance h = sym (cond-false _ (whose r.list r.scripted.scripts r.place) None (le-ltb r.turns allowance h))

pub in_time : (r : RunState) (allowance : ℕ) → r.turns < allowance → whose r.list r.scripted.scripts r.place ≡ scheduled allowance r
in_time r allowance h = sym (cond-true _ (whose r.list r.scripted.scripts r.place) None (lt-ltb r.turns allowance h))

module _ (d : Scripted) (turns : List TransactionNumber) (place taken : ℕ) where
  -- with this list left
  abbrev with_list : List TransactionNumber → RunState
  with_list l = record { scripted = d; list = numbers l; place = place; turns = taken }

  -- a turn of the list
  module _ (x : TransactionNumber) (rest : List TransactionNumber) (e : turns ≡ x ∷ rest) where
    pub whose_listed : Some x.0 ≡ whose (numbers turns) d.scripts place
    whose_listed = sym (ap (λ l. whose (numbers l) d.scripts place) e)

    pub listed_turn : turn_counted (with_list rest) x.0 ≡ with_turn (with_list turns) x.0
    listed_turn = sym (ap (λ l. with_turn (with_list l) x.0) e)

  -- a turn of a round
  module _ (h : length turns ≡ 0) where
    pub whose_round : (o : Option ℕ) → o ≡ in_round d.scripts place → o ≡ whose (numbers turns) d.scripts place
    whose_round o e = e ∙ sym (ap (λ l. whose (numbers l) d.scripts place) (nil_from_length turns h))

    pub round_turn : (t : ℕ) → turn_counted (record { scripted = d; list = numbers turns; place = t + 1; turns = taken }) t ≡ with_turn (with_list turns) t
    round_turn t =
        let e = nil_from_length turns h in
        ap (λ (l : List TransactionNumber). turn_counted (record { scripted = d; list = numbers l; place = t + 1; turns = taken }) t) e
        ∙ sym (ap (λ (l : List TransactionNumber). with_turn (with_list l) t) e)

-- the loop of a run: from r to r' by what is scheduled
module _ (r r' : RunState) (allowance : ℕ) (done : r' ≡ by_turn r (scheduled allowance r)) where
  -- one turn fewer is left
  pub goes_on : (o : Option Turn) → is_some o ≡ true → turn_of o ≡ told r.scripted (scheduled allowance r)
      → played (allowance - r'.turns) r' ≡ played (allowance - r.turns) r
  goes_on None some q = absurd (false≢true some)
  goes_on (Some x) some q = by (x.script.0, answer_or_none x.answer) (scheduled allowance r) refl q done
    where
      onward : (t n : ℕ) → 0 < n → Some t ≡ whose r.list r.scripted.scripts r.place → r' ≡ with_turn r t → played (n - 1) r' ≡ played n r
      onward t zero h w e = absurd (omega arith)
      onward t (suc n) h w e = (let z : suc n - 1 ≡ n = omega arith in ap (λ k. played k r') z) ∙ ap (played n) (e ∙ ap (by_turn r) w)

      by : (x : ℕ × Option Answer) (o : Option ℕ) → scheduled allowance r ≡ o → Some x ≡ told r.scripted o → r' ≡ by_turn r o → played (allowance - r'.turns) r' ≡ played (allowance - r.turns) r
      by x None w q e = let z : ◌≡◌ {A = ℕ} 0 1 = cc in absurd (omega arith)
      by x (Some t) w q e = elim (cases_lt r.turns allowance) [
        | inl h ↦
            let fewer : allowance - r'.turns ≡ (allowance - r.turns) - 1 = omega (arith, ap (λ r. r.turns) e) in
            ap (λ n. played n r') fewer ∙ onward t (allowance - r.turns) (omega arith) (sym (in_time r allowance h ∙ w)) e
        | inr h ↦ let z : ◌≡◌ {A = ℕ} 0 1 = cc (used_up r allowance h, w) in absurd (omega arith)
      ]

  -- none is left
  pub stops : (o : Option Turn) → is_some o ≡ false → turn_of o ≡ told r.scripted (scheduled allowance r) → r' ≡ played (allowance - r.turns) r
  stops (Some x) none q = absurd (true≢false none)
  stops None none q = by (scheduled allowance r) refl q done
    where
      stays : (n : ℕ) → None ≡ whose r.list r.scripted.scripts r.place → r ≡ played n r
      stays zero w = refl
      stays (suc n) w = stays n w ∙ ap (played n) (ap (by_turn r) w)

      by : (o : Option ℕ) → scheduled allowance r ≡ o → None ≡ told r.scripted o → r' ≡ by_turn r o → r' ≡ played (allowance - r.turns) r
      by None w q e = e ∙ elim (cases_lt r.turns allowance) [
        | inl h ↦ stays (allowance - r.turns) (sym (in_time r allowance h ∙ w))
        | inr h ↦ let none : 0 ≡ allowance - r.turns = omega arith in ap (λ n. played n r) none
      ]
      by (Some t) w q e = let z : ◌≡◌ {A = ℕ} 0 1 = cc in absurd (omega arith)
