-- The scripts and the turn list of a description, read line by line.
use Rattle.std.proofs.Common.{◌≡◌, ℕ, suc, ◌+◌, ◌<◌, ◌≤◌, true, false, ltb, leb, ◌⊎◌, List, [], ◌∷◌, ◌++◌, map, length, get_or, ℤ, pos, negsuc, Some, None, Option, sym, refl, ap, ◌∙◌, subst, inl, inr, arith}
use Rattle.std.proofs.lemmas.List.{append-nil, length-map}
use Rattle.std.proofs.lemmas.Bool.{and_parts, and_from, lt-ltb, le-leb, leb-true, ltb-true, not_from_false, both_ways}
use Rattle.basics.specs.declared.transaction.TransactionNumber.{TransactionNumber}
use Rattle.model.specs.Calls.{in_bounds}
use Rattle.scripts_model.specs.declared.step.Step.{Step}
use Rattle.scripts_model.specs.declared.step.Step.TheVariants.{End, Lock, Release, Read, Write, Adjust}
use Rattle.runtext_model.specs.Accepting.{is_empty, transaction, before_turns, in_word, good_step, each_below, room_for_step, limit_unless}
use Rattle.runtext_model.specs.Canonical.{Lawful, GoodTurns, ends, good_entry}
use Rattle.runtext_model.specs.Description.{Description}
use Rattle.runtext_model.specs.Lines.{script, step, turns}
use Rattle.runtext_model.specs.Writing.{entry_line, turn_lines}
use Rattle.runtext_model.proofs.Feeding.{Takes, takes_one}
use Rattle.runtext_model.proofs.GuardsFed.{some_nodes}
use Rattle.runtext_model.proofs.LineTexts.{EachSmall, SmallStep}
use Rattle.runtext_model.proofs.NodesFed.{made, element_at, more_than_done, next_done}
use Rattle.runtext_model.proofs.Numbers.{Small}

-- the ends of two buffers, one after the other
ends_append : (xs ys : List Step) → ends (xs ++ ys) ≡ ends xs + ends ys
ends_append [] ys = omega arith
ends_append (End ∷ xs) ys = omega (arith, ends_append xs ys)
ends_append (Lock n ∷ xs) ys = ends_append xs ys
ends_append (Release n ∷ xs) ys = ends_append xs ys
ends_append (Read n ∷ xs) ys = ends_append xs ys
ends_append (Write n v ∷ xs) ys = ends_append xs ys
ends_append (Adjust n v ∷ xs) ys = ends_append xs ys

-- an entry that is no end
record Proper (s : Step) : Type 0 where
  line : entry_line s ≡ step s
  counts : ends (s ∷ []) ≡ 0
  good : (count : ℕ) → good_entry count s ≡ good_step count s
  other : s ≡ End → ⊥

-- an entry is an end or not
entry_cases : (s : Step) → (s ≡ End) ⊎ Proper s
entry_cases End = inl refl
entry_cases (Lock n) = inr (record { line = refl; counts = refl; good = λ c. refl; other = λ e. let z : ◌≡◌ {A = ℕ} 0 1 = cc in omega arith })
entry_cases (Release n) = inr (record { line = refl; counts = refl; good = λ c. refl; other = λ e. let z : ◌≡◌ {A = ℕ} 0 1 = cc in omega arith })
entry_cases (Read n) = inr (record { line = refl; counts = refl; good = λ c. refl; other = λ e. let z : ◌≡◌ {A = ℕ} 0 1 = cc in omega arith })
entry_cases (Write n v) = inr (record { line = refl; counts = refl; good = λ c. refl; other = λ e. let z : ◌≡◌ {A = ℕ} 0 1 = cc in omega arith })
entry_cases (Adjust n v) = inr (record { line = refl; counts = refl; good = λ c. refl; other = λ e. let z : ◌≡◌ {A = ℕ} 0 1 = cc in omega arith })

-- the numbers of a good step have at most five digits
small_word : (v : ℤ) → in_word v ≡ true → Small v
small_word (pos n) h = omega (arith, leb-true n 32767 (and_parts true (leb n 32767) h).1)
small_word (negsuc n) h = omega (arith, leb-true n 32767 (and_parts (leb n 32767) true h).0)

small_amount : (v : ℤ) → in_bounds v ≡ true → Small v
small_amount (pos n) h = omega (arith, leb-true n 65535 (and_parts true (leb n 65535) h).1)
small_amount (negsuc n) h = omega (arith, leb-true n 65534 (and_parts (leb n 65534) true h).0)

small_step : (count : ℕ) (s : Step) → count ≤ 64 → good_step count s ≡ true → SmallStep s
small_step count End few h = both_ways _ refl h
small_step count (Lock n) few h = omega (arith, ltb-true n.0 count h)
small_step count (Release n) few h = omega (arith, ltb-true n.0 count h)
small_step count (Read n) few h = omega (arith, ltb-true n.0 count h)
small_step count (Write n v) few h =
    let (here, value) = and_parts (ltb n.0 count) _ h in
    (omega (arith, ltb-true n.0 count here), small_word v value)
small_step count (Adjust n v) few h =
    let (here, value) = and_parts (ltb n.0 count) _ h in
    (omega (arith, ltb-true n.0 count here), small_amount v value)

-- the numbers of turns of these scripts
turns_below : (scripts : ℕ) (ts : List TransactionNumber) → ((i : ℕ) → i < length ts → (get_or ts i (record { 0 = 0 })).0 < scripts) → each_below scripts (map (λ t. t.0) ts) ≡ true
turns_below scripts [] h = refl
turns_below scripts (t ∷ ts) h =
    and_from (ltb t.0 scripts) _ (lt-ltb t.0 scripts (h 0 (omega arith))) (turns_below scripts ts (λ i l. h (suc i) (omega arith)))

-- such numbers have at most five digits
below_small : (scripts : ℕ) (ns : List ℕ) → scripts ≤ 32 → each_below scripts ns ≡ true → EachSmall ns
below_small scripts [] few h = tt
below_small scripts (n ∷ ns) few h =
    let (here, rest) = and_parts (ltb n scripts) (each_below scripts ns) h in
    (omega (arith, ltb-true n scripts here), below_small scripts ns few rest)

-- the turns of their numbers
turns_same : (ts : List TransactionNumber) → map transaction (map (λ t. t.0) ts) ≡ ts
turns_same [] = refl
turns_same (t ∷ ts) = ap (λ xs. t ∷ xs) (turns_same ts)

-- the description with these steps, and no turn list yet
abbrev pub stage : Description → List Step → Description
stage d ss = made d.kind d.nodes d.values d.guards (ends ss) ss None

module _ (d : Description) (law : Lawful d) where
  -- there are nodes, and no turn list yet
  placed : (ss : List Step) → before_turns (stage d ss) ≡ true
  placed ss = and_from _ true (not_from_false _ (some_nodes d law)) refl

  -- the buffer begins with an end
  first_end : (done rest : List Step) (s : Step) → d.steps ≡ done ++ (s ∷ rest) → (s ≡ End → ⊥) → is_empty done ≡ false
  first_end [] rest s e other =
      absurd (other (sym (element_at d.steps [] rest s (Lock (record { 0 = 0 })) e) ∙ law.first (more_than_done d.steps [] rest s e)))
  first_end (x ∷ done) rest s e other = refl

  -- from those that are done on
  steps_from : (done rest : List Step) → d.steps ≡ done ++ rest → Takes (stage d done) (map entry_line rest) (stage d d.steps)
  steps_from done [] e = ap (stage d) (sym (e ∙ append-nil done))
  steps_from done (s ∷ rest) e =
      let more = more_than_done d.steps done rest s e in
      let here = element_at d.steps done rest s End e in
      let room : room_for_step (stage d done) ≡ true = lt-ltb (length done) 1024 (omega (arith, law.few_steps)) in
      let grown = ends_append done (s ∷ []) in
      let next = steps_from (done ++ (s ∷ [])) rest (next_done d.steps done rest s e) in
      elim (entry_cases s) [
        | inl end ↦
            let total : ends d.steps ≡ ends done + (1 + ends rest) = ap ends e ∙ ends_append done (s ∷ rest) ∙ ap (λ x. ends done + ends (x ∷ rest)) end in
            let one : ends (done ++ (s ∷ [])) ≡ ends done + 1 = grown ∙ ap (λ x. ends done + ends (x ∷ [])) end in
            let few : ltb (ends done) 32 ≡ true = lt-ltb (ends done) 32 (omega (arith, law.counted, law.few_scripts)) in
            subst (λ l. Takes (stage d done) (l ∷ map entry_line rest) (stage d d.steps)) (ap entry_line (sym end))
            (takes_one (stage d done) (stage d (done ++ (s ∷ []))) (stage d d.steps) script (map entry_line rest) tt
            (placed done) (ap limit_unless (and_from _ _ room few))
            (ap (λ c. made d.kind d.nodes d.values d.guards c (done ++ (End ∷ [])) None) (sym one)
            ∙ ap (λ x. made d.kind d.nodes d.values d.guards (ends (done ++ (s ∷ []))) (done ++ (x ∷ [])) None) (sym end))
            next)
        | inr p ↦
            let same : ends done ≡ ends (done ++ (s ∷ [])) = omega (arith, p.counts) in
            let good : good_step (length d.nodes) s ≡ true = sym (p.good (length d.nodes)) ∙ ap (good_entry (length d.nodes)) (sym here) ∙ law.good (length done) more in
            subst (λ l. Takes (stage d done) (l ∷ map entry_line rest) (stage d d.steps)) (sym p.line)
            (takes_one (stage d done) (stage d (done ++ (s ∷ []))) (stage d d.steps) (step s) (map entry_line rest)
            (small_step (length d.nodes) s law.few good)
            (and_from _ _ (not_from_false _ (first_end done rest s e p.other)) (placed done)) (ap limit_unless (and_from _ _ room good))
            (ap (λ c. made d.kind d.nodes d.values d.guards c (done ++ (s ∷ [])) None) same) next)
      ]

  -- the lines of all steps
  pub takes_steps : Takes (stage d []) (map entry_line d.steps) (stage d d.steps)
  takes_steps = steps_from [] d.steps refl

  -- the turn list of a description
  turns_from : (t : Option (List TransactionNumber)) → GoodTurns d.scripts t → Takes (stage d d.steps) (turn_lines t) (made d.kind d.nodes d.values d.guards (ends d.steps) d.steps t)
  turns_from None h = refl
  turns_from (Some ts) (short, each) =
      let ns = map (λ t. t.0) ts in
      let below = turns_below d.scripts ts each in
      let few : length ns ≤ 4096 = omega (arith, length-map ts (λ t. t.0)) in
      let last = made d.kind d.nodes d.values d.guards (ends d.steps) d.steps (Some ts) in
      takes_one (stage d d.steps) last last (turns ns) []
      (below_small d.scripts ns law.few_scripts below)
      (placed d.steps)
      (ap limit_unless (and_from _ _ (le-leb (length ns) 4096 few) (ap (λ c. each_below c ns) (sym law.counted) ∙ below)))
      (ap (λ xs. made d.kind d.nodes d.values d.guards (ends d.steps) d.steps (Some xs)) (turns_same ts))
      refl

  -- the turn list's line, where there is one
  pub takes_turns : Takes (stage d d.steps) (turn_lines d.turns) d
  takes_turns =
      subst (Takes (stage d d.steps) (turn_lines d.turns))
      (ap (λ c. made d.kind d.nodes d.values d.guards c d.steps d.turns) (sym law.counted))
      (turns_from d.turns law.turned)
