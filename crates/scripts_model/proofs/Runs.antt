-- Every script run finishes.
use Rattle.std.proofs.Common.{◌≡◌, ℕ, zero, suc, ◌+◌, ◌-◌, ◌*◌, ◌<◌, ◌≤◌, true, false, not, ◌⊎◌, List, [], ◌∷◌, map, length, get_or, replicate, Some, None, Option, sym, refl, ap, ◌∙◌, subst, inl, inr, mul-le-mul_right, add-mul, mul-le-mul, one-mul, zero-mul, arith}
use mathlib.Core.Path.{subst⁻¹}
use lib.ListN.{get_or-replicate, length-map}
use Rattle.std.proofs.lemmas.List.{get_or_past}
use Rattle.std.proofs.lemmas.Bool.{cases_eq, cases_lt, true≢false, false≢true}
use Rattle.model.specs.declared.table.Phase.TheVariants.{Ended}
use Rattle.rules.specs.Rule.{Rule}
use Rattle.stores.specs.Store.{Store}
use Rattle.model.specs.Calls.{begin, lock, waiting}
use Rattle.model.specs.State.{State, blank, phase, holder, start}
use Rattle.model.specs.Step.{session}
use Rattle.model.specs.Checks.{grant_or_wait, answer}
use Rattle.model.specs.Progress.{Standstill}
use Rattle.model.proofs.Phases.{same_node}
use Rattle.scripts_model.specs.Script.{Action, Script, going, finished, Scripted, script, turn_by, turn}
use Rattle.scripts_model.specs.Schedule.{RunState, is_finished, unfinished, all_finished, in_round, by_turn, Move, next, alone, made, played, first_run, script_run}
use Rattle.scripts_model.specs.Finishes.{steps_of, enough, Finished, scheduled_in, EveryRunFinishes, AllowanceSuffices, EveryRunStops}
use Rattle.scripts_model.proofs.Lists.{size, left, left_some, left_none, left_first, all_are_finished, nobody, onwards, again, place_of}
use Rattle.scripts_model.proofs.Starts.{begun_run}
use Rattle.scripts_model.proofs.Turns.{Fits, Stuck, Good, Turned, holding, progress, turned}

is_done : (x : Script) → not (is_finished x) ≡ false → x ≡ finished
is_done (going xs) e = absurd (true≢false e)
is_done finished e = refl

not_done : (x : Script) → not (is_finished x) ≡ true → x ≡ finished → ⊥
not_done (going xs) e q = false≢true (ap is_finished q)
not_done finished e q = false≢true e

size_some : (x : Script) → (x ≡ finished → ⊥) → 1 ≤ size x
size_some (going xs) f = omega arith
size_some finished f = absurd (f refl)

wider : (r : RunState) (m n : ℕ) → m ≤ n → Finished m r → Finished n r
wider r m n h f = record { used = f.used; all = f.all; few = omega (arith, f.few, h); ended = f.ended }

-- a run whose turn list is used
abbrev at_round : Scripted → ℕ → ℕ → RunState
at_round d place turns = record { scripted = d; list = []; place = place; turns = turns }

-- where it is nobody's turn the run stays as it is
pub stopped : (a : ℕ) (d : Scripted) (place turns : ℕ) → in_round d.scripts place ≡ None → played a (at_round d place turns) ≡ at_round d place turns
stopped zero d place turns e = refl
stopped (suc a) d place turns e = ap (λ o. played a (by_turn (at_round d place turns) o)) e ∙ stopped a d place turns e

module _ (rule : Rule) (store : Store) (k : ℕ) where
  abbrev G : Scripted → Type 0
  G d = Good rule store k d

  -- each script below the place is finished, or waits for a held node
  abbrev Waited : Scripted → ℕ → Type 0
  Waited d place = (t : ℕ) → t < place → (script d t ≡ finished) ⊎ Stuck d.session t

  -- b turns suffice: a round for each step that is left, where none moved on in this round so far; otherwise the rest of this round besides
  abbrev Suffices : Scripted → ℕ → ℕ → Type 0
  Suffices d place b = (Waited d place × (left d.scripts * k ≤ b + place)) ⊎ (left d.scripts * k + k ≤ b + place)

  module _ (d : Scripted) (g : G d) where
    abbrev s : State
    s = d.session

    is_ended : (u : ℕ) → u < k → script d u ≡ finished → phase s u ≡ Ended
    is_ended u h q = subst (λ (y : Script). Fits y (phase s u)) q (g.fits u h)

    -- not all that are unfinished are stuck
    standstill : (t : ℕ) → t < k → (script d t ≡ finished → ⊥) → ((u : ℕ) → u < k → (script d u ≡ finished) ⊎ Stuck s u) → ⊥
    standstill t h f all = elim (all t h) [
      | inl q ↦ f q
      | inr (n, v, w, e) ↦
          let p = progress rule store k d g in
          let (u, m, x, a) = p.goes_on still t n w in
          let l : u < k = omega (arith, ((holding rule store k d g).asks u m x).0, g.begun) in
          elim (all u l) [
            | inl q ↦ let z : ◌≡◌ {A = ℕ} 0 1 = cc (is_ended u l q, x) in omega arith
            | inr (m', v', x', e') ↦
                let y : answer s (lock u m) ≡ waiting v'.0 =
                p.again u m x ∙ ap (λ n. grant_or_wait (holder s n)) (same_node (phase s u) m m' x x') ∙ ap grant_or_wait e' in
                let z : ◌≡◌ {A = ℕ} 0 1 = cc (a, y) in
                omega arith
          ]
    ]
      where
        still : Standstill s
        still u h = elim (all u (omega (arith, h, g.begun))) [
          | inl q ↦ inl (is_ended u (omega (arith, h, g.begun)) q)
          | inr (n, v, w, e) ↦ inr (n, w)
        ]

    -- after a turn of t that leaves it stuck, another is as it was
    waited_on : (t : ℕ) (d' : Scripted) → (d'.scripts ≡ d.scripts) → (d'.session.holders ≡ s.holders)
        → ((u : ℕ) → (u ≡ t → ⊥) → phase d'.session u ≡ phase s u) → Stuck d'.session t
        → (u : ℕ) → ((u ≡ t → ⊥) → (script d u ≡ finished) ⊎ Stuck s u) → (script d' u ≡ finished) ⊎ Stuck d'.session u
    waited_on t d' e hs others st u w = elim (cases_eq u t) [
      | inl q ↦ inr (subst⁻¹ (Stuck d'.session) q st)
      | inr ne ↦ elim (w ne) [
        | inl q ↦ inl (ap (λ l. get_or l u finished) e ∙ q)
        | inr (n, v, y, z) ↦ inr (n, v, others u ne ∙ y, ap (λ l. get_or l n None) hs ∙ z)
      ]
    ]

    module _ (t b : ℕ) (h : t < k) (f : script d t ≡ finished → ⊥) where
      -- after a turn of t
      record Onward (d' : Scripted) : Type 0 where
        rest : ℕ
        one : b ≡ rest + 1
        good : G d'
        suffices : Suffices d' (t + 1) rest

      some : k ≤ left d.scripts * k
      some =
          let l : 1 ≤ left d.scripts = omega (arith, left_some d.scripts t, size_some (script d t) f) in
          omega (arith, mul-le-mul_right k l, one-mul k)

      waited_more : (d' : Scripted) → (d'.scripts ≡ d.scripts) → (d'.session.holders ≡ s.holders)
          → ((u : ℕ) → (u ≡ t → ⊥) → phase d'.session u ≡ phase s u) → Stuck d'.session t → Waited d t → Waited d' (t + 1)
      waited_more d' e hs others st w u m = waited_on t d' e hs others st u (λ ne. w u (omega arith))

      onward_by : (d' : Scripted) → Turned rule store k d d' t → Suffices d t b → Onward d'
      onward_by d' x enough = record {
        rest = b - 1;
        one = elim enough [ inl (w, l) ↦ omega (arith, some, l, h) | inr l ↦ omega (arith, some, l, h) ];
        good = x.good;
        suffices = elim x.outcome [
          | inl q ↦
              let e : left d.scripts * k ≡ left d'.scripts * k + k = ap (λ n. n * k) q ∙ add-mul (left d'.scripts) 1 k ∙ ap (λ n. left d'.scripts * k + n) (one-mul k) in
              inr (elim enough [ inl (w, l) ↦ omega (arith, some, e, l, h) | inr l ↦ omega (arith, some, e, l, h) ])
          | inr (q, hs, others, st) ↦
              let e : left d'.scripts * k ≡ left d.scripts * k = ap (λ l. left l * k) q in
              elim enough [
                | inl (w, l) ↦ inl (waited_more d' q hs others st w, omega (arith, some, e, l, h))
                | inr l ↦ inr (omega (arith, some, e, l, h))
              ]
        ];
      }

      onward : Suffices d t b → Onward (turn d t)
      onward enough = onward_by (turn d t) (turned rule store k d g t h (script d t) refl f) enough

    -- where all are finished the run is at its end
    over : ((u : ℕ) → u < length d.scripts → unfinished d.scripts u ≡ false) → (place turns b : ℕ) → Finished (turns + b) (at_round d place turns)
    over all place turns b = record {
      used = refl;
      all = all_are_finished d.scripts all;
      few = omega arith;
      ended = λ t h. is_ended t (omega (arith, g.begun)) (is_done (script d t) (all t (omega (arith, g.begun, g.long))));
    }

    -- all are finished, or it is the turn of some t, up to which nothing is lost
    settle : (place b : ℕ) → place ≤ k → Suffices d place b
        → ((in_round d.scripts place ≡ None) × ((u : ℕ) → u < length d.scripts → unfinished d.scripts u ≡ false))
        ⊎ ((t : ℕ) × (in_round d.scripts place ≡ Some t) × (t < k) × (script d t ≡ finished → ⊥) × Suffices d t b)
    settle place b h enough = elim (place_of d.scripts place) [
      | nobody e all ↦ inl (e, all)
      | onwards t e l some from between ↦ inr (
        t,
        e,
        omega (arith, g.long),
        not_done (script d t) some,
        elim enough [
          | inl (w, m) ↦ inl (
            λ u x. elim (cases_lt u place) [
              | inl y ↦ w u y
              | inr y ↦ inl (is_done (script d u) (between u y x))
            ],
            omega arith,
          )
          | inr m ↦ inr (omega arith)
        ],
      )
      | again t e l some below above ↦ inr (
        t,
        e,
        omega (arith, g.long),
        not_done (script d t) some,
        elim enough [
          | inl (w, m) ↦ absurd (standstill t (omega (arith, g.long)) (not_done (script d t) some) (λ u x. elim (cases_lt u place) [
            | inl y ↦ w u y
            | inr y ↦ inl (is_done (script d u) (above u y (omega (arith, g.long))))
          ]))
          | inr m ↦ inl (λ u x. inl (is_done (script d u) (below u x)), omega arith)
        ],
      )
    ]

    -- where all are finished nothing is left
    none_left : ((u : ℕ) → u < length d.scripts → unfinished d.scripts u ≡ false) → (place : ℕ) → place ≤ k → Suffices d place 0
    none_left all place h =
        let e : left d.scripts * k ≡ 0 = ap (λ n. n * k) (left_none d.scripts all) ∙ zero-mul k in
        inl (λ u l. inl (is_done (script d u) (all u (omega (arith, g.long)))), omega (arith, e))

    -- a turn of whomever: nothing is lost
    any_turn : (t : ℕ) (x : Script) → script d t ≡ x
        → G (turn_by d t x) × (left (turn_by d t x).scripts ≤ left d.scripts) × ((place b : ℕ) → Suffices d place b → Suffices (turn_by d t x) place b)
    any_turn t finished q = (g, omega arith, λ place b enough. enough)
    any_turn t (going xs) q = elim (cases_lt t k) [
      | inl h ↦
          let x = turned rule store k d g t h (going xs) q (λ e. false≢true (ap is_finished e)) in
          elim x.outcome [
            | inl e ↦
                let m : left d.scripts * k ≡ left (turn_by d t (going xs)).scripts * k + k =
                ap (λ n. n * k) e ∙ add-mul (left (turn_by d t (going xs)).scripts) 1 k ∙ ap (λ n. left (turn_by d t (going xs)).scripts * k + n) (one-mul k) in
                (x.good, omega (arith, e), λ place b enough. inr (elim enough [ inl (w, l) ↦ omega (arith, m, l) | inr l ↦ omega (arith, m, l) ]))
            | inr (e, hs, others, st) ↦
                let m : left (turn_by d t (going xs)).scripts * k ≡ left d.scripts * k = ap (λ l. left l * k) e in (
                  x.good,
                  omega (arith, ap left e),
                  λ place b enough. elim enough [
                    | inl (w, l) ↦ inl (λ u i. waited_on t (turn_by d t (going xs)) e hs others st u (λ ne. w u i), omega (arith, m, l))
                    | inr l ↦ inr (omega (arith, m, l))
                  ],
                )
          ]
      | inr h ↦ absurd (false≢true (ap is_finished (sym q ∙ get_or_past d.scripts t finished (omega (arith, g.long)))))
    ]

  finishes : (ms : List Move) (d : Scripted) (place turns b : ℕ) → G d → place ≤ k → b ≤ scheduled_in ms → Suffices d place b
      → Finished (turns + b) (made ms (at_round d place turns))
  finishes [] d place turns b g h m enough = elim (settle d g place b h enough) [
    | inl (e, all) ↦ over d g all place turns b
    | inr (t, e, l, f, more) ↦ absurd (omega (arith, (onward d g t b l f more).one))
  ]
  finishes (next ∷ ms) d place turns b g h m enough = elim (settle d g place b h enough) [
    | inl (e, all) ↦
        subst⁻¹ (λ (w : Option ℕ). Finished (turns + b) (made ms (by_turn (at_round d place turns) w))) e
        (wider _ (turns + 0) (turns + b) (omega arith) (finishes ms d place turns 0 g h (omega arith) (none_left d g all place h)))
    | inr (t, e, l, f, more) ↦
        let o = onward d g t b l f more in
        subst⁻¹ (λ (w : Option ℕ). Finished (turns + b) (made ms (by_turn (at_round d place turns) w))) e
        (wider _ (turns + 1 + o.rest) (turns + b) (omega (arith, o.one))
        (finishes ms (turn d t) (t + 1) (turns + 1) o.rest o.good (omega arith) (omega (arith, o.one)) o.suffices))
  ]
  finishes (alone t ∷ ms) d place turns b g h m enough =
      let (good, less, still) = any_turn d g t (script d t) refl in
      finishes ms (turn d t) place turns b good h m (still place b enough)

  listed : (list : List ℕ) (ms : List Move) (d : Scripted) (turns b : ℕ) → G d → left d.scripts * k ≤ b → length list + b ≤ scheduled_in ms
      → Finished (turns + (length list + b)) (made ms (record { scripted = d; list = list; place = 0; turns = turns }))
  listed [] ms d turns b g h m =
      wider _ (turns + b) (turns + (0 + b)) (omega arith) (finishes ms d 0 turns b g (omega arith) (omega arith) (inl (λ t x. absurd (omega arith), omega arith)))
  listed (t ∷ list) [] d turns b g h m = absurd (omega arith)
  listed (t ∷ list) (next ∷ ms) d turns b g h m =
      let (good, less, still) = any_turn d g t (script d t) refl in
      let fewer : left (turn d t).scripts * k ≤ left d.scripts * k = mul-le-mul_right k less in
      wider _ (turns + 1 + (length list + b)) _ (omega arith) (listed list ms (turn d t) (turns + 1) b good (omega arith) (omega arith))
  listed (t ∷ list) (alone u ∷ ms) d turns b g h m =
      let (good, less, still) = any_turn d g u (script d u) refl in
      let fewer : left (turn d u).scripts * k ≤ left d.scripts * k = mul-le-mul_right k less in
      listed (t ∷ list) ms (turn d u) turns b good (omega arith) m

-- before the first turn
first_going : (l : List (List Action)) (t : ℕ) → t < length l → (xs : List Action) × (get_or (map going l) t finished ≡ going xs)
first_going [] t h = absurd (omega arith)
first_going (x ∷ l) zero h = (x, refl)
first_going (x ∷ l) (suc t) h = first_going l t (omega arith)

first_good : (rule : Rule) (store : Store) (scripts : List (List Action)) (list : List ℕ) → length scripts ≤ 32
    → Good rule store (length scripts) (first_run rule store scripts list).scripted
first_good rule store scripts list h =
    let (b, r) = begun_run (length scripts) (record { state = start rule store; log = [] }) (omega arith) in
    record {
      calls = replicate (length scripts) begin;
      is = refl;
      begun = b ∙ omega arith;
      long = length-map scripts going;
      fits = λ t l.
          let (xs, e) = first_going scripts t l in
          subst⁻¹ (λ (y : Script). Fits y (phase (session rule store (replicate (length scripts) begin)).state t)) e
          (inl (ap (λ rs. (get_or rs t blank).phase) r ∙ ap (λ x. x.phase) (get_or-replicate 32 t blank blank (omega arith))));
    }

pub every_run_finishes : EveryRunFinishes
every_run_finishes rule store scripts list moves h m =
    let e : left (map going scripts) ≡ steps_of scripts = left_first scripts in
    wider _ (0 + enough scripts list) (enough scripts list) (omega arith)
    (listed rule store (length scripts) list moves (first_run rule store scripts list).scripted 0 (steps_of scripts * length scripts)
    (first_good rule store scripts list h) (omega (arith, ap (λ n. n * length scripts) e)) m)

all_scheduled : (k : ℕ) → scheduled_in (replicate k next) ≡ k
all_scheduled zero = refl
all_scheduled (suc k) = omega (arith, all_scheduled k)

pub finishes_in_time : (rule : Rule) (store : Store) (scripts : List (List Action)) (list : List ℕ) (allowance : ℕ) → length scripts ≤ 32
    → enough scripts list ≤ allowance → Finished (enough scripts list) (script_run rule store scripts list allowance)
finishes_in_time rule store scripts list allowance h m =
    every_run_finishes rule store scripts list (replicate allowance next) h (omega (arith, m, all_scheduled allowance))

pub allowance_suffices : AllowanceSuffices
allowance_suffices rule store scripts list h m n =
    let most : steps_of scripts * length scripts ≤ 1024 * 32 = mul-le-mul m h in
    let fewer : enough scripts list ≤ 40000 = omega arith in
    wider _ (enough scripts list) 40000 fewer (finishes_in_time rule store scripts list 40000 h fewer)

-- the allowance is used up, or the run is at its end
abbrev Stopped : ℕ → RunState → Type 0
Stopped most r = (r.turns ≡ most) ⊎ ((r.list ≡ []) × (all_finished r.scripted.scripts ≡ true) × (r.turns ≤ most))

stops : (a : ℕ) (d : Scripted) (list : List ℕ) (place turns : ℕ)
    → Stopped (turns + a) (played a (record { scripted = d; list = list; place = place; turns = turns }))
stops zero d list place turns = inl (omega arith)
stops (suc a) d (t ∷ list) place turns =
    subst (λ (n : ℕ). Stopped n (played a (record { scripted = turn d t; list = list; place = place; turns = turns + 1 }))) (omega arith)
    (stops a (turn d t) list place (turns + 1))
stops (suc a) d [] place turns = elim (place_of d.scripts place) [
  | nobody e all ↦ subst⁻¹ (Stopped (turns + suc a)) (stopped (suc a) d place turns e) (inr (refl, all_are_finished d.scripts all, omega arith))
  | onwards t e l some from between ↦ going_on t e (stops a (turn d t) [] (t + 1) (turns + 1))
  | again t e l some below above ↦ going_on t e (stops a (turn d t) [] (t + 1) (turns + 1))
]
  where
    going_on : (t : ℕ) → in_round d.scripts place ≡ Some t → Stopped (turns + 1 + a) (played a (at_round (turn d t) (t + 1) (turns + 1)))
        → Stopped (turns + suc a) (played (suc a) (at_round d place turns))
    going_on t e p =
        subst⁻¹ (λ (w : Option ℕ). Stopped (turns + suc a) (played a (by_turn (at_round d place turns) w))) e
        (subst (λ (n : ℕ). Stopped n (played a (at_round (turn d t) (t + 1) (turns + 1)))) (omega arith) p)

pub every_run_stops : EveryRunStops
every_run_stops rule store scripts list allowance = elim (stops allowance (first_run rule store scripts list).scripted list 0 0) [
  | inl e ↦ (omega (arith, e), λ l. absurd (omega (arith, e, l)))
  | inr (used, all, few) ↦ (omega (arith, few), λ l. (used, all))
]
