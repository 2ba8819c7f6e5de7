-- The waiting list, filled in by a loop.
use Rattle.std.proofs.Common.{◌≡◌, ℕ, zero, suc, ◌+◌, ◌-◌, ◌*◌, ◌<◌, ◌≤◌, cond, ◌⊎◌, List, [], ◌∷◌, ◌++◌, length, take, drop, set, get_or, None, Option, sym, refl, ap, ◌∙◌, subst, inl, inr, append_assoc, append-nil, add-one, arith}
use Rattle.std.proofs.lemmas.List.{get_or-take, length-set, take_more_set, drop-set-lt, drop-drop}
use Rattle.std.proofs.lemmas.List.Sums.{count_by_more_yes, count_by_more_no}
use Rattle.std.specs.List.{count_by}
use Rattle.std.proofs.lemmas.Bool.{cases_eq, cases_Bool}
use Rattle.basics.specs.declared.node.NodeNumber.{NodeNumber}
use Rattle.basics.specs.declared.refusal.Refusal.{Refusal}
use Rattle.basics.specs.Sets.{counted}
use Rattle.basics.proofs.Masks.{counted_le}
use Rattle.model.specs.declared.table.Phase.{Phase}
use Rattle.model.specs.declared.table.Phase.TheVariants.{Open, Waiting, Ended}
use Rattle.model.specs.declared.table.Record.{Record}
use Rattle.model.specs.Checks.{is_waiting}
use Rattle.model.specs.Lists.{In, Distinct}
use Rattle.model.specs.State.{State, node, blank, phase, begun_count}
use Rattle.session.specs.Reports.{Listed, firsts, ListsWaiting, waiting_count, WaitingFilled}

-- the bytes of transaction t
abbrev pub pair : Phase → ℕ → List ℕ
pair Open t = []
pair (Waiting n) t = t ∷ (n.0 ∷ [])
pair Ended t = []

pair_length : (x : Phase) (t : ℕ) (l : List ℕ) → length (pair x t ++ l) ≡ length l + 2 * cond (is_waiting x) 1 0
pair_length Open t l = omega arith
pair_length (Waiting n) t l = omega arith
pair_length Ended t l = omega arith

pair_listed : (x : Phase) (j t n : ℕ) (l : List ℕ) → Listed t n (pair x j ++ l) → ((t ≡ j) × (x ≡ Waiting (node n))) ⊎ Listed t n l
pair_listed Open j t n l h = inr h
pair_listed (Waiting m) j t n l (inl (a, b)) = inl (a, ap (λ k. Waiting (node k)) (sym b))
pair_listed (Waiting m) j t n l (inr h) = inr h
pair_listed Ended j t n l h = inr h

pair_here : (x : Phase) (j n : ℕ) (l : List ℕ) → x ≡ Waiting (node n) → Listed j n (pair x j ++ l)
pair_here x j n l e = subst (λ (y : Phase). Listed j n (pair y j ++ l)) (sym e) (inl (refl, refl))

pair_there : (x : Phase) (j t n : ℕ) (l : List ℕ) → Listed t n l → Listed t n (pair x j ++ l)
pair_there Open j t n l h = h
pair_there (Waiting m) j t n l h = inr h
pair_there Ended j t n l h = h

pair_first : (x : Phase) (j u : ℕ) (l : List ℕ) → In u (firsts (pair x j ++ l)) → (u ≡ j) ⊎ In u (firsts l)
pair_first Open j u l h = inr h
pair_first (Waiting m) j u l h = h
pair_first Ended j u l h = inr h

pair_once : (x : Phase) (j : ℕ) (l : List ℕ) → (In j (firsts l) → ⊥) → Distinct (firsts l) → Distinct (firsts (pair x j ++ l))
pair_once Open j l new d = d
pair_once (Waiting m) j l new d = (new, d)
pair_once Ended j l new d = d

-- of the k transactions from j on, those that wait, each with its node
abbrev pub listing : (ℕ → Phase) → ℕ → ℕ → List ℕ
listing p j zero = []
listing p j (suc k) = pair (p j) j ++ listing p (suc j) k

-- how many wait below j
abbrev pub waiters : (ℕ → Phase) → ℕ → ℕ
waiters p j = counted (λ t. is_waiting (p t)) j

listing_length : (p : ℕ → Phase) (j k i : ℕ) → i ≡ j + k → length (listing p j k) + 2 * waiters p j ≡ 2 * waiters p i
listing_length p j zero i e = let q : j ≡ i = omega arith in omega (arith, ap (waiters p) q)
listing_length p j (suc k) i e = omega (arith, pair_length (p j) j (listing p (suc j) k), listing_length p (suc j) k i (omega arith))

listing_from : (p : ℕ → Phase) (j k u : ℕ) → In u (firsts (listing p j k)) → j ≤ u
listing_from p j zero u h = absurd h
listing_from p j (suc k) u h = elim (pair_first (p j) j u (listing p (suc j) k) h) [
  | inl e ↦ omega arith
  | inr i ↦ omega (arith, listing_from p (suc j) k u i)
]

listing_once : (p : ℕ → Phase) (j k : ℕ) → Distinct (firsts (listing p j k))
listing_once p j zero = tt
listing_once p j (suc k) = pair_once (p j) j (listing p (suc j) k) (λ h. omega (arith, listing_from p (suc j) k j h)) (listing_once p (suc j) k)

listing_only : (p : ℕ → Phase) (j k t n : ℕ) → Listed t n (listing p j k) → (t < j + k) × (p t ≡ Waiting (node n))
listing_only p j zero t n h = absurd h
listing_only p j (suc k) t n h = elim (pair_listed (p j) j t n (listing p (suc j) k) h) [
  | inl (a, b) ↦ (omega arith, subst (λ i. p i ≡ Waiting (node n)) (sym a) b)
  | inr l ↦ let (a, b) = listing_only p (suc j) k t n l in (omega arith, b)
]

listing_all : (p : ℕ → Phase) (j k t n : ℕ) → j ≤ t → t < j + k → p t ≡ Waiting (node n) → Listed t n (listing p j k)
listing_all p j zero t n a b e = absurd (omega arith)
listing_all p j (suc k) t n a b e = elim (cases_eq j t) [
  | inl q ↦ subst (λ i. Listed i n (listing p j (suc k))) q (pair_here (p j) j n (listing p (suc j) k) (ap p q ∙ e))
  | inr d ↦ pair_there (p j) j t n (listing p (suc j) k) (listing_all p (suc j) k t n (omega arith) (omega arith) e)
]

-- the whole listing is the waiting list
pub listing_lists : (s : State) → ListsWaiting s (listing (phase s) 0 (begun_count s))
listing_lists s = record {
  whole = omega (arith, listing_length (phase s) 0 (begun_count s) (begun_count s) (omega arith));
  listed = λ t n. (
    λ h. let (a, b) = listing_only (phase s) 0 (begun_count s) t n h in (omega arith, b),
    λ h. listing_all (phase s) 0 (begun_count s) t n (omega arith) (omega (arith, h.0)) h.1,
  );
  once = listing_once (phase s) 0 (begun_count s);
}

-- at most all wait
pub waiters_le : (p : ℕ → Phase) (n : ℕ) → waiters p n ≤ n
waiters_le p n = counted_le (λ t. is_waiting (p t)) n

waiters_up : (p : ℕ → Phase) (t k : ℕ) → waiters p t ≤ waiters p (t + k)
waiters_up p t zero = let e : t ≡ t + 0 = omega arith in omega (arith, ap (waiters p) e)
waiters_up p t (suc k) = let e : suc (t + k) ≡ t + suc k = omega arith in omega (arith, ap (waiters p) e, waiters_up p t k)

-- a transaction that waits counts
waiters_less : (p : ℕ → Phase) (t n m : ℕ) → t < n → p t ≡ Waiting (node m) → waiters p t + 1 ≤ waiters p n
waiters_less p t n m h w =
    let e : suc t + (n - suc t) ≡ n = omega arith in
    let one : ◌≡◌ {A = ℕ} (cond (is_waiting (p t)) 1 0) 1 = ap (λ x. cond (is_waiting x) 1 0) w in
    let up : waiters p t + cond (is_waiting (p t)) 1 0 ≤ waiters p (suc t + (n - suc t)) = waiters_up p (suc t) (n - suc t) in
    let same : waiters p (suc t + (n - suc t)) ≡ waiters p n = ap (waiters p) e in
    omega arith

-- the phase of t, read in the table up to n
pub table_phase : (s : State) (n t : ℕ) → t < n → (get_or (take n s.records) t blank).phase ≡ phase s t
table_phase s n t h = ap (λ r. r.phase) (get_or-take n s.records t blank h)

-- where a transaction waits, a buffer with room for all has room for its two bytes
pub two_fit : (s : State) (t m place len : ℕ) → t < begun_count s → phase s t ≡ Waiting (node m)
    → place ≡ 2 * waiters (phase s) t → 2 * waiting_count s ≤ len → place + 1 < len
two_fit s t m place len h w e long = omega (arith, waiters_less (phase s) t (begun_count s) m h w)

-- a write of two bytes
pub two_more : (out : List ℕ) (i x y : ℕ) → i + 1 < length out → take (i + 2) (set (set out i x) (i + 1) y) ≡ take i out ++ (x ∷ (y ∷ []))
two_more out i x y h =
    let e : i + 1 + 1 ≡ i + 2 = omega arith in
    let l : i + 1 < length (set out i x) = simp length-set (omega arith) in
    ap (λ j. take j (set (set out i x) (i + 1) y)) (sym e)
    ∙ take_more_set (set out i x) (i + 1) y l
    ∙ ap (λ z. z ++ (y ∷ [])) (take_more_set out i x (omega arith))
    ∙ append_assoc (take i out) (x ∷ []) (y ∷ [])

-- which leaves the rest
pub two_rest : (out old : List ℕ) (i x y : ℕ) → drop i out ≡ drop i old → drop (i + 2) (set (set out i x) (i + 1) y) ≡ drop (i + 2) old
two_rest out old i x y e =
    drop-set-lt (i + 2) (set out i x) (i + 1) y (omega arith)
    ∙ drop-set-lt (i + 2) out i x (omega arith)
    ∙ sym (drop-drop 2 i out) ∙ ap (drop 2) e ∙ drop-drop 2 i old

-- a loop that has come to t, with L to fill in and the bytes below i filled in
module _ (p : ℕ → Phase) (n t i : ℕ) (L out : List ℕ) (inv : L ≡ take i out ++ listing p t (n - t)) where
  next : t < n → listing p t (n - t) ≡ pair (p t) t ++ listing p (t + 1) (n - (t + 1))
  next h = let e : n - t ≡ suc (n - (t + 1)) = omega arith in ap (listing p t) e ∙ ap (λ j. pair (p t) t ++ listing p j (n - (t + 1))) (sym (add-one t))

  -- t waits for m
  pub listing_more : (m : ℕ) → t < n → i + 1 < length out → p t ≡ Waiting (node m)
      → L ≡ take (i + 2) (set (set out i t) (i + 1) m) ++ listing p (t + 1) (n - (t + 1))
  listing_more m h l e =
      inv
      ∙ ap (λ x. take i out ++ x) (next h ∙ ap (λ x. pair x t ++ listing p (t + 1) (n - (t + 1))) e)
      ∙ sym (append_assoc (take i out) (t ∷ (m ∷ [])) (listing p (t + 1) (n - (t + 1))))
      ∙ ap (λ x. x ++ listing p (t + 1) (n - (t + 1))) (sym (two_more out i t m l))

  -- t does not wait
  pub listing_same : t < n → pair (p t) t ≡ [] → L ≡ take i out ++ listing p (t + 1) (n - (t + 1))
  listing_same h e = inv ∙ ap (λ x. take i out ++ x) (next h ∙ ap (λ x. x ++ listing p (t + 1) (n - (t + 1))) e)

  -- all are looked at
  pub listing_ends : n ≤ t → take i out ≡ L
  listing_ends h = let e : n - t ≡ 0 = omega arith in sym (inv ∙ ap (λ j. take i out ++ listing p t j) e ∙ append-nil (take i out))

-- a transaction that waits is one more
pub waiters_more : (p : ℕ → Phase) (t m : ℕ) → p t ≡ Waiting (node m) → waiters p (t + 1) ≡ waiters p t + 1
waiters_more p t m w = ap (waiters p) (add-one t) ∙ ap (λ x. waiters p t + cond (is_waiting x) 1 0) w

none_more : (x : Phase) → ((n : NodeNumber) → x ≡ Waiting n → ⊥) → ◌≡◌ {A = ℕ} (cond (is_waiting x) 1 0) 0
none_more Open h = refl
none_more (Waiting n) h = absurd (h n refl)
none_more Ended h = refl

-- another is not
pub waiters_same : (p : ℕ → Phase) (t : ℕ) → ((n : NodeNumber) → p t ≡ Waiting n → ⊥) → waiters p (t + 1) ≡ waiters p t
waiters_same p t h = ap (waiters p) (add-one t) ∙ omega (arith, none_more (p t) h)

-- and adds no bytes
pub pair_none : (x : Phase) (t : ℕ) → ((n : NodeNumber) → x ≡ Waiting n → ⊥) → pair x t ≡ []
pair_none Open t h = refl
pair_none (Waiting n) t h = absurd (h n refl)
pair_none Ended t h = refl

-- the bytes below i are the list, and the rest is as it was
pub listing_filled : (s : State) (out old : List ℕ) (i : ℕ) (o : Option Refusal) → o ≡ None
    → take i out ≡ listing (phase s) 0 (begun_count s) → i ≡ 2 * waiting_count s → drop i out ≡ drop i old → WaitingFilled o s old out
listing_filled s out old i o fits front e rest =
    subst (λ (x : Option Refusal). WaitingFilled x s old out) (sym fits) (
      subst (λ j. ListsWaiting s (take j out)) e (subst (λ l. ListsWaiting s l) (sym front) (listing_lists s)),
      subst (λ j. drop j out ≡ drop j old) e rest,
    )

-- those that wait, counted in the table
pub waiters_counted : (records : List Record) (n : ℕ) → n ≤ length records
    → count_by (λ r. is_waiting r.phase) (take n records) ≡ counted (λ t. is_waiting (get_or records t blank).phase) n
waiters_counted records zero h = refl
waiters_counted records (suc n) h =
    let w = is_waiting (get_or records n blank).phase in
    let before = waiters_counted records n (omega arith) in
    ap (λ i. count_by (λ r. is_waiting r.phase) (take i records)) (sym (add-one n))
    ∙ elim (cases_Bool w) [
      | inl y ↦
          let one : ◌≡◌ {A = ℕ} (cond w 1 0) 1 = ap (λ b. cond b 1 0) y in
          omega (arith, count_by_more_yes (λ r. is_waiting r.phase) records n blank (omega arith) y)
      | inr y ↦
          let none : ◌≡◌ {A = ℕ} (cond w 1 0) 0 = ap (λ b. cond b 1 0) y in
          omega (arith, count_by_more_no (λ r. is_waiting r.phase) records n blank (omega arith) y)
    ]
