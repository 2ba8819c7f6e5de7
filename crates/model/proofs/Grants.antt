-- A granted lock keeps what holds of a session.
use Rattle.std.proofs.Common.{◌≡◌, ℕ, ◌<◌, cond, eqb, ◌⊎◌, ◌↔◌, List, [], ◌∷◌, ◌++◌, length, get_or, set, Some, None, sym, refl, ap, ◌∙◌, inl, inr, arith, length-set, get_or-set_other, get_or-set_same}
use lib.Bits.{bit_or}
use Rattle.std.proofs.lemmas.Bool.{cases_eq, eq-eqb, ne_eqb}
use Rattle.basics.proofs.Masks.{or_members, with_members, with_lt}
use Rattle.basics.specs.Sets.{with_member}
use Rattle.basics.specs.declared.transaction.TransactionSet.{TransactionSet}
use Rattle.stores.specs.Store.{Store}
use Rattle.model.specs.declared.table.Phase.TheVariants.{Open}
use Rattle.model.specs.declared.table.Record.{Record}
use Rattle.model.specs.Lists.{In, Before}
use Rattle.model.specs.State.{State, nodes, transactions, lockers_at, earlier_than, node, transaction, locked, held, holder, Holds}
use Rattle.model.specs.Step.{granted}
use Rattle.model.specs.History.{Access}
use Rattle.model.proofs.Members.{◌∈◌}
use Rattle.model.proofs.Views.{Granted}
use Rattle.model.proofs.Locking.{granted_kept}
use Rattle.model.proofs.Phases.{none_some, same_holder, not_waiting, not_ended}
use Rattle.model.proofs.Records.{Replaced, replaced}
use Rattle.model.proofs.Pushes.{in_pushed, before_pushed}
use Rattle.model.proofs.Inv.{view, Asking, Inv}

-- one mask gets one element more
one_more_member : (w : ℕ) (f f' : ℕ → ℕ) (n t : ℕ) → n < w
    → ((u : ℕ) → u ≡ t → f' u ≡ with_member w (f t) n) → ((u : ℕ) → (u ≡ t → ⊥) → f' u ≡ f u)
    → (m u : ℕ) → (m ∈ f' u) ↔ ((m ∈ f u) ⊎ ((m ≡ n) × (u ≡ t)))
one_more_member w f f' n t l here there m u = elim (cases_eq u t) [
  | inl q ↦ rw (here u q, q) (
    λ b. elim ((with_members w (f t) n m l).0 b) [ inl c ↦ inl c | inr z ↦ inr (z, refl) ],
    λ b. (with_members w (f t) n m l).1 (elim b [ inl c ↦ inl c | inr z ↦ inr z.0 ]),
  )
  | inr g ↦ rw (there u g) (λ b. inl b, elim [ inl c ↦ c | inr z ↦ absurd (g z.1) ])
]

-- an array of masks after one of them is replaced
mask_here : (xs : List TransactionSet) (k : ℕ) (x : TransactionSet) → k < length xs → (j : ℕ) → j ≡ k
    → (get_or (set xs k x) j (transactions 0)).mask ≡ x.mask
mask_here xs k x h j q = ap (λ y. (get_or (set xs k x) y (transactions 0)).mask) q ∙ ap (λ y. y.mask) (get_or-set_same xs k x (transactions 0) h)

mask_there : (xs : List TransactionSet) (k : ℕ) (x : TransactionSet) (j : ℕ) → (j ≡ k → ⊥)
    → (get_or (set xs k x) j (transactions 0)).mask ≡ (get_or xs j (transactions 0)).mask
mask_there xs k x j f = ap (λ y. y.mask) (get_or-set_other xs k j x (transactions 0) f)

-- f with v at k
abbrev at : (ℕ → ℕ) → ℕ → ℕ → ℕ → ℕ
at f k v m = cond (eqb m k) v (f m)

module _ (first : Store) (s : State) (C C' : ℕ → List ℕ) (A : List Access) (i : Inv first s C A) (t n : ℕ)
    (l : t < s.begun) (few : n < 64) (asking : Asking s t n) (free : holder s n ≡ None)
    (here : C' n ≡ C n ++ (t ∷ [])) (elsewhere : (m : ℕ) → (m ≡ n → ⊥) → C' m ≡ C m) where
  r : Record
  r = record { phase = Open; locked = nodes (with_member 64 (locked s t) n); held = nodes (with_member 64 (held s t) n) }

  rep : Replaced s (granted s t n) t r
  unfolding r
  rep = replaced s (granted s t n) t r (omega (arith, l, i.few, i.long_records)) refl

  entry : ℕ → ℕ
  entry = at i.entry t (cond (eqb (locked s t) 0) n (i.entry t))

  entry_here : entry t ≡ cond (eqb (locked s t) 0) n (i.entry t)
  unfolding entry
  entry_here = rw (eq-eqb t t refl) refl

  entry_there : (u : ℕ) → (u ≡ t → ⊥) → entry u ≡ i.entry u
  unfolding entry
  entry_there u f = rw (ne_eqb u t f) refl

  locks : (m u : ℕ) → (m ∈ locked (granted s t n) u) ↔ ((m ∈ locked s u) ⊎ ((m ≡ n) × (u ≡ t)))
  unfolding r
  locks = one_more_member 64 (locked s) (locked (granted s t n)) n t few rep.locked_here rep.locked_there

  holds : (m u : ℕ) → (m ∈ held (granted s t n) u) ↔ ((m ∈ held s u) ⊎ ((m ≡ n) × (u ≡ t)))
  unfolding r
  holds = one_more_member 64 (held s) (held (granted s t n)) n t few rep.held_here rep.held_there

  nobody : (u : ℕ) → n ∈ held s u → ⊥
  nobody u b = none_some (holder s n) (transaction u) free ((i.holder_is n u).1 b)

  new : In t (C n) → ⊥
  new j = asking.1 ((i.kept.locked_is n t).1 j)

  grants : Granted s.rule (view s C i.entry A) (view (granted s t n) C' entry A) n t
  grants = record {
    new = new;
    free = nobody;
    allowed = rw entry_here (elim (cases_eq (locked s t) 0) [
      | inl z ↦ inl (z, rw (eq-eqb (locked s t) 0 z) refl)
      | inr f ↦ inr (f, asking.2, rw (ne_eqb (locked s t) 0 f) refl)
    ]);
    entries = entry_there;
    here = here;
    elsewhere = elsewhere;
    locks = locks;
    holds = holds;
    quiet = refl;
  }

  holder_is : (m u : ℕ) → Holds (granted s t n) u m ↔ (m ∈ held (granted s t n) u)
  holder_is m u = elim (cases_eq m n) [
    | inl q ↦
        let e : holder (granted s t n) m ≡ Some (transaction t) =
        ap (λ x. get_or (set s.holders n (Some (transaction t))) x None) q
        ∙ get_or-set_same s.holders n (Some (transaction t)) None (omega (arith, few, i.long_holders)) in (
          λ h. (holds m u).1 (inr (q, same_holder _ u t h e)),
          λ b. elim ((holds m u).0 b) [ inl c ↦ absurd (nobody u (rw q at c)) | inr z ↦ e ∙ ap (λ x. Some (transaction x)) (sym z.1) ],
        )
    | inr f ↦
        let e : holder (granted s t n) m ≡ holder s m = get_or-set_other s.holders n m (Some (transaction t)) None f in (
          λ h. (holds m u).1 (inl ((i.holder_is m u).0 (sym e ∙ h))),
          λ b. elim ((holds m u).0 b) [ inl c ↦ e ∙ (i.holder_is m u).1 c | inr z ↦ absurd (f z.0) ],
        )
  ]

  lockers_is : (m u : ℕ) → (u ∈ lockers_at (granted s t n) m) ↔ In u (C' m)
  lockers_is m u = (
    λ b. (in_pushed C C' n t here elsewhere m u).1 (elim ((added u m).0 b) [ inl c ↦ inl ((i.lockers_is m u).0 c) | inr z ↦ inr (z.1, z.0) ]),
    λ j. (added u m).1 (elim ((in_pushed C C' n t here elsewhere m u).0 j) [ inl c ↦ inl ((i.lockers_is m u).1 c) | inr z ↦ inr (z.1, z.0) ]),
  )
    where
      added : (u m : ℕ) → (u ∈ lockers_at (granted s t n) m) ↔ ((u ∈ lockers_at s m) ⊎ ((u ≡ t) × (m ≡ n)))
      added = one_more_member 32 (lockers_at s) (lockers_at (granted s t n)) t n (omega (arith, l, i.few))
          (mask_here s.lockers n _ (omega (arith, few, i.long_lockers)))
          (mask_there s.lockers n _)

  earlier_is : (v u : ℕ) → (u ∈ earlier_than (granted s t n) v) ↔ ((m : ℕ) × Before u v (C' m))
  earlier_is v u = elim (cases_eq v t) [
    | inl q ↦ rw (mask_here s.earlier t both (omega (arith, l, i.few, i.long_earlier)) v q) (
      λ b. elim ((or_members (earlier_than s t) (lockers_at s n) u).0 b) [
        | inl c ↦ let (m, d) = (i.earlier_is t u).0 c in (m, (pushed m u v).1 (inl (rw q d)))
        | inr c ↦ (n, (pushed n u v).1 (inr (refl, (i.lockers_is n u).0 c, q)))
      ],
      λ (m, b). (or_members (earlier_than s t) (lockers_at s n) u).1 (elim ((pushed m u v).0 b) [
        | inl c ↦ inl ((i.earlier_is t u).1 (m, rw q at c))
        | inr z ↦ inr ((i.lockers_is n u).1 z.1)
      ]),
    )
    | inr f ↦ rw (mask_there s.earlier t both v f) (
      λ b. let (m, d) = (i.earlier_is v u).0 b in (m, (pushed m u v).1 (inl d)),
      λ (m, b). (i.earlier_is v u).1 (m, elim ((pushed m u v).0 b) [ inl c ↦ c | inr z ↦ absurd (f z.2) ]),
    )
  ]
    where
      both : TransactionSet
      both = transactions (bit_or (earlier_than s t) (lockers_at s n))

      pushed : (m u v : ℕ) → Before u v (C' m) ↔ (Before u v (C m) ⊎ ((m ≡ n) × In u (C n) × (v ≡ t)))
      pushed = before_pushed C C' n t here elsewhere

  pub granted_inv : Inv first (granted s t n) C' A
  unfolding r
  granted_inv = record {
    entry = entry;
    kept = granted_kept s.rule (view s C i.entry A) i.kept _ n t grants;
    few = i.few;
    long_records = length-set s.records t r ∙ i.long_records;
    long_holders = length-set s.holders n _ ∙ i.long_holders;
    long_lockers = length-set s.lockers n _ ∙ i.long_lockers;
    long_earlier = length-set s.earlier t _ ∙ i.long_earlier;
    small = λ u. elim (cases_eq u t) [
      | inl q ↦ rw (rep.held_here u q) (with_lt 64 (held s t) n (i.small t))
      | inr f ↦ rw (rep.held_there u f) (i.small u)
    ];
    holder_is = holder_is;
    lockers_is = lockers_is;
    earlier_is = earlier_is;
    begun_is = λ m u j. elim ((in_pushed C C' n t here elsewhere m u).0 j) [ inl c ↦ i.begun_is m u c | inr z ↦ rw z.1 l ];
    asks = λ u m w. elim (cases_eq u t) [
      | inl q ↦ absurd (not_waiting Open (node m) refl (sym (rep.phase_here u q) ∙ w))
      | inr f ↦
          rw (rep.locked_there u f, rep.held_there u f)
          (i.asks u m (sym (rep.phase_there u f) ∙ w))
    ];
    spent = λ u e. elim (cases_eq u t) [
      | inl q ↦ absurd (not_ended Open refl (sym (rep.phase_here u q) ∙ e))
      | inr f ↦ rep.held_there u f ∙ i.spent u (sym (rep.phase_there u f) ∙ e)
    ];
    owned = i.owned;
    right = i.right;
    same_store = i.same_store;
  }
