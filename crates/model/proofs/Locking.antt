-- What every grant, release and access keeps.
use Rattle.std.proofs.Common.{◌≡◌, ℕ, ◌<◌, cond, eqb, ◌⊎◌, List, [], ◌∷◌, ◌++◌, sym, refl, ◌∙◌, inl, inr, append-nil, arith}
use mathlib.Core.Path.{fun_ext}
use Rattle.std.proofs.lemmas.Bool.{cases_eq, eq-eqb, ne_eqb}
use Rattle.basics.proofs.Masks.{no_member, within_members}
use Rattle.rules.specs.Rule.{Rule}
use Rattle.model.specs.Lists.{In, Before}
use Rattle.model.proofs.Lists.{in_left, in_last, in_push, in_append, before_left, before_right, before_keep, before_last, before_irrefl, before_append, distinct_push}
use Rattle.model.proofs.Members.{◌∈◌, Within}
use Rattle.model.proofs.Minimal.{Descending}
use Rattle.model.proofs.Traces.{Traced, traced_grant}
use Rattle.model.proofs.Views.{View, May, Allowed, Granted, Same, Reason, Kept, Waiting}

module _ (rule : Rule) where
  -- two that may lock n meet at a lower node, which the first has locked and the second holds
  meeting : (n L : ℕ) (r : Reason rule n L) (H K : ℕ) → (H ≡ 0 → ⊥) → Within K H → May rule n H K → (p : ℕ) × (p < n) × (p ∈ r.H) × (p ∈ K)
  meeting n L r H K some inside may =
      let (p, up, a, b) = rule.intersect n r.H r.K H K
      r.some ((within_members r.K r.H).1 r.inside) r.allows
      some ((within_members K H).1 inside) may in
      (p, rule.lower n p up, a, b)

  module _ (s : View) (k : Kept rule s) where
    pub held_locked : (u : ℕ) → Within (s.held u) (s.locked u)
    held_locked u m h = let (xs, q) = k.held_last m u h in (k.locked_is m u).1 (rw q (in_last xs u))

    allowed_reason : (n t e : ℕ) → Allowed rule s n t e → (n ≡ e) ⊎ Reason rule n (s.locked t)
    allowed_reason n t e (inl a) = inl (sym a.1)
    allowed_reason n t e (inr a) = inr (record {
      H = s.locked t;
      K = s.held t;
      some = a.0;
      inside = held_locked t;
      part = λ p h. h;
      allows = a.1;
    })

    -- u could lock n, and v may lock it now: they met at a lower node, u first
    met : (n u v e : ℕ) → (u ≡ v → ⊥) → Reason rule n (s.locked u) → Allowed rule s n v e → (n ≡ e) ⊎ ((p : ℕ) × (p < n) × Before u v (s.lockers p))
    met n u v e ne r (inl a) = inl (sym a.1)
    met n u v e ne r (inr a) =
        let (p, below, in-H, in-K) = meeting n (s.locked u) r (s.locked v) (s.held v) a.0 (held_locked v) a.1 in
        let (xs, q) = k.held_last p v in-K in
        let j : In u (xs ++ (v ∷ [])) = rw q at ((k.locked_is p u).0 (r.part p in-H)) in
        let b : Before u v (xs ++ (v ∷ [])) = elim (in_push xs v u j) [ inl l ↦ before_last xs v u l | inr z ↦ absurd (ne z) ] in
        inr (p, below, rw q b)

    module _ (W : ℕ → List ℕ) (e : ℕ → ℕ) (w : Waiting rule s W e) where
      reasons : (n u : ℕ) → In u (s.lockers n ++ W n) → (n ≡ e u) ⊎ Reason rule n (s.locked u)
      reasons n u i = elim (in_append (s.lockers n) (W n) u i) [
        | inl j ↦ elim (k.reason n u j) [ inl q ↦ inl (q ∙ sym (w.entries n u j)) | inr r ↦ inr r ]
        | inr j ↦ allowed_reason n u (e u) (w.allowed n u j)
      ]

      pub waiting_descending : Descending (λ n. s.lockers n ++ W n) e
      waiting_descending = record {
        distinct = w.distinct;
        entered = λ n u i. elim (reasons n u i) [
          | inl q ↦ omega (arith, q)
          | inr r ↦ elim (in_append (s.lockers n) (W n) u i) [
            | inl j ↦ rw (w.entries n u j) (k.descending.entered n u j)
            | inr j ↦ elim (w.allowed n u j) [
              | inl a ↦ omega (arith, a.1)
              | inr a ↦
                  let (p, below, in-H, in-K) = meeting n (s.locked u) r r.H r.K r.some r.inside r.allows in
                  omega (arith, a.2, below, k.descending.entered p u ((k.locked_is p u).0 (r.part p in-H)))
            ]
          ]
        ];
        lower = λ n u v b. elim (before_append (s.lockers n) (W n) u v b) [
          | inl c ↦ elim (k.descending.lower n u v c) [
            | inl q ↦ inl (q ∙ sym (w.entries n u (before_left _ u v c)))
            | inr (inl q) ↦ inr (inl (q ∙ sym (w.entries n v (before_right _ u v c))))
            | inr (inr p) ↦ inr (inr (p.0, p.1, before_keep _ (W p.0) u v p.2))
          ]
          | inr j ↦ elim (reasons n u (before_left _ u v b)) [
            | inl q ↦ inl q
            | inr r ↦ elim (met n u v (e v) (λ z. before_irrefl _ v (w.distinct n) (rw z at b)) r (w.allowed n v j)) [
              | inl q ↦ inr (inl q)
              | inr p ↦ inr (inr (p.0, p.1, before_keep _ (W p.0) u v p.2))
            ]
          ]
        ];
      }

    module _ (s' : View) (n t : ℕ) (g : Granted rule s s' n t) where
      next : ℕ → List ℕ
      next m = cond (eqb m n) (t ∷ []) []

      next_is : (m u : ℕ) → In u (next m) → (m ≡ n) × (u ≡ t)
      unfolding next
      next_is m u i = elim (cases_eq m n) [
        | inl q ↦
            let j : In u (t ∷ []) = rw (eq-eqb m n q) at i in
            elim j [ inl z ↦ (q, z) | inr z ↦ absurd z ]
        | inr f ↦ absurd (rw (ne_eqb m n f) at i)
      ]

      after : (m : ℕ) → s'.lockers m ≡ s.lockers m ++ next m
      unfolding next
      after m = elim (cases_eq m n) [
        | inl q ↦ rw (eq-eqb m n q) (rw q g.here)
        | inr f ↦ rw (ne_eqb m n f) (g.elsewhere m f ∙ sym (append-nil _))
      ]

      in_after : (m u : ℕ) → In u (s'.lockers m) → In u (s.lockers m) ⊎ ((m ≡ n) × (u ≡ t))
      in_after m u i = elim (in_append (s.lockers m) (next m) u (rw (after m) at i)) [ inl j ↦ inl j | inr j ↦ inr (next_is m u j) ]

      -- who has locked a node keeps its entry
      entry_kept : (m u : ℕ) → In u (s.lockers m) → s'.entry u ≡ s.entry u
      entry_kept m u i = elim (cases_eq u t) [
        | inl q ↦ elim g.allowed [ inl a ↦ absurd (no_member m (rw a.0 at ((k.locked_is m t).1 (rw q at i)))) | inr a ↦ rw q a.2 ]
        | inr f ↦ g.entries u f
      ]

      waits : Waiting rule s next s'.entry
      waits = record {
        distinct = λ m. rw (← after m) (elim (cases_eq m n) [
          | inl q ↦ rw (q, g.here) (distinct_push (s.lockers n) t (k.descending.distinct n) g.new)
          | inr f ↦ rw (g.elsewhere m f) (k.descending.distinct m)
        ]);
        allowed = λ m u i. let (q, z) = next_is m u i in rw (q, z) g.allowed;
        entries = entry_kept;
      }

      pub granted_kept : Kept rule s'
      granted_kept = record {
        descending = let c : s'.lockers ≡ (λ m. s.lockers m ++ next m) = fun_ext after in rw c (waiting_descending next s'.entry waits);
        locked_is = λ m u. (
          λ h. elim ((g.locks m u).0 h) [
            | inl l ↦ rw (after m) (in_left (s.lockers m) (next m) u ((k.locked_is m u).0 l))
            | inr j ↦ rw (j.0, j.1, g.here) (in_last (s.lockers n) t)
          ],
          λ i. (g.locks m u).1 (elim (in_after m u i) [ inl j ↦ inl ((k.locked_is m u).1 j) | inr j ↦ inr j ]),
        );
        held_last = λ m u h. elim ((g.holds m u).0 h) [
          | inl l ↦
              let (xs, q) = k.held_last m u l in
              (xs, g.elsewhere m (λ z. g.free u (rw z at l)) ∙ q)
          | inr j ↦ (s.lockers n, rw (j.0, j.1) g.here)
        ];
        reason = λ m u i. elim (reasons next s'.entry waits m u (rw (after m) at i)) [
          | inl q ↦ inl q
          | inr r ↦ inr (record { H = r.H; K = r.K; some = r.some; inside = r.inside; part = λ p h. (g.locks p u).1 (inl (r.part p h)); allows = r.allows })
        ];
        traced = rw g.quiet (traced_grant s.lockers s'.lockers s.trace k.traced n t g.here g.elsewhere g.new);
      }

    -- where no lock is granted
    pub same_kept : (s' : View) → Same s s' → ((m u : ℕ) → m ∈ s'.held u → m ∈ s.held u) → Traced s.lockers s'.trace → Kept rule s'
    same_kept s' e less traced =
        let c : s'.lockers ≡ s.lockers = fun_ext e.lockers in
        let d : s'.entry ≡ s.entry = fun_ext e.entry in
        record {
          descending = rw (c, d) k.descending;
          locked_is = λ m u. rw (e.locked u, c) (k.locked_is m u);
          held_last = λ m u h. rw c (k.held_last m u (less m u h));
          reason = λ m u i. rw (d, e.locked u) (k.reason m u (rw c at i));
          traced = rw c traced;
        }

  -- where nobody locked anything
  pub start_kept : (s : View) → ((n : ℕ) → s.lockers n ≡ [])
      → ((n t : ℕ) → n ∈ s.locked t → ⊥) → ((n t : ℕ) → n ∈ s.held t → ⊥) → s.trace ≡ [] → Kept rule s
  start_kept s nobody unlocked unheld quiet = record {
    descending = record {
      distinct = λ m. rw (nobody m) tt;
      entered = λ m u i. absurd (rw (nobody m) at i);
      lower = λ m u v b. absurd (rw (nobody m) at b);
    };
    locked_is = λ m u. (λ h. absurd (unlocked m u h), λ i. absurd (rw (nobody m) at i));
    held_last = λ m u h. absurd (unheld m u h);
    reason = λ m u i. absurd (rw (nobody m) at i);
    traced = λ m. rw (quiet, nobody m) refl;
  }
