-- A replay goes node by node: only the order of the accesses at each node counts.
use Rattle.std.proofs.Common.{◌≡◌, ℕ, List, [], ◌∷◌, ◌++◌, map, ℤ, ◌+ℤ◌, sym, refl, ap, ◌∙◌, ap₂, inl, inr, arith}
use Rattle.std.proofs.lemmas.Bool.{cases_eq, cases_Bool, eq-eqb, ne_eqb, cond-true, cond-false, cond_both}
use Rattle.stores.specs.Store.{Store, in_range, set_value}
use Rattle.model.specs.Calls.{Operation, read, write, adjust, done, in_bounds}
use Rattle.model.specs.History.{Access}
use Rattle.model.specs.Replay.{written, replay_answer, replayed, replay, replay_answers}
use Rattle.model.proofs.Traces.{at_node}

-- two stores are alike at node n
record Alike (n : ℕ) (s s' : Store) : Type 0 where
  value : s.values n ≡ s'.values n
  low : s.low n ≡ s'.low n
  high : s.high n ≡ s'.high n

alike_self : (n : ℕ) (s : Store) → Alike n s s
alike_self n s = record { value = refl; low = refl; high = refl }

alike_sym : (n : ℕ) (s s' : Store) → Alike n s s' → Alike n s' s
alike_sym n s s' a = record { value = sym a.value; low = sym a.low; high = sym a.high }

alike_trans : (n : ℕ) (s s' s'' : Store) → Alike n s s' → Alike n s' s'' → Alike n s s''
alike_trans n s s' s'' a b = record { value = a.value ∙ b.value; low = a.low ∙ b.low; high = a.high ∙ b.high }

written_elsewhere : (n m : ℕ) (s : Store) (v : ℤ) → (n ≡ m → ⊥) → Alike n (written s m v) s
written_elsewhere n m s v f = cond_both (in_range s m v) (set_value s m v) s (λ x. Alike n x s)
    (λ e. record { value = rw (ne_eqb n m f) refl; low = refl; high = refl })
    (λ e. alike_self n s)

written_here : (n : ℕ) (s s' : Store) (v : ℤ) → Alike n s s' → Alike n (written s n v) (written s' n v)
written_here n s s' v a = elim (cases_Bool (in_range s n v)) [
  | inl e ↦ rw (cond-true (in_range s n v) (set_value s n v) s e, cond-true (in_range s' n v) (set_value s' n v) s' (sym same ∙ e)) (record {
    value = rw (eq-eqb n n refl) refl;
    low = a.low;
    high = a.high;
  })
  | inr e ↦ rw (cond-false (in_range s n v) (set_value s n v) s e, cond-false (in_range s' n v) (set_value s' n v) s' (sym same ∙ e)) a
]
  where
    same : in_range s n v ≡ in_range s' n v
    same = rw (a.low, a.high) refl

after_elsewhere : (n m : ℕ) (s : Store) (d : Operation) → (n ≡ m → ⊥) → Alike n (replayed s m d) s
after_elsewhere n m s read f = alike_self n s
after_elsewhere n m s (write v) f = written_elsewhere n m s v f
after_elsewhere n m s (adjust d) f =
    cond_both (in_bounds d) _ s (λ x. Alike n x s) (λ e. written_elsewhere n m s (s.values m +ℤ d) f) (λ e. alike_self n s)

after_here : (n : ℕ) (s s' : Store) (d : Operation) → Alike n s s' → Alike n (replayed s n d) (replayed s' n d)
after_here n s s' read a = a
after_here n s s' (write v) a = written_here n s s' v a
after_here n s s' (adjust d) a = elim (cases_Bool (in_bounds d)) [
  | inl e ↦ rw (e, a.value) (written_here n s s' (s'.values n +ℤ d) a)
  | inr e ↦ rw e a
]

answer_here : (n : ℕ) (s s' : Store) (d : Operation) → Alike n s s' → replay_answer s n d ≡ replay_answer s' n d
answer_here n s s' read a = ap done a.value
answer_here n s s' (write v) a = rw (a.low, a.high) refl
answer_here n s s' (adjust d) a = rw (a.low, a.high, a.value) refl

-- each access is answered in the replay as it was
abbrev pub Right : Store → List Access → Type 0
Right s [] = Unit {0}
Right s (a ∷ A) = (replay_answer s a.node a.operation ≡ a.answer) × Right (replayed s a.node a.operation) A

pub right_answers : (A : List Access) (s : Store) → Right s A → replay_answers s A ≡ map (λ a. a.answer) A
right_answers [] s r = refl
right_answers (a ∷ A) s r = ap₂ ◌∷◌ r.0 (right_answers A _ r.1)

pub right_push : (A : List Access) (a : Access) (s : Store) → Right s A → replay_answer (replay s A) a.node a.operation ≡ a.answer → Right s (A ++ (a ∷ []))
right_push [] a s r e = (e, tt)
right_push (x ∷ A) a s r e = (r.0, right_push A a _ r.1 e)

pub replay_push : (A : List Access) (a : Access) (s : Store) → replay s (A ++ (a ∷ [])) ≡ replayed (replay s A) a.node a.operation
replay_push [] a s = refl
replay_push (x ∷ A) a s = replay_push A a _

at_first : (n : ℕ) (x : Access) (A : List Access) → x.node ≡ n → at_node n (x ∷ A) ≡ x ∷ at_node n A
at_first n x A q = rw (eq-eqb _ _ q) refl

at_skip : (n : ℕ) (x : Access) (A : List Access) → (x.node ≡ n → ⊥) → at_node n (x ∷ A) ≡ at_node n A
at_skip n x A f = rw (ne_eqb _ _ f) refl

-- the value of a node comes from the accesses at it
replay_at : (A : List Access) (n : ℕ) (s s' : Store) → Alike n s s' → Alike n (replay s A) (replay s' (at_node n A))
replay_at [] n s s' a = a
replay_at (x ∷ A) n s s' a = elim (cases_eq x.node n) [
  | inl q ↦ rw (at_first n x A q) (replay_at A n _ _ (rw q (after_here n s s' x.operation a)))
  | inr f ↦ rw (at_skip n x A f) (replay_at A n _ _ (alike_trans n _ s s' (after_elsewhere n x.node s x.operation (λ z. f (sym z))) a))
]

-- and so do the answers at it
right_at : (A : List Access) (n : ℕ) (s s' : Store) → Alike n s s' → Right s A → Right s' (at_node n A)
right_at [] n s s' a r = tt
right_at (x ∷ A) n s s' a r = elim (cases_eq x.node n) [
  | inl q ↦
      let b : Alike x.node s s' = rw q a in
      rw (at_first n x A q) (
        sym (answer_here x.node s s' x.operation b) ∙ r.0,
        right_at A n _ _ (rw q (after_here n s s' x.operation a)) r.1,
      )
  | inr f ↦ rw (at_skip n x A f) (right_at A n _ _ (alike_trans n _ s s' (after_elsewhere n x.node s x.operation (λ z. f (sym z))) a) r.1)
]

at_twice : (A : List Access) (n : ℕ) → at_node n (at_node n A) ≡ at_node n A
at_twice [] n = refl
at_twice (x ∷ A) n = let rest = at_twice A n in grind arith

-- what is right at each node is right
right_joined : (A : List Access) (s : Store) → ((n : ℕ) → Right s (at_node n A)) → Right s A
right_joined [] s f = tt
right_joined (x ∷ A) s f =
    let r : Right s (x ∷ at_node x.node A) = rw (at_first x.node x A refl) at (f x.node) in (
      r.0,
      right_joined A _ (λ n. elim (cases_eq x.node n) [
        | inl q ↦ rw (← q) r.1
        | inr g ↦
            let old : Right s (at_node n A) = rw (at_skip n x A g) at (f n) in
            rw at_twice at (right_at (at_node n A) n s _ (alike_sym n _ s (after_elsewhere n x.node s x.operation (λ z. g (sym z)))) old)
      ]),
    )

-- B has the same accesses at each node as A, in the same order
module _ (s : Store) (A B : List Access) (same : (n : ℕ) → at_node n B ≡ at_node n A) where
  pub right_over : Right s A → Right s B
  right_over r = right_joined B s (λ n. rw (same n) (right_at A n s s (alike_self n s) r))

  pub values_over : (n : ℕ) → (replay s B).values n ≡ (replay s A).values n
  values_over n =
      (replay_at B n s s (alike_self n s)).value
      ∙ ap (λ l. (replay s l).values n) (same n)
      ∙ sym (replay_at A n s s (alike_self n s)).value
