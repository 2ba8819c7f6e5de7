-- The rule and the nodes of a description, read line by line.
use Rattle.std.proofs.Common.{◌≡◌, ℕ, ◌-◌, ◌^◌, ◌<◌, ◌≤◌, true, false, eqb, leb, List, [], ◌∷◌, ◌++◌, map, length, get_or, ℤ, pos, negsuc, Some, None, Option, sym, refl, ap, ◌∙◌, subst, inl, inr, arith, pow_mono}
use lib.Signed.{le_z}
use Rattle.std.proofs.lemmas.List.{append-nil, append_assoc, length-append, length_push, get_or_at}
use Rattle.std.proofs.lemmas.Bool.{cases_eq, cond-true, cond-false, and_parts, and_from, or_left, or_right, or_from, leb-true, lt-leb, eq-eqb, ne_eqb, not_from_true, not_from_false}
use Rattle.basics.specs.declared.transaction.TransactionNumber.{TransactionNumber}
use Rattle.basics.specs.Sets.{has}
use Rattle.image_model.specs.Fields.{fits}
use Rattle.image_model.specs.Image.{lowest}
use Rattle.image_model.proofs.Complement.{negative_room}
use Rattle.plans.specs.declared.plan.Node.{Node}
use Rattle.plans.specs.Building.{good_width, good_parents}
use Rattle.plans.specs.Nodes.{no_node, node_at}
use Rattle.rules.specs.declared.guard.Guard.{Guard}
use Rattle.scripts_model.specs.declared.step.Step.{Step}
use Rattle.runtext_model.specs.declared.kind.RuleKind.{RuleKind}
use Rattle.runtext_model.specs.Accepting.{is_some, node_number, line_refusal}
use Rattle.runtext_model.specs.Canonical.{Lawful}
use Rattle.runtext_model.specs.Description.{Description, blank}
use Rattle.runtext_model.specs.Lines.{node}
use Rattle.runtext_model.specs.Writing.{members, rule_lines, node_lines}
use Rattle.runtext_model.proofs.Feeding.{Takes, takes_one}
use Rattle.runtext_model.proofs.Members.{members_up, members_lie, members_set, members_some, members_small}
use Rattle.runtext_model.proofs.Numbers.{Small}

-- a description of these parts
abbrev pub made : Option RuleKind → List Node → List ℤ → List Guard → ℕ → List Step → Option (List TransactionNumber) → Description
made k ns vs gs c ss t = record { kind = k; nodes = ns; values = vs; guards = gs; scripts = c; steps = ss; turns = t }

-- the rule's line
pub takes_rule : (k : Option RuleKind) → Takes blank (rule_lines k) (made k [] [] [] 0 [] None)
takes_rule None = refl
takes_rule (Some k) = (tt, refl, refl)

-- a value of at most 16 bits has at most five digits
small_value : (w : ℕ) (v : ℤ) → w ≤ 16 → fits w v ≡ true → Small v
small_value w (pos n) slim f =
    let l = leb-true n (2 ^ (w - 1) - 1) (and_parts (le_z (lowest w) (pos n)) _ f).1 in
    let p : 2 ^ (w - 1) ≤ 2 ^ 15 = pow_mono {i = w - 1} {j = 15} (omega arith) in
    omega arith
small_value w (negsuc n) slim f =
    let l = negative_room w n (and_parts (le_z (lowest w) (negsuc n)) _ f).0 in
    let p : 2 ^ (w - 1) ≤ 2 ^ 15 = pow_mono {i = w - 1} {j = 15} (omega arith) in
    omega arith

-- the element after those that are done
pub element_at : {A : Type 0} (all done rest : List A) (x none : A) → all ≡ done ++ (x ∷ rest) → get_or all (length done) none ≡ x
element_at all done rest x none e = ap (λ xs. get_or xs (length done) none) e ∙ get_or_at done x rest none (length done) refl

-- there is one more than those that are done
pub more_than_done : {A : Type 0} (all done rest : List A) (x : A) → all ≡ done ++ (x ∷ rest) → length done < length all
more_than_done all done rest x e = omega (arith, ap length e, length-append done (x ∷ rest))

-- one more is done
pub next_done : {A : Type 0} (all done rest : List A) (x : A) → all ≡ done ++ (x ∷ rest) → all ≡ (done ++ (x ∷ [])) ++ rest
next_done all done rest x e = e ∙ sym (append_assoc done (x ∷ []) rest)

-- what a node with n nodes before it must have
record Fine (n : ℕ) (x : Node) (v : ℤ) : Type 0 where
  early : n < 64
  wide : good_width x.width ≡ true
  fit : fits x.width v ≡ true
  lower : (p : ℕ) → has x.parents.mask p ≡ true → p < n
  rooted : 0 < n → 0 < x.parents.mask

-- its width, its parents' numbers, and its parents
fine_slim : (n : ℕ) (x : Node) (v : ℤ) → Fine n x v → x.width ≤ 16
fine_slim n x v f = leb-true x.width 16 (and_parts (leb 2 x.width) _ f.wide).1

fine_low : (n : ℕ) (x : Node) (v : ℤ) → Fine n x v → (k : ℕ) → has x.parents.mask k ≡ true → k < 64
fine_low n x v f k h = omega (arith, f.lower k h, f.early)

fine_parents : (n : ℕ) (x : Node) (v : ℤ) → Fine n x v → good_parents n (map node_number (members x.parents.mask)) ≡ true
fine_parents n x v f =
    let m = x.parents.mask in
    and_from _ _ (members_up m) (and_from _ _ (members_lie m n f.lower) (elim (cases_eq n 0) [
      | inl z ↦ or_left (eqb n 0) _ (eq-eqb n 0 z)
      | inr nz ↦
          or_right (eqb n 0) _ (not_from_false _ (ne_eqb (length (map node_number (members m))) 0 (members_some m (f.rooted (omega (arith, nz))) (fine_low n x v f))))
    ]))

-- a node that has it is not refused
fine_unrefused : (d : Description) (n : ℕ) (x : Node) (v : ℤ) → length d.nodes ≡ n → Fine n x v → line_refusal d (node x.width v (members x.parents.mask)) ≡ None
fine_unrefused d n x v same f =
    let room : leb 64 (length d.nodes) ≡ false = lt-leb 64 (length d.nodes) (omega (arith, f.early)) in
    let limits = or_from (leb 64 (length d.nodes)) _ room (not_from_true _ (and_from _ _ f.wide f.fit)) in
    cond-false _ _ _ limits ∙ cond-true _ _ _ (ap (λ k. good_parents k (map node_number (members x.parents.mask))) same ∙ fine_parents n x v f)

-- all the nodes' lines, where each node is fine
module _ (k : Option RuleKind) (ruled : is_some k ≡ true) (ns : List Node) (vs : List ℤ) (valued : length vs ≡ length ns) (fine : (n : ℕ) → n < length ns → Fine n (node_at ns n) (get_or vs n (pos 0))) where
  -- from those that are done on
  nodes_from : (done : List Node) (past : List ℤ) (rest : List Node) (left : List ℤ) → ns ≡ done ++ rest → vs ≡ past ++ left → length past ≡ length done → Takes (made k done past [] 0 [] None) (node_lines rest left) (made k ns vs [] 0 [] None)
  nodes_from done past [] [] e f same =
      let n = e ∙ append-nil done in
      let v = f ∙ append-nil past in
      cc
  nodes_from done past [] (v ∷ left) e f same = absurd (omega (arith, ap length e, ap length f, length-append done [], length-append past (v ∷ left)))
  nodes_from done past (x ∷ rest) [] e f same = absurd (omega (arith, ap length e, ap length f, length-append done (x ∷ rest), length-append past []))
  nodes_from done past (x ∷ rest) (v ∷ left) e f same =
      let n = length done in
      let here = element_at ns done rest x no_node e in
      let value : get_or vs n (pos 0) ≡ v = ap (λ i. get_or vs i (pos 0)) (sym same) ∙ element_at vs past left v (pos 0) f in
      let good : Fine n x v = subst (λ y. Fine n x y) value (subst (λ y. Fine n y (get_or vs n (pos 0))) here (fine n (more_than_done ns done rest x e))) in
      let m = x.parents.mask in
      takes_one (made k done past [] 0 [] None) (made k (done ++ (x ∷ [])) (past ++ (v ∷ [])) [] 0 [] None) (made k ns vs [] 0 [] None)
      (node x.width v (members m)) (node_lines rest left)
      (omega (arith, fine_slim n x v good), small_value x.width v (fine_slim n x v good) good.fit, members_small m)
      (and_from (is_some k) true ruled refl)
      (fine_unrefused (made k done past [] 0 [] None) n x v refl good)
      (ap (λ y. made k (done ++ (record { width = x.width; parents = record { mask = y } } ∷ [])) (past ++ (v ∷ [])) [] 0 [] None) (members_set m (fine_low n x v good)))
      (nodes_from (done ++ (x ∷ [])) (past ++ (v ∷ [])) rest left (next_done ns done rest x e) (next_done vs past left v f) (simp length_push (omega (arith, same))))

-- the nodes' lines of a lawful description
pub takes_nodes : (d : Description) → Lawful d → Takes (made d.kind [] [] [] 0 [] None) (node_lines d.nodes d.values) (made d.kind d.nodes d.values [] 0 [] None)
takes_nodes d law =
    nodes_from d.kind law.ruled d.nodes d.values law.valued
    (λ n l. record {
      early = omega (arith, law.few);
      wide = law.wide n l;
      fit = law.fit n l;
      lower = λ p h. law.lower n p l h;
      rooted = λ some. law.rooted n some l;
    })
    [] [] d.nodes d.values refl refl refl
