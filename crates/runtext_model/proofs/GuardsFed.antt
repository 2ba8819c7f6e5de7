-- The guards of a description, read line by line.
use Rattle.std.proofs.Common.{◌≡◌, ℕ, suc, ◌<◌, true, false, not, eqb, List, [], ◌∷◌, ◌++◌, map, length, get_or, None, sym, refl, ap, ◌∙◌, subst, inl, inr, arith}
use Rattle.std.proofs.lemmas.List.{append-nil, get_or_append_left}
use Rattle.std.proofs.lemmas.Bool.{cases_Bool, cond-false, and_parts, and_from, lt-ltb, not_from_true, not_from_false}
use Rattle.basics.specs.Lists.{gathered}
use Rattle.basics.specs.Sets.{has, within}
use Rattle.basics.proofs.Masks.{within_members}
use Rattle.plans.specs.declared.plan.Node.{Node}
use Rattle.rules.specs.declared.guard.Guard.{Guard}
use Rattle.rules.specs.Adding.{guard_from, in_limits, good_guard, guard_refusal}
use Rattle.rules.specs.Guards.{no_guard, fits, crosses, compatible, all_compatible}
use Rattle.rules.specs.Parents.{parents_in}
use Rattle.runtext_model.specs.Accepting.{is_empty, is_guards, node_number}
use Rattle.runtext_model.specs.Canonical.{Lawful}
use Rattle.runtext_model.specs.Description.{Description}
use Rattle.runtext_model.specs.Lines.{guard}
use Rattle.runtext_model.specs.Writing.{members, guard_lines}
use Rattle.runtext_model.proofs.Feeding.{Takes, takes_one}
use Rattle.runtext_model.proofs.Members.{members_up, members_lie, members_set, members_small}
use Rattle.runtext_model.proofs.NodesFed.{made, element_at, more_than_done, next_done}

-- a lawful description has nodes
pub some_nodes : (d : Description) → Lawful d → is_empty d.nodes ≡ false
some_nodes d law = some_list d.nodes law.some
  where
    some_list : (ns : List Node) → 0 < length ns → is_empty ns ≡ false
    some_list [] h = absurd (omega arith)
    some_list (x ∷ ns) h = refl

-- a guard that is compatible with each
compatible_all : (g : Guard) (done : List Guard) → ((i : ℕ) → i < length done → compatible g (get_or done i no_guard) ≡ true) → all_compatible g done ≡ true
compatible_all g [] each = refl
compatible_all g (x ∷ xs) each =
    and_from (compatible g x) (all_compatible g xs) (each 0 (omega arith)) (compatible_all g xs (λ i l. each (suc i) (omega arith)))

module _ (d : Description) (law : Lawful d) where
  -- what is known of a guard with these before it
  record Fine (done : List Guard) (g : Guard) : Type 0 where
    room : length done < 256
    known : g.node.0 < length d.nodes
    sound : fits (parents_in d.nodes g.node.0) g ≡ true
    apart : all_compatible g done ≡ true

  -- each guard of a lawful description has it
  fine : (done rest : List Guard) (g : Guard) → d.guards ≡ done ++ (g ∷ rest) → Fine done g
  fine done rest g e =
      let n = length done in
      let here = element_at d.guards done rest g no_guard e in
      let more = more_than_done d.guards done rest g e in
      record {
        room = omega (arith, law.few_guards);
        known = subst (λ x. x.node.0 < length d.nodes) here (law.known n more);
        sound = subst (λ x. fits (parents_in d.nodes x.node.0) x ≡ true) here (law.sound n more);
        apart = compatible_all g done (λ i l.
            let was : get_or d.guards i no_guard ≡ get_or done i no_guard = ap (λ xs. get_or xs i no_guard) e ∙ get_or_append_left done (g ∷ rest) no_guard i l in
            let in_list : i < length d.guards = omega arith in
            and_from _ _
            (subst (λ x. crosses g x ≡ true) was (subst (λ x. crosses x (get_or d.guards i no_guard) ≡ true) here (law.cross n i more in_list)))
            (subst (λ x. crosses x g ≡ true) was (subst (λ x. crosses (get_or d.guards i no_guard) x ≡ true) here (law.cross i n in_list more))));
      }

  -- the members of A and of B are nodes of the plan
  a_low : (done : List Guard) (g : Guard) → Fine done g → (k : ℕ) → has g.a.mask k ≡ true → k < length d.nodes
  a_low done g f k h =
      let (_, sets) = and_parts (not (eqb g.b.mask 0)) _ f.sound in
      let (_, part) = and_parts (within g.b.mask g.a.mask) _ sets in
      let parent = (within_members g.a.mask (parents_in d.nodes g.node.0)).0 part k h in
      omega (arith, law.lower g.node.0 k f.known parent, f.known)

  b_low : (done : List Guard) (g : Guard) → Fine done g → (k : ℕ) → has g.b.mask k ≡ true → k < length d.nodes
  b_low done g f k h =
      let (_, sets) = and_parts (not (eqb g.b.mask 0)) _ f.sound in
      let (part, _) = and_parts (within g.b.mask g.a.mask) _ sets in
      a_low done g f k ((within_members g.b.mask g.a.mask).0 part k h)

  -- the guard of its members is the guard
  same_guard : (done : List Guard) (g : Guard) → Fine done g → guard_from (node_number g.node.0) (map node_number (members g.a.mask)) (map node_number (members g.b.mask)) ≡ g
  same_guard done g f =
      let a = members_set g.a.mask (λ k h. omega (arith, a_low done g f k h, law.few)) in
      let b = members_set g.b.mask (λ k h. omega (arith, b_low done g f k h, law.few)) in
      ap (λ m. record { node = g.node; a = record { mask = m }; b = record { mask = gathered 0 (map node_number (members g.b.mask)) } }) a
      ∙ ap (λ m. record { node = g.node; a = g.a; b = record { mask = m } }) b

  -- so it is not refused
  guard_unrefused : (done : List Guard) (g : Guard) → Fine done g → guard_refusal d.nodes done (node_number g.node.0) (map node_number (members g.a.mask)) (map node_number (members g.b.mask)) ≡ None
  guard_unrefused done g f =
      let a = members g.a.mask in
      let b = members g.b.mask in
      let count = length d.nodes in
      let same = same_guard done g f in
      let limits : in_limits d.nodes done (node_number g.node.0) (map node_number a) (map node_number b) ≡ true =
      and_from _ _ (lt-ltb (length done) 256 f.room) (and_from _ _ (lt-ltb g.node.0 count f.known)
      (and_from _ _ (members_lie g.a.mask count (a_low done g f)) (members_lie g.b.mask count (b_low done g f)))) in
      let good : good_guard d.nodes (node_number g.node.0) (map node_number a) (map node_number b) ≡ true =
      and_from _ _ (members_up g.a.mask) (and_from _ _ (members_up g.b.mask)
      (ap (fits (parents_in d.nodes g.node.0)) same ∙ f.sound)) in
      cond-false _ _ _ (not_from_true _ limits) ∙ cond-false _ _ _ (not_from_true _ good)
      ∙ cond-false _ _ _ (not_from_true _ (ap (λ x. all_compatible x done) same ∙ f.apart))

  -- from those that are done on
  guards_from : is_guards d.kind ≡ true → (done rest : List Guard) → d.guards ≡ done ++ rest → Takes (made d.kind d.nodes d.values done 0 [] None) (guard_lines rest) (made d.kind d.nodes d.values d.guards 0 [] None)
  guards_from ruled done [] e = ap (λ gs. made d.kind d.nodes d.values gs 0 [] None) (sym (e ∙ append-nil done))
  guards_from ruled done (g ∷ rest) e =
      let f = fine done rest g e in
      takes_one (made d.kind d.nodes d.values done 0 [] None) (made d.kind d.nodes d.values (done ++ (g ∷ [])) 0 [] None) (made d.kind d.nodes d.values d.guards 0 [] None)
      (guard g.node.0 (members g.a.mask) (members g.b.mask)) (guard_lines rest)
      (omega (arith, f.known, law.few), members_small g.a.mask, members_small g.b.mask)
      (and_from (is_guards d.kind) _ ruled (and_from _ true (not_from_false _ (some_nodes d law)) refl))
      (guard_unrefused done g f)
      (ap (λ x. made d.kind d.nodes d.values (done ++ (x ∷ [])) 0 [] None) (same_guard done g f))
      (guards_from ruled (done ++ (g ∷ [])) rest (next_done d.guards done rest g e))

  -- the guards' lines of a lawful description
  pub takes_guards : Takes (made d.kind d.nodes d.values [] 0 [] None) (guard_lines d.guards) (made d.kind d.nodes d.values d.guards 0 [] None)
  takes_guards = elim (cases_Bool (is_guards d.kind)) [
    | inl t ↦ guards_from t [] d.guards refl
    | inr f ↦
        let none = law.guarded f in
        subst (λ gs. Takes (made d.kind d.nodes d.values [] 0 [] None) (guard_lines gs) (made d.kind d.nodes d.values gs 0 [] None)) (sym none) refl
  ]
