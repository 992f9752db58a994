-- The steps of a tree give its nodes.
use Rattle.std.proofs.Common.{ℕ, ◌+◌, ◌-◌, ◌<◌, ◌≤◌, ◌≡◌, List, [], ◌∷◌, ◌++◌, length, drop, get_or, reverse, refl, sym, ap, ap₂, ◌∙◌, subst, append_assoc, append-nil, length-append, arith}
use Rattle.std.proofs.lemmas.List.{drop_more, drop_all, length-reverse, reverse-append}
use Rattle.lw_laws.specs.Trees.{Tree, leaf, const_one, const_zero, inv, nand}
use Rattle.lw_pattern.specs.declared.step.Step.{Step}
use Rattle.lw_pattern.specs.declared.step.Step.TheVariants.{Leaf, True, False, Not, Both}
use Rattle.lw_pattern.specs.declared.node.PatNode.{PatNode}
use Rattle.lw_pattern.specs.declared.node.PatNode.TheVariants.{Inv, Nand}
use Rattle.lw_pattern.specs.Steps.{steps_of}
use Rattle.lw_pattern.specs.Nodes.{node_count, nodes_from, nodes_of}
use Rattle.lw_pattern.specs.Placing.{taken, node_by, untaken, placed, CanPlace}

pub length_steps : (t : Tree) → length (steps_of t) ≡ node_count t
length_steps (leaf k) = refl
length_steps const_one = refl
length_steps const_zero = refl
length_steps (inv t) = let h : length (steps_of t ++ Not ∷ []) ≡ length (steps_of t) + 1 = length-append (steps_of t) (Not ∷ []) in let i : length (steps_of t) ≡ node_count t = length_steps t in omega arith
length_steps (nand t u) =
    let h : length (steps_of t ++ (steps_of u ++ Both ∷ [])) ≡ length (steps_of t) + length (steps_of u ++ Both ∷ []) = length-append (steps_of t) (steps_of u ++ Both ∷ []) in
    let k : length (steps_of u ++ Both ∷ []) ≡ length (steps_of u) + 1 = length-append (steps_of u) (Both ∷ []) in
    let i : length (steps_of t) ≡ node_count t = length_steps t in
    let j : length (steps_of u) ≡ node_count u = length_steps u in
    omega arith

pub can_place : (t : Tree) (rest : List Step) (size : ℕ) → CanPlace (size + 1) rest → CanPlace size (steps_of t ++ rest)
can_place (leaf k) rest size then = (omega arith, subst (λ n. CanPlace (n + 1) rest) (omega arith) then)
can_place const_one rest size then = (omega arith, subst (λ n. CanPlace (n + 1) rest) (omega arith) then)
can_place const_zero rest size then = (omega arith, subst (λ n. CanPlace (n + 1) rest) (omega arith) then)
can_place (inv t) rest size then =
    let here : CanPlace (size + 1) (Not ∷ rest) = (omega arith, subst (λ n. CanPlace (n + 1) rest) (omega arith) then) in
    subst (CanPlace size) (sym (append_assoc (steps_of t) (Not ∷ []) rest)) (can_place t (Not ∷ rest) size here)
can_place (nand t u) rest size then =
    let left : size + 1 ≡ size + 1 + 1 - 2 + 1 = omega arith in
    let here : CanPlace (size + 1 + 1) (Both ∷ rest) = (omega arith, subst (λ n. CanPlace n rest) left then) in
    let second : CanPlace (size + 1) ((steps_of u ++ Both ∷ []) ++ rest) = subst (CanPlace (size + 1)) (sym (append_assoc (steps_of u) (Both ∷ []) rest)) (can_place u (Both ∷ rest) (size + 1) here) in
    subst (CanPlace size) (sym (append_assoc (steps_of t) (steps_of u ++ Both ∷ []) rest)) (can_place t ((steps_of u ++ Both ∷ []) ++ rest) size second)

-- behind the nodes of a tree its root awaits an operator
abbrev behind : ℕ → Tree → List ℕ → List Step → List PatNode
behind place t roots rest = placed (place + node_count t) ((place + node_count t - 1) ∷ roots) rest

placed_one : (place : ℕ) (roots : List ℕ) (rest : List Step) → placed (place + 1) (place ∷ roots) rest ≡ placed (place + 1) ((place + 1 - 1) ∷ roots) rest
placed_one place roots rest = ap (λ p. placed (place + 1) (p ∷ roots) rest) (let same : place ≡ place + 1 - 1 = omega arith in same)

pub placed_tree : (t : Tree) (place : ℕ) (roots : List ℕ) (rest : List Step) → placed place roots (steps_of t ++ rest) ≡ nodes_from place t ++ behind place t roots rest
placed_tree (leaf k) place roots rest = ap (λ ns. node_by roots (Leaf k) ∷ ns) (placed_one place roots rest)
placed_tree const_one place roots rest = ap (λ ns. node_by roots True ∷ ns) (placed_one place roots rest)
placed_tree const_zero place roots rest = ap (λ ns. node_by roots False ∷ ns) (placed_one place roots rest)
placed_tree (inv t) place roots rest =
    let own = Inv (place + node_count t - 1) in
    let next : place + node_count t + 1 ≡ place + (node_count t + 1) = omega arith in
    let root : place + node_count t ≡ place + (node_count t + 1) - 1 = omega arith in
    ap (placed place roots) (append_assoc (steps_of t) (Not ∷ []) rest)
    ∙ (placed_tree t place roots (Not ∷ rest)
    ∙ (ap₂ (λ n p. nodes_from place t ++ own ∷ placed n (p ∷ roots) rest) next root ∙ sym (append_assoc (nodes_from place t) (own ∷ []) (behind place (inv t) roots rest))))
placed_tree (nand t u) place roots rest =
    let left = place + node_count t - 1 in
    let right = place + node_count t + node_count u - 1 in
    let own = Nand left right in
    let us = nodes_from (place + node_count t) u in
    let next : place + node_count t + node_count u + 1 ≡ place + (node_count t + node_count u + 1) = omega arith in
    let root : place + node_count t + node_count u ≡ place + (node_count t + node_count u + 1) - 1 = omega arith in
    ap (placed place roots) (append_assoc (steps_of t) (steps_of u ++ Both ∷ []) rest)
    ∙ (placed_tree t place roots ((steps_of u ++ Both ∷ []) ++ rest)
    ∙ (ap (λ ss. nodes_from place t ++ placed (place + node_count t) (left ∷ roots) ss) (append_assoc (steps_of u) (Both ∷ []) rest)
    ∙ (ap (λ ns. nodes_from place t ++ ns) (placed_tree u (place + node_count t) (left ∷ roots) (Both ∷ rest))
    ∙ (ap₂ (λ n p. nodes_from place t ++ (us ++ own ∷ placed n (p ∷ roots) rest)) next root
    ∙ (ap (λ ns. nodes_from place t ++ ns) (sym (append_assoc us (own ∷ []) (behind place (nand t u) roots rest)))
    ∙ sym (append_assoc (nodes_from place t) (us ++ own ∷ []) (behind place (nand t u) roots rest)))))))

pub placed_whole : (t : Tree) → placed 0 [] (steps_of t) ≡ nodes_of t
placed_whole t = ap (placed 0 []) (sym (append-nil (steps_of t))) ∙ (placed_tree t 0 [] [] ∙ append-nil (nodes_of t))

length_untaken : (roots : List ℕ) (step : Step) → taken step ≤ length roots → length (untaken roots step) ≡ length roots - taken step
length_untaken roots (Leaf k) e = omega arith
length_untaken roots True e = omega arith
length_untaken roots False e = omega arith
length_untaken [] Not e = absurd (omega arith)
length_untaken (p ∷ roots) Not e = omega arith
length_untaken [] Both e = absurd (omega arith)
length_untaken (q ∷ []) Both e = absurd (omega arith)
length_untaken (q ∷ p ∷ roots) Both e = omega arith

module _ (t : Tree) where
  -- the nodes so far, and what the steps that are left give, are those of the tree
  pub record IsPlacing (at : ℕ) (nodes : List PatNode) (roots : List ℕ) : Type 0 where
    pub can : CanPlace (length roots) (drop at (steps_of t))
    pub gives : nodes ++ placed at (reverse roots) (drop at (steps_of t)) ≡ nodes_of t

  pub starts : (nodes : List PatNode) (roots : List ℕ) → nodes ≡ [] → roots ≡ [] → IsPlacing 0 nodes roots
  starts nodes roots none empty = record {
    can = subst (λ rs. CanPlace (length rs) (steps_of t)) (sym empty) (subst (CanPlace 0) (append-nil (steps_of t)) (can_place t [] 0 tt));
    gives = ap₂ (λ ns rs. ns ++ placed 0 (reverse rs) (steps_of t)) none empty ∙ placed_whole t;
  }

  module _ (at : ℕ) (nodes : List PatNode) (roots : List ℕ) (placing : IsPlacing at nodes roots) where
    module _ (lt : at < length (steps_of t)) where
      step : Step
      step = get_or (steps_of t) at (Leaf 0)

      can_now : CanPlace (length roots) (step ∷ drop (at + 1) (steps_of t))
      unfolding step
      can_now = subst (CanPlace (length roots)) (drop_more (steps_of t) at (Leaf 0) lt) placing.can

      pub next_takes : taken (get_or (steps_of t) at (Leaf 0)) ≤ length roots
      unfolding step
      next_takes = can_now.0

      pub next_is : (nodes' : List PatNode) (roots' : List ℕ) → nodes' ≡ nodes ++ node_by (reverse roots) (get_or (steps_of t) at (Leaf 0)) ∷ []
          → reverse roots' ≡ at ∷ untaken (reverse roots) (get_or (steps_of t) at (Leaf 0)) → IsPlacing (at + 1) nodes' roots'
      unfolding step
      next_is nodes' roots' e f = record {
        can =
            let now : length roots' ≡ length (reverse roots') = sym (length-reverse roots') in
            let size : length (reverse roots') ≡ length (untaken (reverse roots) step) + 1 = (let own : length (reverse roots') ≡ length (at ∷ untaken (reverse roots) step) = ap length f in omega arith) in
            let before : length (reverse roots) ≡ length roots = length-reverse roots in
            let left : length (untaken (reverse roots) step) ≡ length (reverse roots) - taken step = length_untaken (reverse roots) step (let takes : taken step ≤ length roots = can_now.0 in omega arith) in
            let all : length roots - taken step + 1 ≡ length roots' = omega arith in
            subst (λ n. CanPlace n (drop (at + 1) (steps_of t))) all can_now.1;
        gives =
            ap₂ (λ ns rs. ns ++ placed (at + 1) rs (drop (at + 1) (steps_of t))) e f
            ∙ (append_assoc nodes (node_by (reverse roots) step ∷ []) (placed (at + 1) (at ∷ untaken (reverse roots) step) (drop (at + 1) (steps_of t)))
            ∙ (ap (λ ss. nodes ++ placed at (reverse roots) ss) (sym (drop_more (steps_of t) at (Leaf 0) lt)) ∙ placing.gives));
      }

    pub whole : length (steps_of t) ≤ at → nodes ≡ nodes_of t
    whole past = sym (append-nil nodes) ∙ (ap (λ ss. nodes ++ placed at (reverse roots) ss) (sym (drop_all at (steps_of t) past)) ∙ placing.gives)

  -- the same, by a list that has the steps
  pub next_from : (ss : List Step) → ss ≡ steps_of t → (at : ℕ) (nodes : List PatNode) (roots : List ℕ) → IsPlacing at nodes roots → at < length ss → (node : PatNode) → node ≡ node_by (reverse roots) (get_or ss at (Leaf 0))
      → (nodes' : List PatNode) → nodes' ≡ nodes ++ node ∷ [] → (left roots' : List ℕ) → reverse left ≡ untaken (reverse roots) (get_or ss at (Leaf 0)) → roots' ≡ left ++ at ∷ [] → IsPlacing (at + 1) nodes' roots'
  next_from ss same at nodes roots placing lt node own nodes' e left roots' f g =
      next_is at nodes roots placing (subst (λ xs. at < length xs) same lt) nodes' roots'
      (e ∙ ap (λ n. nodes ++ n ∷ []) (own ∙ ap (λ xs. node_by (reverse roots) (get_or xs at (Leaf 0))) same))
      (ap reverse g ∙ (reverse-append left (at ∷ []) ∙ ap (λ rs. at ∷ rs) (f ∙ ap (λ xs. untaken (reverse roots) (get_or xs at (Leaf 0))) same)))
