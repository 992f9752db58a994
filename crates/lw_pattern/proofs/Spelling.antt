-- Trees and the steps that spell them.
use Rattle.std.proofs.Common.{◌≡◌, List, [], ◌∷◌, ◌++◌, refl, sym, ap, ap₂, ◌∙◌, append_assoc, append-nil}
use Rattle.std.specs.Prelude.{fold}
use Rattle.lw_laws.specs.Trees.{Tree, leaf, const_one, const_zero, inv, nand}
use Rattle.lw_laws.specs.Patterns.{inverted, tree_by}
use Rattle.lw_pattern.specs.declared.step.Step.{Step}
use Rattle.lw_pattern.specs.declared.step.Step.TheVariants.{Leaf, True, False, Not, Both}
use Rattle.lw_pattern.specs.declared.step.Operator.{Operator}
use Rattle.lw_pattern.specs.declared.step.Operator.TheVariants.{And, Or}
use Rattle.lw_pattern.specs.Steps.{steps_of, stacked, spelled, law_operator, operand_of, operator_steps}

-- the steps of a tree put it before the others
pub stacked_tree : (t : Tree) (rest : List Step) (trees : List Tree) → fold stacked trees (steps_of t ++ rest) ≡ fold stacked (t ∷ trees) rest
stacked_tree (leaf k) rest trees = refl
stacked_tree const_one rest trees = refl
stacked_tree const_zero rest trees = refl
stacked_tree (inv t) rest trees = ap (fold stacked trees) (append_assoc (steps_of t) (Not ∷ []) rest) ∙ stacked_tree t (Not ∷ rest) trees
stacked_tree (nand t u) rest trees =
    ap (fold stacked trees) (append_assoc (steps_of t) (steps_of u ++ Both ∷ []) rest)
    ∙ (stacked_tree t ((steps_of u ++ Both ∷ []) ++ rest) trees
    ∙ (ap (fold stacked (t ∷ trees)) (append_assoc (steps_of u) (Both ∷ []) rest) ∙ stacked_tree u (Both ∷ rest) (t ∷ trees)))

pub spelled-steps : (t : Tree) → spelled (steps_of t) ≡ t
spelled-steps t = ap spelled (sym (append-nil (steps_of t))) ∙ ap (λ ts. Rattle.lw_pattern.specs.Steps.top ts) (stacked_tree t [] [])

-- steps that are those of a tree spell it
pub spelled_is : (steps : List Step) (t : Tree) → steps ≡ steps_of t → spelled steps ≡ t
spelled_is steps t e = ap spelled e ∙ spelled-steps t

pub kept_is : (steps : List Step) (t : Tree) → steps ≡ steps_of t → steps_of (spelled steps) ≡ steps
kept_is steps t e = ap steps_of (spelled_is steps t e) ∙ sym e

-- the steps before the last one
pub root_of : Tree → Step
root_of (leaf k) = Leaf k
root_of const_one = True
root_of const_zero = False
root_of (inv t) = Not
root_of (nand t u) = Both

abbrev before_root : Tree → List Step
before_root (leaf k) = []
before_root const_one = []
before_root const_zero = []
before_root (inv t) = steps_of t
before_root (nand t u) = steps_of t ++ steps_of u

steps_split : (t : Tree) → steps_of t ≡ before_root t ++ root_of t ∷ []
unfolding root_of
steps_split (leaf k) = refl
steps_split const_one = refl
steps_split const_zero = refl
steps_split (inv t) = refl
steps_split (nand t u) = sym (append_assoc (steps_of t) (steps_of u) (Both ∷ []))

pub joined_steps : (operator : Operator) (t u : Tree) → (steps_of (operand_of operator t) ++ steps_of (operand_of operator u)) ++ operator_steps operator ≡ steps_of (tree_by (law_operator operator) t u)
joined_steps And t u =
    append_assoc (steps_of t) (steps_of u) (Both ∷ Not ∷ [])
    ∙ (ap (λ s. steps_of t ++ s) (sym (append_assoc (steps_of u) (Both ∷ []) (Not ∷ []))) ∙ sym (append_assoc (steps_of t) (steps_of u ++ Both ∷ []) (Not ∷ [])))
joined_steps Or t u = append_assoc (steps_of (inverted t)) (steps_of (inverted u)) (Both ∷ [])

pub joined_is : (operator : Operator) (t u : Tree) (none first second whole : List Step) → none ≡ [] → first ≡ none ++ steps_of (operand_of operator t) → second ≡ first ++ steps_of (operand_of operator u)
    → whole ≡ second ++ operator_steps operator → whole ≡ steps_of (tree_by (law_operator operator) t u)
joined_is operator t u none first second whole e f g h =
    h ∙ (ap (λ s. s ++ operator_steps operator) (g ∙ ap (λ s. s ++ steps_of (operand_of operator u)) (f ∙ ap (λ s. s ++ steps_of (operand_of operator t)) e)) ∙ joined_steps operator t u)

-- a tail behind the left operand
pub with_tail : (operator : Operator) (t u : Tree) (before tail whole : List Step) → before ≡ steps_of (operand_of operator t) → tail ≡ steps_of (operand_of operator u) ++ operator_steps operator → whole ≡ before ++ tail
    → whole ≡ steps_of (tree_by (law_operator operator) t u)
with_tail operator t u before tail whole e f g =
    g ∙ (ap₂ (λ s r. s ++ r) e f ∙ (sym (append_assoc (steps_of (operand_of operator t)) (steps_of (operand_of operator u)) (operator_steps operator)) ∙ joined_steps operator t u))
