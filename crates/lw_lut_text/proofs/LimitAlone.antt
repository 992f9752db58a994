-- What the reader finds in lines that break no rule but the limit on signals.
use Rattle.std.proofs.Common.{◌≡◌, Bool, true, false, cond, List, [], ◌∷◌, ◌++◌, Option, Some, None, refl, ap, sym, ◌∙◌, subst, append_assoc, append-nil}
use Rattle.std.specs.List.{AllByRecursion as Each}
use Rattle.std.proofs.lemmas.List.Elements.{All-from_recursion, recursion_from_All}
use Rattle.lw_words.specs.Lines.{LogicalLine}
use Rattle.lw_blif.specs.declared.fault.BlifKind.{BlifKind}
use Rattle.lw_blif.specs.declared.fault.BlifKind.TheVariants as kind
use Rattle.lw_blif.specs.LineFaults.{Rule, FaultAt, first_broken, line_fault, first_fault}
use Rattle.lw_blif_text.specs.FirstFaults.{fault_or, first_fault_by}
use Rattle.lw_blif_text.proofs.Appending.{fault_or_none}
use Rattle.lw_lut_text.specs.Readable.{rules_on, IsUnlimited, AreUnlimited}
use Rattle.lw_lut_text.proofs.Unlimited.{IsKept, AreUnlimitedBehind, kept, unlimited_from}

-- of rules that are kept but for the limit, the first that is broken is the limit
limit_first : (rules : List Rule) (k : BlifKind) → Each IsKept rules → first_broken rules ≡ Some k → k ≡ kind.LimitSignals
limit_first [] k each e = cc
limit_first (rule ∷ rules) k each e = by_test rule.broken refl e (limit_first rules k each.1)
  where
    by_test : (b : Bool) → rule.broken ≡ b → cond b (Some rule.kind) (first_broken rules) ≡ Some k → (first_broken rules ≡ Some k → k ≡ kind.LimitSignals) → k ≡ kind.LimitSignals
    by_test true is f others = let same : rule.kind ≡ k = cc in sym same ∙ each.0 is
    by_test false is f others = others f

none_broken : (rules : List Rule) → first_broken rules ≡ None → Each IsKept rules
none_broken [] e = tt
none_broken (rule ∷ rules) e = by_test rule.broken refl e (none_broken rules)
  where
    by_test : (b : Bool) → rule.broken ≡ b → cond b (Some rule.kind) (first_broken rules) ≡ None → (first_broken rules ≡ None → Each IsKept rules) → Each IsKept (rule ∷ rules)
    by_test true is f others = cc
    by_test false is f others = (kept rule.broken rule.kind is, others f)

limit_on : (before : List LogicalLine) (line : LogicalLine) (k : BlifKind) → IsUnlimited before line → line_fault before line ≡ Some k → k ≡ kind.LimitSignals
unfolding line_fault
limit_on before line k is e = limit_first (rules_on before line) k (recursion_from_All IsKept (rules_on before line) is) e

free_on : (before : List LogicalLine) (line : LogicalLine) → line_fault before line ≡ None → IsUnlimited before line
unfolding line_fault
free_on before line e = All-from_recursion IsKept (rules_on before line) (none_broken (rules_on before line) e)

-- Lines.

limit_behind : (before lines : List LogicalLine) (f : FaultAt) → AreUnlimitedBehind before lines → first_fault before lines ≡ Some f → f.kind ≡ kind.LimitSignals
unfolding first_fault_by
limit_behind before [] f are e = cc
limit_behind before (line ∷ lines) f are e = by_fault (line_fault before line) refl e (limit_behind (before ++ line ∷ []) lines f are.1)
  where
    by_fault : (o : Option BlifKind) → line_fault before line ≡ o → fault_or line.number o (first_fault (before ++ line ∷ []) lines) ≡ Some f → (first_fault (before ++ line ∷ []) lines ≡ Some f → f.kind ≡ kind.LimitSignals) → f.kind ≡ kind.LimitSignals
    by_fault (Some k) is g others =
        let same : record { number = line.number; kind = k } ≡ f = cc in
        ap (λ (x : FaultAt). x.kind) (sym same) ∙ limit_on before line k are.0 is
    by_fault None is g others = others g

free_behind : (before lines : List LogicalLine) → first_fault before lines ≡ None → AreUnlimitedBehind before lines
unfolding first_fault_by
free_behind before [] e = tt
free_behind before (line ∷ lines) e =
    let parts = fault_or_none line.number (line_fault before line) (first_fault (before ++ line ∷ []) lines) e in
    (free_on before line parts.0, free_behind (before ++ line ∷ []) lines parts.1)

one_by_one : (seen lines : List LogicalLine) → ((before : List LogicalLine) (line : LogicalLine) (after : List LogicalLine) → lines ≡ before ++ line ∷ after → IsUnlimited (seen ++ before) line) → AreUnlimitedBehind seen lines
one_by_one seen [] are = tt
one_by_one seen (l ∷ lines) are = (
  subst (λ ls. IsUnlimited ls l) (append-nil seen) (are [] l lines refl),
  one_by_one (seen ++ l ∷ []) lines (λ before line after e. subst (λ ls. IsUnlimited ls line) (sym (append_assoc seen (l ∷ []) before)) (are (l ∷ before) line after (ap (λ ls. l ∷ ls) e))),
)

-- a fault in such lines is that of the limit
pub limit_alone : (lines : List LogicalLine) (f : FaultAt) → AreUnlimited lines → first_fault [] lines ≡ Some f → f.kind ≡ kind.LimitSignals
limit_alone lines f are e = limit_behind [] lines f (one_by_one [] lines are) e

-- lines without a fault are such lines
pub free_of_faults : (lines : List LogicalLine) → first_fault [] lines ≡ None → AreUnlimited lines
free_of_faults lines e = unlimited_from lines (free_behind [] lines e)
