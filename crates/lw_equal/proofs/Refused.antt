-- Faults in order: the first that there is.
use Rattle.std.proofs.Common.{◌≡◌, ℕ, ◌+◌, ◌<◌, List, ◌∷◌, Option, Some, None, length, drop, get_or, refl, ap, sym, ◌∙◌, arith, subst, IfErr, IsErrAnd, Result}
use Rattle.std.proofs.lemmas.Result.{err_from_is_err_and}
use Rattle.std.proofs.lemmas.List.{drop_more}
use Rattle.std.proofs.lemmas.Option.{none-some}
use Rattle.lw_equal.specs.declared.answer.Fault.{Fault}
use Rattle.lw_equal.specs.declared.answer.Fault.TheVariants.{Ports, Memory}
use Rattle.lw_equal.specs.declared.answer.PortFault.{PortFault}
use Rattle.lw_equal.specs.declared.answer.PortKind.TheVariants.{Input}
use Rattle.lw_equal.specs.declared.side.Side.{Side}
use Rattle.lw_equal.specs.Answers.{Refuses}
use Rattle.lw_equal.specs.Ports.{fault_from, fault_of, first_lacking, first_of}
use Rattle.lw_equal.specs.Sides.{inputs_of}

pub refuses_first : (found rest : Option PortFault) (fault : Fault) → Refuses found fault → Refuses (first_of found rest) fault
refuses_first found rest (Ports fault) is = ap (λ o. first_of o rest) is
refuses_first found rest Memory is = tt

pub refuses_next : (found rest : Option PortFault) (fault : Fault) → found ≡ None → Refuses rest fault → Refuses (first_of found rest) fault
refuses_next found rest fault none is = subst (λ o. Refuses (first_of o rest) fault) (sym none) is

pub none_of_both : (found rest : Option PortFault) → found ≡ None → rest ≡ None → first_of found rest ≡ None
none_of_both found rest none none' = ap (λ o. first_of o rest) none ∙ none'

-- an error is what it was made of
pub err_is : {T : Type 0} (Q : Fault → Type 0) (r : Result T Fault) (y : Fault) → IsErrAnd r (λ e. e ≡ y) → Q y → IfErr r Q
err_is Q r y is q =
    let e = err_from_is_err_and r is in
    subst (λ o. IfErr o Q) (sym e.1) (subst Q (sym e.2) q)

pub first_none : (found rest : Option PortFault) → first_of found rest ≡ None → found ≡ None
first_none None rest e = refl
first_none (Some fault) rest e = absurd (none-some fault (sym e))

module _ (one : Side) (number : ℕ) (more : List Side) (i : ℕ) (d : Side) (lt : i < length more) where
  abbrev here : Option PortFault
  here = fault_of Input number 1 (first_lacking (inputs_of one.logic) (inputs_of (get_or more i d).logic))

  split : fault_from one number (drop i more) ≡ first_of here (fault_from one (number + 1) (drop (i + 1) more))
  split = ap (fault_from one number) (drop_more more i d lt)

  -- the network at hand is refused
  pub refused_here : (fault : Fault) → fault_from one number (drop i more) ≡ fault_from one 3 more → Refuses here fault → Refuses (fault_from one 3 more) fault
  refused_here fault left is = subst (λ o. Refuses o fault) (sym split ∙ left) (refuses_first here (fault_from one (number + 1) (drop (i + 1) more)) fault is)

  -- or it is not, and the others are left
  pub none_here : fault_from one number (drop i more) ≡ fault_from one 3 more → here ≡ None → fault_from one (number + 1) (drop (i + 1) more) ≡ fault_from one 3 more
  none_here left none = sym (split ∙ ap (λ o. first_of o (fault_from one (number + 1) (drop (i + 1) more))) none) ∙ left
