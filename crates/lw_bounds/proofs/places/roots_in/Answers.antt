use Rattle.std.proofs.Common.{◌≡◌, ◌+◌, ◌∷◌, ◌++◌, [], List, Some, false, slice_get, slice_index_or, sym, subst, ap, ◌∙◌}
use Rattle.std.proofs.lemmas.Option.{slice_get-get_or}
use Rattle.lw_bounds.specs.declared.parts.Kind.TheVariants.{Any}
use Rattle.lw_bounds.specs.declared.parts.Root.{Root}
use Rattle.lw_bounds.specs.declared.parts.Side.{Side}
use Rattle.lw_bounds.specs.Places.{root_of, AreListed}
use Rattle.lw_bounds.proofs.RootsListed.{listed_more, listed_passed}
use Rattle.lw_bounds.proofs.places.roots_in.Goals as goal
use Rattle.lw_bounds.proofs.places.roots_in.Goals.{then-list_of-list+in_ok-push, else-list_of-list}

pub loop-number-preserved : goal.loop-number-preserved
loop-number-preserved c =
    let l = c.loop-number in
    let sides = c.args.sides.now in
    let list = c.args.list in
    let none : Side = record { kind = Any; flipped = false } in
    let side = slice_index_or sides l.number none in
    let at : slice_get sides l.number ≡ Some side = slice_get-get_or sides l.number none c.loop-number-test.true in
    elim c.if-list_of-list.branch [
      | then-list_of-list+in_ok-push w ↦
          let items : c.if-list_of-list.roots.items ≡ l.roots.items ++ root_of l.number side ∷ [] = ap (λ v. v.items) w.roots-is ∙ (w.in_ok-push.ensures.items ∙ ap (λ (r : Root). l.roots.items ++ r ∷ []) w.root_of.ensures) in
          subst (λ (rs : List Root). AreListed sides list rs (l.number + 1)) (sym items) (listed_more sides list l.roots.items l.number side at l.invariant)
      | else-list_of-list w ↦
          let items : c.if-list_of-list.roots.items ≡ l.roots.items = ap (λ v. v.items) w.roots-is in
          subst (λ (rs : List Root). AreListed sides list rs (l.number + 1)) (sym items) (listed_passed sides list l.roots.items l.number side at (λ e. w.if-list_of-list.false (c.list_of.ensures ∙ e)) l.invariant)
    ]
