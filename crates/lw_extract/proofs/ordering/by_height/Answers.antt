use Rattle.std.proofs.Common.{◌+◌, subst, sym, refl, ap, ◌∙◌, arith}
use Rattle.lw_facts.proofs.Tests.{none_when_not_some}
use Rattle.lw_needed.specs.declared.places.Place.{Place}
use Rattle.lw_extract.proofs.ClassNets.{not_none}
use Rattle.lw_extract.proofs.Sorting.{AreMarkedBelow, marked_all, marked_moved, marked_push, marked_skip, marked_small}
use Rattle.lw_extract.proofs.ordering.by_height.Goals as goal
use Rattle.lw_extract.proofs.ordering.by_height.Goals.{in-Some+then-is_none+in_ok-push, in-Some+else-is_none, in_default}

pub loop-number-preserved : goal.loop-number-preserved
loop-number-preserved c =
    let nets = c.args.nets.now in
    let marks = c.args.marks.now in
    let l = c.loop-number in
    elim c.match-mark.branch [
      | in-Some+then-is_none+in_ok-push w ↦
          let place : Place = record { depth = w.in-Some.mark.height; class = record { 0 = l.number } } in
          subst (λ ps. AreMarkedBelow nets marks (l.number + 1) ps) (sym (ap (λ v. v.items) w.places-is ∙ w.in_ok-push.ensures.items)) (marked_push nets marks l.number l.places.items place w.in-Some.mark refl w.in-Some.is refl (none_when_not_some _ w.if-is_none.ensures) l.invariant)
      | in-Some+else-is_none w ↦
          subst (λ ps. AreMarkedBelow nets marks (l.number + 1) ps) (sym (ap (λ v. v.items) w.places-is)) (marked_skip nets marks l.number l.places.items (λ m e f. not_none _ f w.if-is_none.ensures) l.invariant)
      | in_default w ↦
          subst (λ ps. AreMarkedBelow nets marks (l.number + 1) ps) (sym (ap (λ v. v.items) w.places-is)) (marked_skip nets marks l.number l.places.items (λ m e f. w.in_default.not-Some m e) l.invariant)
    ]

pub returns : goal.returns
returns c =
    let nets = c.args.nets.now in
    let marks = c.args.marks.now in
    let places = c.loop-number.places.items in
    let marked = marked_all nets marks c.loop-number.number places (omega arith) c.loop-number.invariant in
    record {
      are = marked_moved nets marks places c.sort_places.new.places.items c.sort_places.ensures.permutation marked.are;
      sorted = c.sort_places.ensures.sorted (marked_small nets marks places c.requires.few marked.are) marked.rising;
    }
