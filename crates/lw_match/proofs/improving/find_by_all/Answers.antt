use Rattle.std.proofs.Common.{◌≡◌, Bool, None, rules, sym, subst, ◌∙◌, inl}
use Rattle.lw_match.specs.Cutting.{bound_after, bound_past}
use Rattle.lw_bounds.specs.Cuts.{cuts_state}
use Rattle.lw_match.specs.Queries.{FindsLeast, IsWhole}
use Rattle.lw_match.proofs.Better.{hunted_none, none_if, no_best, past_none, past_whole}
use Rattle.lw_match.proofs.Sites.{new_hunt}
use Rattle.lw_match.proofs.improving.find_by_all.Goals as goal
use Rattle.lw_match.proofs.improving.find_by_all.Goals.{then-is_whole, else-is_whole}

pub returns-then-is_least-clause-outcome : goal.returns-then-is_least-clause-outcome
returns-then-is_least-clause-outcome g c =
    let q = c.args.query.now in
    let costs = g.C.Cost.costs q.site.cost.now in
    let want = c.args.want in
    let start = c.new-hunt in
    let hunt = c.hunt_near.new.hunt in
    let now = c.hunt_near.ensures.goes_on.hunt want.bound (new_hunt g.C.Cost.costs q want start.result start.ensures) in
    let count : hunt.target.by_marks ≡ want.by_marks = c.hunt_near.ensures.goes_on.after.by_marks ∙ start.ensures.target.by_marks in
    record {
      sound = now.sound;
      none = search rules;
      least = λ t bounds. elim c.if-is_whole.branch [
        | then-is_whole w ↦
            let (whole_if, _) = c.is_whole.ensures in
            let whole = whole_if w.if-is_whole.true in
            subst (λ left. FindsLeast g.C.Cost.costs q left None) (sym (past_whole want.by_marks hunt.found want.bound (subst (λ (m : Bool). IsWhole m hunt.found) count whole))) (hunted_none (cuts_state q.site.cuts.now) q.site.graph.now costs q.site.pats.now q.site.marks.now q.site.class.0 want.bound hunt.target hunt.found now.sharper (c.hunt_near.ensures.none whole) (λ i lt cut. inl (w.are_sure-is_least.ensures.sure (sym w.is_least-is ∙ t) i)) bounds)
        | else-is_whole w ↦ cc
      ];
    }

pub returns-clause-outcome : goal.returns-clause-outcome
returns-clause-outcome g c =
    let q = c.args.query.now in
    let costs = g.C.Cost.costs q.site.cost.now in
    let want = c.args.want in
    let start = c.new-hunt in
    let hunt = c.hunt_near.new.hunt in
    let now = c.hunt_near.ensures.goes_on.hunt want.bound (new_hunt g.C.Cost.costs q want start.result start.ensures) in
    let unfound : hunt.found ≡ None = none_if hunt.found c.is_some.result c.is_some.ensures c.if-is_some.false in
    record {
      sound = search rules;
      none = search rules;
      least = λ t bounds.
          let e : c.find_uncertified-best.result ≡ None = no_best c.find_uncertified-best.result c.is_none-is_least.result c.is_none-is_least.ensures t in
          let none = hunted_none (cuts_state q.site.cuts.now) q.site.graph.now costs q.site.pats.now q.site.marks.now q.site.class.0 want.bound hunt.target hunt.found now.sharper (c.hunt_near.ensures.none (inl unfound)) (c.find_uncertified-best.ensures.none e) bounds in
          let here = subst (λ found. FindsLeast g.C.Cost.costs q (bound_after found want.bound) None) unfound none in
          subst (λ found. FindsLeast g.C.Cost.costs q (bound_past want.by_marks found want.bound) None) (sym e) (subst (λ left. FindsLeast g.C.Cost.costs q left None) (sym (past_none want.by_marks want.bound)) here);
    }
