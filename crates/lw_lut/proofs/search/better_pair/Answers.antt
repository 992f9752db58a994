use Rattle.std.proofs.Common.{◌≡◌, ◌<◌, ◌≤◌, ◌+◌, ◌∙◌, length, slice_get, get_or, subst, subst₂, sym, Some}
use Rattle.std.proofs.lemmas.Option.{slice_get-get_or}
use Rattle.std.proofs.lemmas.List.Elements.{All-contains}
use Rattle.lw_graph.specs.declared.pair.Pair.{Pair}
use Rattle.lw_lut.specs.Searches.{HasFewer, count_at}
use Rattle.lw_lut.proofs.Pairs.{IsBest, best_less, best_same, best_all, best_is, row_holds, row_bounds, half_below}
use Rattle.lw_lut.proofs.search.better_pair.Goals.{then-leaves-best, else-leaves-best}
use Rattle.lw_lut.proofs.search.better_pair.Goals as goal

abbrev zero_pair : Pair
zero_pair = record { x = record { 0 = 0 }; y = record { 0 = 0 } }

pub loop-pair-preserved : goal.loop-pair-preserved
loop-pair-preserved c =
    let counts = c.args.counts.now in
    let row = c.nands-pair-items.result.now in
    let l = c.loop-pair in
    let p = get_or row l.pair-index zero_pair in
    let at : slice_get row l.pair-index ≡ Some p = slice_get-get_or row l.pair-index zero_pair c.loop-pair-test.true in
    elim c.if-leaves-best.branch [
      | then-leaves-best w ↦
          let less : count_at counts p.x.0 + count_at counts p.y.0 < l.best = subst (λ n. n < l.best) c.leaves_of-leaves.ensures w.if-leaves-best.true in
          subst₂ (λ b f. IsBest counts row c.args.class.0 b f (l.pair-index + 1)) (sym (w.best-is ∙ c.leaves_of-leaves.ensures)) (sym w.found-is) (best_less counts row c.args.class.0 l.best l.found l.pair-index l.invariant p at less)
      | else-leaves-best w ↦
          let le : l.best ≤ count_at counts p.x.0 + count_at counts p.y.0 = subst (λ n. l.best ≤ n) c.leaves_of-leaves.ensures w.if-leaves-best.false in
          subst₂ (λ b f. IsBest counts row c.args.class.0 b f (l.pair-index + 1)) (sym w.best-is) (sym w.found-is) (best_same counts row c.args.class.0 l.best l.found l.pair-index l.invariant p at le)
    ]

pub returns : goal.returns
returns c =
    let counts = c.args.counts.now in
    let row = c.nands-pair-items.result.now in
    let g = c.args.graph.now in
    let l = c.loop-pair in
    let pairs = c.nands-pair-items.ensures.pairs in
    best_is l.found _ (HasFewer g counts c.args.class.0)
    (λ none. row_bounds g c.args.class.0 row pairs counts l.best (l.invariant.none none) (best_all counts row c.args.class.0 l.best l.pair-index l.found c.loop-pair-test.false l.invariant))
    (λ p e.
    let (found, less) = l.invariant.some p e in
    let within = All-contains (λ (q : Pair). (q.x.0 < length g.pairs) × (q.y.0 < length g.pairs)) row p c.nands-pair-items.ensures.within found in
    record {
      holds = row_holds g c.args.class.0 row pairs p found;
      fewer = less;
      x = half_below p.x.0 (length g.pairs) (length counts) within.0 c.requires.places;
      y = half_below p.y.0 (length g.pairs) (length counts) within.1 c.requires.places;
    })
