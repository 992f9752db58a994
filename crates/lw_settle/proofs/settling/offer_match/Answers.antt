use Rattle.std.proofs.Common.{◌≤◌, ap, sym, subst, subst₂, ◌∙◌, arith}
use Rattle.std.proofs.lemmas.Option.{same_Some}
use Rattle.lw_laws.specs.Marks.{Mark}
use Rattle.lw_cost.proofs.MarksAsLabels.{marked_most}
use Rattle.lw_cost.specs.Values.{marks_in}
use Rattle.lw_settle.specs.Settling.{IsOffering}
use Rattle.lw_settle.specs.Stores.{Placed, pins_of}
use Rattle.lw_settle.proofs.Taking.{greatest_fits}
use Rattle.lw_cost.specs.Labels.{marked}
use Rattle.lw_settle.proofs.settling.offer_match.Goals as goal

pub price-mark-requires : goal.price-mark-requires
price-mark-requires g c = record {
  listed = c.requires.listed;
  of_cells = c.requires.of_cells;
  one_each = c.requires.one_mark;
  in_range = λ p k e.
      let (low, high) = c.requires.low p k e in
      (subst (λ n. k.cost ≤ n) (g.met.C.Cost.cap c.args.cost.now) low, omega (arith, marked_most c.args.marks.now, c.requires.few));
  pins_marked = c.requires.pins_marked;
  fresh = c.requires.fresh;
}

pub offer-requires : goal.offer-requires
offer-requires g c =
    let p = c.price-mark.ensures.price in
    let costs = g.C.Cost.costs c.args.cost.now in
    let high = greatest_fits costs (marks_in c.args.marks.now) (marked c.args.marks.now) (pins_of p.at) p.pin_marks (λ q k e. (c.requires.low q k e).1) p.have in
    let h = c.head-head.ensures in
    let class = c.matches.ensures.kept.class c.args.place h.at h.listed in
    record {
      class = omega (arith, class, h.class_is, c.requires.one_mark);
      one_each = c.requires.one_wait ∙ sym c.requires.one_mark;
      few = c.requires.few;
      height = omega (arith, high, ap (λ (k : Mark). k.height) p.mark_is);
    }

pub returns : goal.returns
returns g c =
    let p = c.price-mark.ensures.price in
    let h = c.head-head.ensures in
    let same = same_Some h.at p.at (sym h.listed ∙ p.listed) in
    record {
      offered = record {
        at = p.at;
        listed = p.listed;
        pin_marks = p.pin_marks;
        have = p.have;
        offering = subst₂ (λ k m. IsOffering (marks_in c.args.marks.now) (marks_in c.args.queue.now) (marks_in c.offer.new.queue) k m) (h.class_is ∙ ap (λ (m : Placed). m.class) same) p.mark_is c.offer.ensures.offering;
      };
      one_wait = c.offer.ensures.one_each;
      read = c.price-mark.ensures.read;
    }
