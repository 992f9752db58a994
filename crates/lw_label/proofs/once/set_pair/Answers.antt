use Rattle.std.proofs.Common.{◌≡◌, inl, inr, ◌+◌, ◌*◌, ◌/◌, refl, subst, sym, arith}
use Rattle.lw_bounds.specs.Bounds.{AreSettledAt}
use Rattle.lw_bounds.proofs.Tables.{but_both, rows_fit_but, settled_kept}
use Rattle.lw_label.specs.OneVisit.{ArePartsElsewhere}
use Rattle.lw_label.proofs.OneVisit.{pair_out, odd_of, even_of}
use Rattle.lw_label.proofs.Passing.{of_place}
use Rattle.lw_label.proofs.once.set_pair.Goals as goal

pub returns : goal.returns
returns c =
    let place = c.args.place in
    let graph = c.args.graph.now in
    let marks = c.args.marks.now in
    let mid = c.set_class.new.bounds in
    let new = c.set_class-2.new.bounds in
    let rows = rows_fit_but (λ n. n ≡ place * 2 + 1) c.args.bounds.now mid graph c.set_class.ensures.others c.requires.around.rows in
    let out = pair_out graph place (place * 2 + 1) (place * 2) c.requires.around.elsewhere (odd_of place (place * 2 + 1) refl) (even_of place (place * 2) refl) in
    let odd = settled_kept graph mid new marks marks (λ n. n ≡ place * 2) c.set_class-2.ensures.others (λ n other. refl) rows.closed (place * 2 + 1) out (λ e. omega (arith, e)) c.set_class.ensures.settled in
    record {
      others = but_both (λ n. n ≡ place * 2 + 1) (λ n. n ≡ place * 2) (λ n. n / 2 ≡ place) c.args.bounds.now mid new (odd_of place) (even_of place) c.set_class.ensures.others c.set_class-2.ensures.others;
      settled = λ n here. elim (of_place place n here) [
        | inl e ↦ subst (AreSettledAt new graph marks) (sym e) odd
        | inr e ↦ subst (AreSettledAt new graph marks) (sym e) c.set_class-2.ensures.settled
      ];
    }

pub set_class-requires-clause-around : goal.set_class-requires-clause-around
set_class-requires-clause-around c =
    let at : (c.args.place * 2 + 1) / 2 ≡ c.args.place = omega arith in
    record {
      one_each = c.requires.around.one_each;
      rows = c.requires.around.rows;
      elsewhere = subst (ArePartsElsewhere c.args.graph.now) (sym at) c.requires.around.elsewhere;
    }

pub set_class-requires-2-clause-around : goal.set_class-requires-2-clause-around
set_class-requires-2-clause-around c =
    let at : (c.args.place * 2) / 2 ≡ c.args.place = omega arith in
    record {
      one_each = c.requires.around.one_each;
      rows = rows_fit_but (λ n. n ≡ c.args.place * 2 + 1) c.args.bounds.now c.set_class.new.bounds c.args.graph.now c.set_class.ensures.others c.requires.around.rows;
      elsewhere = subst (ArePartsElsewhere c.args.graph.now) (sym at) c.requires.around.elsewhere;
    }
