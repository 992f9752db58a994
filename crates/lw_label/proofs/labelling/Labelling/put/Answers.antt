use Rattle.std.proofs.Common.{◌<◌, ◌≡◌, None, Some, option_map, slice_index_or, slice_set, ap, refl, sym, subst, true≢false}
use Rattle.lw_laws.specs.Rounds.{label_weight}
use Rattle.lw_cost.specs.Values.{plain_mark, marks_in}
use Rattle.lw_match.specs.Cutting.{IsMatchWithin}
use Rattle.lw_label.specs.OneVisit.{with_label}
use Rattle.lw_label.proofs.Falling.{lower_under, best_capped, lowered, weight_falls, label_is_cost}
use Rattle.lw_label.proofs.labelling.Labelling.put.Goals as goal

pub returns-in_default : goal.returns-in_default
returns-in_default c =
    let marks = c.args.self.now.marks.items in
    record {
      takes = λ graph costs pats problem low found. record { lowering = low; falls = λ e. absurd (true≢false (sym e)); same = λ e. refl };
      none = λ e. c.in_default.is;
      marks = subst (λ f. marks ≡ with_label marks c.args.class.0 f) (sym c.in_default.is) refl;
      table = refl;
      tops = refl;
    }

pub returns : goal.returns
returns c =
    let marks = c.args.self.now.marks.items in
    let class = c.args.class.0 in
    let best = c.in-Some.best in
    let old = slice_index_or marks class None in
    record {
      takes = λ graph costs pats problem low found.
          let within = subst (λ f. IsMatchWithin graph costs pats (marks_in marks) class old f) c.in-Some.is found in
          let capped = best_capped graph costs pats marks class best problem low c.requires within.0 in
          let under = lower_under graph costs pats best.mark old (λ m e. low.flat class (plain_mark m) (ap (option_map plain_mark) e)) within.1 capped in
          let less = subst (λ o. best.mark.cost < label_weight costs.cap o) (sym (label_is_cost graph costs pats marks class)) under in
          record {
            lowering = lowered graph costs pats marks class best problem low c.requires within.0 (record { cost = best.mark.cost; height = 0 }) less refl refl;
            falls = λ e. weight_falls graph costs pats marks class best problem low c.requires within.0 (record { cost = best.mark.cost; height = 0 }) less refl refl;
            same = λ e. absurd (true≢false e);
          };
      none = λ e. absurd (true≢false e);
      marks = subst (λ f. slice_set marks class (Some (record { cost = best.mark.cost; height = 0 })) ≡ with_label marks class f) (sym c.in-Some.is) refl;
      table = refl;
      tops = refl;
    }
