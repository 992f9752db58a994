use Rattle.std.proofs.Common.{◌≡◌, ◌∙◌, slice_set, subst, sym, refl, Some, true≢false}
use Rattle.lw_match.specs.Cutting.{IsMatchWithin}
use Rattle.lw_cost.specs.Values.{plain_mark, marks_in}
use Rattle.lw_label.specs.Heights.{with_mark}
use Rattle.lw_label.proofs.HeightPasses.{attains_under, lowered, heights_fall}
use Rattle.lw_label.proofs.HeightTables.{has_class, with_put, with_same}
use Rattle.lw_label.proofs.heights.Heights.put.Goals as goal

pub put_in-requires : goal.put_in-requires
put_in-requires c =
    has_class c.args.self.now.marks.items c.args.class.0 c.args.self.now.table c.requires.class c.requires.table

pub returns-in_default : goal.returns-in_default
returns-in_default c = record {
  takes = λ graph costs pats labels bound bounded heights label height found. record { heights = heights; falls = λ e. absurd (true≢false (sym e)); same = λ e. refl };
  none = λ e. c.in_default.is;
  marks = subst (λ f. c.args.self.now.marks.items ≡ with_mark c.args.self.now.marks.items c.args.class.0 f) (sym c.in_default.is) refl;
  table = with_same c.args.self.now.marks.items c.args.self.now.table c.requires.table;
  tops = refl;
}

pub returns : goal.returns
returns c =
    let marks = c.args.self.now.marks.items in
    let class = c.args.class.0 in
    let best = c.in-Some.best in
    record {
      takes = λ graph costs pats labels bound bounded heights label height found.
          let within = subst (λ f. IsMatchWithin graph costs pats (marks_in marks) class (Some bound) f) c.in-Some.is found in
          let (same, shorter) = attains_under graph costs pats labels marks heights class bound.cost (plain_mark bound) label refl height bounded best within.0 within.1 in
          record {
            heights = lowered graph costs pats labels marks heights class best c.requires.class within.0 same shorter;
            falls = λ e. heights_fall marks class best.mark c.requires.class shorter;
            same = λ e. absurd (true≢false e);
          };
      none = λ e. absurd (true≢false e);
      marks = subst (λ f. slice_set marks class (Some best.mark) ≡ with_mark marks class f) (sym c.in-Some.is) refl;
      table = c.put_in.ensures ∙ with_put marks class (Some best.mark) c.args.self.now.table c.requires.table;
      tops = refl;
    }
