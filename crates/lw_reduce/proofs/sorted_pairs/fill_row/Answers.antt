use Rattle.std.proofs.Common.{◌≡◌, ◌∙◌, ◌++◌, length, sym, ap, subst, arith}
use Rattle.std.proofs.lemmas.List.Filters.{dedup_is}
use Rattle.std.proofs.lemmas.List.Sorted.{length_permutation}
use Rattle.lw_reduce.specs.Rows.{IsRowOf, same_pair}
use Rattle.lw_reduce.proofs.Members.{dedup_few}
use Rattle.lw_reduce.proofs.SortedRows.{sorted_row}
use Rattle.lw_reduce.proofs.sorted_pairs.fill_row.Goals as goal

pub returns : goal.returns
returns c =
    let copied = c.extend_from_slice.new.self.items in
    let sorted = c.sort_pairs.new.row.items in
    let items : copied ≡ c.args.pairs.now = c.in_ok-extend_from_slice.ensures.items ∙ ap (λ l. l ++ c.args.pairs.now) c.clear.ensures.items in
    let e = dedup_is same_pair sorted c.dedup.new.self.items c.dedup.ensures.filtered in
    record {
      row = subst (λ ps. IsRowOf ps c.dedup.new.self.items) items (subst (IsRowOf copied) (sym e) (sorted_row copied sorted c.sort_pairs.ensures.permutation c.sort_pairs.ensures.sorted));
      few = let m = ap length items in
          let n = ap length e in
          let f = dedup_few same_pair sorted in
          let p = length_permutation copied sorted c.sort_pairs.ensures.permutation in
          omega arith;
    }
