use Rattle.std.proofs.Common.{ℕ, ◌+◌, ◌-◌, ◌<◌, ◌≡◌, List, length, slice_index, sym, subst, arith}
use borrow.Rule.Slice.PartMut.{put_mid}
use Rattle.lw_bounds.specs.Bounds.{total}
use Rattle.lw_bounds.proofs.Lessening.{row_falls, put_inside, put_outside}
use Rattle.lw_bounds.proofs.renewing.put_row.Goals as goal

pub returns-clause-less : goal.returns-clause-less
returns-clause-less c = λ less.
    let numbers = c.args.numbers.now in
    let row = c.args.row.now in
    let start = c.args.start in
    let width : start + length row - start ≡ length row = omega arith in
    subst (λ (k : ℕ). total (put_mid start k numbers c.copy_from_slice.new.self) < total numbers) (sym width) (subst (λ (ys : List ℕ). total (put_mid start (length row) numbers ys) < total numbers) (sym c.copy_from_slice.ensures.after) (row_falls numbers row start less))

pub returns-clause-row : goal.returns-clause-row
returns-clause-row c = λ k below.
    let numbers = c.args.numbers.now in
    let row = c.args.row.now in
    let start = c.args.start in
    let width : start + length row - start ≡ length row = omega arith in
    subst (λ (n : ℕ). slice_index (put_mid start n numbers c.copy_from_slice.new.self) (start + k) ≡ slice_index row k) (sym width) (subst (λ (ys : List ℕ). slice_index (put_mid start (length row) numbers ys) (start + k) ≡ slice_index row k) (sym c.copy_from_slice.ensures.after) (put_inside numbers row start k c.requires.within below))

pub returns-clause-others : goal.returns-clause-others
returns-clause-others c = λ k outside.
    let numbers = c.args.numbers.now in
    let row = c.args.row.now in
    let start = c.args.start in
    let width : start + length row - start ≡ length row = omega arith in
    subst (λ (n : ℕ). slice_index (put_mid start n numbers c.copy_from_slice.new.self) k ≡ slice_index numbers k) (sym width) (subst (λ (ys : List ℕ). slice_index (put_mid start (length row) numbers ys) k ≡ slice_index numbers k) (sym c.copy_from_slice.ensures.after) (put_outside numbers row start k c.requires.within outside))
