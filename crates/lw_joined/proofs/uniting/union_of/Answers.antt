use Rattle.std.proofs.Common.{◌++◌, ◌∷◌, [], ◌∙◌, Some, false, ap, arith, length, slice_index_or, subst, sym, take}
use Rattle.std.proofs.lemmas.Option.{slice_get-get_or}
use Rattle.lw_joined.specs.Unions.{FitsOther, ends_from, first_of, united_to}
use Rattle.lw_joined.proofs.Unions.{still_fits, union_more, union_whole}
use Rattle.lw_joined.proofs.uniting.union_of.Goals as goal

pub with_taken-requires : goal.with_taken-requires
with_taken-requires c =
    let first = first_of c.args.net.now in
    let others = take c.loop-k.k c.args.others.now in
    let taken = take c.loop-k.k c.args.taken.now in
    still_fits first (length first.names ∷ [] ++ ends_from first others taken) others taken c.index-others-k.result c.loop-k.union c.loop-k.invariant
    (subst (FitsOther c.args.net.now) (sym c.index-others-k.is) (c.requires.others c.loop-k.k c.index-others-k.result (omega (arith, c.loop-k-test.true, c.requires.few))))

pub loop-k-preserved : goal.loop-k-preserved
loop-k-preserved c =
    let first = first_of c.args.net.now in
    let others = take c.loop-k.k c.args.others.now in
    let taken = take c.loop-k.k c.args.taken.now in
    let ends = length first.names ∷ [] in
    union_more first ends c.args.others.now c.args.taken.now c.loop-k.k c.index-others-k.result (slice_index_or c.args.taken.now c.loop-k.k false) c.in_ok-union-2.union
    (slice_get-get_or c.args.others.now c.loop-k.k c.index-others-k.result (omega (arith, c.loop-k-test.true, c.requires.few)) ∙ ap Some (sym c.index-others-k.is))
    (slice_get-get_or c.args.taken.now c.loop-k.k false c.loop-k-test.true)
    (c.in_ok-union-2.ensures (united_to first others taken) (ends ++ ends_from first others taken) c.loop-k.invariant)

pub returns : goal.returns
returns c =
    union_whole (first_of c.args.net.now) (length (first_of c.args.net.now).names ∷ []) c.args.others.now c.args.taken.now c.loop-k.k c.loop-k.union (omega (arith, c.loop-k-test.false, c.loop-k.auto.k-end)) c.loop-k.invariant
