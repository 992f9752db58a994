use Rattle.std.proofs.Common.{◌∙◌, ◌≡◌, ◌*◌, ◌-◌, ◌^◌, ap, arith, length, Some}
use Rattle.lw_assoc.specs.Drafting.{other}
use Rattle.lw_form.specs.Bases.{plain_base}
use Rattle.lw_assoc.proofs.Dropping.{twice_half}
use Rattle.lw_assoc.proofs.Drafts.{cuts_make, nands_by_split, splits_end, splits_next}
use Rattle.lw_assoc.proofs.Masks.{half_within}
use Rattle.lw_assoc.proofs.drafting.add_splits.Goals as goal

pub add_split-requires : goal.add_split-requires
add_split-requires c =
    let ids = c.in-And.ids in
    let mask = c.loop-mask.mask in
    let e = c.base.ensures.base ∙ ap (λ b. Some (plain_base b)) c.in-And.is in
    let two = (c.base.ensures.kept.operands c.args.base.now.b ids e).two in
    let lt = half_within (length ids) c.len.result c.half_of-half.result mask (omega arith) c.len.ensures.len c.half_of-half.ensures.half c.loop-mask-test.true in
    let rest = 2 * c.half_of-half.result - 1 - mask in
    let below = c.loop-mask-test.true in
    let h = twice_half (length ids) c.len.result c.half_of-half.result (omega arith) c.len.ensures.len c.half_of-half.ensures.half in
    let r : rest ≡ other ids mask = omega arith in
    record {
      bases = c.loop-mask.invariant.so_far.before.bases;
      parts = c.requires.parts;
      split = cuts_make c.args.base.now.forms.now c.base.ensures.kept c.args.base.now.b mask rest ids e (omega arith) lt (omega arith) r;
    }

pub loop-mask-preserved : goal.loop-mask-preserved
loop-mask-preserved c =
    let forms = c.args.base.now.forms.now in
    let ids = c.in-And.ids in
    let l = c.loop-mask in
    let e = c.base.ensures.base ∙ ap (λ b. Some (plain_base b)) c.in-And.is in
    let two = (c.base.ensures.kept.operands c.args.base.now.b ids e).two in
    let lt = half_within (length ids) c.len.result c.half_of-half.result l.mask (omega arith) c.len.ensures.len c.half_of-half.ensures.half c.loop-mask-test.true in
    let rest = 2 * c.half_of-half.result - 1 - l.mask in
    let h = twice_half (length ids) c.len.result c.half_of-half.result (omega arith) c.len.ensures.len c.half_of-half.ensures.half in
    let r : rest ≡ other ids l.mask = omega arith in
    record {
      so_far = splits_next forms c.base.ensures.kept l.draft c.add_split.new.draft c.args.base.now.b l.mask rest ids e lt r c.in_ok-add_split.ensures l.invariant.so_far;
      kept = nands_by_split forms c.args.base.now.b l.mask rest c.args.draft.now l.draft c.add_split.new.draft l.invariant.kept c.in_ok-add_split.ensures;
    }

pub returns : goal.returns
returns c =
    let ids = c.in-And.ids in
    let l = c.loop-mask in
    let e = c.base.ensures.base ∙ ap (λ b. Some (plain_base b)) c.in-And.is in
    let half = c.half_of-half.ensures.half ∙ ap (λ k. 2 ^ (k - 1)) c.len.ensures.len in
    let past = c.loop-mask-test.false in
    record {
      facts = splits_end c.args.base.now.forms.now c.base.ensures.kept c.args.base.now.b l.mask ids l.draft e (omega arith) l.invariant.so_far;
      kept = l.invariant.kept;
    }
