use Rattle.std.proofs.Common.{◌≡◌, ◌-◌, ◌*◌, ◌^◌, ◌∙◌, ap, arith, length, refl, Some}
use Rattle.lw_form.specs.Bases.{plain_base}
use Rattle.lw_assoc.proofs.Dropping.{twice_half}
use Rattle.lw_assoc.proofs.Overlapping.{no_and, overlaps_none, overlaps_whole, whole_mask}
use Rattle.lw_assoc.proofs.overlaps.add_overlaps.Goals as goal

pub returns-in_default : goal.returns-in_default
returns-in_default c = record {
  facts = overlaps_none c.args.base.now.forms.now c.base.ensures.kept c.args.base.now.b (plain_base c.base.result.now) c.args.draft.now c.base.ensures.base (no_and c.base.result.now c.in_default.not-And) c.requires.before;
  kept = record { inputs = refl; samples = refl; links = refl };
}

pub returns : goal.returns
returns c =
    let ids = c.in-And.ids in
    let l = c.loop-left in
    let e = c.base.ensures.base ∙ ap (λ b. Some (plain_base b)) c.in-And.is in
    let two = (c.base.ensures.kept.operands c.args.base.now.b ids e).two in
    let h = twice_half (length ids) c.len.result c.half_of.result (omega arith) c.len.ensures.len c.half_of.ensures.half in
    let all = 2 * c.half_of.result - 1 in
    let is : all ≡ 2 ^ length ids - 1 = omega arith in
    record {
      facts = overlaps_whole c.args.base.now.forms.now c.base.ensures.kept l.draft c.args.base.now.b l.left all (whole_mask c.args.base.now.forms.now c.base.ensures.kept c.args.base.now.b all ids e is) c.loop-left-test.false l.invariant.so_far;
      kept = l.invariant.kept;
    }
