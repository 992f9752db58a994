use Rattle.std.proofs.Common.{◌<◌, ◌^◌, ◌∙◌, arith, length, refl}
use Rattle.lw_assoc.proofs.Drafts.{nands_by_split}
use Rattle.lw_assoc.proofs.Overlapping.{overlap_makes, overlaps_next, overlaps_skip}
use Rattle.lw_assoc.proofs.overlaps.add_overlap.Goals as goal

pub returns-then-left-right : goal.returns-then-left-right
returns-then-left-right c = record {
  so_far = overlaps_skip c.args.base.now.forms.now c.inputs.ensures.kept c.args.draft.now c.args.base.now.b c.args.left c.args.right c.args.all c.requires.left_below.all c.if-left-right.true c.requires.before;
  kept = record { inputs = refl; samples = refl; links = refl };
}

pub add_split-requires : goal.add_split-requires
add_split-requires c =
    let (fs, e, one, lt) = c.requires.left_below.has in
    let whole = c.requires.left_below.all fs e in
    let less = c.requires.less in
    let within = c.requires.within in
    let lt' : c.args.right < 2 ^ length fs = omega arith in
    record {
      bases = c.requires.before.before.bases;
      parts = c.requires.parts;
      split = record {
        left = c.requires.left_below.has;
        right = (fs, e, omega arith, lt');
        is = overlap_makes c.args.base.now.forms.now c.inputs.ensures.kept c.args.base.now.b c.args.left c.args.right fs e less lt' (c.if-left-right.false ∙ whole);
      };
    }

pub returns : goal.returns
returns c =
    let (fs, e, one, lt) = c.requires.left_below.has in
    let whole = c.requires.left_below.all fs e in
    let less = c.requires.less in
    let within = c.requires.within in
    let old = c.args.draft.now in
    record {
      so_far = overlaps_next c.args.base.now.forms.now c.inputs.ensures.kept c.args.draft.now c.add_split.new.draft c.args.base.now.b c.args.left c.args.right fs e less (omega arith) (c.if-left-right.false ∙ whole) c.in_ok-add_split.ensures c.requires.before;
      kept = nands_by_split c.args.base.now.forms.now c.args.base.now.b c.args.left c.args.right old old c.add_split.new.draft (record { inputs = refl; samples = refl; links = refl }) c.in_ok-add_split.ensures;
    }
