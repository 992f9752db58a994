use Rattle.std.proofs.Common.{arith, ◌*◌, ◌+◌}
use Rattle.std.specs.Prelude.{slice_index}
use Rattle.std.proofs.lemmas.Option.{slice_get_within}
use Rattle.lw_laws.specs.NumberedForms.Base.{base_and}
use Rattle.lw_assoc.proofs.Drafts.{split_known, split_sample, parts_split}
use Rattle.lw_assoc.proofs.drafting.add_split.Goals as goal

pub overflow_mul-base : goal.overflow_mul-base
overflow_mul-base c =
    let (fs, e, one, lt) = c.requires.split.left in
    let within = slice_get_within c.args.base.now.forms.now.bases c.args.base.now.b (base_and fs) e in
    let few = c.inputs.ensures.kept.few in
    omega arith

pub overflow_add-base : goal.overflow_add-base
overflow_add-base c =
    let (fs, e, one, lt) = c.requires.split.left in
    let within = slice_get_within c.args.base.now.forms.now.bases c.args.base.now.b (base_and fs) e in
    let few = c.inputs.ensures.kept.few in
    omega arith

pub nand-requires-clause-form : goal.nand-requires-clause-form
nand-requires-clause-form c =
    let x = slice_index c.args.base.now.parts.now c.args.mask in
    let y = slice_index c.args.base.now.parts.now c.args.rest in
    let split = parts_split c.args.base.now.forms.now c.inputs.ensures.kept c.args.base.now.parts.now c.args.base.now.b c.args.mask c.args.rest c.requires.parts c.requires.split in
    (split_known c.args.base.now.forms.now c.inputs.ensures.kept c.args.draft.now c.requires.bases (2 * c.args.base.now.b + 1) x y split).0

pub nand-requires-clause-left : goal.nand-requires-clause-left
nand-requires-clause-left c =
    let x = slice_index c.args.base.now.parts.now c.args.mask in
    let y = slice_index c.args.base.now.parts.now c.args.rest in
    let split = parts_split c.args.base.now.forms.now c.inputs.ensures.kept c.args.base.now.parts.now c.args.base.now.b c.args.mask c.args.rest c.requires.parts c.requires.split in
    (split_known c.args.base.now.forms.now c.inputs.ensures.kept c.args.draft.now c.requires.bases (2 * c.args.base.now.b + 1) x y split).1

pub nand-requires-clause-right : goal.nand-requires-clause-right
nand-requires-clause-right c =
    let x = slice_index c.args.base.now.parts.now c.args.mask in
    let y = slice_index c.args.base.now.parts.now c.args.rest in
    let split = parts_split c.args.base.now.forms.now c.inputs.ensures.kept c.args.base.now.parts.now c.args.base.now.b c.args.mask c.args.rest c.requires.parts c.requires.split in
    (split_known c.args.base.now.forms.now c.inputs.ensures.kept c.args.draft.now c.requires.bases (2 * c.args.base.now.b + 1) x y split).2

pub nand-requires-clause-samples : goal.nand-requires-clause-samples
nand-requires-clause-samples c =
    let x = slice_index c.args.base.now.parts.now c.args.mask in
    let y = slice_index c.args.base.now.parts.now c.args.rest in
    let split = parts_split c.args.base.now.forms.now c.inputs.ensures.kept c.args.base.now.parts.now c.args.base.now.b c.args.mask c.args.rest c.requires.parts c.requires.split in
    split_sample c.args.base.now.forms.now c.inputs.ensures.kept c.args.draft.now c.requires.bases (2 * c.args.base.now.b + 1) x y split
