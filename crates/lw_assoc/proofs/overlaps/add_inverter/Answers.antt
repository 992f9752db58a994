use Rattle.std.proofs.Common.{◌≡◌, ◌∙◌, ◌&&◌, not, sym, subst, subst₂}
use Rattle.lw_laws.specs.Flip.{flip}
use Rattle.lw_laws.proofs.Flips.{xor-one}
use Rattle.lw_reduce.specs.Drafting.{IsKnown, sample_of}
use Rattle.lw_assoc.specs.Drafting.{with_nand}
use Rattle.lw_assoc.proofs.Drafts.{split_known, split_sample}
use Rattle.lw_assoc.proofs.Overlapping.{inverter_split}
use Rattle.lw_assoc.proofs.overlaps.add_inverter.Goals as goal

pub nand-requires-clause-form : goal.nand-requires-clause-form
nand-requires-clause-form c =
    let f = c.args.form.0 in
    let are = c.inputs.ensures.kept in
    (split_known c.args.forms.now are c.args.draft.now c.requires.bases f (flip f) (flip f) (inverter_split c.args.forms.now are f c.requires.within)).0

pub nand-requires-clause-left : goal.nand-requires-clause-left
nand-requires-clause-left c =
    let f = c.args.form.0 in
    let are = c.inputs.ensures.kept in
    let known = split_known c.args.forms.now are c.args.draft.now c.requires.bases f (flip f) (flip f) (inverter_split c.args.forms.now are f c.requires.within) in
    subst (IsKnown c.args.draft.now.samples) (sym (c.flip.ensures ∙ xor-one f)) known.1

pub nand-requires-clause-right : goal.nand-requires-clause-right
nand-requires-clause-right c =
    let f = c.args.form.0 in
    let are = c.inputs.ensures.kept in
    let known = split_known c.args.forms.now are c.args.draft.now c.requires.bases f (flip f) (flip f) (inverter_split c.args.forms.now are f c.requires.within) in
    subst (IsKnown c.args.draft.now.samples) (sym (c.flip-2.ensures ∙ xor-one f)) known.2

pub nand-requires-clause-samples : goal.nand-requires-clause-samples
nand-requires-clause-samples c =
    let f = c.args.form.0 in
    let are = c.inputs.ensures.kept in
    let samples = c.args.draft.now.samples in
    let sample = split_sample c.args.forms.now are c.args.draft.now c.requires.bases f (flip f) (flip f) (inverter_split c.args.forms.now are f c.requires.within) in
    subst₂ (λ x y. sample_of samples f ≡ not (sample_of samples x && sample_of samples y)) (sym (c.flip.ensures ∙ xor-one f)) (sym (c.flip-2.ensures ∙ xor-one f)) sample

pub returns : goal.returns
returns c =
    let f = c.args.form.0 in
    subst₂ (λ x y. c.nand.new.self ≡ with_nand c.args.draft.now (record { form = f; left = x; right = y })) (c.flip.ensures ∙ xor-one f) (c.flip-2.ensures ∙ xor-one f) c.in_ok-nand.ensures.ok
