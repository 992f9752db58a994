use Rattle.std.proofs.Common.{◌∙◌, sym, subst, ap, map}
use Rattle.lw_net.specs.Plain.{plain}
use Rattle.lw_laws.specs.Mapped.{forms_of}
use Rattle.lw_laws.specs.Numbering.{numbered_base}
use Rattle.lw_form.specs.Bases.{plain_base}
use Rattle.lw_form.specs.Kept.{AreForms}
use Rattle.lw_form.specs.Renumbered.{renumber, ArePlaced}
use Rattle.lw_form.proofs.Finished.{of_listing, all_sops_placed, all_facs_placed, finished, network_kept, few_nets, bases_before}
use Rattle.lw_form.proofs.occurring.finished.Goals as goal

pub numbered_bases-requires-clause-listing : goal.numbered_bases-requires-clause-listing
numbered_bases-requires-clause-listing c = of_listing c.args.maker.now.width c.args.maker.now.wide.low (plain c.args.net.now) c.args.all.now.table c.len-count.ensures.made c.args.all.now.listing.listed.items c.args.all.now.listing.places.items c.args.all.now.sops.items c.args.all.now.facs.items c.requires

pub samples-requires : goal.samples-requires
samples-requires c = bases_before (forms_of c.args.maker.now.width (plain c.args.net.now)) (map plain_base c.as_slice.result.now) (ap (λ bs. map (numbered_base bs) bs) (sym c.requires.bases) ∙ (sym c.in_ok-bases.ensures ∙ ap (map plain_base) (sym c.as_slice.ensures.keys))) (network_kept c.args.maker.now.width c.args.maker.now.wide.low (plain c.args.net.now) c.args.all.now.table c.len-count.ensures.made c.args.all.now.listing.listed.items c.args.all.now.listing.places.items c.args.all.now.sops.items c.args.all.now.facs.items c.requires c.args.maker.now.wide.high (few_nets c.args.net.now c.inputs-inputs.ensures.kept))

pub renumbered_all-requires : goal.renumbered_all-requires
renumbered_all-requires c = subst (ArePlaced c.args.all.now.listing.places.items) (sym c.deref.ensures.value) (all_sops_placed c.args.maker.now.width c.args.maker.now.wide.low (plain c.args.net.now) c.args.all.now.table c.len-count.ensures.made c.args.all.now.listing.listed.items c.args.all.now.listing.places.items c.args.all.now.sops.items c.args.all.now.facs.items c.requires)

pub renumbered_all-requires-2 : goal.renumbered_all-requires-2
renumbered_all-requires-2 c = subst (ArePlaced c.args.all.now.listing.places.items) (sym c.deref-2.ensures.value) (all_facs_placed c.args.maker.now.width c.args.maker.now.wide.low (plain c.args.net.now) c.args.all.now.table c.len-count.ensures.made c.args.all.now.listing.listed.items c.args.all.now.listing.places.items c.args.all.now.sops.items c.args.all.now.facs.items c.requires)

pub new-requires-clause-kept : goal.new-requires-clause-kept
new-requires-clause-kept c = subst AreForms (sym (finished c.args.maker.now.width c.args.maker.now.wide.low (plain c.args.net.now) c.args.all.now.table c.len-count.ensures.made c.args.all.now.listing.listed.items c.args.all.now.listing.places.items c.args.all.now.sops.items c.args.all.now.facs.items c.requires c.inputs-inputs.result (map plain_base c.in_ok-bases.bases.keys) c.in_ok-sops.sops.items c.in_ok-facs.facs.items c.inputs-inputs.ensures.inputs c.in_ok-bases.ensures (c.in_ok-sops.ensures ∙ ap (map (renumber c.args.all.now.listing.places.items)) c.deref.ensures.value) (c.in_ok-facs.ensures ∙ ap (map (renumber c.args.all.now.listing.places.items)) c.deref-2.ensures.value))) (network_kept c.args.maker.now.width c.args.maker.now.wide.low (plain c.args.net.now) c.args.all.now.table c.len-count.ensures.made c.args.all.now.listing.listed.items c.args.all.now.listing.places.items c.args.all.now.sops.items c.args.all.now.facs.items c.requires c.args.maker.now.wide.high (few_nets c.args.net.now c.inputs-inputs.ensures.kept))

pub new-requires-clause-sampled : goal.new-requires-clause-sampled
new-requires-clause-sampled c = c.in-Ok.ensures _ (ap (map plain_base) (sym c.as_slice.ensures.keys))

pub returns : goal.returns
returns c = c.new.ensures ∙ (finished c.args.maker.now.width c.args.maker.now.wide.low (plain c.args.net.now) c.args.all.now.table c.len-count.ensures.made c.args.all.now.listing.listed.items c.args.all.now.listing.places.items c.args.all.now.sops.items c.args.all.now.facs.items c.requires c.inputs-inputs.result (map plain_base c.in_ok-bases.bases.keys) c.in_ok-sops.sops.items c.in_ok-facs.facs.items c.inputs-inputs.ensures.inputs c.in_ok-bases.ensures (c.in_ok-sops.ensures ∙ ap (map (renumber c.args.all.now.listing.places.items)) c.deref.ensures.value) (c.in_ok-facs.ensures ∙ ap (map (renumber c.args.all.now.listing.places.items)) c.deref-2.ensures.value))
