use Rattle.std.proofs.Common.{◌∙◌, ◌<◌, ◌/◌, ◌∷◌, ◌++◌, [], map, slice_index_or, sym, subst, ap, ap₂, length}
use Rattle.std.proofs.lemmas.List.{length-map}
use Rattle.std.proofs.lemmas.Result.{on_ok_weaker}
use Rattle.lw_net.specs.Signs.{asked}
use Rattle.lw_laws.specs.Forms.Form.{true_form}
use Rattle.lw_laws.specs.Occurring.{add_signals}
use Rattle.lw_laws.specs.Signals.{sum_of_products, factored}
use Rattle.lw_form.specs.Listed.{IsTooLong}
use Rattle.lw_form.specs.Nets.{signal_at, AreListed}
use Rattle.lw_form.specs.Products.{HaveColumns}
use Rattle.lw_form.specs.Tables.{made, AreBelow, forms_at, IsMadeAs}
use Rattle.lw_form.proofs.Joining.{more_twice}
use Rattle.lw_form.proofs.ListedForms.{if_err}
use Rattle.lw_form.proofs.Signalled.{are_nets, fanins_below, have_columns, node_signal, listed_more}
use Rattle.lw_form.proofs.occurring.Occurring.add_node.Goals as goal
use Rattle.lw_pool.specs.Numbers.{net_number}
use Rattle.lw_form.proofs.FactoringSteps.{signed_below}

pub both_forms-requires : goal.both_forms-requires
both_forms-requires c = record {
  below = let (signals, w) = c.requires.listed in subst (AreBelow (length (made c.args.self.now.table))) (sym (c.deref-2.ensures ∙ (c.in_ok-forms.ensures ∙ ap₂ (λ s n. map (λ net. slice_index_or s net 0) (map net_number n)) c.deref.ensures.value c.as_slice.ensures))) (fanins_below (length (made c.args.self.now.table)) c.args.self.now.sops.items (map net_number c.args.node.now.fanins) w.sops_below (are_nets (length c.args.self.now.sops.items) c.args.node.now.fanins c.requires.fanins));
  columns = subst (λ n. HaveColumns n (map (map asked) c.as_slice-2.result.now)) (sym (ap length (c.deref-2.ensures ∙ (c.in_ok-forms.ensures ∙ ap₂ (λ s n. map (λ net. slice_index_or s net 0) (map net_number n)) c.deref.ensures.value c.as_slice.ensures)) ∙ (length-map (map net_number c.args.node.now.fanins) (λ net. slice_index_or c.args.self.now.sops.items net 0) ∙ length-map c.args.node.now.fanins net_number))) (subst (λ r. HaveColumns (length c.args.node.now.fanins) (map (map asked) r)) (sym c.as_slice-2.ensures) (have_columns (length c.args.node.now.fanins) c.args.node.now.rows c.requires.columns));
}

pub add_net-requires : goal.add_net-requires
add_net-requires c = record {
  listed = let (signals, w) = c.requires.listed in (signals, listed_more c.args.self.now.table c.both_forms.new.table c.args.self.now.listing.listed.items c.args.self.now.listing.places.items c.args.self.now.sops.items c.args.self.now.facs.items signals c.in_ok-sop.ensures.sop.more w);
  sop = subst (λ n. n / 2 < length (made c.both_forms.new.table)) (sym c.signed.ensures) (signed_below (length (made c.both_forms.new.table)) c.args.node.now.on c.in_ok-sop.sop c.in_ok-sop.ensures.sop.within);
  fac = subst (λ n. n / 2 < length (made c.both_forms.new.table)) (sym c.signed-2.ensures) (signed_below (length (made c.both_forms.new.table)) c.args.node.now.on c.in_ok-sop.fac c.in_ok-sop.ensures.fac.within);
}

pub returns-clause-fault : goal.returns-clause-fault
returns-clause-fault c = if_err c.add_net.result (λ e h signals w. subst (λ s. IsTooLong (add_signals (signals ++ s ∷ []) (true_form ∷ [])) e) (ap₂ (signal_at (made c.both_forms.new.table)) c.signed.ensures c.signed-2.ensures ∙ node_signal c.args.maker.now.width c.args.self.now.table c.both_forms.new.table c.args.self.now.sops.items c.args.self.now.facs.items (map net_number c.args.node.now.fanins) c.deref-2.result.now signals (map (map asked) c.args.node.now.rows) c.args.node.now.on c.in_ok-sop.sop c.in_ok-sop.fac c.len-count.ensures.made w.one_each w.signals_are (are_nets (length c.args.self.now.sops.items) c.args.node.now.fanins c.requires.fanins) (c.deref-2.ensures ∙ (c.in_ok-forms.ensures ∙ ap₂ (λ s n. map (λ net. slice_index_or s net 0) (map net_number n)) c.deref.ensures.value c.as_slice.ensures)) (subst (λ r. IsMadeAs c.args.self.now.table c.both_forms.new.table c.in_ok-sop.sop (sum_of_products c.args.maker.now.width (forms_at (made c.args.self.now.table) c.deref-2.result.now) (map (map asked) r))) c.as_slice-2.ensures c.in_ok-sop.ensures.sop) (subst (λ r. IsMadeAs c.args.self.now.table c.both_forms.new.table c.in_ok-sop.fac (factored c.args.maker.now.width (forms_at (made c.args.self.now.table) c.deref-2.result.now) (map (map asked) r))) c.as_slice-2.ensures c.in_ok-sop.ensures.fac)) (h signals (listed_more c.args.self.now.table c.both_forms.new.table c.args.self.now.listing.listed.items c.args.self.now.listing.places.items c.args.self.now.sops.items c.args.self.now.facs.items signals c.in_ok-sop.ensures.sop.more w))) c.add_net.ensures.fault

pub returns-clause-adds : goal.returns-clause-adds
returns-clause-adds c = on_ok_weaker c.add_net.result (λ a. record {
  more = more_twice (made c.args.self.now.table) (made c.both_forms.new.table) (made c.add_net.new.self.table) c.in_ok-sop.ensures.sop.more a.more;
  listed = λ signals w. subst (λ s. AreListed c.add_net.new.self.table c.add_net.new.self.listing.listed.items c.add_net.new.self.listing.places.items c.add_net.new.self.sops.items c.add_net.new.self.facs.items (signals ++ s ∷ [])) (ap₂ (signal_at (made c.both_forms.new.table)) c.signed.ensures c.signed-2.ensures ∙ node_signal c.args.maker.now.width c.args.self.now.table c.both_forms.new.table c.args.self.now.sops.items c.args.self.now.facs.items (map net_number c.args.node.now.fanins) c.deref-2.result.now signals (map (map asked) c.args.node.now.rows) c.args.node.now.on c.in_ok-sop.sop c.in_ok-sop.fac c.len-count.ensures.made w.one_each w.signals_are (are_nets (length c.args.self.now.sops.items) c.args.node.now.fanins c.requires.fanins) (c.deref-2.ensures ∙ (c.in_ok-forms.ensures ∙ ap₂ (λ s n. map (λ net. slice_index_or s net 0) (map net_number n)) c.deref.ensures.value c.as_slice.ensures)) (subst (λ r. IsMadeAs c.args.self.now.table c.both_forms.new.table c.in_ok-sop.sop (sum_of_products c.args.maker.now.width (forms_at (made c.args.self.now.table) c.deref-2.result.now) (map (map asked) r))) c.as_slice-2.ensures c.in_ok-sop.ensures.sop) (subst (λ r. IsMadeAs c.args.self.now.table c.both_forms.new.table c.in_ok-sop.fac (factored c.args.maker.now.width (forms_at (made c.args.self.now.table) c.deref-2.result.now) (map (map asked) r))) c.as_slice-2.ensures c.in_ok-sop.ensures.fac)) (a.listed signals (listed_more c.args.self.now.table c.both_forms.new.table c.args.self.now.listing.listed.items c.args.self.now.listing.places.items c.args.self.now.sops.items c.args.self.now.facs.items signals c.in_ok-sop.ensures.sop.more w));
}) c.add_net.ensures.adds
