use Rattle.lw_lut_text.proofs.PortsFit.{ports_fit, ports_apart, roots_known}
use Rattle.lw_lut_text.proofs.laws.network_ports_fit.Goals as goal

pub returns : goal.returns
returns c = record {
  fit = λ mode width from outer g ports wide named is of few low. ports_fit mode width from outer g ports wide is of named (c.input_classes_differ.ensures mode width from g wide is) few low;
  apart = λ mode width from outer g ports wide named is of. ports_apart mode width from outer g ports wide is of named;
  known = λ mode width from outer g most lists ports wide has is least of. roots_known mode width from outer g ports wide is of most lists has least (λ f o. c.class_depths_are_form_depths.ensures.some mode width from g wide is most f o);
}
