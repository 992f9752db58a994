use Rattle.std.proofs.Common.{◌≡◌, ◌∙◌, ap, arith, false, get_or, subst, sym, unwrap_or}
use Rattle.lw_laws.specs.Networks.{given}
use Rattle.lw_equal.specs.Sides.{AreValuesOf, inputs_of}
use Rattle.lw_equal.proofs.Valued.{other_values, own_values, told_apart}
use Rattle.lw_equal.proofs.looking.differ.Goals as goal

pub returns : goal.returns
returns c = λ told.
    let one = c.args.one.now.side.now in
    let other = c.args.other.now in
    let pair = c.args.pair.now in
    let inputs = c.args.inputs.now in
    let lefts = c.in_ok-lefts.lefts.items in
    let rights = c.in_ok-rights.rights.items in
    let distinct = c.requires.known.side.inputs in
    let are = subst (λ ts. AreValuesOf other.logic (given ts) rights) (c.deref.ensures.value ∙ c.in_ok-theirs.ensures) c.in_ok-rights.ensures.values in
    let left : c.unwrap_or-left.result ≡ get_or lefts pair.left.0 false =
    c.unwrap_or-left.ensures ∙ (ap (λ o. unwrap_or o false) c.copied.ensures ∙ (c.get.ensures.lookup.4 (omega arith) false ∙ ap (λ vs. get_or vs pair.left.0 false) c.deref-2.ensures.value)) in
    let right : c.unwrap_or-right.result ≡ get_or rights pair.right.0 false =
    c.unwrap_or-right.ensures ∙ (ap (λ o. unwrap_or o false) c.copied-2.ensures ∙ (c.get-2.ensures.lookup.4 (omega arith) false ∙ ap (λ vs. get_or vs pair.right.0 false) c.deref-3.ensures.value)) in
    record {
      one_each = c.requires.one_each;
      left = pair.left.0;
      is_left = c.requires.pair.left;
      right = pair.right.0;
      is_right = c.requires.pair.right;
      lefts = lefts;
      are_lefts = own_values one inputs lefts distinct c.net_values.ensures.count c.in_ok-lefts.ensures.values;
      rights = rights;
      are_rights = other_values (inputs_of one.logic) other inputs rights c.args.places.now distinct c.net_values-2.ensures.count c.requires.places are;
      differ = λ e. told_apart c.unwrap_or-left.result c.unwrap_or-right.result told (left ∙ (e ∙ sym right));
    }
