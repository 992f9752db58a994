use Rattle.std.proofs.Common.{ℕ, List, length, ap, sym, subst, ◌∙◌}
use Rattle.std.proofs.lemmas.List.{with_items_is}
use Rattle.std.proofs.lemmas.Result.{IfOk-from_err}
use Rattle.lw_assoc.specs.Parts.{HasDrops}
use Rattle.lw_assoc.proofs.drops.drops_of.Goals as goal

pub returns-in_err-drops : goal.returns-in_err-drops
returns-in_err-drops c = IfOk-from_err _ _ c.from_residual.ensures.0

pub returns : goal.returns
returns c =
    let v = c.in_ok-drops.drops in
    let lent = ap (λ (ds : List ℕ). length ds) c.deref_mut.ensures.value in
    let back = with_items_is v c.put_all_drops.new.drops (c.put_all_drops.auto.drops ∙ (lent ∙ sym v.ok.0)) in
    subst (HasDrops c.args.forms.now (length c.args.forms.now.bases)) (sym back) c.put_all_drops.ensures
