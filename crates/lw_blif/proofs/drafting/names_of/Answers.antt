use Rattle.std.proofs.Common.{◌++◌, ◌∷◌, [], option_copied, ap, sym, ◌∙◌}
use Rattle.lw_facts.proofs.Lists.{take_get}
use Rattle.lw_blif.proofs.drafting.names_of.Goals as goal

pub loop-i-preserved : goal.loop-i-preserved
loop-i-preserved c =
    c.in_ok-push.ensures
    ∙ (ap (λ n. c.loop-i.names ++ n ∷ []) (c.in_ok-from_slice.ensures ∙ c.as_bytes.ensures.bytes)
    ∙ (ap (λ ns. ns ++ c.unwrap-name.result.now ∷ []) c.loop-i.invariant
    ∙ sym (take_get c.args.set.now.keys c.loop-i.i c.unwrap-name.result.now (sym c.get_index.ensures.key ∙ ap option_copied c.unwrap-name.ensures))))
