use Rattle.std.proofs.Common.{[], ◌∷◌, ◌++◌, take, ap, sym, ◌∙◌}
use Rattle.std.proofs.lemmas.List.{take_more}
use Rattle.lw_named_netlist.specs.Closing.{is_among}
use Rattle.lw_verilog.proofs.Finding.{among-insert}
use Rattle.lw_verilog.proofs.refusing.set_of.Goals as goal

pub loop-name-preserved : goal.loop-name-preserved
loop-name-preserved c = λ x.
    let names = c.args.names.now in
    let i = c.loop-name.name-index in
    let v = c.in_ok-from_slice.field-0 in
    let here = c.in_ok-from_slice.ensures ∙ (c.as_bytes.ensures.bytes ∙ c.name-item.is) in
    ap (λ k. is_among k x) c.in-Ok.ensures.keys
    ∙ (among-insert c.loop-name.set.keys (take i names) v x (c.loop-name.invariant x) (c.loop-name.invariant v)
    ∙ ap (λ l. is_among l x) (ap (λ n. take i names ++ n ∷ []) here ∙ sym (take_more names i c.name-item.result c.loop-name-test.true)))
