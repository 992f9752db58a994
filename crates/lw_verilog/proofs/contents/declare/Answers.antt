use Rattle.std.proofs.Common.{not, cond, [], ◌∷◌, ◌++◌, ap, ◌∙◌}
use Rattle.lw_verilog.proofs.contents.declare.Goals as goal

pub returns : goal.returns
returns c =
    let old = c.args.declared.now in
    c.in_ok-_fresh.ensures.added ∙ ap (λ b. cond b (old ++ c.args.name.now ∷ []) old) (c.in_ok-_fresh.ensures.fresh ∙ ap not c.requires.new)
