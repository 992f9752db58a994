use Rattle.std.proofs.Common.{◌&&◌, ◌∙◌, ap₂, subst, sym}
use Rattle.std.specs.Prelude.{bit_and}
use Rattle.lw_equal.specs.Trying.{IsWordOf}
use Rattle.lw_genlib.proofs.Bits.{bit_and_is}
use Rattle.lw_equal.proofs.trying.node_word.Goals as goal

pub returns-in-And : goal.returns-in-And
returns-in-And c k lt =
    let left = c.literal_word.result in
    let right = c.literal_word-in-And.result in
    subst (λ gate. IsWordOf gate c.args.node c.args.block c.args.words.now (bit_and left right) k) (sym c.in-And.is)
    (bit_and_is k lt left right ∙ ap₂ (λ s t. s && t) (c.literal_word.ensures k lt) (c.literal_word-in-And.ensures k lt))
