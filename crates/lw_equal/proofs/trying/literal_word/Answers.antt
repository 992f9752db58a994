use Rattle.std.proofs.Common.{◌≡◌, get_or, subst, sym}
use Rattle.std.specs.Int.{bit_not, w64}
use Rattle.lw_aig.specs.Literals.{node_of}
use Rattle.lw_genlib.specs.Words.{bit}
use Rattle.lw_equal.specs.Trying.{literal_bit}
use Rattle.lw_equal.proofs.Tried.{turned_bits}
use Rattle.lw_equal.proofs.trying.literal_word.Goals as goal

pub returns-else-literal-eq0 : goal.returns-else-literal-eq0
returns-else-literal-eq0 c k lt =
    let words = c.args.words.now in
    let l = c.args.literal in
    subst (λ n. bit k (bit_not w64 (get_or words n 0)) ≡ literal_bit words k l) (sym c.node.ensures) (turned_bits words k l lt (c.type_inv.words (node_of l)).fits c.if-literal-eq0.false)
