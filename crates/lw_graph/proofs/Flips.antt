-- The complement of a class, as the code computes it.
use Rattle.lw_laws.proofs.Flips.{xor-one}

pub ruleset flip_rules = (xor-one)
