use Rattle.std.proofs.Common.{ℕ, List, not, ap, ◌∙◌, subst}
use Rattle.std.specs.Prelude.{All, IsTrue, ◌↔◌}
use Rattle.std.specs.Str.{bytes_eq}
use Rattle.lw_words.specs.Lines.{LogicalLine}
use Rattle.lw_words.specs.Gathering.{IsNoHash}
use Rattle.lw_genlib.proofs.Plain.{plain-words}
use Rattle.lw_genlib.proofs.no_hash.has_no_hash.Goals as goal

pub returns : goal.returns
returns c =
    subst (λ (l : LogicalLine). IsTrue c.ne.result ↔ All (All IsNoHash) l.words) c.line.view_is
    (plain-words c.line.inside.words c.get.result.now c.ne.result c.get.ensures.word c.line.invariant.no_hash (c.ne.ensures ∙ ap (λ (w : List ℕ). not (bytes_eq c.get.result.now w)) c.as_slice.ensures))
