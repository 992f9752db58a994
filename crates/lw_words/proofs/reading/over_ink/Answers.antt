use Rattle.std.proofs.Common.{take, ◌∙◌, sym}
use Rattle.std.proofs.lemmas.List.Elements.{All-weaker}
use Rattle.lw_words.specs.Gathering.{IsNoHash, IsPlainByte}
use Rattle.lw_words.proofs.GatheredWords.{over_bytes-ink}
use Rattle.lw_words.proofs.reading.over_ink.Goals as goal

pub push_all-requires-clause-no_hash : goal.push_all-requires-clause-no_hash
push_all-requires-clause-no_hash c =
    All-weaker IsPlainByte IsNoHash (λ b plain. plain.1) (take c.ink_len-n.result c.args.bytes.now) c.ink_len-n.ensures.plain

pub returns-clause-gathered : goal.returns-clause-gathered
returns-clause-gathered c =
    c.in_ok-push_all.ensures
    ∙ sym (over_bytes-ink c.args.gathering.now (take c.ink_len-n.result c.args.bytes.now) c.ink_len-n.ensures.ink)
