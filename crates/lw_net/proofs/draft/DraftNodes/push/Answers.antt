use Rattle.std.proofs.Common.{◌≡◌, ◌<◌, All, length, refl, subst, sym, ap, ◌∙◌}
use Rattle.std.proofs.lemmas.List.Elements.{All-push, All-same}
use Rattle.std.proofs.lemmas.Result.{MatchResult-from_err}
use Rattle.lw_net.specs.declared.written.NumberedNode.{NumberedNode}
use Rattle.lw_net.specs.Written.{names_in, named_nodes, IsWithin}
use Rattle.lw_net.proofs.Writing.{nodes_longer, nodes_within_longer, names_longer, within_longer, longer_then, item_named, pushed}
use Rattle.lw_net.proofs.draft.DraftNodes.push.Goals as goal

pub returns-in_err-numbers : goal.returns-in_err-numbers
returns-in_err-numbers c =
    MatchResult-from_err _ _ _ c.from_residual.ensures.0 (λ _. nodes_longer c.self.inside.names.keys c.numbers.new.names.keys c.self.inside.nodes.items c.numbers.ensures.longer c.self.invariant ∙ c.self.view_is)

pub returns-in_err-out : goal.returns-in_err-out
returns-in_err-out c =
    let longer = longer_then c.self.inside.names.keys c.numbers.new.names.keys c.number.new.names.keys c.numbers.ensures.longer c.number.ensures.longer in
    MatchResult-from_err _ _ _ c.from_residual-in_err-out.ensures.0 (λ _. nodes_longer c.self.inside.names.keys c.number.new.names.keys c.self.inside.nodes.items longer c.self.invariant ∙ c.self.view_is)

pub returns-in_err-push : goal.returns-in_err-push
returns-in_err-push c =
    let longer = longer_then c.self.inside.names.keys c.numbers.new.names.keys c.number.new.names.keys c.numbers.ensures.longer c.number.ensures.longer in
    MatchResult-from_err _ _ _ c.from_residual-in_err-push.ensures.0 (λ _. ap (named_nodes c.number.new.names.keys) c.in_err-push.ensures.items ∙ (nodes_longer c.self.inside.names.keys c.number.new.names.keys c.self.inside.nodes.items longer c.self.invariant ∙ c.self.view_is))

pub returns : goal.returns
returns c =
    let keys = c.number.new.names.keys in
    let made : names_in keys c.new-fanins.result ≡ c.args.item.fanins =
    ap (names_in keys) c.new-fanins.ensures ∙ (names_longer c.numbers.new.names.keys keys c.in_ok-numbers.field-0.items c.number.ensures.longer c.in_ok-numbers.ensures.within ∙ c.in_ok-numbers.ensures.named) in
    let node : NumberedNode = record { out = c.in_ok-out.out; fanins = c.new-fanins.result; rows = c.args.item.rows; on = c.args.item.on } in
    pushed c.self.inside.names.keys c.numbers.new.names.keys keys c.self.inside.nodes.items c.push.new.self.items node c.args.self.now c.args.item c.numbers.ensures.longer c.number.ensures.longer c.self.invariant c.in_ok-push.ensures.items c.self.view_is
    (item_named keys node c.args.item c.in_ok-out.ensures.named made refl refl)

pub invariant_of-self : goal.invariant_of-self
invariant_of-self c = nodes_within_longer c.self.inside.names.keys c.numbers.new.names.keys c.self.inside.nodes.items c.numbers.ensures.longer c.self.invariant

pub invariant_of-self-in_err-out : goal.invariant_of-self-in_err-out
invariant_of-self-in_err-out c =
    let longer = longer_then c.self.inside.names.keys c.numbers.new.names.keys c.number.new.names.keys c.numbers.ensures.longer c.number.ensures.longer in
    nodes_within_longer c.self.inside.names.keys c.number.new.names.keys c.self.inside.nodes.items longer c.self.invariant

pub invariant_of-self-in_err-push : goal.invariant_of-self-in_err-push
invariant_of-self-in_err-push c =
    let longer = longer_then c.self.inside.names.keys c.numbers.new.names.keys c.number.new.names.keys c.numbers.ensures.longer c.number.ensures.longer in
    All-same (IsWithin (length c.number.new.names.keys)) _ _ c.in_err-push.ensures.items (nodes_within_longer c.self.inside.names.keys c.number.new.names.keys c.self.inside.nodes.items longer c.self.invariant)

pub invariant_of-self-2 : goal.invariant_of-self-2
invariant_of-self-2 c =
    let keys = c.number.new.names.keys in
    let longer = longer_then c.self.inside.names.keys c.numbers.new.names.keys keys c.numbers.ensures.longer c.number.ensures.longer in
    let node : NumberedNode = record { out = c.in_ok-out.out; fanins = c.new-fanins.result; rows = c.args.item.rows; on = c.args.item.on } in
    let within : IsWithin (length keys) node = record {
      out = c.in_ok-out.ensures.within;
      fanins = subst (All (λ n. n < length keys)) (sym c.new-fanins.ensures) (within_longer c.numbers.new.names.keys keys c.in_ok-numbers.field-0.items c.number.ensures.longer c.in_ok-numbers.ensures.within);
    } in
    All-same (IsWithin (length keys)) _ _ c.in_ok-push.ensures.items (All-push (IsWithin (length keys)) c.self.inside.nodes.items node (nodes_within_longer c.self.inside.names.keys keys c.self.inside.nodes.items longer c.self.invariant) within)
