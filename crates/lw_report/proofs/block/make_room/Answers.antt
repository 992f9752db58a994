use Rattle.std.proofs.Common.{All, ◌∙◌, [], ◌∷◌, ap, append-nil, refl, sym, subst, arith}
use Rattle.lw_report.specs.Blocks.{IsBlock, HasRoom, block_vectors, vectors_in}
use Rattle.std.proofs.lemmas.Grind.{flat_map-append}
use Rattle.std.proofs.lemmas.Result.{IfOk-from_err}
use Rattle.lw_report.proofs.BlockLemmas.{room_behind}
use Rattle.lw_report.proofs.block.make_room.Goals as goal

pub returns-then-has_room-clause-room : goal.returns-then-has_room-clause-room
returns-then-has_room-clause-room c = subst HasRoom c.deref.ensures.value (c.has_room.ensures c.if-has_room.true)

pub returns-then-has_room-clause-blocks : goal.returns-then-has_room-clause-blocks
returns-then-has_room-clause-blocks c = c.requires

pub returns-then-has_room-clause-vectors : goal.returns-then-has_room-clause-vectors
returns-then-has_room-clause-vectors c = refl

pub returns-in_err-words-clause-blocks : goal.returns-in_err-words-clause-blocks
returns-in_err-words-clause-blocks c = c.requires

pub returns-in_err-words-clause-room : goal.returns-in_err-words-clause-room
returns-in_err-words-clause-room c = IfOk-from_err _ _ c.from_residual.ensures.0

pub returns-in_err-words-clause-vectors : goal.returns-in_err-words-clause-vectors
returns-in_err-words-clause-vectors c = IfOk-from_err _ _ c.from_residual.ensures.0

pub returns-in_err-push-clause-room : goal.returns-in_err-push-clause-room
returns-in_err-push-clause-room c = IfOk-from_err _ _ c.from_residual-in_err-push.ensures.0

pub returns-in_err-push-clause-vectors : goal.returns-in_err-push-clause-vectors
returns-in_err-push-clause-vectors c = IfOk-from_err _ _ c.from_residual-in_err-push.ensures.0

pub returns-clause-room : goal.returns-clause-room
returns-clause-room c = subst HasRoom (sym c.in_ok-push.ensures.items) (room_behind c.args.blocks.now.items (record { words = c.in_ok-words.words; count = 0 }) (omega arith))

pub returns-in_err-push-clause-blocks : goal.returns-in_err-push-clause-blocks
returns-in_err-push-clause-blocks c = subst (All (IsBlock c.args.inputs)) (sym c.in_err-push.ensures.items) c.requires

pub returns-clause-vectors : goal.returns-clause-vectors
returns-clause-vectors c =
    let blocks = c.args.blocks.now.items in
    ap vectors_in c.in_ok-push.ensures.items ∙ (flat_map-append block_vectors blocks (record { words = c.in_ok-words.words; count = 0 } ∷ []) ∙ append-nil (vectors_in blocks))
