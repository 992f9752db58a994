use Rattle.std.proofs.Common.{◌≡◌, ◌<◌, ◌-◌, ◌++◌, [], ◌∷◌, ◌∙◌, ap, sym, subst, refl, length, map, set, arith, Some}
use Rattle.std.specs.Prelude.{slice_get}
use Rattle.std.proofs.lemmas.List.Elements.{All-set}
use Rattle.std.proofs.lemmas.Option.{same_Some, slice_get_read}
use Rattle.std.proofs.lemmas.Result.{IfOk-from_err}
use Rattle.lw_report.specs.declared.block.Block.{Block}
use Rattle.lw_report.specs.Blocks.{IsBlock, vectors_in}
use Rattle.lw_report.specs.Vectors.{is_one}
use Rattle.lw_report.proofs.BlockLemmas.{last_more, room_some}
use Rattle.lw_report.proofs.block.add_vector.Goals as goal

pub returns-in_err-make_room-clause-blocks : goal.returns-in_err-make_room-clause-blocks
returns-in_err-make_room-clause-blocks c = c.make_room.ensures.blocks

pub returns-in_err-make_room-clause-vectors : goal.returns-in_err-make_room-clause-vectors
returns-in_err-make_room-clause-vectors c = IfOk-from_err _ _ c.from_residual.ensures.0

pub overflow_sub-last : goal.overflow_sub-last
overflow_sub-last c = let some = room_some c.make_room.new.blocks.items c.in_ok-make_room.ensures.room in omega arith

pub index_mut-requires : goal.index_mut-requires
index_mut-requires c = let some = room_some c.make_room.new.blocks.items c.in_ok-make_room.ensures.room in omega arith

pub returns-clause-blocks : goal.returns-clause-blocks
returns-clause-blocks c = All-set (IsBlock (length c.args.digits.now)) c.make_room.new.blocks.items (c.len-last.result - 1) c.add.new.self c.add.ensures.block c.make_room.ensures.blocks

pub returns-clause-vectors : goal.returns-clause-vectors
returns-clause-vectors c =
    let blocks = c.make_room.new.blocks.items in
    let room = c.in_ok-make_room.ensures.room in
    let some = room_some blocks room in
    let y = c.add.new.self in
    let v = map is_one c.args.digits.now in
    let place : c.len-last.result - 1 ≡ length blocks - 1 = omega arith in
    let b : Block = c.index_mut.result.now in
    let below : c.len-last.result - 1 < length blocks = omega arith in
    let read : slice_get blocks (length blocks - 1) ≡ Some b = subst (λ n. slice_get blocks n ≡ Some b) place (slice_get_read blocks (length blocks) (c.len-last.result - 1) b refl below c.index_mut.ensures.value) in
    let more = last_more blocks b y v some read c.add.ensures.vectors in
    subst (λ n. vectors_in (set blocks n y) ≡ vectors_in c.args.blocks.now.items ++ v ∷ []) (sym place) (more ∙ ap (λ vs. vs ++ v ∷ []) c.in_ok-make_room.ensures.vectors)

pub add-requires-clause-room : goal.add-requires-clause-room
add-requires-clause-room c =
    let blocks = c.make_room.new.blocks.items in
    let room = c.in_ok-make_room.ensures.room in
    let some = room_some blocks room in
    let b : Block = c.index_mut.result.now in
    let place : c.len-last.result - 1 ≡ length blocks - 1 = omega arith in
    let below : c.len-last.result - 1 < length blocks = omega arith in
    let read : slice_get blocks (length blocks - 1) ≡ Some b = subst (λ n. slice_get blocks n ≡ Some b) place (slice_get_read blocks (length blocks) (c.len-last.result - 1) b refl below c.index_mut.ensures.value) in
    subst (λ (x : Block). x.count < 64) (same_Some room.last b (sym room.at ∙ read)) room.room

pub add-requires-clause-block : goal.add-requires-clause-block
add-requires-clause-block c =
    let blocks = c.make_room.new.blocks.items in
    let some = room_some blocks c.in_ok-make_room.ensures.room in
    let below : c.len-last.result - 1 < length blocks = omega arith in
    subst (IsBlock (length c.args.digits.now)) (sym c.index_mut.ensures.value) (c.make_room.ensures.blocks (c.len-last.result - 1) c.index_mut.result.now below)
