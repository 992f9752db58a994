use Rattle.std.proofs.Common.{◌≡◌, ◌<◌, ◌≤◌, ◌-◌, false, Err, length, take, ap, sym, subst, ◌∙◌, arith}
use Rattle.std.proofs.lemmas.List.{length-drop, length-take-le}
use Rattle.lw_verilog.proofs.Parsing.{stands-first, stands-last, parse-told, piece-told, piece-passed}
use Rattle.lw_verilog.proofs.PieceSizes.{piece_named, piece_some, piece_within}
use Rattle.lw_verilog.proofs.Quiet.{first-quiet}
use Rattle.lw_verilog.specs.declared.kind.Piece.{Piece}
use Rattle.lw_verilog.specs.Readings.{FaultAt, piece_fault}
use Rattle.lw_verilog.specs.Tokens.{is_gap, line_feeds, name_of}
use Rattle.lw_verilog.proofs.reader.parse.Goals as goal

pub loop-rest-init : goal.loop-rest-init
loop-rest-init c = stands-first c.args.lib.now c.args.text.now c.args.contents.now c.requires.none

pub line_behind-line-requires-clause-one : goal.line_behind-line-requires-clause-one
line_behind-line-requires-clause-one c =
    let bytes = c.loop-rest.rest.now in
    subst (λ (p : Piece). is_gap p.kind ≡ false → line_feeds (take p.size bytes) ≡ 0) (sym c.first_piece-piece.ensures) (first-quiet bytes)

pub returns-in-Err-clause-fault : goal.returns-in-Err-clause-fault
returns-in-Err-clause-fault c =
    let s = c.loop-rest.invariant in
    let p = c.first_piece-piece.result in
    parse-told c.args.lib.now c.args.text.now (piece_fault c.args.lib.now s.reading p.kind (name_of (take p.size c.loop-rest.rest.now))) c.in-Err.refusal c.line_of.result c.refused_at.result c.refused_at.ensures (c.in-Err.ensures.fault s.reading s.keeps)
    (λ k e. piece-told c.args.lib.now c.args.text.now c.loop-rest.contents c.loop-rest.line c.loop-rest.rest.now s p c.first_piece-piece.ensures (sym c.is_done.ensures ∙ c.loop-rest-test.true) k e
    ∙ ap (λ n. let f : FaultAt = record { line = n; kind = k } in Err f) (sym c.line_of.ensures))

pub loop-rest-preserved : goal.loop-rest-preserved
loop-rest-preserved c =
    let s = c.loop-rest.invariant in
    let p = c.first_piece-piece.result in
    piece-passed c.args.lib.now c.args.text.now c.loop-rest.contents c.loop-rest.line c.loop-rest.rest.now s p c.first_piece-piece.ensures (sym c.is_done.ensures ∙ c.loop-rest-test.true) c.read.new.self
    c.line_behind-line.result c.behind-rest.result.now (sym (c.in_default.ensures.fault s.reading s.keeps)) (c.in_default.ensures.taken.keeps s.reading s.keeps) c.in_default.ensures.taken.weight
    (piece_some c.loop-rest.rest.now p c.first_piece-piece.ensures c.in_default.ensures.taken.ended) (piece_within c.loop-rest.rest.now p c.first_piece-piece.ensures) c.line_behind-line.ensures c.behind-rest.ensures

pub slice_bounds-bytes-end : goal.slice_bounds-bytes-end
slice_bounds-bytes-end c =
    let p = c.first_piece-piece.result in
    sym (length-take-le p.size c.loop-rest.rest.now (piece_within c.loop-rest.rest.now p c.first_piece-piece.ensures))

pub loop-rest-smaller : goal.loop-rest-smaller
loop-rest-smaller c =
    let rest = c.loop-rest.rest.now in
    let p = c.first_piece-piece.result in
    let some : 0 < p.size = piece_some rest p c.first_piece-piece.ensures c.in_default.ensures.taken.ended in
    let within : p.size ≤ length rest = piece_within rest p c.first_piece-piece.ensures in
    let left : length c.behind-rest.result.now ≡ length rest - p.size = ap length c.behind-rest.ensures ∙ length-drop p.size rest in
    omega (arith, some, within, left)

pub read-requires : goal.read-requires
read-requires c =
    piece_named c.loop-rest.rest.now c.first_piece-piece.result c.first_piece-piece.ensures

pub behind-rest-requires : goal.behind-rest-requires
behind-rest-requires c =
    piece_within c.loop-rest.rest.now c.first_piece-piece.result c.first_piece-piece.ensures

pub returns-clause-parsed : goal.returns-clause-parsed
returns-clause-parsed c = stands-last c.args.lib.now c.args.text.now c.loop-rest.contents c.loop-rest.line c.loop-rest.rest.now c.loop-rest.invariant (sym c.is_done.ensures ∙ c.loop-rest-test.false)
