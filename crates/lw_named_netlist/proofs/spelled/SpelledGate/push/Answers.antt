use Rattle.std.proofs.Common.{◌≡◌, ◌+◌, ◌++◌, ◌∷◌, [], List, ℕ, length, take, ap, ◌∙◌, length-append}
use Rattle.lw_pool.specs.declared.id.CellId.{CellId}
use Rattle.lw_words.specs.Arenas.{words_at}
use Rattle.lw_named_netlist.specs.declared.draft.DraftGate.{DraftGate}
use Rattle.lw_named_netlist.proofs.Spelling.{pushed-front, pushed-names, pushed-spelled}
use Rattle.lw_named_netlist.proofs.spelled.SpelledGate.push.Goals as goal

abbrev gate_by : CellId → List (List ℕ) → List ℕ → DraftGate
gate_by cell pins out = record { cell = cell; pins = pins; out = out }

pub invariant_of-self-2 : goal.invariant_of-self-2
invariant_of-self-2 c =
    let s = c.self.inside in
    let end : c.len-end.result ≡ length s.bytes.items + length c.args.pin.now = c.len-end.ensures.value ∙ (ap length c.in_ok-extend_from_slice.ensures.ok ∙ length-append s.bytes.items c.args.pin.now) in (
      c.self.invariant.0,
      pushed-spelled s.out s.bytes.items c.args.pin.now s.ends.items c.extend_from_slice.new.self.items c.push_reserved.new.self.items c.len-end.result c.self.invariant.1 c.in_ok-extend_from_slice.ensures.ok end
          (c.push_reserved.ensures.items ∙ ap (λ l. l ++ c.len-end.result ∷ []) c.reserve.ensures.items) c.requires,
    )

pub returns : goal.returns
returns c =
    let s = c.self.inside in
    let bytes = c.extend_from_slice.new.self.items in
    let ends = c.push_reserved.new.self.items in
    let end : c.len-end.result ≡ length s.bytes.items + length c.args.pin.now = c.len-end.ensures.value ∙ (ap length c.in_ok-extend_from_slice.ensures.ok ∙ length-append s.bytes.items c.args.pin.now) in
    let more = c.push_reserved.ensures.items ∙ ap (λ l. l ++ c.len-end.result ∷ []) c.reserve.ensures.items in
    ap (λ pins. gate_by s.cell pins (take s.out bytes)) (pushed-names s.out s.bytes.items c.args.pin.now s.ends.items bytes ends c.len-end.result c.self.invariant.1 c.in_ok-extend_from_slice.ensures.ok end more)
    ∙ (ap (gate_by s.cell (words_at s.out s.bytes.items s.ends.items ++ c.args.pin.now ∷ [])) (pushed-front s.out s.bytes.items c.args.pin.now s.ends.items bytes ends c.len-end.result c.self.invariant.1 c.in_ok-extend_from_slice.ensures.ok end more)
    ∙ ap (λ (gate : DraftGate). gate_by gate.cell (gate.pins ++ c.args.pin.now ∷ []) gate.out) c.self.view_is)
