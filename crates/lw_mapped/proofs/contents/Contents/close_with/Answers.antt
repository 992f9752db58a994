use Rattle.lw_frame.specs.Frames.{root_names}
use Rattle.std.proofs.Common.{List, refl}
use Rattle.lw_mapped.specs.declared.saying.Saying.{Saying}
use Rattle.lw_mapped.specs.Keeping.{Keeps}
use Rattle.lw_mapped.specs.Unmapped.{ClosesTo}
use Rattle.lw_mapped.proofs.ClosingLemmas.{may-close, draft-said, frame-is, closes-to}
use Rattle.lw_mapped.proofs.Fitted.{closed-fits}
use Rattle.lw_mapped.proofs.contents.Contents.close_with.Goals as goal

pub closed-answer-requires : goal.closed-answer-requires
closed-answer-requires c =
    may-close c.args.self c.args.lib.now c.in-Ok.draft c.requires.few
    (draft-said c.args.self c.requires.few.said c.in-Ok.draft c.as_slice-read.result.now c.as_slice-read.result.now (root_names c.args.self.outputs.keys c.as_slice-read.result.now) c.requires.few.keeps c.in-Ok.ensures c.as_slice-read.ensures refl c.as_slice-read.ensures)

pub returns : goal.returns
returns c =
    let closes : (said : List Saying) → Keeps c.args.self said → ClosesTo said c.closed-answer.result = λ said k.
    closes-to c.args.self said c.in-Ok.draft _ c.args.starts c.from_vec-labels.result c.closed-answer.result c.from_vec-labels.ensures k
    (draft-said c.args.self said c.in-Ok.draft c.as_slice-read.result.now c.as_slice-read.result.now (root_names c.args.self.outputs.keys c.as_slice-read.result.now) k c.in-Ok.ensures c.as_slice-read.ensures refl c.as_slice-read.ensures)
    (frame-is c.args.self said c.len.result c.len-2.result k c.len.ensures c.len-2.ensures.len)
    (c.requires.starts.said said k) c.closed-answer.ensures.made c.closed-answer.ensures.fault in
    let said = c.requires.few.said in
    let k = c.requires.few.keeps in
    record {
      closes = closes;
      fits = closed-fits c.args.self said c.in-Ok.draft _ c.args.starts c.from_vec-labels.result _ c.closed-answer.result c.from_vec-labels.ensures k (closes said k) c.requires.starts.early c.closed-answer.ensures.made;
      over = c.closed-answer.ensures.over;
    }
