use Rattle.std.proofs.Common.{◌∙◌, arith}
use Rattle.std.proofs.lemmas.Result.{err_from_is_err_and}
use Rattle.lw_top.specs.declared.refusal.Which.TheVariants as which
use Rattle.lw_files.specs.Steps.{followed_by}
use Rattle.lw_top.specs.Words.{from_verilog}
use Rattle.lw_top.specs.Verilogs.{SaysMapped}
use Rattle.lw_top.specs.Answers.{ReadsLibrary, ReadsVerilog}
use Rattle.lw_top.proofs.Steps.{refused, refused_later}
use Rattle.lw_top.proofs.AnswersGiven.{responds, file_refused, given_says, says_later, ends}
use Rattle.lw_top.proofs.answer.from_verilog_files.Goals as goal

pub returns-in_err-library : goal.returns-in_err-library
returns-in_err-library g c =
    let p = err_from_is_err_and c.from_residual.result c.from_residual.ensures.1 in
    rw (p.1, p.2) (responds c.read_library.ensures.files c.read_library.ensures.later (file_refused _ _ _ (from_verilog c.args.library.now c.args.verilog.now) which.Library _ c.in_err-library.ensures.blames c.in_err-library.ensures.not_words (tt, λ files is. tt)
    (refused _ (ReadsLibrary c.args.library.now) (λ cells. followed_by (ReadsVerilog c.args.verilog.now cells) (λ n. SaysMapped cells n)) _ _ _ c.in_err-library.ensures.reads)))

pub returns-in_err-netlist : goal.returns-in_err-netlist
returns-in_err-netlist g c =
    let p = err_from_is_err_and c.from_residual-in_err-netlist.result c.from_residual-in_err-netlist.ensures.1 in
    rw (p.1, p.2) (responds (c.read_netlist.ensures.reads.files ∙ c.read_library.ensures.files) (omega (arith, c.read_library.ensures.later, c.read_netlist.ensures.reads.later)) (file_refused _ _ _ (from_verilog c.args.library.now c.args.verilog.now) which.Mapped _ c.in_err-netlist.ensures.reads.blames c.in_err-netlist.ensures.reads.not_words (tt, λ files is. (c.in_ok-library.library, c.in_ok-library.ensures.reads files is))
    (refused_later _ (ReadsLibrary c.args.library.now) (λ cells. followed_by (ReadsVerilog c.args.verilog.now cells) (λ n. SaysMapped cells n)) _ _ _ c.in_ok-library.library _ c.read_library.ensures.later c.in_ok-library.ensures.reads
    (refused _ (ReadsVerilog c.args.verilog.now c.in_ok-library.library) (λ n. SaysMapped c.in_ok-library.library n) _ _ _ (rw (c.read_library.ensures.files) at c.in_err-netlist.ensures.reads.reads)))))

pub returns : goal.returns
returns g c =
    responds (c.read_netlist.ensures.reads.files ∙ c.read_library.ensures.files) (omega (arith, c.read_library.ensures.later, c.read_netlist.ensures.reads.later)) (ends _ _ _ (from_verilog c.args.library.now c.args.verilog.now) (SaysMapped c.in_ok-library.library c.in_ok-netlist.netlist) c.map_verilog.result c.map_verilog.ensures
    (says_later _ (ReadsLibrary c.args.library.now) (λ cells. followed_by (ReadsVerilog c.args.verilog.now cells) (λ n. SaysMapped cells n)) _ _ _ c.in_ok-library.library c.map_verilog.result c.read_library.ensures.later c.in_ok-library.ensures.reads
    (says_later _ (ReadsVerilog c.args.verilog.now c.in_ok-library.library) (λ n. SaysMapped c.in_ok-library.library n) _ _ _ c.in_ok-netlist.netlist c.map_verilog.result c.read_netlist.ensures.reads.later (rw (c.read_library.ensures.files) at c.in_ok-netlist.ensures.reads.reads)
    (given_says _ (g.F.Shelf.faults c.read_netlist.new.shelf) (g.F.Shelf.faults c.read_netlist.new.shelf) (SaysMapped c.in_ok-library.library c.in_ok-netlist.netlist) c.map_verilog.result c.map_verilog.ensures))))
