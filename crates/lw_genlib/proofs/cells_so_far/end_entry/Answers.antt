use Rattle.std.proofs.Common.{◌≡◌, None, Option, Ok, sym, ap, ◌∙◌, subst}
use Rattle.std.specs.Prelude.{MatchResult}
use Rattle.lw_genlib.specs.Entries as words
use Rattle.lw_genlib.specs.Libraries as library
use Rattle.lw_genlib.specs.Tells.{TellsErr}
use Rattle.lw_genlib.proofs.Listed.{ended-none}
use Rattle.lw_genlib.proofs.cells_so_far.end_entry.Goals as goal

pub returns-in-Some : goal.returns-in-Some
returns-in-Some c =
    subst (λ (o : Option words.Entry). MatchResult c.close_entry.result (λ (new : library.CellsSoFar). library.entry_ended (library.with_open c.args.read.so_far o) ≡ Ok new) (TellsErr (library.entry_ended (library.with_open c.args.read.so_far o))))
    (sym c.in-Some.is) c.close_entry.ensures

pub returns-in-None : goal.returns-in-None
returns-in-None c =
    let whole : c.args.read.so_far.entry ≡ None = sym (ap (λ (b : library.CellsSoFar). b.entry) c.so_far.view_is) in
    ap (λ (p : Option words.Entry). library.entry_ended (library.with_open c.args.read.so_far p)) c.in-None.is ∙ ended-none c.args.read.so_far whole
