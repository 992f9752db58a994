use Rattle.std.proofs.Common.{false, refl, sym, true≢false}
use Rattle.lw_label.proofs.OneVisit.{odd_of}
use Rattle.lw_label.proofs.labelling.Labelling.lower_again.Goals as goal

pub lower_without_nands-requires-clause-may : goal.lower_without_nands-requires-clause-may
lower_without_nands-requires-clause-may g c = c.requires.may

pub returns-then-is_ahead : goal.returns-then-is_ahead
returns-then-is_ahead g c =
    let bare = c.lower_without_nands.ensures in
    record {
      search = bare.search;
      table = bare.table;
      takes = bare.takes;
      others = λ n out. bare.others n (λ e. out (odd_of c.args.place n e));
    }

pub returns : goal.returns
returns g c = record {
  search = c.requires.may;
  table = refl;
  takes = record { lowering = c.requires.may.sought.lowering; falls = λ e. absurd (true≢false (sym e)); same = λ e. refl };
  others = λ n out. refl;
}
