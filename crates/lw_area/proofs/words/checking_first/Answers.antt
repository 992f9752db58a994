use Prim.{search}
use Rattle.std.proofs.Common.{◌≡◌, ◌∙◌, false, string_bytes, rules}
use Rattle.std.specs.Prelude.{codes}
use Rattle.std.specs.Str.{bytes_eq}
use Rattle.lw_area.proofs.Options.{none_first, other_first}
use Rattle.lw_area.proofs.words.checking_first.Goals as goal
use Rattle.lw_area.proofs.words.checking_first.Goals.{in_default-via-then-words-lt1, in_default-via-in-len1-up+else-eq}

pub returns-in_default : goal.returns-in_default
returns-in_default c =
    c.options_of-in_default.ensures
    ∙ (elim c.in_default.branch [
      | in_default-via-then-words-lt1 w ↦ none_first string_bytes c.args.words.now (search rules)
      | in_default-via-in-len1-up+else-eq w ↦
          let test : bytes_eq (string_bytes w.first-item.result) (codes "-k") ≡ false = search rules in
          other_first string_bytes c.args.words.now w.first-item.result w.in-len1-up.len_at_least w.first-item.is test
    ])
