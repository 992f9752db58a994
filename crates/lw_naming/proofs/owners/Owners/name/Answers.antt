use Rattle.std.proofs.Common.{◌≤◌, None, refl, get_or, sym, ap, ◌∙◌, arith, length}
use Rattle.std.proofs.lemmas.List.{get_or_past}
use Rattle.lw_naming.proofs.NamesGiven.{no_owner, an_owner}
use Rattle.lw_naming.proofs.owners.Owners.name.Goals as goal

pub returns-in_err-first : goal.returns-in_err-first
returns-in_err-first c =
    let self = c.args.self.now in
    let list = c.deref.ensures.value in
    let past : length self.firsts.items ≤ c.args.class.0 = omega (arith, ap length list, c.in_err-first.ensures.lookup.3) in
    let none = no_owner self.firsts.items self.outputs.now self.roots.now self.are self.one_root c.args.class.0 None (sym (get_or_past self.firsts.items c.args.class.0 None past)) refl in
    rw c.from_residual.ensures none

pub returns-in_err-output : goal.returns-in_err-output
returns-in_err-output c =
    let self = c.args.self.now in
    let at = c.in_ok-first.ensures.lookup.3.1 None ∙ ap (λ l. get_or l c.args.class.0 None) c.deref.ensures.value in
    let none = no_owner self.firsts.items self.outputs.now self.roots.now self.are self.one_root c.args.class.0 c.in_ok-first.first.now at c.in_err-output.was in
    rw c.from_residual-in_err-output.ensures none

pub get-requires-2 : goal.get-requires-2
get-requires-2 c =
    let self = c.args.self.now in
    let at = c.in_ok-first.ensures.lookup.3.1 None ∙ ap (λ l. get_or l c.args.class.0 None) c.deref.ensures.value in
    (an_owner self.firsts.items self.outputs.now self.roots.now self.are self.one_root c.args.class.0 c.in_ok-first.first.now at c.in_ok-output.output c.in_ok-output.was).0

pub returns : goal.returns
returns c =
    let self = c.args.self.now in
    let at = c.in_ok-first.ensures.lookup.3.1 None ∙ ap (λ l. get_or l c.args.class.0 None) c.deref.ensures.value in
    (an_owner self.firsts.items self.outputs.now self.roots.now self.are self.one_root c.args.class.0 c.in_ok-first.first.now at c.in_ok-output.output c.in_ok-output.was).1 ∙ c.get-2.ensures
