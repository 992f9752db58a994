use Rattle.std.proofs.Common.{◌≡◌, ◌∙◌, ◌∷◌, ◌++◌, ◌<◌, ◌/◌, [], refl, subst, ap, length, List, ℕ, arith}
use Rattle.std.proofs.lemmas.List.{length-append}
use Rattle.std.proofs.lemmas.Result.{IfOk-from_err}
use Rattle.lw_form.specs.Tables.{AreBelow, made}
use Rattle.lw_form.proofs.Joining.{more_length, more_twice}
use Rattle.lw_form.proofs.FactoringSteps.{below_front, below_last, join_made, work_joined}
use Rattle.lw_form.proofs.maker.Maker.join.Goals as goal

front_below : (n : ℕ) (done front : List ℕ) (x : ℕ) → done ≡ front ++ x ∷ [] → AreBelow n done → AreBelow n front
front_below n done front x e a = below_front n front (x ∷ []) (subst (AreBelow n) e a)

last_below : (n : ℕ) (done front : List ℕ) (x : ℕ) → done ≡ front ++ x ∷ [] → AreBelow n done → x / 2 < n
last_below n done front x e a = below_last n front x (subst (AreBelow n) e a)

pub conjunction-requires : goal.conjunction-requires
conjunction-requires c = (c.requires.literal, (last_below _ c.last-others.new.done.items c.last-having.new.done.items c.last-having.result c.last-having.ensures (front_below _ c.args.work.now.done.items c.last-others.new.done.items c.last-others.result c.last-others.ensures c.requires.below), tt))

pub disjunction-requires : goal.disjunction-requires
disjunction-requires c = (c.in_ok-both.ensures.within, (let lt = last_below _ c.args.work.now.done.items c.last-others.new.done.items c.last-others.result c.last-others.ensures c.requires.below in let le = more_length _ _ c.in_ok-both.ensures.more in omega arith, tt))

pub returns : goal.returns
returns c = record {
  working = λ fanins fs goals w.
      work_joined c.args.self.now.width fs fanins goals c.args.table.now c.disjunction.new.table c.args.work.now.tasks.items c.args.work.now.done.items c.push.new.self.items c.last-having.new.done.items c.args.literal c.last-having.result c.last-others.result c.in_ok-form.form w (c.last-others.ensures ∙ ap (λ l. l ++ c.last-others.result ∷ []) c.last-having.ensures)
      (join_made c.args.self.now.width c.args.table.now c.conjunction.new.table c.disjunction.new.table c.args.literal c.last-having.result c.last-others.result c.in_ok-both.both c.in_ok-form.form c.in_ok-both.ensures c.in_ok-form.ensures (last_below _ c.args.work.now.done.items c.last-others.new.done.items c.last-others.result c.last-others.ensures c.requires.below))
      c.in_ok-push.ensures.items;
  same = refl;
  more = more_twice (made c.args.table.now) (made c.conjunction.new.table) (made c.disjunction.new.table) c.in_ok-both.ensures.more c.in_ok-form.ensures.more;
}

pub last-others-requires : goal.last-others-requires
last-others-requires c = let two = c.requires.two in omega arith

pub last-having-requires : goal.last-having-requires
last-having-requires c = let e = ap length c.last-others.ensures in let a = length-append c.last-others.new.done.items (c.last-others.result ∷ []) in let two = c.requires.two in omega arith

pub returns-in_err-both : goal.returns-in_err-both
returns-in_err-both c = IfOk-from_err _ _ c.from_residual.ensures.0

pub returns-in_err-form : goal.returns-in_err-form
returns-in_err-form c = IfOk-from_err _ _ c.from_residual-in_err-form.ensures.0

pub returns-in_err-push : goal.returns-in_err-push
returns-in_err-push c = IfOk-from_err _ _ c.from_residual-in_err-push.ensures.0
