use Rattle.std.proofs.Common.{◌≡◌, ◌∙◌, inl, inr, sym, true, false}
use Rattle.lw_look.proofs.Deciding.{made_covers, made_fits}
use Rattle.lw_look.proofs.look.Look.passed.Goals as goal

pub fits-requires-clause-fit : goal.fits-requires-clause-fit
fits-requires-clause-fit c =
    let right = c.in_ok-is_right_list.ensures.0 c.if-not-branch.false in
    made_fits c.args.self.now c.requires c.args.list.now right c.len.ensures.kept c.in_ok-cover.cover c.in_ok-cover.ensures

pub returns-then-branch : goal.returns-then-branch
returns-then-branch c =
    let right = c.in_ok-is_right_list.ensures.0 c.if-not-branch.false in
    let fits = c.in_ok-fits.ensures.0 c.if-branch.true in
    record {
      right = right;
      assembled = c.in_ok-cover.ensures;
      covers = made_covers c.args.self.now c.requires c.args.list.now right c.len.ensures.kept c.in_ok-cover.cover c.in_ok-cover.ensures fits.by_depth;
      fits = fits;
    }

pub returns-then-not-branch : goal.returns-then-not-branch
returns-then-not-branch c = inl (λ right. let f : false ≡ true = sym c.if-not-branch.true ∙ c.in_ok-is_right_list.ensures.1 right in absurd (cc))

pub returns : goal.returns
returns c = inr (c.in_ok-cover.cover, c.in_ok-cover.ensures, λ fits. let f : false ≡ true = sym c.if-branch.false ∙ c.in_ok-fits.ensures.1 fits in absurd (cc))
