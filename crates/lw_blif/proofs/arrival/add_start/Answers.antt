use Rattle.std.proofs.Common.{◌++◌, ap, sym, ◌∙◌, subst, List}
use Rattle.lw_frame.specs.Starts.{Arrival}
use Rattle.lw_frame.specs.Standing.{StandsFor}
use Rattle.lw_blif.specs.LineFaults.{times_for}
use Rattle.lw_blif.proofs.Arriving.{arrival-left, arrivals-own, arrivals-every, own-long, said-times, said-wanted}
use Rattle.lw_blif.proofs.Models.{words_early}
use Rattle.lw_blif.proofs.arrival.add_start.Goals as goal

pub get-requires : goal.get-requires
get-requires c =
    let line = c.args.line.now in
    own-long line.command line.words.now c.in-Arrival.is (said-wanted line.command line.words.now c.args.start c.requires)

pub returns-in_ok-set-in-Arrival : goal.returns-in_ok-set-in-Arrival
returns-in_ok-set-in-Arrival c = λ lines h.
    let line = c.args.line.now in
    subst (λ (said : List Arrival). StandsFor c.set.new.self (lines ++ said))
    (arrivals-own line.command line.words.now c.args.start c.in_ok-name-in-Arrival.name c.in-Arrival.is (said-times line.command line.words.now c.args.start c.requires) (c.get.ensures.word ∙ ap Rattle.std.proofs.Common.Some (sym c.in_ok-name-in-Arrival.ensures)))
    (c.in_ok-set-in-Arrival.ensures lines h)

pub returns-in_default : goal.returns-in_default
returns-in_default c = λ lines h.
    let line = c.args.line.now in
    subst (λ (said : List Arrival). StandsFor c.set_every.new.self (lines ++ said))
    (arrivals-every line.command line.words.now c.args.start (arrival-left line.command line.arrival c.in_default.not-Arrival) (said-times line.command line.words.now c.args.start c.requires))
    (c.set_every.ensures lines h)

pub set-requires : goal.set-requires
set-requires c =
    let line = c.args.line.now in
    words_early (times_for line.command line.words.now) c.args.start (said-times line.command line.words.now c.args.start c.requires)

pub set_every-requires : goal.set_every-requires
set_every-requires c =
    let line = c.args.line.now in
    words_early (times_for line.command line.words.now) c.args.start (said-times line.command line.words.now c.args.start c.requires)
