-- The sources as sides, and what comes of their comparison.
use Rattle.std.proofs.Common.{ℕ, ◌≡◌, ◌≤◌, ◌<◌, ◌+◌, ◌-◌, ◌∙◌, List, [], ◌∷◌, ◌++◌, length, take, drop, get_or, map, All, Some, Ok, Err, refl, sym, ap, subst, arith}
use Rattle.std.proofs.lemmas.List.{length-drop, take_all, take_more}
use Rattle.std.proofs.lemmas.List.Elements.{All-push, All-get_or, All-drop}
use Rattle.std.proofs.lemmas.Slice.Zip.{AllZip-long, all_zipped_more}
use Rattle.lw_genlib.specs.Cells.{CellParts}
use Rattle.lw_net.specs.Networks as net
use Rattle.lw_netlist.specs.Netlists as netlist
use Rattle.lw_equal.specs.declared.answer.Answer.{Answer}
use Rattle.lw_equal.specs.declared.answer.Answer.TheVariants.{Equal, Differ, Undecided}
use Rattle.lw_equal.specs.declared.answer.Fault.{Fault}
use Rattle.lw_equal.specs.declared.answer.Fault.TheVariants as fault
use Rattle.lw_equal.specs.declared.side.Logic.{Logic}
use Rattle.lw_equal.specs.declared.side.Logic.TheVariants.{Rows, Cells}
use Rattle.lw_equal.specs.declared.side.Side.{Side}
use Rattle.lw_equal.specs.Answers.{HasFault, IsAnswer}
use Rattle.lw_equal.specs.Sides.{inputs_of}
use Rattle.lw_equal_top.specs.declared.source.Source.{Source}
use Rattle.lw_equal_top.specs.declared.source.Source.TheVariants.{Network, Netlist}
use Rattle.lw_equal_top.specs.Compared.{ComesTo, IsAnswerFor, Sides}
use Rattle.lw_equal_top.specs.Outcomes.{names_in}
use Rattle.lw_equal_top.specs.Sources.{AreSides, IsLogicOf, IsSideOf, input_names}
use Rattle.lw_equal_top.specs.Statuses.{compare_refusal}
use Rattle.lw_equal_top.specs.Texts.{HasValues}

module _ (cells : List CellParts) where
  -- one more source as a side
  pub one_more : (sources : List Source) (i : ℕ) (d : Source) (sides : List Side) (side : Side) → i < length sources → AreSides cells (take i sources) sides → IsSideOf cells (get_or sources i d) side → AreSides cells (take (i + 1) sources) (sides ++ side ∷ [])
  one_more sources i d sides side within are is =
      subst (λ (ss : List Source). AreSides cells ss (sides ++ side ∷ [])) (sym (take_more sources i d within))
      (all_zipped_more (IsSideOf cells) (take i sources) sides (get_or sources i d) side are is)

  pub as_many : (sources : List Source) (sides : List Side) → AreSides cells sources sides → length sides ≡ length sources
  as_many sources sides are = AllZip-long (IsSideOf cells) sources sides are

  -- the answer for the first two sides is one for the first two sources
  pub answered : (sources : List Source) (sides : List Side) (d e : Side) (answer : Answer) → 2 ≤ length sides → AreSides cells sources sides → IsAnswer (get_or sides 0 d) (get_or sides 1 e) answer → IsAnswerFor cells sources answer
  answered sources [] d e answer two are is = absurd (omega (arith, two))
  answered sources (one ∷ []) d e answer two are is = absurd (omega (arith, two))
  answered sources (one ∷ other ∷ more) d e answer two are is = record {
    sides = record { one = one; other = other; more = more; are = are };
    right = is;
  }

  -- and so is their first fault
  pub refused : (sources : List Source) (sides : List Side) (d e : Side) (why : Fault) → 2 ≤ length sides → AreSides cells sources sides → HasFault (get_or sides 0 d) (get_or sides 1 e) (drop 2 sides) why → ComesTo cells sources (Err (compare_refusal why))
  refused sources sides d e fault.Memory two are is = tt
  refused sources [] d e (fault.Ports p) two are is = absurd (omega (arith, two))
  refused sources (one ∷ []) d e (fault.Ports p) two are is = absurd (omega (arith, two))
  refused sources (one ∷ other ∷ more) d e (fault.Ports p) two are is = record {
    sides = record { one = one; other = other; more = more; are = are };
    first = is;
  }

  -- a side has the inputs of its source
  same_inputs : (source : Source) (logic : Logic) → IsLogicOf cells source logic → inputs_of logic ≡ input_names source
  same_inputs (Network model) (Rows n) is = ap net.input_names is
  same_inputs (Network model) (Cells n library) is = absurd is
  same_inputs (Netlist mapped) (Rows n) is = absurd is
  same_inputs (Netlist mapped) (Cells n library) is = ap (λ (p : netlist.NetlistParts). take p.inputs p.names) is.0

  -- each input of the first source has its value
  pub have_values : (sources : List Source) (answer : Answer) → IsAnswerFor cells sources answer → (0 < length sources) × HasValues (names_in sources) answer
  have_values [] answer is = absurd is.sides.are
  have_values (source ∷ sources) Equal is = (omega arith, tt)
  have_values (source ∷ sources) (Undecided points) is = (omega arith, tt)
  have_values (source ∷ sources) (Differ d) is = (omega arith, subst (λ (names : List (List ℕ)). length d.inputs.items ≡ length names) (same_inputs source is.sides.one.logic is.sides.are.0.logic) is.right.claims.one_each)

-- all sides but the first two
pub all_but_two : (xs ys : List Side) → xs ≡ ys → take (length xs - 2) (drop 2 xs) ≡ drop 2 ys
all_but_two xs ys same =
    let long = length-drop 2 xs in
    take_all (length xs - 2) (drop 2 xs) (omega (arith, long)) ∙ ap (drop 2) same

-- the names of the inputs of the first source
pub first_names : (sources : List Source) (d : Source) → 0 < length sources → input_names (get_or sources 0 d) ≡ names_in sources
first_names [] d some = absurd (omega (arith, some))
first_names (source ∷ sources) d some = refl
