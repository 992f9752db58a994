-- What all assignments of few inputs tell of a graph.
use Rattle.std.proofs.Common.{ℕ, zero, suc, ◌+◌, ◌-◌, ◌*◌, ◌%◌, ◌<◌, ◌≤◌, ◌≡◌, ◌≢◌, Bool, not, ◌&&◌, ◌^◌, if◌then◌else◌, Some, List, length, set, get_or, slice_get, get_or-set_other, get_or-set_same, All, refl, ap, ap₂, sym, subst, ◌∙◌, arith}
use Rattle.std.specs.Int.{bit_not, w64}
use Rattle.std.proofs.lemmas.Bool.{ne_eqb}
use Rattle.std.proofs.lemmas.List.{get_or_default}
use Rattle.std.proofs.lemmas.Option.{get_or_from_slice_get, slice_get-get_or, slice_get_within}
use native.Mathlib.Decide.{dec_lt}
use Rattle.lw_aig.specs.declared.gate.Gate.{Gate}
use Rattle.lw_aig.specs.declared.gate.Gate.TheVariants.{Zero, Input, And}
use Rattle.lw_aig.specs.declared.literal.Literal.{Literal}
use Rattle.lw_aig.specs.Aigs.{Allows, AreNodeValues, IsAig, IsBelow, IsLater}
use Rattle.lw_aig.specs.Literals.{literal_value, node_of}
use Rattle.lw_aig.proofs.Literals.{value_agrees}
use Rattle.lw_genlib.specs.Words.{bit, block_count}
use Rattle.lw_genlib.proofs.Bits.{bit_not_is}
use Rattle.lw_equal.specs.declared.trying.Ends.{Ends}
use Rattle.lw_equal.specs.Trying.{AgreeIn, AreBelow, AreBlockWords, ArePairsEqual, IsFirst, HasFewInputs, IsWordOf, block_value, literal_bit, most_tried}
use Rattle.lw_equal.proofs.Numbered.{each_has_number}

-- the word of a literal that is a complement
pub turned_bits : (words : List ℕ) (k : ℕ) (l : Literal) → k < 64 → get_or words (node_of l) 0 < 2 ^ 64 → l.0 % 2 ≢ 0 → bit k (bit_not w64 (get_or words (node_of l) 0)) ≡ literal_bit words k l
turned_bits words k l lt small odd =
    bit_not_is k lt (get_or words (node_of l) 0) small
    ∙ sym (ap (λ e. if e then bit k (get_or words (node_of l) 0) else not (bit k (get_or words (node_of l) 0))) (ne_eqb (l.0 % 2) 0 odd))

-- The values of the inputs give those of all nodes.
module _ (gates : List Gate) (aig : IsAig gates) (v w : ℕ → Bool) (first : AreNodeValues gates v) (second : AreNodeValues gates w) (inputs : (n : ℕ) → slice_get gates n ≡ Some Input → v n ≡ w n) where
  by_gate : (n : ℕ) (gate : Gate) → slice_get gates n ≡ Some gate → ((m : ℕ) → m < n → v m ≡ w m) → v n ≡ w n
  by_gate n Zero at earlier = first.allowed n Zero at ∙ sym (second.allowed n Zero at)
  by_gate n Input at earlier = inputs n at
  by_gate n (And a b) at earlier =
      let later = aig.in_order n (And a b) at in
      first.allowed n (And a b) at
      ∙ (ap₂ (λ s t. s && t) (value_agrees v w a (earlier (node_of a) later.0)) (value_agrees v w b (earlier (node_of b) later.1))
      ∙ sym (second.allowed n (And a b) at))

  below_all : (bound n : ℕ) → n < bound → n < length gates → v n ≡ w n
  below_all zero n lt within = absurd (omega arith)
  below_all (suc bound) n lt within =
      by_gate n (get_or gates n Zero) (slice_get-get_or gates n Zero within) (λ m low. below_all bound m (omega arith) (omega arith))

  pub same_nodes : (n : ℕ) → n < length gates → v n ≡ w n
  same_nodes n within = below_all (n + 1) n (omega arith) within

-- Words.

-- words of nodes from there on do not matter to a literal before it
literal_stays : (words : List ℕ) (node word k : ℕ) (l : Literal) → IsBelow node l → literal_bit (set words node word) k l ≡ literal_bit words k l
literal_stays words node word k l low =
    let other : node_of l ≢ node = omega arith in
    value_agrees (block_value (set words node word) k) (block_value words k) l (ap (bit k) (get_or-set_other words node (node_of l) word 0 other))

word_stays : (gate : Gate) (n node block word : ℕ) (words : List ℕ) (w k : ℕ) → IsLater gate n → n ≤ node → IsWordOf gate n block words w k → IsWordOf gate n block (set words node word) w k
word_stays Zero n node block word words w k later le is = is
word_stays Input n node block word words w k later le is = is
word_stays (And a b) n node block word words w k later le is =
    let low = later.0 in
    let low' = later.1 in
    is ∙ ap₂ (λ s t. s && t) (sym (literal_stays words node word k a (omega arith))) (sym (literal_stays words node word k b (omega arith)))

-- The nodes before one have their words.
pub record AreWordsTo (gates : List Gate) (node block : ℕ) (words : List ℕ) : Type 0 where
  pub each : (n k : ℕ) (gate : Gate) → n < node → k < 64 → slice_get gates n ≡ Some gate → IsWordOf gate n block words (get_or words n 0) k

pub no_words : (gates : List Gate) (block : ℕ) (words : List ℕ) → AreWordsTo gates 0 block words
no_words gates block words = record { each = λ n k gate lt kl at. absurd (omega arith) }

pub word_more : (gates : List Gate) (node block word : ℕ) (words : List ℕ) (gate : Gate) → IsAig gates → length words ≡ length gates → slice_get gates node ≡ Some gate → AreWordsTo gates node block words
    → ((k : ℕ) → k < 64 → IsWordOf gate node block words word k) → AreWordsTo gates (node + 1) block (set words node word)
word_more gates node block word words gate aig one at are is = record { each = λ n k g lt kl at'. by n k g (dec_lt n node) lt kl at' }
  where
    same_gate : (a b : Gate) → Some a ≡ Some b → a ≡ b
    same_gate a b e = cc

    by : (n k : ℕ) (g : Gate) → Dec (n < node) → n < node + 1 → k < 64 → slice_get gates n ≡ Some g → IsWordOf g n block (set words node word) (get_or (set words node word) n 0) k
    by n k g (yes low) lt kl at' =
        let other : n ≢ node = omega arith in
        subst (λ w. IsWordOf g n block (set words node word) w k) (sym (get_or-set_other words node n word 0 other))
        (word_stays g n node block word words (get_or words n 0) k (aig.in_order n g at') (omega arith) (are.each n k g low kl at'))
    by n k g (no high) lt kl at' =
        let same : node ≡ n = omega arith in
        let inside : node < length words = let within = slice_get_within gates node gate at in omega arith in
        let gate_is : gate ≡ g = same_gate gate g (sym at ∙ (ap (slice_get gates) same ∙ at')) in
        let here : IsWordOf gate node block (set words node word) word k = word_stays gate node node block word words word k (aig.in_order node gate at) (omega arith) (is k kl) in
        subst (λ m. IsWordOf g m block (set words node word) (get_or (set words node word) m 0) k) same
        (subst (λ w. IsWordOf g node block (set words node word) w k) (sym (get_or-set_same words node word 0 inside))
        (subst (λ h. IsWordOf h node block (set words node word) word k) gate_is here))

pub words_of_all : (gates : List Gate) (node block : ℕ) (words : List ℕ) → length words ≡ length gates → length gates ≤ node → AreWordsTo gates node block words → AreBlockWords gates block words
words_of_all gates node block words one past are = record {
  one_each = one;
  nodes = λ k kl. record { allowed = λ n gate at. by n k gate kl at };
  inputs = λ k i kl few at. are.each (i + 1) k Input (let within = slice_get_within gates (i + 1) Input at in omega arith) kl at i few refl;
}
  where
    by : (n k : ℕ) (gate : Gate) → k < 64 → slice_get gates n ≡ Some gate → Allows gate (block_value words k) n
    by n k Zero kl at = are.each n k Zero (let within = slice_get_within gates n Zero at in omega arith) kl at
    by n k Input kl at = tt
    by n k (And a b) kl at = are.each n k (And a b) (let within = slice_get_within gates n (And a b) at in omega arith) kl at

-- in a block, all pairs agree
pub record BlockAgrees (gates : List Gate) (ends : List Ends) (block : ℕ) : Type 0 where
  pub words : List ℕ
  pub are : AreBlockWords gates block words
  pub agree : All (AgreeIn words) ends

pub one_more_block : (gates : List Gate) (ends : List Ends) (block : ℕ) → ((b : ℕ) → b < block → BlockAgrees gates ends b) → BlockAgrees gates ends block → (b : ℕ) → b < block + 1 → BlockAgrees gates ends b
one_more_block gates ends block earlier here b lt = by (dec_lt b block)
  where
    by : Dec (b < block) → BlockAgrees gates ends b
    by (yes low) = earlier b low
    by (no high) = let same : block ≡ b = omega arith in subst (BlockAgrees gates ends) same here

-- one more pair that agrees
pub agree_more : (words : List ℕ) (ends : List Ends) (i : ℕ) → i < length ends → ((j : ℕ) (d : Ends) → j < i → AgreeIn words (get_or ends j d)) → AgreeIn words (get_or ends i (record { left = record { 0 = 0 }; right = record { 0 = 0 } }))
    → (j : ℕ) (d : Ends) → j < i + 1 → AgreeIn words (get_or ends j d)
agree_more words ends i lt earlier here j d low = by (dec_lt j i)
  where
    by : Dec (j < i) → AgreeIn words (get_or ends j d)
    by (yes less) = earlier j d less
    by (no high) =
        let same : i ≡ j = omega arith in
        subst (AgreeIn words) (get_or_default ends i (record { left = record { 0 = 0 }; right = record { 0 = 0 } }) d lt ∙ ap (λ n. get_or ends n d) same) here

-- one more node that is no late input
pub first_more : (gates : List Gate) (inputs node : ℕ) → ((n : ℕ) → n < node → slice_get gates n ≡ Some Input → n ≤ inputs) → IsFirst (get_or gates node Zero) node inputs
    → (n : ℕ) → n < node + 1 → slice_get gates n ≡ Some Input → n ≤ inputs
first_more gates inputs node earlier here n low at = by (dec_lt n node)
  where
    by : Dec (n < node) → n ≤ inputs
    by (yes less) = earlier n less at
    by (no high) =
        let same : node ≡ n = omega arith in
        subst (λ g. IsFirst g n inputs) (get_or_from_slice_get gates n Input Zero at) (subst (λ m. IsFirst (get_or gates m Zero) m inputs) same here)

unlike : Some Zero ≡ Some Input → ⊥
unlike e = cc

-- An assignment of the inputs that is assignment k of a block has its values there.
module _ (gates : List Gate) (inputs : ℕ) (aig : IsAig gates) (few : inputs ≤ most_tried) (own : HasFewInputs gates inputs) (v : ℕ → Bool) (nodes : AreNodeValues gates v) (block k : ℕ) (kl : k < 64)
    (bits : (i : ℕ) → i < inputs → bit i (block * 64 + k) ≡ v (i + 1)) (words : List ℕ) (are : AreBlockWords gates block words) where
  input_same : (n : ℕ) → n ≤ inputs → slice_get gates n ≡ Some Input → v n ≡ block_value words k n
  input_same zero le at = absurd (unlike (sym aig.zero_first ∙ at))
  input_same (suc i) le at =
      let more : i + 1 ≡ suc i = omega arith in
      let at' : slice_get gates (i + 1) ≡ Some Input = ap (slice_get gates) more ∙ at in
      ap v (sym more)
      ∙ (sym (bits i (omega arith))
      ∙ (sym (are.inputs k i kl (omega arith) at') ∙ ap (block_value words k) more))

  node_same : (n : ℕ) → n < length gates → v n ≡ block_value words k n
  node_same = same_nodes gates aig v (block_value words k) nodes (are.nodes k kl) (λ n at. input_same n (own n at) at)

  pub one_in_block : (both : Ends) → AreBelow (length gates) both → literal_bit words k both.left ≡ literal_bit words k both.right → literal_value v both.left ≡ literal_value v both.right
  one_in_block both below agree =
      value_agrees v (block_value words k) both.left (node_same (node_of both.left) below.0)
      ∙ (agree ∙ sym (value_agrees v (block_value words k) both.right (node_same (node_of both.right) below.1)))

-- Pairs that agree in each block are equal.
pub pairs_equal : (gates : List Gate) (inputs : ℕ) (ends : List Ends) → IsAig gates → inputs ≤ most_tried → HasFewInputs gates inputs → All (AreBelow (length gates)) ends
    → ((block : ℕ) → block < block_count inputs → BlockAgrees gates ends block) → ArePairsEqual gates ends
pairs_equal gates inputs ends aig few own below blocks j d lt = record {
  always = λ v nodes.
      let number = each_has_number (λ i. v (i + 1)) inputs in
      let told = blocks number.block number.within in
      one_in_block gates inputs aig few own v nodes number.block number.k number.below number.bits told.words told.are (get_or ends j d) (below j d lt) (told.agree j d lt number.k number.below);
}
