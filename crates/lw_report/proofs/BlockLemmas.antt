-- Blocks of vectors.
use Rattle.std.proofs.Common.{ℕ, ◌+◌, ◌-◌, ◌<◌, ◌≡◌, ◌≢◌, ◌^◌, Bool, false, List, [], ◌∷◌, ◌++◌, All, Some, length, map, take, set, get_or, slice_get, refl, sym, ap, ap₂, subst, ◌∙◌, arith, append-nil, append_assoc}
use Rattle.std.specs.Prelude.{slice_index}
use Rattle.std.specs.List.{range_with_len}
use Rattle.std.specs.Vec.{with_items}
use Rattle.std.proofs.lemmas.Grind.{flat_map-append}
use Rattle.std.proofs.lemmas.List.{ext_get_or, get_or-map, get_or_default, length-map, length-set, length_push, get_or_push, take_all, take_more, take_more_set, with_items_is}
use Rattle.std.proofs.lemmas.List.Elements.{All-get_or}
use Rattle.std.proofs.lemmas.List.FromFn.{map-range_with_len_more, get_or-map-range_with_len, length-map-range_with_len}
use Rattle.std.proofs.lemmas.Option.{slice_get-get_or, same_Some, none-some}
use Rattle.lw_genlib.specs.Words.{bit}
use Rattle.lw_report.specs.declared.block.Block.{Block}
use Rattle.lw_report.specs.Blocks.{bits_at, block_vectors, vectors_in, IsBlock, HasRoom}
use Rattle.lw_report.specs.Marking.{marked}
use Rattle.lw_report.specs.Vectors.{is_one}
use Rattle.lw_report.proofs.Bits.{bit_marked, bit_marked-other, marked_low}

-- a value of a net in one vector
pub bits_read : (k : ℕ) (words : List ℕ) (i : ℕ) → i < length words → get_or (bits_at k words) i false ≡ bit k (get_or words i 0)
bits_read k words i below = get_or-map (bit k) words i 0 false below

-- functions that agree on the numbers below n
pub map_below : {X : Type 0} (f h : ℕ → X) (n : ℕ) (d : X) → ((k : ℕ) → k < n → f k ≡ h k) → map f (range_with_len 0 n) ≡ map h (range_with_len 0 n)
map_below f h n d same =
    let one = length-map-range_with_len f 0 n in
    let two = length-map-range_with_len h 0 n in
    ext_get_or d (map f (range_with_len 0 n)) (map h (range_with_len 0 n)) (one ∙ sym two) (λ i below. let lower : i < n = subst (λ m. i < m) one below in get_or-map-range_with_len f 0 n i i d lower (omega arith) ∙ (same i lower ∙ sym (get_or-map-range_with_len h 0 n i i d lower (omega arith))))

-- The words of a block with one more vector.
pub record AreMarked (k : ℕ) (old new digits : List ℕ) : Type 0 where
  pub old_length : length old ≡ length digits
  pub new_length : length new ≡ length digits
  pub low : All (λ w. w < 2 ^ k) old
  pub each : (i : ℕ) → i < length digits → slice_index new i ≡ marked k (slice_index old i) (slice_index digits i)

at_zero : (k : ℕ) (words : List ℕ) (i : ℕ) → All (λ w. w < 2 ^ k) words → i < length words → get_or words i 0 < 2 ^ k
at_zero k words i low below = All-get_or (λ w. w < 2 ^ k) words i 0 below low

pub new_bits : (k : ℕ) (old new digits : List ℕ) → AreMarked k old new digits → bits_at k new ≡ map is_one digits
new_bits k old new digits m =
    ext_get_or false (bits_at k new) (map is_one digits) (length-map new (bit k) ∙ (m.new_length ∙ sym (length-map digits is_one))) at
  where
    at : (i : ℕ) → i < length (bits_at k new) → get_or (bits_at k new) i false ≡ get_or (map is_one digits) i false
    at i below =
        let in_new : i < length new = subst (λ n. i < n) (length-map new (bit k)) below in
        let in_digits : i < length digits = omega (arith, m.new_length) in
        let in_old : i < length old = omega (arith, m.old_length) in
        bits_read k new i in_new ∙ (ap (bit k) (m.each i in_digits) ∙ (bit_marked k (get_or old i 0) (get_or digits i 0) (at_zero k old i m.low in_old) ∙ sym (get_or-map is_one digits i 0 false in_digits)))

pub old_bits : (k j : ℕ) (old new digits : List ℕ) → j ≢ k → AreMarked k old new digits → bits_at j new ≡ bits_at j old
old_bits k j old new digits apart m =
    ext_get_or false (bits_at j new) (bits_at j old) (length-map new (bit j) ∙ (m.new_length ∙ (sym m.old_length ∙ sym (length-map old (bit j))))) at
  where
    at : (i : ℕ) → i < length (bits_at j new) → get_or (bits_at j new) i false ≡ get_or (bits_at j old) i false
    at i below =
        let in_new : i < length new = subst (λ n. i < n) (length-map new (bit j)) below in
        let in_digits : i < length digits = omega (arith, m.new_length) in
        let in_old : i < length old = omega (arith, m.old_length) in
        bits_read j new i in_new ∙ (ap (bit j) (m.each i in_digits) ∙ (bit_marked-other k j (get_or old i 0) (get_or digits i 0) apart ∙ sym (bits_read j old i in_old)))

pub new_low : (k : ℕ) (old new digits : List ℕ) → AreMarked k old new digits → All (λ w. w < 2 ^ (k + 1)) new
new_low k old new digits m = λ i d below.
    let in_digits : i < length digits = omega (arith, m.new_length) in
    let in_old : i < length old = omega (arith, m.old_length) in
    let small = marked_low k (get_or old i 0) (get_or digits i 0) (at_zero k old i m.low in_old) in
    subst (λ w. w < 2 ^ (k + 1)) (sym (get_or_default new i d 0 below ∙ m.each i in_digits)) small

pub one_more_vector : (k : ℕ) (old new digits : List ℕ) → AreMarked k old new digits → map (λ j. bits_at j new) (range_with_len 0 (k + 1)) ≡ map (λ j. bits_at j old) (range_with_len 0 k) ++ map is_one digits ∷ []
one_more_vector k old new digits m =
    let kept = map_below (λ j. bits_at j new) (λ j. bits_at j old) k [] (λ j below. let apart : j ≢ k = omega arith in old_bits k j old new digits apart m) in
    map-range_with_len_more (λ j. bits_at j new) 0 k k (omega arith) ∙ ap₂ (λ (a b : List (List Bool)). a ++ b) kept (ap (λ v. v ∷ []) (new_bits k old new digits m))

-- the words of a block after its bits were set
pub written : (block : Block) (lent new digits : List ℕ) → IsBlock (length digits) block → lent ≡ block.words.items → length new ≡ length lent → ((i : ℕ) → i < length digits → slice_index new i ≡ marked block.count (slice_index lent i) (slice_index digits i)) → AreMarked block.count block.words.items (with_items block.words new).items digits
written block lent new digits is same size each =
    let one : length lent ≡ length digits = ap (λ (xs : List ℕ). length xs) same ∙ is.one_each in
    let len : block.words.len ≡ length block.words.items = block.words.ok.0 in
    let back : (with_items block.words new).items ≡ new = with_items_is block.words new (size ∙ (one ∙ (sym is.one_each ∙ sym len))) in
    record {
      old_length = is.one_each;
      new_length = ap (λ (xs : List ℕ). length xs) back ∙ (size ∙ one);
      low = is.clear;
      each = λ i below. ap (λ (xs : List ℕ). slice_index xs i) back ∙ (each i below ∙ ap (λ (xs : List ℕ). marked block.count (slice_index xs i) (slice_index digits i)) same);
    }

-- The last block of a list.

last_front : (blocks : List Block) (b : Block) (y : Block) → 0 < length blocks → slice_get blocks (length blocks - 1) ≡ Some b → vectors_in (set blocks (length blocks - 1) y) ≡ vectors_in (take (length blocks - 1) blocks) ++ block_vectors y
last_front blocks b y some at =
    let i = length blocks - 1 in
    let below : i < length blocks = omega arith in
    let size : length (set blocks i y) ≡ i + 1 = length-set blocks i y ∙ omega arith in
    let all : set blocks i y ≡ take (i + 1) (set blocks i y) = sym (take_all (i + 1) (set blocks i y) (omega (arith, size))) in
    ap vectors_in (all ∙ take_more_set blocks i y below) ∙ (flat_map-append block_vectors (take i blocks) (y ∷ []) ∙ ap (λ vs. vectors_in (take i blocks) ++ vs) (append-nil (block_vectors y)))

-- the last block has one more vector
pub last_more : (blocks : List Block) (b y : Block) (v : List Bool) → 0 < length blocks → slice_get blocks (length blocks - 1) ≡ Some b → block_vectors y ≡ block_vectors b ++ v ∷ [] → vectors_in (set blocks (length blocks - 1) y) ≡ vectors_in blocks ++ v ∷ []
last_more blocks b y v some at is =
    let i = length blocks - 1 in
    let below : i < length blocks = omega arith in
    let read : b ≡ get_or blocks i b = same_Some b (get_or blocks i b) (sym at ∙ slice_get-get_or blocks i b below) in
    let whole : blocks ≡ take i blocks ++ b ∷ [] = sym (take_all (i + 1) blocks (omega arith)) ∙ (take_more blocks i b below ∙ ap (λ x. take i blocks ++ x ∷ []) (sym read)) in
    let before : vectors_in blocks ≡ vectors_in (take i blocks) ++ block_vectors b = ap vectors_in whole ∙ (flat_map-append block_vectors (take i blocks) (b ∷ []) ∙ ap (λ vs. vectors_in (take i blocks) ++ vs) (append-nil (block_vectors b))) in
    last_front blocks b y some at ∙ (ap (λ vs. vectors_in (take i blocks) ++ vs) is ∙ (sym (append_assoc (vectors_in (take i blocks)) (block_vectors b) (v ∷ [])) ∙ ap (λ vs. vs ++ v ∷ []) (sym before)))

-- a block with room at the end
pub room_behind : (blocks : List Block) (y : Block) → y.count < 64 → HasRoom (blocks ++ y ∷ [])
room_behind blocks y few =
    let size : length (blocks ++ y ∷ []) ≡ length blocks + 1 = length_push blocks y in
    let i = length (blocks ++ y ∷ []) - 1 in
    let last : i ≡ length blocks = omega arith in
    let below : i < length (blocks ++ y ∷ []) = omega arith in
    let read : get_or (blocks ++ y ∷ []) i y ≡ y = ap (λ n. get_or (blocks ++ y ∷ []) n y) last ∙ get_or_push blocks y y (length blocks) refl in
    record { last = y; at = slice_get-get_or (blocks ++ y ∷ []) i y below ∙ ap (λ b. Some b) read; room = few }

-- there is a last block
pub room_some : (blocks : List Block) → HasRoom blocks → 0 < length blocks
room_some [] room = absurd (none-some room.last room.at)
room_some (b ∷ blocks) room = omega arith
