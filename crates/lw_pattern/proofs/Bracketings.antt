-- Lists of trees, one more at a time.
use Rattle.std.proofs.Common.{ℕ, ◌+◌, ◌-◌, ◌<◌, ◌≤◌, ◌≡◌, List, [], ◌∷◌, ◌++◌, length, map, take, drop, set, get_or, min, refl, sym, ap, ap₂, ◌∙◌, append_assoc, append-nil, length-append, length-take, length-drop, arith}
use Rattle.std.proofs.lemmas.List.{take_more, drop_more, map_more, set_at, get_or_at, take_at, take_all, drop_all, length-map}
use Rattle.lw_laws.specs.Trees.{Tree}
use Rattle.lw_laws.specs.Patterns.{Operator, tree_by, each_with, all_pairs}

all_pairs_more : (op : Operator) (ts : List Tree) (t : Tree) (us : List Tree) → all_pairs op (ts ++ t ∷ []) us ≡ all_pairs op ts us ++ each_with op t us
all_pairs_more op [] t us = append-nil (each_with op t us)
all_pairs_more op (s ∷ ts) t us = ap (λ ps. each_with op s us ++ ps) (all_pairs_more op ts t us) ∙ sym (append_assoc (each_with op s us) (all_pairs op ts us) (each_with op t us))

pub pairs_next : (op : Operator) (before old new ts us : List Tree) (i : ℕ) (t : Tree) → old ≡ before ++ all_pairs op (take i ts) us → new ≡ old ++ each_with op t us → i < length ts → t ≡ get_or ts i t
    → new ≡ before ++ all_pairs op (take (i + 1) ts) us
pairs_next op before old new ts us i t e f lt here =
    f
    ∙ (ap (λ o. o ++ each_with op t us) e
    ∙ (append_assoc before (all_pairs op (take i ts) us) (each_with op t us)
    ∙ ap (λ ps. before ++ ps) (sym (ap (λ s. all_pairs op s us) (take_more ts i t lt ∙ ap (λ x. take i ts ++ x ∷ []) (sym here)) ∙ all_pairs_more op (take i ts) t us))))

-- a list whose first entries are changed, and one more
pub changed_next : (f : Tree → Tree) (items xs : List Tree) (i : ℕ) (x y : Tree) → items ≡ map f (take i xs) ++ drop i xs → i < length items → y ≡ f (get_or items i x)
    → set items i y ≡ map f (take (i + 1) xs) ++ drop (i + 1) xs
changed_next f items xs i x y e lt made =
    let size : length items ≡ length (map f (take i xs)) + length (drop i xs) = ap length e ∙ length-append (map f (take i xs)) (drop i xs) in
    let front : length (map f (take i xs)) ≡ min i (length xs) = length-map (take i xs) f ∙ length-take i xs in
    let back : length (drop i xs) ≡ length xs - i = length-drop i xs in
    let within : i < length xs = omega arith in
    let at : length (map f (take i xs)) ≡ i = omega arith in
    let split : items ≡ map f (take i xs) ++ get_or xs i x ∷ drop (i + 1) xs = e ∙ ap (λ d. map f (take i xs) ++ d) (drop_more xs i x within) in
    let same : get_or items i x ≡ get_or xs i x = ap (λ ts. get_or ts i x) split ∙ get_or_at (map f (take i xs)) (get_or xs i x) (drop (i + 1) xs) x i at in
    let whole : map f (take (i + 1) xs) ≡ map f (take i xs) ++ f (get_or xs i x) ∷ [] = map_more f xs i x within in
    ap (λ ts. set ts i y) split
    ∙ (set_at (map f (take i xs)) (get_or xs i x) (drop (i + 1) xs) y i at
    ∙ (ap (λ z. map f (take i xs) ++ z ∷ drop (i + 1) xs) (made ∙ ap f same)
    ∙ (sym (append_assoc (map f (take i xs)) (f (get_or xs i x) ∷ []) (drop (i + 1) xs)) ∙ ap (λ ts. ts ++ drop (i + 1) xs) (sym whole))))

pub changed_end : (f : Tree → Tree) (items xs inside : List Tree) (i n : ℕ) → items ≡ map f (take i xs) ++ drop i xs → length items ≤ i → length items ≡ n → take n (items ++ drop (length items) inside) ≡ map f xs
changed_end f items xs inside i n e past size =
    let all : length items ≡ length (map f (take i xs)) + length (drop i xs) = ap length e ∙ length-append (map f (take i xs)) (drop i xs) in
    let front : length (map f (take i xs)) ≡ min i (length xs) = length-map (take i xs) f ∙ length-take i xs in
    let back : length (drop i xs) ≡ length xs - i = length-drop i xs in
    let within : length xs ≤ i = omega arith in
    take_at items (drop (length items) inside) n size
    ∙ (e ∙ (ap₂ (λ ts us. map f ts ++ us) (take_all i xs within) (drop_all i xs within) ∙ append-nil (map f xs)))

-- pairs with one tree alone
pub pairs_alone : (op : Operator) (ts : List Tree) (u : Tree) → map (λ t. tree_by op t u) ts ≡ all_pairs op ts (u ∷ [])
pairs_alone op [] u = refl
pairs_alone op (t ∷ ts) u = ap (λ ps. tree_by op t u ∷ ps) (pairs_alone op ts u)
