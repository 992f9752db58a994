-- Worked names of nets, computed. The names are a, b, c, f, g, n1 and n2.
use Rattle.std.proofs.Common.{ℕ, ◌≡◌, List, [], ◌∷◌, refl, lit<}
use Rattle.std.proofs.lemmas.Fmt.{decimal_digit}
use Rattle.lw_laws.specs.Names.{net_names}

abbrev a : List ℕ
a = 97 ∷ []

abbrev b : List ℕ
b = 98 ∷ []

abbrev c : List ℕ
c = 99 ∷ []

abbrev f : List ℕ
f = 102 ∷ []

abbrev g : List ℕ
g = 103 ∷ []

abbrev n1 : List ℕ
n1 = 110 ∷ 49 ∷ []

abbrev n2 : List ℕ
n2 = 110 ∷ 50 ∷ []

-- the gates of classes 15 and 14, of which 14 is that of the output f
pub and_3_names : net_names (a ∷ b ∷ c ∷ []) (f ∷ []) (14 ∷ []) (15 ∷ 14 ∷ []) ≡ a ∷ b ∷ c ∷ n1 ∷ f ∷ []
and_3_names = rw (decimal_digit 1 (lit< tt)) refl

-- a name of an input is not given again, and of two outputs of one class the first names the gate
pub taken_names : net_names (n1 ∷ []) (f ∷ g ∷ []) (14 ∷ 14 ∷ []) (15 ∷ 14 ∷ []) ≡ n1 ∷ n2 ∷ f ∷ []
taken_names = rw (decimal_digit 1 (lit< tt), decimal_digit 2 (lit< tt)) refl
