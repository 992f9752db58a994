-- Lines of small texts.
use Rattle.std.proofs.Common.{◌≡◌, List, [], ◌∷◌, ◌++◌, true, false, refl}
use Rattle.std.specs.Prelude.{codes}
use Rattle.lw_words.specs.Lines.{LogicalLine, logical_lines, finished_lines}

abbrev network : List LogicalLine
network =
    record { number = 1; long = false; words = codes ".model" ∷ codes "and3" ∷ [] }
    ∷ record { number = 2; long = false; words = codes ".inputs" ∷ codes "a" ∷ codes "b" ∷ codes "c" ∷ [] }
    ∷ record { number = 4; long = false; words = codes "111" ∷ codes "1" ∷ [] } ∷ []

-- lines in two parts, line ends with a carriage return, a comment that ends in `\`, and no last line end
of_parts : logical_lines false (codes ".model and3" ++ 13 ∷ 10 ∷ codes ".inputs a \\" ++ 10 ∷ codes "b c # x \\" ++ 10 ∷ codes "111 1") ≡ network
unfolding logical_lines
of_parts = refl

-- where the text may go on, its last line is not finished
of_first_parts : finished_lines false (codes ".model and3" ++ 13 ∷ 10 ∷ codes ".inputs a \\" ++ 10 ∷ codes "b c # x \\" ++ 10 ∷ codes "111 1") ≡
    record { number = 1; long = false; words = codes ".model" ∷ codes "and3" ∷ [] }
    ∷ record { number = 2; long = false; words = codes ".inputs" ∷ codes "a" ∷ codes "b" ∷ codes "c" ∷ [] } ∷ []
unfolding finished_lines
of_first_parts = refl

-- a line that is continued is not finished
of_continued : finished_lines false (codes "a \\" ++ 10 ∷ []) ≡ []
unfolding finished_lines
of_continued = refl

-- a mark is kept where its line begins a logical line, and in the marked reading alone
of_marks : logical_lines true (codes "#@ net n 4 # x" ++ 10 ∷ codes "a \\" ++ 10 ∷ codes "#@ b" ++ 10 ∷ codes "#@b") ≡
    record { number = 1; long = false; words = codes "#@" ∷ codes "net" ∷ codes "n" ∷ codes "4" ∷ [] }
    ∷ record { number = 2; long = false; words = codes "a" ∷ [] } ∷ []
unfolding logical_lines
of_marks = refl

of_no_marks : logical_lines false (codes "#@ net n 4" ++ 10 ∷ []) ≡ []
unfolding logical_lines
of_no_marks = refl

-- a `\` within a word stays, and only the last is a continuation
of_strokes : logical_lines false (codes "a\\b c\\ d\\\\" ++ 10 ∷ codes "e") ≡ record { number = 1; long = false; words = codes "a\\b" ∷ codes "c\\" ∷ codes "d\\" ∷ codes "e" ∷ [] } ∷ []
unfolding logical_lines
of_strokes = refl

-- a continuation at the end ends with a blank
of_last : logical_lines false (codes "a\\\\") ≡ record { number = 1; long = false; words = codes "a\\" ∷ [] } ∷ []
unfolding logical_lines
of_last = refl
