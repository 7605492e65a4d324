-- The program's line, in ASCII.
use Rattle.std.specs.Prelude.{ℕ, zero, suc, ◌/◌, ◌%◌, cond, List, [], ◌∷◌, ◌++◌, ltb}
use Rattle.io.specs.Digits.{hex_digit_ascii}
use Rattle.refusal.specs.declared.Refusal.{Refusal}
use Rattle.refusal.specs.Table.{number_of, place_of}
use Rattle.stats.specs.declared.CorrectionStats.{CorrectionStats}

-- the decimal digits of n, which has at most k
unfoldable pub decimal_from : ℕ → ℕ → List ℕ
decimal_from zero n = []
decimal_from (suc k) n = cond (ltb n 10) (hex_digit_ascii n ∷ []) (decimal_from k (n / 10) ++ (hex_digit_ascii (n % 10) ∷ []))

-- a blank, then a number below 10 ^ 20
abbrev pub spaced : ℕ → List ℕ
spaced n = 32 ∷ decimal_from 20 n

-- numbers, each behind a blank
unfoldable pub all_spaced : List ℕ → List ℕ
all_spaced [] = []
all_spaced (n ∷ ns) = spaced n ++ all_spaced ns

-- `ok`, records, pairs, pairs overlapping, and the growth of the four counts
abbrev pub done_text : ℕ → ℕ → ℕ → CorrectionStats → List ℕ
done_text records pairs overlapping g =
    (111 ∷ 107 ∷ []) ++ spaced records ++ spaced pairs ++ spaced overlapping
    ++ (spaced g.overlapping ++ spaced g.agreeing ++ spaced g.disagreeing ++ spaced g.corrected) ++ (10 ∷ [])

-- `done`, records and the growth of the four counts
abbrev pub already_text : ℕ → CorrectionStats → List ℕ
already_text records g =
    (100 ∷ 111 ∷ 110 ∷ 101 ∷ []) ++ spaced records
    ++ (spaced g.overlapping ++ spaced g.agreeing ++ spaced g.disagreeing ++ spaced g.corrected) ++ (10 ∷ [])

-- `no`, number and place
abbrev pub refusal_text : Refusal → List ℕ
refusal_text r = (110 ∷ 111 ∷ []) ++ spaced (number_of r) ++ spaced (place_of r) ++ (10 ∷ [])
