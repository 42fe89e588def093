-- A row that was made: what its data had to be, which codes it has, and how many. Assumes nothing.
use Rattle.std.proofs.Common.{◌≡◌, ℕ, ◌+◌, ◌-◌, ◌≤◌, Bool, true, false, cond, not, eqb, leb, List, [], ◌∷◌, ◌++◌, length, replicate, sym, ap, ◌∙◌, arith, length-append, length-take-le, eqb-true}
use lib.ListN.{length-replicate}
use borrow.Author.Tests.{not-false}
use Rattle.wire.specs.Result.{accepted}
use Rattle.wire.specs.Text.{all}
use Rattle.symbology.specs.Rows.{run_of, colour_of, reach, cells, row16, row_af1f, words, is_level, row28, row_of, codes_of, FullRow}
use Rattle.symbology.specs.Places.{Enough}
use Rattle.symbology.specs.declared.figures.Packet.{Packet}
use Rattle.symbology.specs.declared.figures.Packet.TheVariants.{Packet16, PacketAf1f, Packet28}
use Rattle.wire.proofs.Results.{passed}
use Rattle.symbology.proofs.RowWords.{words_length}
use Rattle.symbology.proofs.FirstBad.{levels_are}

-- the cells are as many as the runs reach, at least
reach_cells : (n : ℕ) (runs : List ℕ) → reach n runs ≤ length (cells runs)
unfolding reach cells
reach_cells n [] = omega arith
reach_cells n (b ∷ bs) =
    let rest : reach (n - run_of b) bs ≤ length (cells bs) = reach_cells (n - run_of b) bs in
    let long : length (replicate (run_of b) (colour_of b) ++ cells bs) ≡ run_of b + length (cells bs) = simp (length-append, length-replicate) in
    at_most (leb (run_of b) n) (run_of b + reach (n - run_of b) bs) (length (replicate (run_of b) (colour_of b) ++ cells bs)) (omega (arith, rest, long))
  where
    at_most : (t : Bool) (x m : ℕ) → x ≤ m → cond t x 0 ≤ m
    at_most true x m h = h
    at_most false x m h = omega arith

-- what the data of a row that was made have passed
abbrev pub Passed : Packet → ℕ → List ℕ → Type 0
Passed Packet16 n bytes = Unit {0}
Passed PacketAf1f n bytes = reach n bytes ≡ n
Passed Packet28 n bytes = all is_level (words bytes) ≡ true

-- a row that was made has the codes of its data
pub row_made : (packet : Packet) (n radial : ℕ) (bytes codes : List ℕ) → row_of packet n radial bytes ≡ accepted codes
    → (Passed packet n bytes) × (codes ≡ codes_of packet n bytes)
unfolding row_of row16 row_af1f row28 codes_of
row_made Packet16 n radial bytes codes e = (tt, cc)
row_made PacketAf1f n radial bytes codes e =
    passed (not (eqb (reach n bytes) n)) _ _ codes e λ t q. (eqb-true _ _ (not-false _ t), cc)
row_made Packet28 n radial bytes codes e =
    passed (not (all is_level (words bytes))) _ _ codes (sym (levels_are radial 0 (words bytes)) ∙ e) λ t q. (not-false _ t, cc)

-- data that were enough and have passed make a row of n codes
full : (packet : Packet) (n : ℕ) (bytes : List ℕ) → Enough packet n (length bytes) → Passed packet n bytes
    → (FullRow packet n bytes) × (length (codes_of packet n bytes) ≡ n)
unfolding codes_of FullRow Enough
full Packet16 n bytes h p = (h, length-take-le n bytes h)
full PacketAf1f n bytes h p = (p, length-take-le n (cells bytes) (omega (arith, reach_cells n bytes)))
full Packet28 n bytes h p = ((h, p), omega (arith, words_length bytes))

-- a row that was made of enough data
pub full_row : (packet : Packet) (n radial : ℕ) (bytes codes : List ℕ) → Enough packet n (length bytes) → row_of packet n radial bytes ≡ accepted codes
    → (FullRow packet n bytes) × (codes ≡ codes_of packet n bytes) × (length codes ≡ n)
full_row packet n radial bytes codes h e =
    let m = row_made packet n radial bytes codes e in
    let f = full packet n bytes h m.0 in
    (f.0, m.1, ap length m.1 ∙ f.1)
