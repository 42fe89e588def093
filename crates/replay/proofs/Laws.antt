-- What several proofs of the program cite. Assumes nothing.
use Rattle.std.proofs.Common.{◌≡◌, ℕ, ◌+◌, List, negsuc, refl, ap, ◌∙◌, add-one}
use lib.Ieee.{binary32, binary64, of_bits, of_int, neg}
use Rattle.wire.specs.Float.{whole32, whole64}
use Rattle.replay.specs.Words.{start_from, end_from, ended}

-- ---- the pattern of floats

pub pattern64 : neg (of_bits binary64 4665272916630306816) ≡ whole64 (negsuc 7776)
unfolding of_bits of_int neg
pattern64 = refl

pub pattern32 : neg (of_bits binary32 1173555200) ≡ whole32 (negsuc 7776)
unfolding of_bits of_int neg
pattern32 = refl

-- ---- words

pub ended_none : (line : List ℕ) → 0 ≡ ended line 0
unfolding ended
ended_none line = refl

-- one word further
pub ended_next : (line : List ℕ) (k : ℕ) {at start next : ℕ} → at ≡ ended line k → start ≡ start_from line at → next ≡ end_from line start → next ≡ ended line (k + 1)
unfolding ended
ended_next line k a b c = rw add-one (c ∙ ap (end_from line) (b ∙ ap (start_from line) a))
