-- The levels of packet 28, all at once: the integers themselves, or 34 with the first that is not a level. Assumes nothing.
use Rattle.std.proofs.Common.{◌≡◌, ℕ, suc, ◌+◌, ◌≤◌, Bool, true, false, cond, not, ◌&&◌, ltb, List, [], ◌∷◌, get_or, refl, arith, le-ltb, lt-ltb, leb-false, leb-true}
use Rattle.wire.specs.Bytes.{signed}
use Rattle.wire.specs.Refusal.{Refusal, kind, nat, whole}
use Rattle.wire.specs.Result.{accepted, refuse}
use Rattle.wire.specs.Text.{all, leading}
use Rattle.symbology.specs.Rows.{push, is_level, levels}
use Rattle.wire.proofs.Every.{all_at}

-- where all are levels, each is
pub each_level : (vs : List ℕ) (k : ℕ) → all is_level vs ≡ true → get_or vs k 0 ≤ 65535
each_level vs k h = leb-true (get_or vs k 0) 65535 (all_at is_level vs k refl h)

-- 34, with the first integer that is not a level
abbrev pub first_bad : ℕ → ℕ → List ℕ → Refusal
first_bad radial gate vs =
    kind 34 (nat radial ∷ nat (gate + leading is_level vs) ∷ whole (signed 2147483648 (get_or vs (leading is_level vs) 0)) ∷ [])

pub levels_are : (radial gate : ℕ) (vs : List ℕ) → levels radial gate vs ≡ refuse (not (all is_level vs)) (first_bad radial gate vs) (accepted vs)
unfolding levels push leading
levels_are radial gate [] = refl
levels_are radial gate (v ∷ vs) = go (is_level v) refl (levels_are radial (suc gate) vs)
  where
    pushed : (b : Bool) (x : Refusal) → push v (refuse b x (accepted vs)) ≡ refuse b x (accepted (v ∷ vs))
    pushed true x = refl
    pushed false x = refl

    go : (b : Bool) → is_level v ≡ b → levels radial (suc gate) vs ≡ refuse (not (all is_level vs)) (first_bad radial (suc gate) vs) (accepted vs)
        → refuse (ltb 65535 v) (kind 34 (nat radial ∷ nat gate ∷ whole (signed 2147483648 v) ∷ [])) (push v (levels radial (suc gate) vs))
        ≡ refuse (not (b && all is_level vs))
        (kind 34 (nat radial ∷ nat (gate + cond b (suc (leading is_level vs)) 0) ∷ whole (signed 2147483648 (get_or (v ∷ vs) (cond b (suc (leading is_level vs)) 0) 0)) ∷ []))
        (accepted (v ∷ vs))
    go true e later =
        let next : gate + suc (leading is_level vs) ≡ suc gate + leading is_level vs = omega arith in
        rw (le-ltb 65535 v (leb-true v 65535 e), next, later) (pushed (not (all is_level vs)) _)
    go false e later =
        let here : gate + 0 ≡ gate = omega arith in
        rw (lt-ltb 65535 v (leb-false v 65535 e), here)
