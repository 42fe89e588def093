-- What every accepted path through a reading has in common: its value, the place from which nothing is read, its frames and its pieces.
-- Assumes nothing.
use Rattle.std.proofs.Common.{◌≡◌, ℕ, zero, suc, ◌+◌, ◌-◌, ◌<◌, ◌≤◌, min, Bool, true, false, ◌⊎◌, ◌↔◌, List, [], ◌∷◌, ◌++◌, map, length, get_or, take, refl, ap, ◌∙◌, subst, inl, inr, ⊎_elim, le_of_suc-le-suc, not-suc-le-zero, arith}
use native.Mathlib.Decide.{dec_le}
use lib.Seq.{slice}
use Rattle.wire.specs.Refusal.{Refusal}
use Rattle.wire.specs.Result.{Result, accepted, refused}
use Rattle.wire.specs.Reading.{Read, Flat, give, stop, left, skip, number, data_row, within, size, value_at, Given, more, after_row, run, Frame, frames, Unread, Piece, as_number, as_unread, as_data, pieces, marked, gaps, ◌>>=◌, refuse_if}
use Rattle.symbology.specs.Places.{UnreadIn, data_places}

abbrev pub Post : Type 0 → Type 1
Post A = A → ℕ → List Frame → List Piece → Type 0

-- f at n numbers from r on
unfoldable pub table : {A : Type 0} → (ℕ → A) → ℕ → ℕ → List A
table f zero r = []
table f (suc n) r = f r ∷ table f n (suc r)

pub table_length : {A : Type 0} (f : ℕ → A) (n r : ℕ) → length (table f n r) ≡ n
unfolding table
table_length f zero r = refl
table_length f (suc n) r = ap suc (table_length f n (suc r))

pub table_at : {A : Type 0} (f : ℕ → A) (n r k : ℕ) (d : A) → k < n → get_or (table f n r) k d ≡ f (r + k)
unfolding table
table_at f zero r k d lt = absurd (not-suc-le-zero lt)
table_at f (suc n) r zero d lt = let z : r ≡ r + 0 = omega arith in ap f z
table_at f (suc n) r (suc k) d lt = let z : suc r + k ≡ r + suc k = omega arith in table_at f n (suc r) k d (le_of_suc-le-suc lt) ∙ ap f z

-- where a frame's data stand
abbrev pub span : Frame → ℕ × ℕ
span f = (f.start, f.count)

module _ {A : Type 0} where
  after_row_value : (c : Result (List ℕ)) (r : Result (Given A)) (g : Given A) → after_row c r ≡ accepted g
      → (h : Given A) × (r ≡ accepted h) × (h.value ≡ g.value)
  unfolding after_row more
  after_row_value (accepted c) (accepted h) g e =
      let q : ◌≡◌ {A = Given A} (record { value = h.value; next = h.next; rows = c ∷ h.rows }) g = cc in
      (h, refl, ap (λ (x : Given A). x.value) q)
  after_row_value (accepted c) (refused x) g e = absurd (let z : ◌≡◌ {A = ℕ} 0 1 = cc in omega arith)
  after_row_value (refused x) r g e = absurd (let z : ◌≡◌ {A = ℕ} 0 1 = cc in omega arith)

module _ {W A : Type 0} where
  -- If the path of s through t ends in a value, the data on it stand inside s, and P holds of the value, of the place from which nothing
  -- is read, of the frames and of the pieces.
  unfoldable pub Ends : Read W A → List ℕ → ℕ → Post A → Type 0
  Ends (give a) s p P = P a p [] []
  Ends (stop x) s p P = Unit {0}
  Ends (left f) s p P = Ends (f (length s - p)) s p P
  Ends (skip k t) s p P = Ends t s (p + k) (λ a e fs ps. P a e fs (as_unread k ∷ ps))
  Ends (number w f) s p P = Ends (f (value_at w s p)) s (p + size w) (λ a e fs ps. P a e fs (as_number (size w) ∷ ps))
  Ends (data_row k row t) s p P =
      (k ≤ length s - p) × Ends t s (p + k) (λ a e fs ps. P a e (record { start = p; count = k; row = row } ∷ fs) (as_data k ∷ ps))
  Ends (within w k t) s p P = Ends t (take (p + k) s) p (λ a e fs ps. P a (min e (p + k)) fs ps)

  pub record Reached (t : Read W A) (s : List ℕ) (p : ℕ) (P : Post A) (a : A) : Type 0 where
    pub past : ℕ
    pub holds : P a past (frames t s p) (pieces t s p)
    pub unread : (i : ℕ) → Unread t s p i ↔ (UnreadIn (pieces t s p) p i ⊎ (past ≤ i))
    pub spans : data_places (pieces t s p) p ≡ map span (frames t s p)

  -- of all that is accepted, gaps or not
  pub reached : (t : Read W A) (s : List ℕ) (p : ℕ) (P : Post A) (g : Given A) → Ends t s p P → run (gaps t) s p ≡ accepted g → Reached t s p P g.value
  unfolding Ends gaps run frames pieces Unread UnreadIn data_places
  reached (give a) s p P g h e =
      let q : ◌≡◌ {A = Given A} (record { value = a; next = p; rows = [] }) g = cc in
      record { past = p; holds = subst (λ (x : Given A). P x.value p [] []) q h; unread = λ i. (inr, ⊎_elim (λ u. absurd u) (λ u. u)); spans = refl }
  reached (stop x) s p P g h e = absurd (let z : ◌≡◌ {A = ℕ} 0 1 = cc in omega arith)
  reached (left f) s p P g h e =
      let r = reached (f (length s - p)) s p P g h e in
      record { past = r.past; holds = r.holds; unread = r.unread; spans = r.spans }
  reached (skip k t) s p P g h e =
      let r = reached t s (p + k) (λ a e fs ps. P a e fs (as_unread k ∷ ps)) g h e in
      record {
        past = r.past;
        holds = r.holds;
        unread = λ i. (⊎_elim (λ u. inl (inl u)) (λ u. ⊎_elim (λ v. inl (inr v)) inr ((r.unread i).0 u)), ⊎_elim (⊎_elim inl (λ u. inr ((r.unread i).1 (inl u)))) (λ u. inr ((r.unread i).1 (inr u))));
        spans = r.spans;
      }
  reached (number w f) s p P g h e =
      let r = reached (f (value_at w s p)) s (p + size w) (λ a e fs ps. P a e fs (as_number (size w) ∷ ps)) g h e in
      record { past = r.past; holds = r.holds; unread = r.unread; spans = r.spans }
  reached (data_row k row t) s p P g h e =
      let o = after_row_value (accepted (marked (row (slice p (p + k) s)))) (run (gaps t) s (p + k)) g e in
      let r = reached t s (p + k) (λ a e fs ps. P a e (record { start = p; count = k; row = row } ∷ fs) (as_data k ∷ ps)) o.0 h.1 o.1 in
      let c : min k (length s - p) ≡ k = omega (arith, h.0) in
      record {
        past = r.past;
        holds = rw c (rw o.2 at r.holds);
        unread = r.unread;
        spans = rw c (ap (λ (l : List (ℕ × ℕ)). (p, k) ∷ l) r.spans);
      }
  reached (within w k t) s p P g h e =
      inner (reached t (take (p + k) s) p (λ a e fs ps. P a (min e (p + k)) fs ps) g h e)
    where
      inner : Reached t (take (p + k) s) p (λ a e fs ps. P a (min e (p + k)) fs ps) g.value → Reached (within w k t) s p P g.value
      inner r =
          record {
            past = min r.past (p + k);
            holds = r.holds;
            unread = λ i. (
              ⊎_elim (λ u. inr (omega arith)) (λ u. ⊎_elim inl (λ v. inr (omega arith)) ((r.unread i).0 u)),
              ⊎_elim (λ u. inr ((r.unread i).1 (inl u))) (λ u. by i u (dec_le (p + k) i)),
            );
            spans = r.spans;
          }
        where
          by : (i : ℕ) → min r.past (p + k) ≤ i → Dec (p + k ≤ i) → (p + k ≤ i) ⊎ Unread t (take (p + k) s) p i
          by i u (yes d) = inl d
          by i u (no d) = inr ((r.unread i).1 (inr (omega arith)))

module _ {W A B : Type 0} (f : A → Read W B) where
  -- a reading and then another
  pub then : (t : Flat A) (s : List ℕ) (p : ℕ) (P : Post B)
      → Ends t s p (λ a e fs ps. Ends (f a) s e (λ b e' fs' ps'. P b e' (fs ++ fs') (ps ++ ps'))) → Ends (t >>= f) s p P
  unfolding Ends ◌>>=◌
  then (give a) s p P h = h
  then (stop x) s p P h = tt
  then (left g) s p P h = then (g (length s - p)) s p P h
  then (skip k t) s p P h = then t s (p + k) (λ a e fs ps. P a e fs (as_unread k ∷ ps)) h
  then (number w g) s p P h = then (g (value_at w s p)) s (p + size w) (λ a e fs ps. P a e fs (as_number (size w) ∷ ps)) h
  then (data_row k row t) s p P h =
      (h.0, then t s (p + k) (λ a e fs ps. P a e (record { start = p; count = k; row = row } ∷ fs) (as_data k ∷ ps)) h.1)
  then (within w k t) s p P h = absurd w

module _ {W A : Type 0} where
  -- a test that lets the reading go on
  pub tested : (b : Bool) (x : Refusal) (f : Unit {0} → Read W A) (s : List ℕ) (p : ℕ) (P : Post A)
      → (b ≡ false → Ends (f tt) s p P) → Ends (refuse_if b x >>= f) s p P
  unfolding Ends ◌>>=◌ refuse_if
  tested true x f s p P h = tt
  tested false x f s p P h = h refl

  -- what follows from what holds
  pub weaken : (t : Read W A) (s : List ℕ) (p : ℕ) (P Q : Post A)
      → ((a : A) (e : ℕ) (fs : List Frame) (ps : List Piece) → P a e fs ps → Q a e fs ps) → Ends t s p P → Ends t s p Q
  unfolding Ends
  weaken (give a) s p P Q k h = k a p [] [] h
  weaken (stop x) s p P Q k h = tt
  weaken (left g) s p P Q k h = weaken (g (length s - p)) s p P Q k h
  weaken (skip n t) s p P Q k h =
      weaken t s (p + n) (λ a e fs ps. P a e fs (as_unread n ∷ ps)) (λ a e fs ps. Q a e fs (as_unread n ∷ ps)) (λ a e fs ps. k a e fs (as_unread n ∷ ps)) h
  weaken (number w g) s p P Q k h =
      let x : Piece = as_number (size w) in
      weaken (g (value_at w s p)) s (p + size w) (λ a e fs ps. P a e fs (x ∷ ps)) (λ a e fs ps. Q a e fs (x ∷ ps)) (λ a e fs ps. k a e fs (x ∷ ps)) h
  weaken (data_row n row t) s p P Q k h =
      let f : Frame = record { start = p; count = n; row = row } in
      let x : Piece = as_data n in
      (h.0, weaken t s (p + n) (λ a e fs ps. P a e (f ∷ fs) (x ∷ ps)) (λ a e fs ps. Q a e (f ∷ fs) (x ∷ ps)) (λ a e fs ps. k a e (f ∷ fs) (x ∷ ps)) h.1)
  weaken (within w n t) s p P Q k h =
      weaken t (take (p + n) s) p (λ a e fs ps. P a (min e (p + n)) fs ps) (λ a e fs ps. Q a (min e (p + n)) fs ps) (λ a e fs ps. k a (min e (p + n)) fs ps) h

-- a reading of which Q is known, and then another
pub after : {W A B : Type 0} (f : A → Read W B) (t : Flat A) (s : List ℕ) (p : ℕ) (P : Post B) (Q : Post A) → Ends t s p Q
    → ((a : A) (e : ℕ) (fs : List Frame) (ps : List Piece) → Q a e fs ps → Ends (f a) s e (λ b e' fs' ps'. P b e' (fs ++ fs') (ps ++ ps')))
    → Ends (t >>= f) s p P
after f t s p P Q q k = then f t s p P (weaken t s p Q _ k q)
