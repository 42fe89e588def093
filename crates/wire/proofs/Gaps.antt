-- A reading with gaps beside the reading itself: where its radials' data stand, what is unread, and what both accept. Assumes nothing.
use Prim.Native.Nat.{ℕ, suc, ◌+◌, ◌-◌, ◌<◌, min}
use native.Mathlib.Omega.{arith}
use mathlib.Core.List.{List, [], ◌∷◌, map}
use mathlib.Core.Logic.{◌⊎◌, inl, inr, ⊎_elim}
use mathlib.Core.Path.{◌≡◌, refl, sym, ap, ◌∙◌, fun_ext}
use lib.ListN.{length, get_or, take}
use lib.Seq.{slice}
use Rattle.wire.specs.Refusal.{Refusal}
use Rattle.wire.specs.Result.{Result, accepted, refused}
use Rattle.wire.specs.Reading.{Read, Flat, give, stop, left, skip, number, data_row, within, size, value_at, Given, more, after_row, run, Frame, frames, Unread, marked, gaps, ◌>>=◌}
use Rattle.wire.proofs.Results.{clash, one_value, one_refusal}
use Rattle.wire.proofs.Runs.{Plain}

-- ---- the text

module _ {W A B : Type 0} (f : A → Read W B) where
  pub gaps_then : (t : Flat A) → gaps (t >>= f) ≡ gaps t >>= λ a. gaps (f a)
  unfolding gaps ◌>>=◌
  gaps_then (give a) = refl
  gaps_then (stop x) = refl
  gaps_then (left h) = ap left (fun_ext (λ n. gaps_then (h n)))
  gaps_then (skip k t) = ap (skip k) (gaps_then t)
  gaps_then (number w h) = ap (number w) (fun_ext (λ n. gaps_then (h n)))
  gaps_then (data_row k row t) = ap (data_row k (λ bytes. accepted (marked (row bytes)))) (gaps_then t)
  gaps_then (within w k t) = absurd w

module _ {W A : Type 0} where
  pub gaps_plain : (t : Read W A) → Plain t → gaps t ≡ t
  unfolding gaps Plain
  gaps_plain (give a) h = refl
  gaps_plain (stop x) h = refl
  gaps_plain (left f) h = ap left (fun_ext (λ n. gaps_plain (f n) (h n)))
  gaps_plain (skip k t) h = ap (skip k) (gaps_plain t h)
  gaps_plain (number w f) h = ap (number w) (fun_ext (λ n. gaps_plain (f n) (h n)))
  gaps_plain (data_row k row t) h = absurd h
  gaps_plain (within w k t) h = ap (within w k) (gaps_plain t h)

-- ---- the places

-- a radial of the reading with gaps
abbrev pub open_frame : Frame → Frame
open_frame f = record { start = f.start; count = f.count; row = λ bytes. accepted (marked (f.row bytes)) }

module _ {W A : Type 0} where
  pub gaps_frames : (t : Read W A) (s : List ℕ) (p : ℕ) → frames (gaps t) s p ≡ map open_frame (frames t s p)
  unfolding gaps frames
  gaps_frames (give a) s p = refl
  gaps_frames (stop x) s p = refl
  gaps_frames (left f) s p = gaps_frames (f (length s - p)) s p
  gaps_frames (skip k t) s p = gaps_frames t s (p + k)
  gaps_frames (number w f) s p = gaps_frames (f (value_at w s p)) s (p + size w)
  gaps_frames (data_row k row t) s p = ap (λ fs. record { start = p; count = min k (length s - p); row = λ bytes. accepted (marked (row bytes)) } ∷ fs) (gaps_frames t s (p + k))
  gaps_frames (within w k t) s p = gaps_frames t (take (p + k) s) p

  pub gaps_unread : (t : Read W A) (s : List ℕ) (p i : ℕ) → Unread t s p i → Unread (gaps t) s p i
  unfolding gaps Unread
  gaps_unread (give a) s p i u = u
  gaps_unread (stop x) s p i u = u
  gaps_unread (left f) s p i u = gaps_unread (f (length s - p)) s p i u
  gaps_unread (skip k t) s p i (inl u) = inl u
  gaps_unread (skip k t) s p i (inr u) = inr (gaps_unread t s (p + k) i u)
  gaps_unread (number w f) s p i u = gaps_unread (f (value_at w s p)) s (p + size w) i u
  gaps_unread (data_row k row t) s p i u = gaps_unread t s (p + k) i u
  gaps_unread (within w k t) s p i (inl u) = inl u
  gaps_unread (within w k t) s p i (inr u) = inr (gaps_unread t (take (p + k) s) p i u)

-- ---- what both accept

-- whole rows, as the reading with gaps has them
abbrev pub whole_row : List ℕ → List ℕ
whole_row codes = 0 ∷ codes

-- a mark of 0
abbrev pub Whole : List ℕ → Type 0
Whole row = (codes : List ℕ) × (row ≡ 0 ∷ codes)

module _ {A : Type 0} where
  -- an answer with its rows marked whole
  unfoldable pub all_whole : Given A → Given A
  all_whole g = record { value = g.value; next = g.next; rows = map whole_row g.rows }

  more_whole : (codes : List ℕ) (r : Result (Given A)) (g : Given A) → more codes r ≡ accepted g → (h : Given A) × ((r ≡ accepted h) × (g ≡ record { value = h.value; next = h.next; rows = codes ∷ h.rows }))
  unfolding more
  more_whole codes (accepted h) g e = (h, (refl, sym (one_value e)))
  more_whole codes (refused x) g e = clash g x e

module _ {W A : Type 0} where
  -- what the reading accepts, the reading with gaps accepts without one
  pub gaps_accepted : (t : Read W A) (s : List ℕ) (p : ℕ) (g : Given A) → run t s p ≡ accepted g → run (gaps t) s p ≡ accepted (all_whole g)
  unfolding gaps run all_whole more after_row
  gaps_accepted (give a) s p g e = ap accepted (ap all_whole (one_value e))
  gaps_accepted (stop x) s p g e = clash g x e
  gaps_accepted (left f) s p g e = gaps_accepted (f (length s - p)) s p g e
  gaps_accepted (skip k t) s p g e = gaps_accepted t s (p + k) g e
  gaps_accepted (number w f) s p g e = gaps_accepted (f (value_at w s p)) s (p + size w) g e
  gaps_accepted (data_row k row t) s p g e = go (row (slice p (p + k) s)) (λ h i. gaps_accepted t s (p + k) h i) e
    where
      go : (c : Result (List ℕ)) → ((h : Given A) → run t s (p + k) ≡ accepted h → run (gaps t) s (p + k) ≡ accepted (all_whole h)) → after_row c (run t s (p + k)) ≡ accepted g
          → more (marked c) (run (gaps t) s (p + k)) ≡ accepted (all_whole g)
      go (accepted codes) ih l =
          let m = more_whole codes (run t s (p + k)) g l in
          ap (more (0 ∷ codes)) (ih m.0 m.1.0) ∙ ap (λ x. accepted (all_whole x)) (sym m.1.1)
      go (refused x) ih l = clash g x l
  gaps_accepted (within w k t) s p g e = gaps_accepted t (take (p + k) s) p g e

  -- and what the reading with gaps accepts without one, the reading accepts
  pub no_gaps : (t : Read W A) (s : List ℕ) (p : ℕ) (g : Given A) → run (gaps t) s p ≡ accepted g → ((r : ℕ) → r < length g.rows → Whole (get_or g.rows r []))
      → (h : Given A) × ((run t s p ≡ accepted h) × (g ≡ all_whole h))
  unfolding gaps run all_whole more after_row
  no_gaps (give a) s p g e w = (record { value = a; next = p; rows = [] }, (refl, sym (one_value e)))
  no_gaps (stop x) s p g e w = clash g x e
  no_gaps (left f) s p g e w = no_gaps (f (length s - p)) s p g e w
  no_gaps (skip k t) s p g e w = no_gaps t s (p + k) g e w
  no_gaps (number w f) s p g e h = no_gaps (f (value_at w s p)) s (p + size w) g e h
  no_gaps (data_row k row t) s p g e w =
      let m = more_whole (marked (row (slice p (p + k) s))) (run (gaps t) s (p + k)) g e in
      go (row (slice p (p + k) s)) m.0 m.1.1
      (no_gaps t s (p + k) m.0 m.1.0 (λ r lt. rw m.1.1 at (w (suc r) (rw m.1.1 (omega (arith, lt))))))
    where
      go : (c : Result (List ℕ)) (m : Given A) → g ≡ record { value = m.value; next = m.next; rows = marked c ∷ m.rows }
          → (h : Given A) × ((run t s (p + k) ≡ accepted h) × (m ≡ all_whole h)) → (h : Given A) × ((after_row c (run t s (p + k)) ≡ accepted h) × (g ≡ all_whole h))
      go (accepted codes) m is ih =
          let h = ih.0 in
          let v : g ≡ record { value = h.value; next = h.next; rows = (0 ∷ codes) ∷ map whole_row h.rows } = is ∙ ap (λ (x : Given A). record { value = x.value; next = x.next; rows = (0 ∷ codes) ∷ x.rows }) ih.1.1 in
          (record { value = h.value; next = h.next; rows = codes ∷ h.rows }, (ap (after_row (accepted codes)) ih.1.0, v))
      go (refused x) m is ih =
          let n : Whole (get_or g.rows 0 []) = w 0 (rw is (omega arith)) in
          let z : ◌≡◌ {A = List ℕ} (1 ∷ []) (0 ∷ n.0) = sym (ap (λ (y : Given A). get_or y.rows 0 []) is) ∙ n.1 in
          absurd (let o : ◌≡◌ {A = ℕ} 1 0 = ap (λ l. get_or l 0 0) z in omega (arith, o))
  no_gaps (within w k t) s p g e h = no_gaps t (take (p + k) s) p g e h

-- ---- what both refuse

module _ {W A : Type 0} (K : Refusal → Type 0) where
  -- a row of the reading that is refused is refused with one of K
  unfoldable pub RowsRefuse : Read W A → Type 0
  RowsRefuse (give a) = Unit {0}
  RowsRefuse (stop x) = Unit {0}
  RowsRefuse (left f) = (n : ℕ) → RowsRefuse (f n)
  RowsRefuse (skip k t) = RowsRefuse t
  RowsRefuse (number w f) = (n : ℕ) → RowsRefuse (f n)
  RowsRefuse (data_row k row t) = ((bytes : List ℕ) (x : Refusal) → row bytes ≡ refused x → K x) × RowsRefuse t
  RowsRefuse (within w k t) = RowsRefuse t

  pub refuse_plain : (t : Read W A) → Plain t → RowsRefuse t
  unfolding Plain RowsRefuse
  refuse_plain (give a) h = tt
  refuse_plain (stop x) h = tt
  refuse_plain (left f) h = λ n. refuse_plain (f n) (h n)
  refuse_plain (skip k t) h = refuse_plain t h
  refuse_plain (number w f) h = λ n. refuse_plain (f n) (h n)
  refuse_plain (data_row k row t) h = absurd h
  refuse_plain (within w k t) h = refuse_plain t h

  -- such a reading is refused with one of K, or with gaps alike
  pub refused_alike : (t : Read W A) → RowsRefuse t → (s : List ℕ) (p : ℕ) (x : Refusal) → run t s p ≡ refused x → K x ⊎ (run (gaps t) s p ≡ refused x)
  unfolding RowsRefuse gaps run after_row more
  refused_alike (give a) h s p x e = clash _ x (sym e)
  refused_alike (stop y) h s p x e = inr e
  refused_alike (left f) h s p x e = refused_alike (f (length s - p)) (h (length s - p)) s p x e
  refused_alike (skip k t) h s p x e = refused_alike t h s (p + k) x e
  refused_alike (number w f) h s p x e = refused_alike (f (value_at w s p)) (h (value_at w s p)) s (p + size w) x e
  refused_alike (data_row k row t) h s p x e = go (row (slice p (p + k) s)) refl (refused_alike t h.1 s (p + k) x) e
    where
      stays : (codes : List ℕ) (r : Result (Given A)) → more codes r ≡ refused x → r ≡ refused x
      stays codes (accepted g) i = clash _ x (sym i)
      stays codes (refused y) i = ap refused (one_refusal i)

      go : (c : Result (List ℕ)) → row (slice p (p + k) s) ≡ c → (run t s (p + k) ≡ refused x → K x ⊎ (run (gaps t) s (p + k) ≡ refused x))
          → after_row c (run t s (p + k)) ≡ refused x → K x ⊎ (more (marked c) (run (gaps t) s (p + k)) ≡ refused x)
      go (accepted codes) is ih l = ⊎_elim inl (λ r. inr (ap (more (0 ∷ codes)) r)) (ih (stays codes (run t s (p + k)) l))
      go (refused y) is ih l = inl (h.0 (slice p (p + k) s) x (is ∙ ap refused (one_refusal l)))
  refused_alike (within w k t) h s p x e = refused_alike t h (take (p + k) s) p x e

module _ {W A B : Type 0} (K : Refusal → Type 0) (f : A → Read W B) (k : (a : A) → RowsRefuse K (f a)) where
  pub refuse_then : (t : Flat A) → RowsRefuse K t → RowsRefuse K (t >>= f)
  unfolding RowsRefuse ◌>>=◌
  refuse_then (give a) h = k a
  refuse_then (stop x) h = tt
  refuse_then (left g) h = λ n. refuse_then (g n) (h n)
  refuse_then (skip n t) h = refuse_then t h
  refuse_then (number w g) h = λ n. refuse_then (g n) (h n)
  refuse_then (data_row n row t) h = (h.0, refuse_then t h.1)
  refuse_then (within w n t) h = absurd w
