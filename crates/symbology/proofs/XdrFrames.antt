-- Packet 28: a radial's frame, as the code goes through its items. Assumes nothing.
use Rattle.std.proofs.Common.{◌≡◌, ℕ, zero, suc, ◌+◌, ◌-◌, ◌*◌, ◌≤◌, Bool, true, false, cond, not, ◌&&◌, Option, Some, eqb, ltb, List, [], ◌∷◌, length, ℤ, pos, sym, refl, ap, ◌∙◌, arith, ltb-false, eqb-true}
use lib.Ieee.{Float}
use lib.Signed.{le_z}
use borrow.Author.Tests.{not-false}
use Rattle.wire.specs.Refusal.{Refusal, refusal_of, kind, nat, whole}
use Rattle.wire.specs.Result.{accepted, refused}
use Rattle.wire.specs.Reading.{Flat, give, ◌>>◌, refuse_if, Ended, passed, halted, onward, walk}
use Rattle.wire.proofs.Readings.{walk_then, walk_check, walk_checks, Parts, parts, parts_by, passed_check, walk_give}
use Rattle.xdr.proofs.Items.{array_count_end}
use Rattle.xdr.proofs.Onward.{from, check_by, check_next}
use Rattle.xdr.specs.Xdr.{at_least0}
use Rattle.symbology.specs.Symbology.{xdr_frame}
use Rattle.symbology.specs.Walk.{expected_of, frame_tested, xdr_radial_span, placed}
use Rattle.symbology.specs.declared.generic.XdrRadial.{XdrRadial}
use Rattle.wire.specs.declared.error.Level3DecodeError.{Level3DecodeError}
use Rattle.xdr.specs.Cursor.{read_at, Leaves}
use Rattle.xdr.specs.declared.xdr.XdrCursor.{XdrCursor}
use Rattle.std.specs.Prelude as Std

-- The tests after the six items are those of the reading, one after another, before what follows them.
abbrev fine : ℕ → Ended (Unit {0})
fine p = passed tt p

module _ {B : Type 0} (radials r : ℕ) (own : ℤ) (expected : Option ℕ) (n : ℕ) (u : Flat B) where
  abbrev Tested : Flat B
  Tested =
      refuse_if (le_z own (pos 0)) (kind 29 (nat radials ∷ whole own ∷ []))
      >> (refuse_if (not (eqb (at_least0 own) (expected_of expected (at_least0 own)))) (kind 31 (nat r ∷ nat (at_least0 own) ∷ nat (expected_of expected (at_least0 own)) ∷ []))
      >> (refuse_if (not (eqb n (at_least0 own))) (kind 32 (nat r ∷ nat n ∷ nat (at_least0 own) ∷ []))
      >> (refuse_if (eqb r 0 && ltb 4000000 (radials * at_least0 own)) (kind 33 (nat radials ∷ nat (at_least0 own) ∷ nat (radials * at_least0 own) ∷ nat 4000000 ∷ []))
      >> u)))

  module _ (s : List ℕ) (p : ℕ) where
    four : (b₁ b₂ b₃ b₄ : Bool) (x₁ x₂ x₃ x₄ : Refusal)
        → cond b₁ (halted x₁ p) (cond b₂ (halted x₂ p) (cond b₃ (halted x₃ p) (cond b₄ (halted x₄ p) (walk u s p))))
        ≡ onward (cond b₁ (halted x₁ p) (cond b₂ (halted x₂ p) (cond b₃ (halted x₃ p) (cond b₄ (halted x₄ p) (fine p))))) (λ _ q. walk u s q)
    four true b₂ b₃ b₄ x₁ x₂ x₃ x₄ = refl
    four false true b₃ b₄ x₁ x₂ x₃ x₄ = refl
    four false false true b₄ x₁ x₂ x₃ x₄ = refl
    four false false false true x₁ x₂ x₃ x₄ = refl
    four false false false false x₁ x₂ x₃ x₄ = refl

    pub tests_are : walk Tested s p ≡ onward (frame_tested radials r own expected n p) (λ _ q. walk u s q)
    unfolding frame_tested ◌>>◌
    tests_are = walk_checks _ _ _ s p (walk_checks _ _ _ s p (walk_checks _ _ _ s p (walk_check _ _ _ s p))) ∙ four (le_z own (pos 0)) (not (eqb (at_least0 own) (expected_of expected (at_least0 own)))) (not (eqb n (at_least0 own))) (eqb r 0 && ltb 4000000 (radials * at_least0 own))
        (kind 29 (nat radials ∷ whole own ∷ [])) (kind 31 (nat r ∷ nat (at_least0 own) ∷ nat (expected_of expected (at_least0 own)) ∷ []))
        (kind 32 (nat r ∷ nat n ∷ nat (at_least0 own) ∷ [])) (kind 33 (nat radials ∷ nat (at_least0 own) ∷ nat (radials * at_least0 own) ∷ nat 4000000 ∷ []))

  pub tests_no : {c : XdrCursor} {e : Level3DecodeError} → halted (refusal_of e) c.pos ≡ frame_tested radials r own expected n c.pos → Leaves (read_at Tested c) (Std.Err e) c c
  tests_no {c} h = record { answered = sym (tests_are c.buf.now c.pos ∙ ap (λ y. onward y (λ _ p. walk u c.buf.now p)) (sym h)); kept = refl }

  pub tests_on : {c c' : XdrCursor} {r' : Std.Result B Level3DecodeError} → passed tt c.pos ≡ frame_tested radials r own expected n c.pos → Leaves (read_at u c) r' c c'
      → Leaves (read_at Tested c) r' c c'
  tests_on {c} h k = record { answered = k.answered ∙ sym (tests_are c.buf.now c.pos ∙ ap (λ y. onward y (λ _ p. walk u c.buf.now p)) (sym h)); kept = k.kept }

  -- and of a reading that goes on from where another ended
  pub frame_checked : (s : List ℕ) (e : Ended (Unit {0})) {w : Ended (Unit {0})} {y : Ended B}
      → w ≡ onward e (λ _ p. frame_tested radials r own expected n p) → y ≡ from u s w → y ≡ from Tested s e
  unfolding frame_tested
  frame_checked s e h k =
      check_next _ _ _ s e _ h λ h₁.
      check_next _ _ _ s _ _ h₁ λ h₂.
      check_next _ _ _ s _ _ h₂ λ h₃.
      check_by _ _ _ s _ h₃ k

first_cells : (r cells : ℕ) → r ≡ 0 → (eqb r 0 && ltb 4000000 cells) ≡ false → cells ≤ 4000000
first_cells zero cells h k = ltb-false _ _ k
first_cells (suc r) cells h k = absurd (omega (arith, h))

-- What a frame that passed shows: its bins are those expected, and its data are there.
pub record Framed (radials r : ℕ) (expected : ℕ → ℕ) (s : List ℕ) (xdr : XdrRadial) (q : ℕ) : Type 0 where
  pub bins_are : xdr.bins ≡ expected xdr.bins
  pub room : xdr.bins * 4 ≤ length s - q
  pub inside : q ≤ length s
  pub cells : r ≡ 0 → radials * xdr.bins ≤ 4000000

-- the parts of a reading that passed, by name
opened : {A B : Type 0} {f : A → Flat B} {t : Flat A} {s : List ℕ} {p : ℕ} {b : B} {q : ℕ} {C : Type 0} → Parts f t s p b q
    → ((a : A) (m : ℕ) → passed a m ≡ walk t s p → passed b q ≡ walk (f a) s m → C) → C
opened h k = k h.value h.middle h.first h.second

pub framed : (radials r : ℕ) (expected : ℕ → ℕ) (s : List ℕ) (p : ℕ) (xdr : XdrRadial) (q : ℕ) → passed xdr q ≡ walk (xdr_frame radials r expected) s p
    → Framed radials r expected s xdr q
unfolding xdr_frame
framed radials r expected s p xdr q e =
    opened (parts _ _ s p e) (λ azimuth m₁ _ e₁.
    opened (parts_by _ _ s m₁ e₁) (λ _ m₂ _ e₂.
    opened (parts _ _ s m₂ e₂) (λ width m₃ _ e₃.
    opened (parts _ _ s m₃ e₃) (λ bins m₄ _ e₄.
    opened (parts_by _ _ s m₄ e₄) (λ _ m₅ _ e₅.
    opened (parts _ _ s m₅ e₅) (λ n m e₆ e₇.
    let k = array_count_end s _ _ _ e₆ in
    let h₁ = passed_check _ _ _ s m e₇ in
    let h₂ = passed_check _ _ _ s m h₁.1 in
    let h₃ = passed_check _ _ _ s m h₂.1 in
    let h₄ = passed_check _ _ _ s m h₃.1 in
    last n (at_least0 bins) (eqb-true _ _ (not-false _ h₂.0)) (eqb-true _ _ (not-false _ h₃.0)) k.1 k.2 (λ h. first_cells r (radials * at_least0 bins) h h₄.0) (h₄.1 ∙ walk_give _ s m)))))))
  where
    last : (n bins : ℕ) {m : ℕ} {centre : Float} → bins ≡ expected bins → n ≡ bins → n * 4 ≤ length s - m → m ≤ length s → (r ≡ 0 → radials * bins ≤ 4000000)
        → passed xdr q ≡ passed (record { centre = centre; bins = bins }) m → Framed radials r expected s xdr q
    last n bins {m} {centre} x h k l y e =
        let a : q ≡ m = cc in
        let b : xdr ≡ record { centre = centre; bins = bins } = cc in
        let c : xdr.bins ≡ bins = ap (λ x. x.bins) b in
        let d : bins ≡ n = sym h in
        rw (b, a) (record { bins_are = x; room = rw d k; inside = l; cells = y })

-- ---- the place of its data

module _ (radials r bins : ℕ) (s : List ℕ) (p : ℕ) where
  span_is : (e : Ended XdrRadial) → e ≡ walk (xdr_frame radials r (expected_of (Some bins))) s p
      → placed (onward e (λ xdr q. passed (record { centre = xdr.centre; size = xdr.bins * 4 }) q)) ≡ placed (walk (xdr_radial_span radials bins r) s p)
  unfolding xdr_radial_span walk
  span_is e h =
      ap (λ x. placed (onward x (λ xdr q. passed (record { centre = xdr.centre; size = xdr.bins * 4 }) q))) h
      ∙ ap placed (sym (walk_then (λ xdr. give (record { centre = xdr.centre; size = xdr.bins * 4 })) (xdr_frame radials r (expected_of (Some bins))) s p))

  pub span_whole : {a : Float} {n q : ℕ} → passed (record { centre = a; bins = n }) q ≡ walk (xdr_frame radials r (expected_of (Some bins))) s p
      → accepted (record { centre = a; from = q; to = q + n * 4 }) ≡ placed (walk (xdr_radial_span radials bins r) s p)
  span_whole e = span_is _ e

  pub span_halted : {x : Refusal} {q : ℕ} → halted x q ≡ walk (xdr_frame radials r (expected_of (Some bins))) s p → refused x ≡ placed (walk (xdr_radial_span radials bins r) s p)
  span_halted e = span_is _ e
