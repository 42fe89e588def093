-- The original: its header, a law for each answer of the code; and that what passes is what symbology accepts as AF1F. Assumes nothing.
use Prim.Native.Nat.{ℕ, ◌+◌, ◌-◌, ◌*◌, ◌≤◌, ◌<◌}
use native.Mathlib.Omega.{arith}
use mathlib.Core.List.{List, [], ◌∷◌, map}
use mathlib.Core.Bool.{false, cond, not}
use mathlib.Core.Path.{◌≡◌, refl, sym, ap, subst, ◌∙◌}
use lib.ListN.{length}
use lib.Dec.{ltb, eqb}
use lib.IntN.{ℤ}
use borrow.Author.Tests.{lt-ltb, le-ltb, ltb-false, eq-eqb, ne_eqb, eqb-true, eqb-false, not-false}
use Rattle.wire.specs.Bytes.{u16_at, signed}
use Rattle.wire.specs.Refusal.{Refusal, kind, nat, whole}
use Rattle.wire.specs.Result.{Result, accepted, refused}
use Rattle.wire.specs.Reading.{Flat, give, ◌>>=◌, ◌>>◌, remaining, u16, run, Given, Ended, passed, halted, outcome, walk}
use Rattle.wire.proofs.Readings.{walk_checks, walk_give, then_passed, then_halted, parts, past_test, passed_check}
use Rattle.wire.proofs.Results.{clash}
use Rattle.wire.proofs.Runs.{Plain, plain_then, plain_by, plain_give, plain_check, plain_remaining, plain_u16, run_passed}
use Rattle.symbology.specs.Symbology.{Beam, Header, counts, over_body, block_header, symbology}
use Rattle.symbology.specs.Walk.{in_mode, first_of, sweep_from}
use Rattle.symbology.specs.declared.figures.Packet.TheVariants.{PacketAf1f}
use Rattle.symbology.proofs.Beams.{checked_is, counts_whole, header_counts}
use Rattle.symbology.proofs.Bodies.{halt_of, pass_of, plain_counts, plain_block, block_then, code_at, radial_run, walk_is, body_af1f}
use Rattle.symbology.proofs.Walking.{no28'}
use Rattle.export.specs.Export.{short_rows, run_header, export_head, export_walk, exportable}
use Rattle.export.proofs.Turns.{centre_of, mapped, run_mapped, run_walk_of}
use Rattle.export.proofs.Written.{figures_of}

-- ---- the header

abbrev pub head_at : List ℕ → Header
head_at s = record { radials = u16_at s 28; bins = u16_at s 20; range = u16_at s 26 }

module _ (s : List ℕ) where
  pub head_refused : {x : Refusal} → refused x ≡ outcome (walk block_header s 0) → refused x ≡ outcome (walk export_head s 0)
  unfolding export_head
  head_refused e = ap outcome (then_halted run_header block_header s 0 (halt_of _ e).1 ∙ ap (λ (t : Flat Header). walk t s 0) (block_then run_header))

  module _ {code : ℕ} (e : accepted code ≡ outcome (walk block_header s 0)) where
    behind : walk export_head s 0 ≡ walk (run_header code) s 18
    unfolding export_head
    behind = ap (λ (t : Flat Header). walk t s 0) (sym (block_then run_header)) ∙ then_passed run_header block_header s 0 (code_at s e).1

    code_is : walk export_head s 0
        ≡ cond (not (eqb code 44831)) (halted (kind 14 (whole (signed 32768 code) ∷ [])) 18)
        (cond (ltb (length s - 18) 12) (halted (kind 12 (nat (18 + (length s - 18)) ∷ [])) 18)
        (walk (counts PacketAf1f (u16_at s 18) >>= short_rows) s 20))
    unfolding remaining u16 walk ◌>>=◌ ◌>>◌
    code_is = behind ∙ walk_checks _ _ _ s 18 (walk_checks _ _ _ s 18 refl)

    pub head_code : {c : ℤ} → (code ≡ 44831 → ⊥) → c ≡ signed 32768 code → refused (kind 14 (whole c ∷ [])) ≡ outcome (walk export_head s 0)
    head_code h k = rw code_is (simp (ne_eqb _ _ h, k))

    module _ (af1f : code ≡ 44831) where
      pub head_cut : length s < 30 → refused (kind 12 (nat (length s) ∷ [])) ≡ outcome (walk export_head s 0)
      head_cut h =
          let l = (code_at s e).0 in
          let k : 18 + (length s - 18) ≡ length s = omega (arith, l) in
          let t : length s - 18 < 12 = omega arith in
          rw code_is (simp (eq-eqb _ _ af1f, lt-ltb _ _ t, k))

      module _ (thirty : 30 ≤ length s) {first : ℕ} (fe : first ≡ u16_at s 18) where
        answer : walk export_head s 0 ≡ walk (counts PacketAf1f (u16_at s 18) >>= short_rows) s 20
        answer = let t : 12 ≤ length s - 18 = omega arith in rw code_is (simp (eq-eqb _ _ af1f, le-ltb _ _ t))

        counted : walk export_head s 0 ≡ walk (counts PacketAf1f first >>= short_rows) s 20
        counted = answer ∙ ap (λ (n : ℕ). walk (counts PacketAf1f n >>= short_rows) s 20) (sym fe)

        pub head_counts : {x : Refusal} → refused x ≡ outcome (walk (counts PacketAf1f first) s 20) → refused x ≡ outcome (walk export_head s 0)
        head_counts k = ap outcome (then_halted short_rows (counts PacketAf1f first) s 20 (halt_of _ k).1 ∙ sym counted)

        module _ {h : Header} (k : accepted h ≡ outcome (walk (counts PacketAf1f first) s 20)) where
          rows_are : walk export_head s 0 ≡ cond (eqb h.bins 65535) (halted (kind 42 []) (pass_of (walk (counts PacketAf1f first) s 20) k).0) (passed h (pass_of (walk (counts PacketAf1f first) s 20) k).0)
          unfolding ◌>>◌
          rows_are = counted ∙ then_passed short_rows (counts PacketAf1f first) s 20 (pass_of (walk (counts PacketAf1f first) s 20) k).1 ∙ walk_checks _ _ _ s _ (walk_give h s _)

          pub head_long : h.bins ≡ 65535 → refused (kind 42 []) ≡ outcome (walk export_head s 0)
          head_long b = rw rows_are (simp (eq-eqb _ _ b))

          pub head_whole : (h.bins ≡ 65535 → ⊥) → accepted h ≡ outcome (walk export_head s 0)
          head_whole b = rw rows_are (simp (ne_eqb _ _ b))

plain_codes : (code : ℕ) → Plain (run_header code)
plain_codes code =
    plain_by _ _ (plain_check _ _) (plain_then _ (λ avail. plain_by _ _ (plain_check _ _) (plain_then _ (λ first.
    plain_then _ (λ h. plain_by _ _ (plain_check _ _) (plain_give _)) _ (plain_counts PacketAf1f first)) _ plain_u16)) _ plain_remaining)

pub plain_head : Plain export_head
unfolding export_head
plain_head = subst (λ (t : Flat Header). Plain t) (block_then run_header) (plain_then run_header plain_codes block_header plain_block)

-- What a header that passes shows.
pub record Headed (s : List ℕ) (h : Header) : Type 0 where
  pub long : 30 ≤ length s
  pub coded : accepted 44831 ≡ outcome (walk block_header s 0)
  pub some : h.bins ≡ 0 → ⊥
  pub small : h.radials * h.bins ≤ 4000000
  pub first : u16_at s 18 ≡ 0
  pub short : h.bins ≡ 65535 → ⊥
  pub is : h ≡ head_at s
  pub ends : passed h 30 ≡ walk export_head s 0

pub headed : (s : List ℕ) {h : Header} {q : ℕ} → passed h q ≡ walk export_head s 0 → Headed s h
headed s {h} {q} e = by (walk block_header s 0) refl
  where
    last : 30 ≤ length s → accepted 44831 ≡ outcome (walk block_header s 0) → (u16_at s 20 ≡ 0 → ⊥) → u16_at s 28 * u16_at s 20 ≤ 4000000 → u16_at s 18 ≡ 0
        → (v : Header) (m : ℕ) → passed h q ≡ passed v m → (v.bins ≡ 65535 → ⊥) → passed v m ≡ passed (head_at s) 30 → Headed s h
    last l c e₁ e₂ e₃ v m hv e₄ k =
        let i : h ≡ v = cc in
        let j = hv ∙ k in
        let x : q ≡ 30 = cc in
        let y : h ≡ head_at s = cc in
        record { long = l; coded = c; some = rw y e₁; small = rw y e₂; first = e₃; short = rw i e₄; is = y; ends = ap (passed h) (sym x) ∙ e }

    with_code : (code : ℕ) → accepted code ≡ outcome (walk block_header s 0) → Headed s h
    with_code code c =
        let h₁ = past_test (not (eqb code 44831)) _ _ _ (e ∙ code_is s c) in
        let h₂ = past_test (ltb (length s - 18) 12) _ _ _ h₁.1 in
        let p = parts short_rows (counts PacketAf1f (u16_at s 18)) s 20 h₂.1 in
        let h₃ = passed_check (eqb p.value.bins 65535) _ (give p.value) s p.middle p.second in
        let t₁ = past_test (eqb (u16_at s 20) 0) _ _ _ (p.first ∙ checked_is PacketAf1f (u16_at s 18) s) in
        let t₂ = past_test (ltb 4000000 (u16_at s 28 * u16_at s 20)) _ _ _ t₁.1 in
        let t₃ = past_test (not (eqb (u16_at s 18) 0)) _ _ _ t₂.1 in
        let t₄ = past_test (over_body PacketAf1f (u16_at s 28) (u16_at s 20) (length s - 30)) _ _ _ t₃.1 in
        let a : 18 ≤ length s = (code_at s c).0 in
        let b : 12 ≤ length s - 18 = ltb-false _ _ h₂.0 in
        last (omega (arith, a, b)) (ap accepted (sym (eqb-true _ _ (not-false _ h₁.0))) ∙ c) (eqb-false _ _ t₁.0) (ltb-false _ _ t₂.0) (eqb-true _ _ (not-false _ t₃.0))
        p.value p.middle (h₃.1 ∙ walk_give p.value s p.middle) (eqb-false _ _ h₃.0) t₄.1

    by : (w : Ended ℕ) → walk block_header s 0 ≡ w → Headed s h
    by (passed code p) k = with_code code (sym (ap outcome k))
    by (halted x p) k = clash h x (head_refused s (sym (ap outcome k)) ∙ sym (ap outcome e))

-- ---- past the header both go on alike

module _ (s : List ℕ) {h : Header} (k : Headed s h) where
  abbrev pub radials_of : Result (Given (List Beam))
  radials_of = run (export_walk h.radials h.bins h.radials 0) s 30

  pub export_run : run exportable s 0 ≡ mapped (λ beams. record { head = h; beams = beams }) radials_of
  unfolding exportable
  export_run =
      run_passed _ export_head plain_head s 0 k.ends
      ∙ run_mapped (λ beams. record { head = h; beams = beams }) (export_walk h.radials h.bins h.radials 0) s 30

  pub symbology_run : run symbology s 0 ≡ sweep_from (figures_of PacketAf1f h) (mapped (map centre_of) radials_of)
  unfolding over_body in_mode
  symbology_run =
      let e = k.is in
      let header = header_counts PacketAf1f s no28' k.long (counts_whole PacketAf1f (first_of PacketAf1f s) s (ap (λ (x : Header). x.radials) e) (ap (λ (x : Header). x.bins) e) k.some
      {cells = h.radials * h.bins} refl k.small refl {room = length s - 30} refl {over = false} refl refl (ap (λ (x : Header). x.range) e)) in
      body_af1f false s k.coded (λ z. let y : ◌≡◌ {A = ℕ} 44831 16 = z in omega arith) refl
      ∙ radial_run PacketAf1f s no28' header false
      ∙ ap (λ t. sweep_from (figures_of PacketAf1f h) (run t s 30)) (sym (walk_is PacketAf1f h.radials h.bins h.radials 0 no28'))
      ∙ ap (sweep_from (figures_of PacketAf1f h)) (run_walk_of h.radials h.bins h.radials 0 s 30)
