-- The values of an accepted halfword sweep are near the exact tenths, and rise with their codes: in the sweep reading's answer, and in the
-- buffers of any call that the contract of `read_sweep` allows (M-108). Assumes nothing.
use Prim.Native.Nat.{ℕ, zero, suc, ◌≤◌, ◌<◌}
use Rattle.std.specs.Prelude as Std
use native.Mathlib.Nat.{le_of_suc-le-suc, not-suc-le-zero}
use native.Mathlib.Omega.{arith}
use mathlib.Core.List.{List, [], ◌∷◌, map}
use mathlib.Core.Bool.{true, not, false≢true}
use mathlib.Core.Path.{◌≡◌, refl, sym, ap, subst, ◌∙◌}
use lib.ListN.{length, get_or, get_or-append}
use lib.IntN.{ℤ}
use lib.Ieee.{Float, nan}
use mir.Syntax.{w8}
use borrow.Table.Referent.{f_int}
use borrow.Rule.Slice.Know.{Fit}
use Rattle.wire.specs.Result.{accepted}
use Rattle.wire.proofs.Results.{through, passed}
use Rattle.scale.specs.Physical.{declared_scale, physical_of}
use Rattle.scale.specs.Tenths.{Halfwords}
use Rattle.scale.specs.declared.physical.Scheme.{Scheme}
use Rattle.scale.proofs.Tenths.{tenths_near, tenths_rise, declared_halfwords}
use Rattle.symbology.specs.Rows.{code_bits}
use Rattle.symbology.specs.Words.{Bytes}
use Rattle.symbology.specs.declared.figures.Packet.{Packet}
use Rattle.symbology.specs.declared.figures.Packet.TheVariants.{Packet16, PacketAf1f, Packet28}
use Rattle.symbology.proofs.Widths.{OfBits}
use Rattle.sweep.specs.declared.sweep.Sweep.{Sweep}
use Rattle.sweep.specs.Sweep.{allowed, Accepted, finish, sweep_of, Buffers, read_into, Ran}
use Rattle.sweep.specs.Tenths.{InTenths}
use Rattle.sweep.proofs.Codes.{sweep_codes_fit}
use Rattle.sweep.proofs.Parts.{block_start, parts, sizes}
use Rattle.sweep.proofs.Thresholds.{cells}
use Rattle.sweep.proofs.CodeRuns.{Call, Allowed, scheme, file, clock, body, old, new, call_runs}

-- the halfword scheme works on packets 16 and AF1F, whose codes are bytes at most
in_a_byte : (packet : Packet) (codes : List ℕ) → allowed Scheme.Halfword packet ≡ true → OfBits (code_bits packet) codes → (a : ℕ) → get_or codes a 0 ≤ 255
unfolding allowed
in_a_byte Packet16 codes e h a = let l = h a in omega arith
in_a_byte PacketAf1f codes e h a = let l = h a in omega arith
in_a_byte Packet28 codes e h a = absurd (false≢true e)

map_at : {A : Type 0} (f : ℕ → A) (d : A) (l : List ℕ) (a : ℕ) → a < length l → get_or (map f l) a d ≡ f (get_or l a 0)
map_at f d [] a h = absurd (not-suc-le-zero h)
map_at f d (x ∷ l) zero h = refl
map_at f d (x ∷ l) (suc a) h = map_at f d l a (le_of_suc-le-suc h)

-- the codes and values that a buffer has in front
module _ (file : List ℕ) (n : ℕ) (codes cs : List ℕ) (values vs : List Float) where
  laid_tenths : ((a : ℕ) → a < n → get_or cs a 0 ≡ get_or codes a 0) → ((a : ℕ) → a < n → get_or vs a nan ≡ get_or values a nan) → InTenths file n codes values → InTenths file n cs vs
  laid_tenths ec ev w = record {
    header = w.header;
    header_is = w.header_is;
    m = w.m;
    i = w.i;
    halfwords = w.halfwords;
    to_255 = λ a h. rw (ec a h) (w.to_255 a h);
    near = λ a h from. rw (ec a h, ev a h) (w.near a h (rw (ec a h) at from));
    rise = λ a b h k from l. rw (ev a h, ev b k) (w.rise a b h k (rw (ec a h) at from) (rw (ec a h, ec b k) at l));
  }

pub sweep_tenths : (file : List ℕ) (clock : ℕ) (b : List ℕ) (na nc np : ℕ) (p : Accepted) → Bytes file → Bytes b → sweep_of Scheme.Halfword file clock b na nc np ≡ accepted p
    → InTenths file (cells p.sweep) p.codes p.physical
unfolding finish
sweep_tenths file clock b na nc np p file-bytes body_bytes acc =
    let q = parts Scheme.Halfword file clock na nc np b p acc in
    let w = block_start Scheme.Halfword file clock q.head q.head_is in
    passed (not (allowed Scheme.Halfword p.sweep.figures.packet)) _ _ _ (q.finishes p.codes) λ _ e₁.
    through (declared_scale q.head.scaling) _ _ e₁ λ d ed _.
    let z = declared_halfwords file q.head.block q.head.scaling d file-bytes w.3 ed in
    let m : ℤ = z.0 in
    let i : ℕ = z.1 in
    let h : Halfwords file q.head.block m i = z.2 in
    let long : length p.codes ≡ cells p.sweep = (sizes Scheme.Halfword file clock b na nc np p acc).codes in
    let small : (a : ℕ) → get_or p.codes a 0 ≤ 255 =
    in_a_byte p.sweep.figures.packet p.codes q.works (sweep_codes_fit Scheme.Halfword file clock b na nc np p acc body_bytes) in
    let value : ℕ → Float = physical_of Scheme.Halfword file q.head.block in
    let is : (a : ℕ) → a < cells p.sweep → get_or p.physical a nan ≡ value (get_or p.codes a 0) =
    λ a l. ap (λ (v : List Float). get_or v a nan) q.physical ∙ map_at value nan p.codes a (rw long l) in
    record {
      header = w.0;
      header_is = w.1;
      m = m;
      i = i;
      halfwords = subst (λ (n : ℕ). Halfwords file n m i) w.2 h;
      to_255 = λ a _. small a;
      near = λ a l from. rw (is a l) (tenths_near file q.head.block m i file-bytes h (get_or p.codes a 0) from (small a));
      rise = λ a c l k from more. rw (is a l, is c k) (tenths_rise file q.head.block m i file-bytes h (get_or p.codes a 0) (get_or p.codes c 0) from more (small c));
    }

-- as a run leaves them in the buffers
run_tenths : (file : List ℕ) (clock : ℕ) (b : List ℕ) (old new : Buffers) (s : Sweep) → Bytes file → Bytes b → Ran Scheme.Halfword file clock b old new (Std.Ok s)
    → InTenths file (cells s) new.codes new.physical
run_tenths file clock b old new s file-bytes body_bytes ran =
    through (read_into Scheme.Halfword file clock b old) _ s (sym ran.answered) λ p acc e.
    let same : p.sweep ≡ s = cc in
    let long = sizes Scheme.Halfword file clock b _ _ _ p acc in
    subst (λ (t : Sweep). InTenths file (cells t) new.codes new.physical) same
    (laid_tenths file (cells p.sweep) p.codes new.codes p.physical new.physical
    (λ a h. rw (ran.codes, acc) (get_or-append p.codes _ 0 a (rw long.codes h)))
    (λ a h. rw (ran.physical, acc) (get_or-append p.physical _ nan a (rw long.physical h)))
    (sweep_tenths file clock b _ _ _ p file-bytes body_bytes acc))

-- Any call under the halfword scheme that is accepted. That each entry of the file is a u8 is what owning a `&[u8]` gives, as for the body.
pub call_tenths : (c : Call) → Allowed c → Fit (f_int w8) 0 (file c) → scheme c ≡ Scheme.Halfword → (s : Sweep) → c.answer ≡ Std.Ok s
    → InTenths (file c) (cells s) (new c).codes (new c).physical
call_tenths c allowed good halfword s is =
    run_tenths (file c) (clock c) (body c) (old c) (new c) s (λ k. omega (arith, good k)) (λ k. omega (arith, c.good k))
    (subst (λ (h : Scheme). Ran h (file c) (clock c) (body c) (old c) (new c) (Std.Ok s)) halfword
    (subst (Ran (scheme c) (file c) (clock c) (body c) (old c) (new c)) is (call_runs c allowed)))
