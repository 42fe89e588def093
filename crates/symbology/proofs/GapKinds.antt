-- What turns into a gap is 22 and 34 alone. Assumes nothing.
use Rattle.std.proofs.Common.{◌≡◌, ℕ, zero, suc, ◌-◌, Bool, true, false, cond, not, eqb, ltb, ◌⊎◌, List, [], ◌∷◌, sym, ap, inl, inr}
use Rattle.wire.specs.Bytes.{signed}
use Rattle.wire.specs.Refusal.{Refusal, Value, kind, whole}
use Rattle.wire.specs.Result.{Result, accepted, refused, refuse}
use Rattle.wire.specs.Reading.{Read, Flat, give, stop, run, gaps, ◌>>=◌, ◌>>◌, radial_data}
use Rattle.wire.proofs.Results.{clash, one_refusal}
use Rattle.wire.proofs.Runs.{Plain, plain_check, plain_remaining, plain_u16, plain_u32, plain_unread}
use Rattle.wire.proofs.Gaps.{RowsRefuse, refuse_plain, refuse_then, refused_alike}
use Rattle.xdr.specs.Xdr.{pointer, further, elements, counted}
use Rattle.xdr.proofs.Plains.{plain_list_head}
use Rattle.symbology.specs.declared.figures.Packet.{Packet}
use Rattle.symbology.specs.declared.figures.Packet.TheVariants.{Packet16, PacketAf1f, Packet28}
use Rattle.symbology.specs.Gaps.{Numbered, RowRefusal, TurnsIntoGap}
use Rattle.symbology.specs.Rows.{row_of, row16, row_af1f, row28, levels, push, reach, words}
use Rattle.symbology.specs.Symbology.{frame, radial, radial_walk, packet_header, radial_packet, xdr_frame, xdr_radial, xdr_walk, xdr_radials, component, payload, generic_packet, packet_of, symbology}
use Rattle.symbology.proofs.Frames.{plain_beam, plain_xdr_frame}
use Rattle.symbology.proofs.Payload.{plain_head, plain_pointer, plain_block, plain_only}
use Rattle.symbology.proofs.Bodies.{plain_header}

-- ---- a row

number_of : {A : Type 0} (t : Bool) (n : ℕ) (values : List Value) (r : Result A) (x : Refusal) → refuse t (kind n values) r ≡ refused x → (r ≡ refused x → Numbered n x) → Numbered n x
number_of true n values r x e k = (values, cc)
number_of false n values r x e k = k e

levels_number : (radial gate : ℕ) (vs : List ℕ) (x : Refusal) → levels radial gate vs ≡ refused x → Numbered 34 x
unfolding levels push
levels_number radial gate [] x e = clash _ x (sym e)
levels_number radial gate (v ∷ vs) x e = number_of (ltb 65535 v) 34 _ (push v (levels radial (suc gate) vs)) x e (λ l. by (levels radial (suc gate) vs) (levels_number radial (suc gate) vs x) l)
  where
    by : (c : Result (List ℕ)) → (c ≡ refused x → Numbered 34 x) → push v c ≡ refused x → Numbered 34 x
    by (accepted codes) ih l = clash _ x (sym l)
    by (refused y) ih l = ih (ap refused (one_refusal l))

-- data that make no row are refused with 22 in AF1F, with 34 in packet 28, and never in packet 16
pub row_refusal : (packet : Packet) (bins r : ℕ) (bytes : List ℕ) (x : Refusal) → row_of packet bins r bytes ≡ refused x → RowRefusal packet x
unfolding row_of row16 row_af1f row28 RowRefusal
row_refusal Packet16 bins r bytes x e = clash _ x (sym e)
row_refusal PacketAf1f bins r bytes x e = number_of (not (eqb (reach bins bytes) bins)) 22 _ (accepted _) x e (λ l. clash _ x (sym l))
row_refusal Packet28 bins r bytes x e = levels_number r 0 (words bytes) x e

turns : (packet : Packet) (x : Refusal) → RowRefusal packet x → TurnsIntoGap x
unfolding RowRefusal
turns Packet16 x h = absurd h
turns PacketAf1f x h = inl h
turns Packet28 x h = inr h

-- ---- the body

abbrev Fine : {W A : Type 0} → Read W A → Type 0
Fine t = RowsRefuse TurnsIntoGap t

fine_then : {W A B : Type 0} (f : A → Read W B) (t : Flat A) → Fine t → ((a : A) → Fine (f a)) → Fine (t >>= f)
fine_then f t h k = refuse_then TurnsIntoGap f k t h

fine_after : {W A B : Type 0} (f : A → Read W B) (t : Flat A) → Plain t → ((a : A) → Fine (f a)) → Fine (t >>= f)
fine_after f t h k = fine_then f t (refuse_plain TurnsIntoGap t h) k

fine_give : (W : Type 0) {A : Type 0} (a : A) → Fine {W = W} (give a)
unfolding RowsRefuse
fine_give W a = tt

-- a radial's data, and its value
fine_data : {A : Type 0} (packet : Packet) (k bins r : ℕ) (a : A) → Fine {W = ⊥} (radial_data k (row_of packet bins r) >> give a)
unfolding RowsRefuse radial_data ◌>>◌ ◌>>=◌
fine_data packet k bins r a = (λ bytes x e. turns packet x (row_refusal packet bins r bytes x e), tt)

fine_radials : (packet : Packet) (radials bins n r : ℕ) → Fine (radial_walk packet radials bins n r)
unfolding radial_walk radial
fine_radials packet radials bins zero r = fine_give ⊥ []
fine_radials packet radials bins (suc n) r =
    fine_then _ _ (fine_after _ (frame packet radials bins r) (plain_beam packet radials bins r) λ beam. fine_data packet _ bins r _)
    λ first. fine_then _ _ (fine_radials packet radials bins n (suc r)) λ azimuths. fine_give ⊥ _

fine_packet : (packet : Packet) → Fine (radial_packet packet)
unfolding radial_packet
fine_packet packet = fine_after _ (packet_header packet) (plain_header packet) λ h. fine_then _ _ (fine_radials packet h.radials h.bins h.radials 0) λ azimuths. fine_give (Unit {0}) _

fine_xdr : (radials r : ℕ) (expected : ℕ → ℕ) → Fine (xdr_radial radials r expected)
unfolding xdr_radial
fine_xdr radials r expected = fine_after _ (xdr_frame radials r expected) (plain_xdr_frame radials r expected) λ xdr. fine_data Packet28 _ xdr.bins r xdr

fine_walk : (radials bins n r : ℕ) → Fine (xdr_walk radials bins n r)
unfolding xdr_walk
fine_walk radials bins zero r = fine_give ⊥ []
fine_walk radials bins (suc n) r = fine_then _ _ (fine_xdr radials r _) λ xdr. fine_then _ _ (fine_walk radials bins n (suc r)) λ azimuths. fine_give ⊥ _

fine_component : Fine component
unfolding component xdr_radials
fine_component =
    fine_after _ _ plain_head λ head.
    fine_then _ _ (fine_xdr head.radials 0 _) λ first.
    fine_then _ _ (fine_walk head.radials first.bins (head.radials - 1) 1) λ azimuths. fine_give ⊥ _

fine_further : (n : ℕ) → Fine (further component n)
unfolding further ◌>>◌
fine_further zero = fine_give ⊥ []
fine_further (suc n) =
    fine_after _ pointer plain_pointer λ _. fine_then _ _ fine_component λ a. fine_then _ _ (fine_further n) λ rest. fine_give ⊥ _

fine_elements : (n : ℕ) → Fine (elements component n)
unfolding elements
fine_elements zero = fine_give ⊥ []
fine_elements (suc n) = fine_then _ _ fine_component λ a. fine_then _ _ (fine_further n) λ rest. fine_give ⊥ _

fine_payload : Fine payload
unfolding payload counted ◌>>◌
fine_payload =
    fine_after _ _ plain_block λ _.
    fine_then _ _ (fine_after _ _ plain_list_head fine_elements) λ components.
    refuse_plain TurnsIntoGap _ (plain_only components)

fine_generic : Fine generic_packet
unfolding generic_packet ◌>>◌ RowsRefuse
fine_generic =
    fine_after _ _ plain_remaining λ avail.
    fine_after _ _ (plain_check _ _) λ _.
    fine_after _ _ (plain_unread 2) λ _.
    fine_after _ _ plain_u32 λ n.
    fine_after _ _ plain_remaining λ room.
    fine_after _ _ (plain_check _ _) λ _.
    fine_payload

fine_code : (code : ℕ) → Fine (packet_of code)
unfolding packet_of RowsRefuse
fine_code code = by (eqb code 16) (eqb code 0xAF1F) (eqb code 28)
  where
    by : (c₁ c₂ c₃ : Bool) → Fine (cond c₁ (radial_packet Packet16) (cond c₂ (radial_packet PacketAf1f) (cond c₃ generic_packet (stop (kind 14 (whole (signed 32768 code) ∷ []))))))
    by true c₂ c₃ = fine_packet Packet16
    by false true c₃ = fine_packet PacketAf1f
    by false false true = fine_generic
    by false false false = tt

fine_body : Fine symbology
unfolding symbology ◌>>◌
fine_body =
    fine_after _ _ plain_remaining λ n.
    fine_after _ _ (plain_check _ _) λ _.
    fine_after _ _ plain_u16 λ divider.
    fine_after _ _ plain_u16 λ block.
    fine_after _ _ (plain_check _ _) λ _.
    fine_after _ _ (plain_unread 12) λ _.
    fine_after _ _ plain_u16 fine_code

-- a body that is refused is refused with 22 or 34, or with gaps alike
pub body_refused_alike : (b : List ℕ) (x : Refusal) → run symbology b 0 ≡ refused x → TurnsIntoGap x ⊎ (run (gaps symbology) b 0 ≡ refused x)
body_refused_alike b x e = refused_alike TurnsIntoGap symbology fine_body b 0 x e
