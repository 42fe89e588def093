-- A radial's data and damage as a reading has them are those of document 01's words. Assumes nothing.
use Rattle.std.proofs.Common.{◌≡◌, ℕ, ◌<◌, ◌↔◌, List, length, sym, refl, ◌∙◌, inl, inr, ⊎_elim}
use mathlib.Core.Logic.Iff
use Rattle.wire.specs.Result.{accepted}
use Rattle.wire.specs.Reading.{Given, run, Unread}
use Rattle.symbology.specs.declared.figures.Packet.{Packet}
use Rattle.symbology.specs.declared.figures.Packet.TheVariants.{Packet16, PacketAf1f, Packet28}
use Rattle.symbology.specs.declared.figures.Figures.{Figures}
use Rattle.symbology.specs.Damage.{DataByte, radial_at, data_in, Damage, Changed}
use Rattle.symbology.specs.Symbology.{Sweep, symbology}
use Rattle.symbology.specs.Places.{frame_at, Placed}
use Rattle.symbology.specs.Words.{IsUnread, data_place, IsData, data_of, ChangedIn, DamageInWords}
use Rattle.symbology.proofs.Walking.{no28, no28'}
use Rattle.symbology.proofs.Placement.{placed}

module _ (b : List ℕ) (f : Figures) (q : Placed b f) where
  unread_in_words : (packet : Packet) → f.packet ≡ packet → (i : ℕ) → i < length b → Unread symbology b 0 i ↔ IsUnread packet f.n_radials b i
  unfolding IsUnread
  unread_in_words Packet16 e i lt = rw e at (q.unread (λ h. no28 (sym e ∙ h)) i)
  unread_in_words PacketAf1f e i lt = rw e at (q.unread (λ h. no28' (sym e ∙ h)) i)
  unread_in_words Packet28 e i lt = q.unread28 e i lt

  place_by : (packet : Packet) → f.packet ≡ packet → (r : ℕ) → r < f.n_radials
      → data_place packet b r ≡ ((radial_at symbology b r).start, (radial_at symbology b r).count)
  unfolding data_place frame_at
  place_by Packet16 e r lt = rw (q.frames (λ h. no28 (sym e ∙ h)) r lt, e)
  place_by PacketAf1f e r lt = rw (q.frames (λ h. no28' (sym e ∙ h)) r lt, e)
  place_by Packet28 e r lt = q.data28 e r lt

  module _ (r : ℕ) (lt : r < f.n_radials) where
    -- the place of radial r's data
    place_in_words : data_place f.packet b r ≡ ((radial_at symbology b r).start, (radial_at symbology b r).count)
    place_in_words = place_by f.packet refl r lt

    byte_in_words : (i : ℕ) → DataByte (radial_at symbology b r) i ↔ IsData f.packet b r i
    byte_in_words i = rw place_in_words Iff.rfl

    pub data_in_words : (b' : List ℕ) → data_in symbology b r b' ≡ data_of f.packet b r b'
    unfolding data_in data_of
    data_in_words b' = rw place_in_words

    pub changed_in_words : (b' : List ℕ) → Changed symbology b b' r ↔ ChangedIn f.packet b b' r
    changed_in_words b' = (
      λ c. (c.at, (byte_in_words c.at).0 c.data_byte, c.differs),
      λ w. record { at = w.0; data_byte = (byte_in_words w.0).1 w.1; differs = w.2 },
    )

pub damage_in_words : (b b' : List ℕ) (g : Given Sweep) → run symbology b 0 ≡ accepted g → Damage symbology b b' ↔ DamageInWords b g.value.figures b'
damage_in_words b b' g acc =
    let q = placed b g acc in
    let f = g.value.figures in
    let unread = unread_in_words b f q f.packet refl in
    let byte = byte_in_words b f q in (
      λ d. record {
        same_length = d.same_length;
        only = λ i lt ne.
            ⊎_elim (λ u. inl ((unread i lt).0 u)) (λ w. let h = rw q.count at w.1 in inr (w.0, h, (byte w.0 h i).0 w.2)) (d.only i lt ne);
      },
      λ d. record {
        same_length = d.same_length;
        only = λ i lt ne. ⊎_elim (λ u. inl ((unread i lt).1 u)) (λ w. inr (w.0, rw q.count w.1, (byte w.0 w.1 i).1 w.2)) (d.only i lt ne);
      },
    )
