-- Document 01's table, 'When reading stops', and what document 02 adds to it: the number and the values of each kind of refusal.
use Rattle.std.specs.Prelude.{ℕ, List, [], ◌∷◌, ℤ, pos, Float}
use Rattle.wire.specs.declared.error.XdrItem.{XdrItem}
use Rattle.wire.specs.declared.error.Buffer.{Buffer}
use Rattle.wire.specs.declared.error.Level3DecodeError.{Level3DecodeError}
use Rattle.wire.specs.declared.error.Level3DecodeError.TheVariants.{NoAwipsToken, NoMessageHeader, PdbFieldOutOfBounds, ImplausibleScanTime, ScanTimeTooFarAhead, ClockOutOfRange, NonFiniteScale, NonFiniteOffset, NonPositiveIncrement, SchemeMismatch, UnexpectedTrailingBytes, SymbologyTruncated, BadSymbologyHeader, UnsupportedPacketCode, EmptySweep, GridTooLarge, NonZeroFirstBin, AllocationExceedsBody, TruncatedAtRadial, ImplausibleRadialWidth, RadialByteCountMismatch, RleExpansionMismatch, XdrTruncated, XdrStringTooLong, XdrArrayTooLong, XdrListTooLong, UnsupportedXdrComponent, UnexpectedXdrComponentCount, NonPositiveXdrGeometry, ImplausibleXdrRadialCount, XdrRadialBinCountMismatch, XdrRadialDataLengthMismatch, XdrGridTooLarge, XdrRawLevelOutOfRange, XdrTrailingBytes, BufferTooShort, PlanMalformed, FieldRepeated, StripOutside, TariffMalformed, TotalTooLarge, RowTooLong, DifferentSweeps, RowsDisagree, SurplusInRow, SurplusAfterRadials}

-- a value that a refusal carries: a whole number, a float, the XDR item cut short, the buffer that is short
pub data Value : Type 0 where
  whole : ℤ → Value
  float : Float → Value
  item : XdrItem → Value
  buffer : Buffer → Value

-- a count or an unsigned field
abbrev pub nat : ℕ → Value
nat n = whole (pos n)

-- a refusal: its number in the table, and its values in the order of the Rust's error
pub data Refusal : Type 0 where
  kind : ℕ → List Value → Refusal

abbrev pub refusal_of : Level3DecodeError → Refusal
refusal_of NoAwipsToken = kind 1 []
refusal_of NoMessageHeader = kind 2 []
refusal_of (PdbFieldOutOfBounds i) = kind 3 (nat i ∷ [])
refusal_of (ImplausibleScanTime d s) = kind 4 (nat d ∷ whole s ∷ [])
refusal_of (ScanTimeTooFarAhead s) = kind 5 (nat s ∷ [])
refusal_of ClockOutOfRange = kind 6 []
refusal_of (NonFiniteScale x) = kind 7 (float x ∷ [])
refusal_of (NonFiniteOffset x) = kind 8 (float x ∷ [])
refusal_of (NonPositiveIncrement x) = kind 9 (float x ∷ [])
refusal_of SchemeMismatch = kind 10 []
refusal_of (UnexpectedTrailingBytes n) = kind 11 (nat n ∷ [])
refusal_of (SymbologyTruncated n) = kind 12 (nat n ∷ [])
refusal_of (BadSymbologyHeader d b) = kind 13 (whole d ∷ whole b ∷ [])
refusal_of (UnsupportedPacketCode p) = kind 14 (whole p ∷ [])
refusal_of (EmptySweep r b) = kind 15 (nat r ∷ nat b ∷ [])
refusal_of (GridTooLarge r b c m) = kind 16 (nat r ∷ nat b ∷ nat c ∷ nat m ∷ [])
refusal_of (NonZeroFirstBin b) = kind 17 (nat b ∷ [])
refusal_of (AllocationExceedsBody r b n a) = kind 18 (nat r ∷ nat b ∷ nat n ∷ nat a ∷ [])
refusal_of (TruncatedAtRadial r n) = kind 19 (nat r ∷ nat n ∷ [])
refusal_of (ImplausibleRadialWidth r w) = kind 20 (nat r ∷ float w ∷ [])
refusal_of (RadialByteCountMismatch r n b) = kind 21 (nat r ∷ nat n ∷ nat b ∷ [])
refusal_of (RleExpansionMismatch r e b) = kind 22 (nat r ∷ nat e ∷ nat b ∷ [])
refusal_of (XdrTruncated i h n) = kind 23 (item i ∷ nat h ∷ nat n ∷ [])
refusal_of (XdrStringTooLong n m) = kind 24 (nat n ∷ nat m ∷ [])
refusal_of (XdrArrayTooLong n m) = kind 25 (nat n ∷ nat m ∷ [])
refusal_of (XdrListTooLong n m) = kind 26 (whole n ∷ whole m ∷ [])
refusal_of (UnsupportedXdrComponent t) = kind 27 (whole t ∷ [])
refusal_of (UnexpectedXdrComponentCount n) = kind 28 (nat n ∷ [])
refusal_of (NonPositiveXdrGeometry r b) = kind 29 (whole r ∷ whole b ∷ [])
refusal_of (ImplausibleXdrRadialCount r m) = kind 30 (whole r ∷ whole m ∷ [])
refusal_of (XdrRadialBinCountMismatch r b e) = kind 31 (nat r ∷ nat b ∷ nat e ∷ [])
refusal_of (XdrRadialDataLengthMismatch r d b) = kind 32 (nat r ∷ nat d ∷ nat b ∷ [])
refusal_of (XdrGridTooLarge r b c m) = kind 33 (nat r ∷ nat b ∷ nat c ∷ nat m ∷ [])
refusal_of (XdrRawLevelOutOfRange r g v) = kind 34 (nat r ∷ nat g ∷ whole v ∷ [])
refusal_of (XdrTrailingBytes n) = kind 35 (nat n ∷ [])
refusal_of (BufferTooShort b) = kind 36 (buffer b ∷ [])
refusal_of (PlanMalformed o) = kind 37 (nat o ∷ [])
refusal_of (FieldRepeated o) = kind 38 (nat o ∷ [])
refusal_of (StripOutside o) = kind 39 (nat o ∷ [])
refusal_of TariffMalformed = kind 40 []
refusal_of TotalTooLarge = kind 41 []
refusal_of RowTooLong = kind 42 []
refusal_of DifferentSweeps = kind 43 []
refusal_of (RowsDisagree r) = kind 44 (nat r ∷ [])
refusal_of (SurplusInRow r) = kind 45 (nat r ∷ [])
refusal_of SurplusAfterRadials = kind 46 []
