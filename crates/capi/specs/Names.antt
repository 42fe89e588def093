-- The names of the refusals, and the library's version.
use Rattle.std.specs.Prelude.{ℕ, zero, suc, ◌+◌, ◌*◌, List, [], ◌∷◌, cond, codes, nat_lt, slice_get, Option, Some, None}
use Rattle.capi.specs.Report.{padded, Said, said, failed}

-- 1 to 46, in the order of their numbers
unfoldable pub names : List (List ℕ)
names =
    codes "NoAwipsToken"
    ∷ codes "NoMessageHeader"
    ∷ codes "PdbFieldOutOfBounds"
    ∷ codes "ImplausibleScanTime"
    ∷ codes "ScanTimeTooFarAhead"
    ∷ codes "ClockOutOfRange"
    ∷ codes "NonFiniteScale"
    ∷ codes "NonFiniteOffset"
    ∷ codes "NonPositiveIncrement"
    ∷ codes "SchemeMismatch"
    ∷ codes "UnexpectedTrailingBytes"
    ∷ codes "SymbologyTruncated"
    ∷ codes "BadSymbologyHeader"
    ∷ codes "UnsupportedPacketCode"
    ∷ codes "EmptySweep"
    ∷ codes "GridTooLarge"
    ∷ codes "NonZeroFirstBin"
    ∷ codes "AllocationExceedsBody"
    ∷ codes "TruncatedAtRadial"
    ∷ codes "ImplausibleRadialWidth"
    ∷ codes "RadialByteCountMismatch"
    ∷ codes "RleExpansionMismatch"
    ∷ codes "XdrTruncated"
    ∷ codes "XdrStringTooLong"
    ∷ codes "XdrArrayTooLong"
    ∷ codes "XdrListTooLong"
    ∷ codes "UnsupportedXdrComponent"
    ∷ codes "UnexpectedXdrComponentCount"
    ∷ codes "NonPositiveXdrGeometry"
    ∷ codes "ImplausibleXdrRadialCount"
    ∷ codes "XdrRadialBinCountMismatch"
    ∷ codes "XdrRadialDataLengthMismatch"
    ∷ codes "XdrGridTooLarge"
    ∷ codes "XdrRawLevelOutOfRange"
    ∷ codes "XdrTrailingBytes"
    ∷ codes "BufferTooShort"
    ∷ codes "PlanMalformed"
    ∷ codes "FieldRepeated"
    ∷ codes "StripOutside"
    ∷ codes "TariffMalformed"
    ∷ codes "TotalTooLarge"
    ∷ codes "RowTooLong"
    ∷ codes "DifferentSweeps"
    ∷ codes "RowsDisagree"
    ∷ codes "SurplusInRow"
    ∷ codes "SurplusAfterRadials"
    ∷ []

-- the name of refusal n
unfoldable pub name_of : ℕ → Option (List ℕ)
name_of zero = None
name_of (suc n) = slice_get names n

-- how many places an entry writes for one
abbrev pub name_places : ℕ
name_places = 32

-- what an entry has to say of a name, where there is one: the name, with zeros behind it
abbrev pub named : Option (List ℕ) → Said (List ℕ)
named None = failed 101
named (Some s) = said (padded name_places 0 s)

-- of refusal n, for a buffer of so many places
unfoldable pub name_said : ℕ → ℕ → Said (List ℕ)
name_said n room = cond (nat_lt room name_places) (failed 101) (named (name_of n))

-- major, minor and patch, two digits each for the last two
abbrev pub version : ℕ
version = 4 * 10000 + 0 * 100 + 0
