-- What a lock's file tells of a sync that failed.
use Rattle.std.specs.Prelude.{◌≡◌, ◌≢◌, ◌⊎◌, ◌++◌, ◌∷◌, ◌≤◌, [], EachIndex, List, ℕ, codes, length, slice_index}

-- a digit of a number in lower hexadecimal
abbrev pub IsHexDigit : ℕ → Type 0
IsHexDigit octet = ((48 ≤ octet) × (octet ≤ 57)) ⊎ ((97 ≤ octet) × (octet ≤ 102))

-- where the dashes of a UUID are
abbrev pub IsDashPlace : ℕ → Type 0
IsDashPlace k = ((k ≡ 8) ⊎ (k ≡ 13)) ⊎ ((k ≡ 18) ⊎ (k ≡ 23))

-- a dash is there, and anywhere else a digit
pub record IsAt (place octet : ℕ) : Type 0 where
  pub dash : IsDashPlace place → octet ≡ 45
  pub digit : ¬ (IsDashPlace place) → IsHexDigit octet

-- what Linux calls a run: a UUID, in lower case (RFC 9562, section 4)
pub record IsBootId (id : List ℕ) : Type 0 where
  pub long : length id ≡ 36
  pub each : EachIndex id (λ place. IsAt place (slice_index id place))

-- the note of a run in which a sync has failed, by what the system calls the run
abbrev pub failed_note : List ℕ → List ℕ
failed_note boot = codes "failed " ++ boot ++ 10 ∷ []

-- the note of one in which none has failed
abbrev pub sound_note : List ℕ → List ℕ
sound_note boot = codes "synced " ++ boot ++ 10 ∷ []

-- a note says that no sync has failed, in a run that has a name or in one of which it is not known
abbrev pub IsSoundNote : List ℕ → Type 0
IsSoundNote note = (boot : List ℕ) × ((boot ≡ []) ⊎ IsBootId boot) × (note ≡ sound_note boot)

-- a run is another one than this, of which it is known which one it is
pub record IsOtherRun (named boot : List ℕ) : Type 0 where
  pub is_id : IsBootId named
  pub known : boot ≢ []
  pub other : named ≢ boot

-- a note says that a sync has failed, in another run than this
abbrev pub IsOfOtherRun : List ℕ → List ℕ → Type 0
IsOfOtherRun note boot = (named : List ℕ) × IsOtherRun named boot × (note ≡ failed_note named)

-- There is a note, and it is neither that of a run in which no sync has failed nor that of another run: so any that is
-- not understood tells of this one.
pub record TellsOfBoot (note boot : List ℕ) : Type 0 where
  pub some : note ≢ []
  pub unsound : ¬ (IsSoundNote note)
  pub same : ¬ (IsOfOtherRun note boot)
