-- How often readers failed, and where they stand.
use Rattle.std.proofs.Common.{◌≡◌, ◌∙◌, ℕ, zero, suc, ◌<◌, List, [], ◌∷◌, length, map, get_or, set, Err, refl, sym, ap, inl, inr, arith}
use Rattle.std.proofs.lemmas.List.{get_or-map}
use Rattle.octet_devices.specs.Device.{InputState, count_on}
use Rattle.archive_streams.specs.Faults.{SideFailures}
use Rattle.archive_streams.specs.declared.fault.InputFault.TheVariants.{Device, Endless as input_Endless}
use Rattle.archive_streams.specs.declared.fault.SideFault.{SideFault}
use Rattle.archive_streams.specs.declared.fault.SideFault.TheVariants.{Archive as side_Archive, Input}
use Rattle.archive_join.specs.Failures.{failed_at, failures_of, ReadFailed, ReadFailures, WriteFailures}
use Rattle.archive_join.specs.Heads.{fault_of}
use Rattle.archive_join.specs.declared.fault.JoinFault.{JoinFault}
use Rattle.archive_join.specs.declared.fault.JoinFault.TheVariants.{Archive, Read, Endless, Write, Memory}

-- where the reader of a number stands
pub stands_at : {R : Type 0} (state : R → InputState) (xs : List R) (at : ℕ) (r : R) → at < length xs
    → r ≡ get_or xs at r → state r ≡ get_or (map state xs) at (state r)
stands_at state xs at r within is = ap state is ∙ sym (get_or-map state xs at r (state r) within)

-- it did not fail
pub none_failed : {R : Type 0} (state : R → InputState) (xs : List R) (at : ℕ) (r s : R) → at < length xs
    → r ≡ get_or xs at r → (state s).failures ≡ (state r).failures
    → failures_of (map state (set xs at s)) ≡ failures_of (map state xs)
none_failed state [] at r s within is same = absurd (omega (arith, within))
none_failed state (x ∷ xs) zero r s within is same =
    ap (λ (n : ℕ). n ∷ failures_of (map state xs)) (same ∙ ap (λ y. (state y).failures) is)
none_failed state (x ∷ xs) (suc at) r s within is same =
    ap (λ (ns : List ℕ). (state x).failures ∷ ns) (none_failed state xs at r s (omega (arith, within)) is same)

-- it failed
pub one_failed : {R : Type 0} (state : R → InputState) (xs : List R) (at : ℕ) (r s : R) → at < length xs
    → r ≡ get_or xs at r → (state s).failures ≡ count_on (state r).failures
    → failures_of (map state (set xs at s)) ≡ failed_at at (failures_of (map state xs))
one_failed state [] at r s within is same = absurd (omega (arith, within))
one_failed state (x ∷ xs) zero r s within is same =
    ap (λ (n : ℕ). n ∷ failures_of (map state xs)) (same ∙ ap (λ y. count_on (state y).failures) is)
one_failed state (x ∷ xs) (suc at) r s within is same =
    ap (λ (ns : List ℕ). (state x).failures ∷ ns) (one_failed state xs at r s (omega (arith, within)) is same)

-- as its fault tells
pub failed_as_told : {R : Type 0} (X Y : Type 0) (state : R → InputState) (xs : List R) (at : ℕ) (r s : R) (fault : SideFault)
    → at < length xs → r ≡ get_or xs at r → SideFailures {X = X} (Err fault) (state r).failures (state s).failures
    → ReadFailures {X = Y} (Err (fault_of at fault)) (failures_of (map state xs)) (failures_of (map state (set xs at s)))
failed_as_told X Y state xs at r s (side_Archive fault) within is told = none_failed state xs at r s within is told
failed_as_told X Y state xs at r s (Input Device) within is told = one_failed state xs at r s within is told
failed_as_told X Y state xs at r s (Input input_Endless) within is told = none_failed state xs at r s within is told

-- ---- the whole run

-- a fault that is told as it was met
pub failed_still : (X Y : Type 0) (fault : JoinFault) (old new : List ℕ) → ((sent : ℕ) → ¬ (fault ≡ Write sent))
    → ReadFailures {X = X} (Err fault) old new → ReadFailed {X = Y} (Err fault) old new
failed_still X Y (Archive input fault) old new other told = told
failed_still X Y (Read input) old new other told = told
failed_still X Y (Endless input) old new other told = told
failed_still X Y (Write sent) old new other told = absurd (other sent refl)
failed_still X Y Memory old new other told = told

-- the writer failed before it was told
pub failed_before : (X Y : Type 0) (fault : JoinFault) (sent : ℕ) (old new : List ℕ)
    → ReadFailures {X = X} (Err fault) old new → ReadFailed {X = Y} (Err (Write sent)) old new
failed_before X Y (Archive input fault) sent old new told = inl told
failed_before X Y (Read input) sent old new told = inr (input, told)
failed_before X Y (Endless input) sent old new told = inl told
failed_before X Y (Write other) sent old new told = inl told
failed_before X Y Memory sent old new told = inl told

-- so is the writer's
pub written_still : (X Y : Type 0) (fault : JoinFault) (old mid new : ℕ) → ((sent : ℕ) → ¬ (fault ≡ Write sent))
    → WriteFailures {X = X} (Err fault) old mid → new ≡ mid → WriteFailures {X = Y} (Err fault) old new
written_still X Y (Archive input fault) old mid new other told same = same ∙ told
written_still X Y (Read input) old mid new other told same = same ∙ told
written_still X Y (Endless input) old mid new other told same = same ∙ told
written_still X Y (Write sent) old mid new other told same = absurd (other sent refl)
written_still X Y Memory old mid new other told same = same ∙ told
