-- Numbers of two archives on their way into one.
use Rattle.std.proofs.Common.{◌≡◌, ℕ, ◌+◌, ◌<◌, List, [], ◌∷◌, length, refl, sym, ap, subst, arith, inl, inr}
use Rattle.std.specs.Prelude.{◌≢◌, Result, Ok, Err, IfErr, IfOk, IsErrAnd, MatchResult, OnOk}
use Rattle.std.specs.declared.cmp.Ordering.{Ordering}
use Rattle.std.specs.declared.cmp.Ordering.TheVariants.{Less, Equal, Greater}
use Rattle.octet_devices.specs.declared.loops.TheConstants.{READ_MAX}
use Rattle.archive_text.specs.Entries.{IsOrder}
use Rattle.archive_streams.specs.EntryTexts.{entry_in}
use Rattle.archive_streams.specs.Merging.{IsNextOrder, IsSteady, LeftFailures, LeftReadFailed, OnlyWrite}
use Rattle.archive_streams.specs.Merging.{RightFailures, RightReadFailed, height}
use Rattle.archive_streams.specs.Pieces.{unused}
use Rattle.archive_streams.specs.Sides.{IsNear}
use Rattle.archive_streams.specs.Halted.{IsNotWrite}
use Rattle.archive_streams.specs.declared.fault.MergeFault.{MergeFault}
use Rattle.archive_streams.specs.declared.fault.MergeFault.TheVariants.{Left, Right, Read, Endless, Write, Memory}
use Rattle.archive_streams.specs.declared.fault.Side.TheVariants.{Left as side_Left, Right as side_Right}
use Rattle.archive_streams.specs.declared.side.ArchiveReader.{ArchiveReader}
use Rattle.archive_streams.specs.declared.merge.Merge.{Merge}
use Rattle.archive_streams.proofs.SideSteps.{near_at}

pub some_length : (s : List ℕ) → s ≢ [] → 0 < length s
some_length [] some = absurd (some refl)
some_length (x ∷ s) some = omega arith

-- the order of two entries is which of them comes next
pub next_of : (o : Ordering) (m : Merge) → m.left.entry.text.items ≢ [] → m.right.entry.text.items ≢ []
    → IsOrder o (entry_in m.left.entry) (entry_in m.right.entry) → IsNextOrder o m
next_of Less m left right h = (left, λ _. h)
next_of Equal m left right h = (left, right, h)
next_of Greater m left right h = (right, λ _. h)

-- before the first entry
pub near_start : (r : ArchiveReader) → unused r.pieces ≡ [] → r.position ≡ 0 → IsNear r
near_start r none first = omega (arith, ap length none, first)

-- an entry of both sides was written
pub falls_both : (old new : Merge) → IsSteady old → old.left.entry.text.items ≢ [] → old.right.entry.text.items ≢ []
    → new.left.position ≡ old.left.position + length new.left.entry.text.items
    → new.right.position ≡ old.right.position + length new.right.entry.text.items → height new < height old
falls_both old new s left right l r =
    omega (
      arith,
      near_at READ_MAX old.left old.left_size s.room.left_near,
      near_at READ_MAX old.right old.right_size s.room.right_near,
      old.left.pieces.few,
      old.right.pieces.few,
      some_length old.left.entry.text.items left,
      some_length old.right.entry.text.items right,
      l,
      r,
    )

-- what holds at Ok, and what follows from it
pub if_ok_then : {T E : Type 0} (r : Result T E) (P Q : T → Type 0) → IfOk r P → ((x : T) → P x → Q x) → IfOk r Q
if_ok_then (Ok x) P Q h f = f x h
if_ok_then (Err e) P Q h f = tt

pub on_ok_then : {T E : Type 0} (r : Result T E) (P Q : Type 0) → OnOk r P → (P → Q) → OnOk r Q
on_ok_then (Ok x) P Q h f = f h
on_ok_then (Err e) P Q h f = tt

-- the same of both outcomes
pub run_outcome : {T E : Type 0} (r : Result T E) (P Q : T → Type 0) (F H : E → Type 0) → IfOk r P → IfErr r F
    → ((x : T) → P x → Q x) → ((x : E) → F x → H x) → MatchResult r Q H
run_outcome (Ok x) P Q F H ok err f h = f x ok
run_outcome (Err x) P Q F H ok err f h = h x err

-- what holds of the fault of a `?`
pub at_err : {T E : Type 0} (r : Result T E) (e : E) (P : E → Type 0) → IsErrAnd r (λ x. x ≡ e) → P e → IfErr r P
at_err (Ok x) e P h p = absurd h
at_err (Err x) e P h p = subst P (sym h) p

-- ---- how often the readers failed

-- no read failed, and then the writer did or did not
pub left_kept : {X : Type 0} (r : Result X MergeFault) (old new : ℕ) → OnlyWrite r → new ≡ old
    → LeftReadFailed r old new
left_kept (Ok x) old new only e = e
left_kept (Err (Write sent)) old new only e = inl e
left_kept (Err (Left fault)) old new only e = absurd only
left_kept (Err (Right fault)) old new only e = absurd only
left_kept (Err (Read side)) old new only e = absurd only
left_kept (Err (Endless side)) old new only e = absurd only
left_kept (Err Memory) old new only e = absurd only

-- a fault is told
pub left_told : (fault : MergeFault) (old new : ℕ) → IsNotWrite fault
    → LeftFailures {X = Unit {0}} (Err fault) old new → LeftReadFailed {X = ℕ} (Err fault) old new
left_told (Write sent) old new other h = absurd other
left_told (Left fault) old new other h = h
left_told (Right fault) old new other h = h
left_told (Read side_Left) old new other h = h
left_told (Read side_Right) old new other h = h
left_told (Endless side) old new other h = h
left_told Memory old new other h = h

-- the writer fails before it is told
pub left_before : (fault : MergeFault) (sent old new : ℕ) → LeftFailures {X = Unit {0}} (Err fault) old new
    → LeftReadFailed {X = ℕ} (Err (Write sent)) old new
left_before (Write more) sent old new h = inl h
left_before (Left fault) sent old new h = inl h
left_before (Right fault) sent old new h = inl h
left_before (Read side_Left) sent old new h = inr h
left_before (Read side_Right) sent old new h = inl h
left_before (Endless side) sent old new h = inl h
left_before Memory sent old new h = inl h

pub left_first : (write fault : MergeFault) (old new : ℕ) → OnlyWrite {X = ℕ} (Err write)
    → LeftFailures {X = Unit {0}} (Err fault) old new → LeftReadFailed {X = ℕ} (Err write) old new
left_first (Write sent) fault old new only h = left_before fault sent old new h
left_first (Left other) fault old new only h = absurd only
left_first (Right other) fault old new only h = absurd only
left_first (Read side) fault old new only h = absurd only
left_first (Endless side) fault old new only h = absurd only
left_first Memory fault old new only h = absurd only

-- no read failed, and then the writer did or did not
pub right_kept : {X : Type 0} (r : Result X MergeFault) (old new : ℕ) → OnlyWrite r → new ≡ old
    → RightReadFailed r old new
right_kept (Ok x) old new only e = e
right_kept (Err (Write sent)) old new only e = inl e
right_kept (Err (Left fault)) old new only e = absurd only
right_kept (Err (Right fault)) old new only e = absurd only
right_kept (Err (Read side)) old new only e = absurd only
right_kept (Err (Endless side)) old new only e = absurd only
right_kept (Err Memory) old new only e = absurd only

-- a fault is told
pub right_told : (fault : MergeFault) (old new : ℕ) → IsNotWrite fault
    → RightFailures {X = Unit {0}} (Err fault) old new → RightReadFailed {X = ℕ} (Err fault) old new
right_told (Write sent) old new other h = absurd other
right_told (Left fault) old new other h = h
right_told (Right fault) old new other h = h
right_told (Read side_Left) old new other h = h
right_told (Read side_Right) old new other h = h
right_told (Endless side) old new other h = h
right_told Memory old new other h = h

-- the writer fails before it is told
pub right_before : (fault : MergeFault) (sent old new : ℕ) → RightFailures {X = Unit {0}} (Err fault) old new
    → RightReadFailed {X = ℕ} (Err (Write sent)) old new
right_before (Write more) sent old new h = inl h
right_before (Left fault) sent old new h = inl h
right_before (Right fault) sent old new h = inl h
right_before (Read side_Right) sent old new h = inr h
right_before (Read side_Left) sent old new h = inl h
right_before (Endless side) sent old new h = inl h
right_before Memory sent old new h = inl h

pub right_first : (write fault : MergeFault) (old new : ℕ) → OnlyWrite {X = ℕ} (Err write)
    → RightFailures {X = Unit {0}} (Err fault) old new → RightReadFailed {X = ℕ} (Err write) old new
right_first (Write sent) fault old new only h = right_before fault sent old new h
right_first (Left other) fault old new only h = absurd only
right_first (Right other) fault old new only h = absurd only
right_first (Read side) fault old new only h = absurd only
right_first (Endless side) fault old new only h = absurd only
right_first Memory fault old new only h = absurd only
