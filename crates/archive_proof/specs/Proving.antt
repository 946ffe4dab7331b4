-- Proofs under way.
use Rattle.std.specs.Prelude.{◌≡◌, ℕ, suc, ◌*◌, ◌≤◌, List, [], ◌∷◌, ◌⊎◌, length}
use Rattle.std.specs.List.{AllByRecursion, flat_map}
use Rattle.archive_text.specs.Entries.{Entry, Has, IsBelow}
use Rattle.archive_text.specs.Text.{IsArchive}
use Rattle.archive_text.specs.declared.limits.TheConstants.{ENTRY_MAX}
use Rattle.archive_tree.specs.Trees.{HasTaken, IsFollowed}
use Rattle.archive_tree.specs.declared.audit_path.AuditPath.{AuditPath}
use Rattle.archive_tree.specs.declared.head.TreeHead.{TreeHead}
use Rattle.archive_tree.specs.declared.stream.TreeStream.{TreeStream}
use Rattle.archive_tree.specs.Archives.{texts_of}
use Rattle.archive_proof.specs.Asking.{asked_entries, asked_entry}
use Rattle.archive_proof.specs.Entries.{IsEntryAt}
use Rattle.archive_proof.specs.Reading.{IsMade}
use Rattle.archive_proof.specs.Showing.{ShowsAbsent, ShowsPresent}
use Rattle.archive_proof.specs.Texts.{proof_text}
use Rattle.archive_proof.specs.declared.asked.AskedRecord.{AskedRecord}
use Rattle.archive_proof.specs.declared.proof.Proof.{Proof}
use Rattle.archive_proof.specs.declared.writing.TheConstants.{PROOF_MAX}
use Rattle.archive_proof.specs.declared.search.Place.{Place}
use Rattle.archive_proof.specs.declared.search.Place.TheVariants.{Ahead, Found, Passed}
use Rattle.archive_proof.specs.declared.search.Search.{Search}
use Rattle.archive_proof.specs.declared.prover.Prover.{Prover}

-- the entry stands behind so many of those that were looked at, and the path is its own in the tree of those that came
pub record IsTracked (t : TreeStream) (p : AuditPath) (i : ℕ) (e : Entry) (all xs : List Entry) : Type 0 where
  pub at : IsEntryAt all i e
  pub followed : IsFollowed t i p (texts_of xs)

-- no entry was looked at
pub record IsFresh (s : Search) : Type 0 where
  pub place : s.place ≡ Ahead
  pub before : s.before.items ≡ []
  pub behind : s.behind.items ≡ []

-- so many searches of no entry
pub record AreFresh (count : ℕ) (ss : List Search) : Type 0 where
  pub number : length ss ≡ count
  pub each : AllByRecursion IsFresh ss

-- the entry right before these is tracked, and comes before the record; or there is none
abbrev pub HasBefore : Entry → TreeStream → Search → AuditPath → ℕ → List Entry → List Entry → Type 0
HasBefore r t s p i all xs =
    ((i ≡ 0) × (s.before.items ≡ []))
    ⊎ ((j : ℕ) × ((e : Entry) × ((suc j ≡ i) × IsBelow e r × (s.before.items ≡ e.octets) × IsTracked t p j e all xs)))

-- where the place of the record is
abbrev pub IsPlaced : Place → Entry → TreeStream → Search → AuditPath → AuditPath → List Entry → List Entry → Type 0
IsPlaced Ahead r t s p q all xs = (s.behind.items ≡ []) × HasBefore r t s p (length all) all xs
IsPlaced Found r t s p q all xs = (i : ℕ) × IsTracked t p i r all xs
IsPlaced Passed r t s p q all xs =
    (i : ℕ) × ((e : Entry) × (IsBelow r e × (s.behind.items ≡ e.octets) × IsTracked t q i e all xs
    × HasBefore r t s p i all xs))

-- where the place of each is; each has two paths
abbrev pub ArePlaced : TreeStream → List Entry → List Entry → List AskedRecord → List Search → List AuditPath → Type 0
ArePlaced t all xs [] [] [] = Unit {0}
ArePlaced t all xs (r ∷ rs) (s ∷ ss) (p ∷ q ∷ ps) =
    IsPlaced s.place (asked_entry r) t s p q all xs × ArePlaced t all xs rs ss ps
ArePlaced t all xs rs ss ps = ⊥

-- these records are asked for, and the entries of this archive came
pub record IsProving (rs : List Entry) (s : Prover) (xs : List Entry) : Type 0 where
  pub asked : asked_entries s.asked.items ≡ rs
  pub archive : IsArchive ENTRY_MAX xs
  pub taken : HasTaken s.tree (texts_of xs)
  pub placed : ArePlaced s.tree xs xs s.asked.items s.searches.items s.paths.items

-- the proof shows whether the entry is one of these
abbrev pub IsProofOf : TreeHead → List Entry → Entry → Proof → Type 0
IsProofOf head xs e p = (Has xs e × ShowsPresent head e p) ⊎ ((¬ (Has xs e)) × ShowsAbsent head e p)

-- each of the proofs does, of its record
abbrev pub AreProofsOf : TreeHead → List Entry → List Entry → List Proof → Type 0
AreProofsOf head xs [] [] = Unit {0}
AreProofsOf head xs (e ∷ es) (p ∷ ps) = IsProofOf head xs e p × AreProofsOf head xs es ps
AreProofsOf head xs es ps = ⊥

-- a text of proofs, which can be read, one for each of the records, in their order. It is not too long
pub record IsTextOfProofs (head : TreeHead) (xs rs : List Entry) (text : List ℕ) : Type 0 where
  pub ps : List Proof
  pub proofs : AreProofsOf head xs rs ps
  pub made : AllByRecursion IsMade ps
  pub is_text : text ≡ flat_map proof_text ps
  pub short : length text ≤ PROOF_MAX * length rs
