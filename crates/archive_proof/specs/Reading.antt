-- What may be written as a proof.
use Rattle.std.specs.Prelude.{◌≡◌, ℕ, ◌^◌, ◌<◌, ◌≤◌, List, ◌++◌, Option, None, Some, ⊤, length}
use Rattle.std.specs.List.{AllByRecursion}
use Rattle.hex.specs.Hex.{IsBytes}
use Rattle.archive_text.specs.declared.limits.TheConstants.{ENTRY_MAX}
use Rattle.archive_tree.specs.declared.audit_path.AuditPath.{AuditPath}
use Rattle.archive_proof.specs.Texts.{proof_text}
use Rattle.archive_proof.specs.declared.proof.Neighbour.{Neighbour}
use Rattle.archive_proof.specs.declared.proof.Proof.{Proof}
use Rattle.archive_proof.specs.declared.proof.Proof.TheVariants.{Present, Absent}

-- 32 octets
pub record IsHash (h : List ℕ) : Type 0 where
  pub size : length h ≡ 32
  pub octets : IsBytes h

-- an index below 2^64, and at most 64 hashes
pub record IsPath (p : AuditPath) : Type 0 where
  pub index : p.index < 2 ^ 64
  pub number : length p.hashes.items ≤ 64
  pub hashes : AllByRecursion IsHash p.hashes.items

-- a path, and the octets of a record
pub record IsNeighbour (n : Neighbour) : Type 0 where
  pub size : length n.octets.items < 2 ^ 64
  pub path : IsPath n.path

abbrev pub IsSide : Option Neighbour → Type 0
IsSide None = ⊤
IsSide (Some n) = IsNeighbour n

abbrev pub IsProof : Proof → Type 0
IsProof (Present path) = IsPath path
IsProof (Absent before behind) = IsSide before × IsSide behind

-- octets that an entry of an archive may have
abbrev pub IsShortSide : Option Neighbour → Type 0
IsShortSide None = ⊤
IsShortSide (Some n) = length n.octets.items ≤ ENTRY_MAX

abbrev pub IsShort : Proof → Type 0
IsShort (Present path) = ⊤
IsShort (Absent before behind) = IsShortSide before × IsShortSide behind

-- it may be written as a proof, and its neighbours are no longer than entries of an archive
pub record IsMade (p : Proof) : Type 0 where
  pub proof : IsProof p
  pub short : IsShort p

-- neighbours of the same octets and with the same path, or none
abbrev pub AreSameSides : Option Neighbour → Option Neighbour → Type 0
AreSameSides None None = ⊤
AreSameSides (Some a) (Some b) = (a.octets.items ≡ b.octets.items) × (a.path ≡ b.path)
AreSameSides a b = ⊥

-- the same proof, but for where its octets lie in memory
abbrev pub AreSame : Proof → Proof → Type 0
AreSame (Present p) (Present q) = p ≡ q
AreSame (Absent a b) (Absent c d) = AreSameSides a c × AreSameSides b d
AreSame p q = ⊥

-- the proof that the text begins with is this one, and no other, and so it goes on
abbrev pub IsOnlyProof : List ℕ → Proof → List ℕ → Type 0
IsOnlyProof text p behind =
    (q : Proof) (rest : List ℕ) → IsProof q → text ≡ proof_text q ++ rest → AreSame p q × (behind ≡ rest)
