-- Proofs as texts.
use Rattle.std.specs.Prelude.{ℕ, List, [], ◌∷◌, ◌++◌, Option, None, Some, codes, decimal, length}
use Rattle.std.specs.List.{flat_map}
use Rattle.hex.specs.Hex.{encode_lower}
use Rattle.archive_tree.specs.declared.audit_path.AuditPath.{AuditPath}
use Rattle.archive_proof.specs.declared.proof.Neighbour.{Neighbour}
use Rattle.archive_proof.specs.declared.proof.Proof.{Proof}
use Rattle.archive_proof.specs.declared.proof.Proof.TheVariants.{Present, Absent}

-- hash = 64(DIGIT / %x61-66), and a line feed
abbrev pub hash_line : List ℕ → List ℕ
hash_line hash = encode_lower hash ++ 10 ∷ []

-- path = index SP number LF *(hash LF)
abbrev pub path_text : AuditPath → List ℕ
path_text p =
    decimal p.index ++ 32 ∷ decimal (length p.hashes.items) ++ 10 ∷ flat_map hash_line p.hashes.items

-- length SP record LF path
abbrev pub beside_text : List ℕ → AuditPath → List ℕ
beside_text octets p = decimal (length octets) ++ 32 ∷ octets ++ 10 ∷ path_text p

-- neighbour = length SP record LF path
abbrev pub neighbour_text : Neighbour → List ℕ
neighbour_text n = beside_text n.octets.items n.path

-- the word before a neighbour, and the neighbour; or nothing
abbrev pub side_text : List ℕ → Option Neighbour → List ℕ
side_text word None = []
side_text word (Some n) = word ++ neighbour_text n

-- proof = "present" SP path LF / "absent" LF ["before" SP neighbour] ["behind" SP neighbour] LF
abbrev pub proof_text : Proof → List ℕ
proof_text (Present path) = codes "present " ++ path_text path ++ 10 ∷ []
proof_text (Absent before behind) =
    codes "absent\n" ++ side_text (codes "before ") before ++ side_text (codes "behind ") behind ++ 10 ∷ []
