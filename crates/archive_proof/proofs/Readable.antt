-- Proofs that are made are such as can be read, and their texts are not too long.
use Rattle.std.proofs.Common.{◌≡◌, ℕ, zero, suc, ◌-◌, ◌*◌, ◌/◌, ◌%◌, ◌^◌, ◌<◌, ◌≤◌, List, [], ◌∷◌, ◌++◌}
use Rattle.std.proofs.Common.{Bool, true, false, length, take, drop, refl, sym, ap, subst, arith, length-append}
use Rattle.std.specs.Prelude.{Some, None, Option, codes, decimal, nat_le, nat_lt, if◌then◌else◌, slice_index}
use Rattle.std.specs.List.{AllByRecursion, flat_map}
use Rattle.std.specs.Int.{byte_at, bytes_high_first, to_be_bytes, w32}
use Rattle.std.proofs.lemmas.Fmt.{length-decimal-le}
use Rattle.sha2.specs.Sha256.{digest_bytes, final_hash, initial_hash_256, sha256}
use Rattle.sha2.proofs.Facts256.{length-sha256}
use Rattle.hex.specs.Hex.{encode_lower, IsBytes, lower_digits}
use Rattle.hex.proofs.HexLemmas.{length-encode_with}
use Rattle.archive_text.specs.Entries.{Entry}
use Rattle.archive_text.proofs.Members.{all_append}
use Rattle.archive_tree.proofs.Archives.{count_of_texts}
use Rattle.archive_tree.proofs.TreeLaws.{path_is_short}
use Rattle.archive_tree.specs.Archives.{texts_of}
use Rattle.archive_tree.specs.Tree.{audit_path, hash_of_one, hash_to, path_to}
use Rattle.archive_tree.specs.declared.head.TreeHead.{TreeHead}
use Rattle.archive_tree.specs.declared.audit_path.AuditPath.{AuditPath}
use Rattle.archive_proof.specs.Proving.{AreProofsOf, IsTextOfProofs}
use Rattle.archive_proof.specs.Reading.{IsHash, IsMade, IsPath, IsShortSide, IsSide}
use Rattle.archive_proof.specs.Texts.{hash_line, neighbour_text, path_text, proof_text, side_text}
use Rattle.archive_proof.specs.declared.proof.Neighbour.{Neighbour}
use Rattle.archive_proof.specs.declared.proof.Proof.{Proof}
use Rattle.archive_proof.specs.declared.proof.Proof.TheVariants.{Present, Absent}
use Rattle.archive_proof.specs.declared.writing.TheConstants.{PROOF_MAX}

-- ---- hashes are octets

abbrev IsByte : ℕ → Type 0
IsByte b = b < 256

small_rest : (n : ℕ) → n % 256 < 256
small_rest n = omega arith

small_byte : (k n : ℕ) → byte_at k n < 256
small_byte zero n = small_rest n
small_byte (suc i) n = small_rest (n / 256 ^ suc i)

high_bytes : (k n : ℕ) → AllByRecursion IsByte (bytes_high_first k n)
high_bytes zero n = tt
high_bytes (suc k) n = (small_byte k n, high_bytes k n)

digest_is_bytes : (h : List ℕ) (n : ℕ) → AllByRecursion IsByte (digest_bytes h n)
unfolding digest_bytes
digest_is_bytes h zero = tt
digest_is_bytes h (suc n) =
    all_append IsByte (digest_bytes h n) (to_be_bytes w32 (slice_index h n)) (digest_is_bytes h n)
    (high_bytes 4 (slice_index h n))

each_byte : (xs : List ℕ) → AllByRecursion IsByte xs → IsBytes xs
each_byte [] all i = omega arith
each_byte (x ∷ xs) all zero = all.0
each_byte (x ∷ xs) all (suc i) = each_byte xs all.1 i

sum_is_bytes : (m : List ℕ) → AllByRecursion IsByte (sha256 m)
unfolding sha256
sum_is_bytes m = digest_is_bytes (final_hash initial_hash_256 m) 8

sum_is_hash : (m : List ℕ) → IsHash (sha256 m)
sum_is_hash m = record { size = length-sha256 m; octets = each_byte (sha256 m) (sum_is_bytes m) }

one_is_hash : (xs : List (List ℕ)) → IsHash (hash_of_one xs)
one_is_hash [] = sum_is_hash []
one_is_hash (x ∷ xs) = sum_is_hash (0 ∷ x)

either_hash : (b : Bool) (x y : List ℕ) → IsHash x → IsHash y → IsHash (if b then x else y)
either_hash true x y h k = h
either_hash false x y h k = k

root_is_hash : (h : ℕ) (xs : List (List ℕ)) → IsHash (hash_to h xs)
unfolding hash_to
root_is_hash zero xs = one_is_hash xs
root_is_hash (suc h) xs =
    either_hash _ _ _ (root_is_hash h xs) (sum_is_hash (1 ∷ hash_to h (take (2 ^ h) xs) ++ hash_to h (drop (2 ^ h) xs)))

either_all : (b : Bool) (xs ys : List (List ℕ)) → AllByRecursion IsHash xs → AllByRecursion IsHash ys
    → AllByRecursion IsHash (if b then xs else ys)
either_all true xs ys h k = h
either_all false xs ys h k = k

path_is_hashes : (h : ℕ) (xs : List (List ℕ)) (i : ℕ) → AllByRecursion IsHash (path_to h xs i)
unfolding path_to
path_is_hashes zero xs i = tt
path_is_hashes (suc h) xs i =
    let front : List (List ℕ) = take (2 ^ h) xs in
    let back : List (List ℕ) = drop (2 ^ h) xs in
    either_all (nat_le (length xs) (2 ^ h)) (path_to h xs i)
    (if nat_lt i (2 ^ h) then path_to h front i ++ hash_to h back ∷ []
    else path_to h back (i - 2 ^ h) ++ hash_to h front ∷ [])
    (path_is_hashes h xs i)
    (either_all (nat_lt i (2 ^ h)) (path_to h front i ++ hash_to h back ∷ [])
    (path_to h back (i - 2 ^ h) ++ hash_to h front ∷ [])
    (all_append IsHash (path_to h front i) (hash_to h back ∷ []) (path_is_hashes h front i) (root_is_hash h back, tt))
    (all_append IsHash (path_to h back (i - 2 ^ h)) (hash_to h front ∷ []) (path_is_hashes h back (i - 2 ^ h))
    (root_is_hash h front, tt)))

-- the path of an entry of an archive
pub path_is : (xs : List Entry) (i : ℕ) (q : AuditPath) → length xs < 2 ^ 64 → i < length xs → q.index ≡ i
    → q.hashes.items ≡ audit_path (texts_of xs) i → IsPath q
path_is xs i q room here own same = record {
  index = omega arith;
  number = subst (λ (l : List (List ℕ)). length l ≤ 64) (sym same)
      (path_is_short 64 i (texts_of xs) (omega (arith, count_of_texts xs)));
  hashes = subst (AllByRecursion IsHash) (sym same) (path_is_hashes (length (texts_of xs)) (texts_of xs) i);
}

-- ---- their texts

hashes_length : (hs : List (List ℕ)) → AllByRecursion IsHash hs → length (flat_map hash_line hs) ≡ 65 * length hs
hashes_length [] all = refl
hashes_length (h ∷ hs) all =
    omega (
      arith,
      length-append (hash_line h) (flat_map hash_line hs),
      length-append (encode_lower h) (10 ∷ []),
      length-encode_with lower_digits h,
      all.0.size,
      hashes_length hs all.1,
    )

number_length : (n : ℕ) → n < 2 ^ 64 → length (decimal n) ≤ 20
number_length n small = length-decimal-le 20 n (omega arith) (omega arith) small

path_text_length : (p : AuditPath) → IsPath p → length (path_text p) ≤ 4202
path_text_length p is =
    let hs : List (List ℕ) = p.hashes.items in
    omega (
      arith,
      length-append (decimal p.index ++ 32 ∷ decimal (length hs)) (10 ∷ flat_map hash_line hs),
      length-append (decimal p.index) (32 ∷ decimal (length hs)),
      number_length p.index is.index,
      number_length (length hs) (omega (arith, is.number)),
      hashes_length hs is.hashes,
      is.number,
    )

side_text_length : (word : List ℕ) (o : Option Neighbour) → length word ≤ 7 → IsSide o → IsShortSide o
    → length (side_text word o) ≤ 528526
side_text_length word None few is short = omega arith
side_text_length word (Some n) few is short =
    let octets : List ℕ = n.octets.items in
    omega (
      arith,
      length-append word (neighbour_text n),
      length-append (decimal (length octets) ++ 32 ∷ octets) (10 ∷ path_text n.path),
      length-append (decimal (length octets)) (32 ∷ octets),
      number_length (length octets) is.size,
      path_text_length n.path is.path,
      short,
      few,
    )

-- the text of a proof is not too long
pub proof_text_length : (p : Proof) → IsMade p → length (proof_text p) ≤ PROOF_MAX
proof_text_length (Present path) made =
    omega (
      arith,
      length-append (codes "present " ++ path_text path) (10 ∷ []),
      length-append (codes "present ") (path_text path),
      path_text_length path made.proof,
    )
proof_text_length (Absent before behind) made =
    omega (
      arith,
      length-append (codes "absent\n" ++ side_text (codes "before ") before ++ side_text (codes "behind ") behind) (10 ∷ []),
      length-append (codes "absent\n" ++ side_text (codes "before ") before) (side_text (codes "behind ") behind),
      length-append (codes "absent\n") (side_text (codes "before ") before),
      side_text_length (codes "before ") before (omega arith) made.proof.0 made.short.0,
      side_text_length (codes "behind ") behind (omega arith) made.proof.1 made.short.1,
    )

pub proofs_length : (ps : List Proof) → AllByRecursion IsMade ps
    → length (flat_map proof_text ps) ≤ PROOF_MAX * length ps
proofs_length [] all = omega arith
proofs_length (p ∷ ps) all =
    omega (
      arith,
      length-append (proof_text p) (flat_map proof_text ps),
      proof_text_length p all.0,
      proofs_length ps all.1,
    )

-- there is a proof for each
pub proofs_for_each : (head : TreeHead) (xs es : List Entry) (ps : List Proof) → AreProofsOf head xs es ps
    → length ps ≡ length es
proofs_for_each head xs [] [] all = refl
proofs_for_each head xs [] (p ∷ ps) all = absurd all
proofs_for_each head xs (e ∷ es) [] all = absurd all
proofs_for_each head xs (e ∷ es) (p ∷ ps) all = omega (arith, proofs_for_each head xs es ps all.1)

pub text_of_proofs : (head : TreeHead) (xs rs : List Entry) (ps : List Proof) (text : List ℕ)
    → AreProofsOf head xs rs ps → AllByRecursion IsMade ps → text ≡ flat_map proof_text ps
    → IsTextOfProofs head xs rs text
text_of_proofs head xs rs ps text proofs made same = record {
  ps = ps;
  proofs = proofs;
  made = made;
  is_text = same;
  short = omega (
    arith,
    ap (λ (l : List ℕ). length l) same,
    proofs_length ps made,
    proofs_for_each head xs rs ps proofs,
  );
}
