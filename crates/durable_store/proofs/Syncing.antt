-- How many syncs the segments of a set make.
use Rattle.std.proofs.Common.{◌≡◌, ℕ, ◌+◌, ◌*◌, ◌<◌, ◌≤◌, List, [], ◌∷◌, ◌++◌, length, ap, arith, ◌∙◌, suc, zero}
use Rattle.std.proofs.Math.Nat.{le_of_mul-le-mul_right}
use Rattle.disk.specs.Calls.{AtMostSyncs}
use Rattle.archive_text.specs.Entries.{Entry}
use Rattle.archive_text.specs.Text.{text_of}
use Rattle.archive_text.proofs.Texts.{text_length}
use Rattle.record_store.specs.declared.segment.TheConstants.{SEGMENT_SYNCS}
use Rattle.durable_store.specs.Shares.{CountsDay, HasShare, IsShare, SyncsAlong}
use Rattle.durable_store.proofs.Daily.{run_some, share_of_all}

-- no segment comes
pub syncs_none : (total : ℕ) (these run rest : List Entry) (n : ℕ) → these ≡ run ++ rest
    → SyncsAlong total these rest n n
syncs_none total these run rest n parts =
    let octets = ap (λ (l : List Entry). length (text_of l)) parts ∙ text_length run rest in
    record {
      count = 0;
      most = omega arith;
      shares = omega (arith, octets);
      some = omega (arith, octets);
    }

pub syncs_none_all : (total : ℕ) (these : List Entry) (n : ℕ) → SyncsAlong total these [] n n
syncs_none_all total these n = record {
  count = 0;
  most = omega arith;
  shares = omega arith;
  some = omega arith;
}

-- one does
pub syncs_one : (total : ℕ) (these run rest : List Entry) (before now : ℕ) → these ≡ run ++ rest → HasShare total run
    → 0 < length run → AtMostSyncs SEGMENT_SYNCS before now → SyncsAlong total these rest before now
syncs_one total these run rest before now parts share some most =
    let octets = ap (λ (l : List Entry). length (text_of l)) parts ∙ text_length run rest in
    let written = run_some run some in
    record {
      count = 1;
      most = omega (arith, most);
      shares = omega (arith, octets, share);
      some = omega (arith, octets, written);
    }

pub syncs_one_all : (total len : ℕ) (day : List ℕ) (first : Entry) (behind rest : List Entry) (before now : ℕ)
    → CountsDay len day first behind rest → IsShare total len → AtMostSyncs SEGMENT_SYNCS before now
    → SyncsAlong total (first ∷ behind) [] before now
syncs_one_all total len day first behind rest before now counts share most =
    let all = share_of_all total len day first behind rest counts share in
    let written = run_some (first ∷ behind) (omega arith) in
    record {
      count = 1;
      most = omega (arith, most);
      shares = omega (arith, all);
      some = omega (arith, written);
    }

-- those of the entries behind come too
pub syncs_then : (total : ℕ) (all these rest behind : List Entry) (a b c : ℕ) → SyncsAlong total all these a b
    → these ≡ rest → SyncsAlong total rest behind b c → SyncsAlong total all behind a c
syncs_then total all these rest behind a b c one is other =
    let same = ap (λ (l : List Entry). length (text_of l)) is in
    record {
      count = one.count + other.count;
      most = omega (arith, one.most, other.most);
      shares = omega (arith, same, one.shares, other.shares);
      some = omega (arith, same, one.some, other.some);
    }

-- at most 64 have a 64th of all
few_of : (total count : ℕ) → count * total ≤ 64 * total → count ≤ total → count ≤ 64
few_of zero count shares some = omega (arith, some)
few_of (suc n) count shares some = le_of_mul-le-mul_right {k = suc n} shares (omega arith)

pub syncs_few : (total : ℕ) (all : List Entry) (before now : ℕ) → total ≡ length (text_of all)
    → SyncsAlong total all [] before now → AtMostSyncs (64 * SEGMENT_SYNCS) before now
syncs_few total all before now same syncs =
    let few = few_of total syncs.count (omega (arith, same, syncs.shares)) (omega (arith, same, syncs.some)) in
    omega (arith, few, syncs.most)
