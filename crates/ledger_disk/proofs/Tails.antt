-- The last octets of a file.
use Rattle.std.proofs.Common.{◌≡◌, ◌≢◌, ◌⊎◌, ℕ, ◌+◌, ◌-◌, ◌<◌, ◌≤◌, List, ◌++◌, length, take, drop, get_or, Option}
use Rattle.std.proofs.Common.{None, Some, zero, suc, refl, inl, inr, sym, ap, subst, ◌∙◌, arith, length-append}
use Rattle.std.proofs.Math.Seq.{take-add}
use Rattle.std.proofs.lemmas.List.{drop-drop, get_or-drop, length-drop, length-take}
use Rattle.std.specs.Prelude.{IsSome, IsSomeAnd, option_map, slice_index}
use Rattle.disk.specs.Calls.{Gives, IsUnchanged}
use Rattle.disk.specs.Files.{File}
use Rattle.disk.specs.Memory.{shown_now}
use Rattle.disk.specs.States.{State}
use Rattle.ledger_disk.specs.Ledgers.{IsLinesEnd, IsTail, ledger_text, text_in}

-- octets from an offset on, as far as they were read
pub record IsReadFrom (file : List ℕ) (at : ℕ) (octets : List ℕ) : Type 0 where
  pub octets_are : octets ≡ take (length octets) (drop at file)
  pub within : length octets ≤ length (drop at file)

more_octets : (file octets piece : List ℕ) (at n : ℕ) → IsReadFrom file at octets
    → piece ≡ take n (drop (at + length octets) file) → n ≤ length (drop (at + length octets) file)
    → IsReadFrom file at (octets ++ piece)
more_octets file octets piece at n before is within =
    let k = length octets in
    let size : length piece ≡ n = omega (
      arith,
      ap (λ (l : List ℕ). length l) is,
      length-take n (drop (at + k) file),
      within,
    ) in
    let both : take (k + n) (drop at file) ≡ octets ++ piece =
    take-add k n (drop at file)
    ∙ ap (λ (l : List ℕ). take k (drop at file) ++ take n l) (drop-drop k at file)
    ∙ ap (λ (l : List ℕ). l ++ take n (drop (at + k) file)) (sym before.octets_are)
    ∙ ap (λ (l : List ℕ). octets ++ l) (sym is) in
    let whole : length (octets ++ piece) ≡ k + n = length-append octets piece ∙ ap (λ (m : ℕ). k + m) size in
    let is_all : octets ++ piece ≡ take (length (octets ++ piece)) (drop at file) =
    sym both ∙ ap (λ (m : ℕ). take m (drop at file)) (sym whole) in
    record {
      octets_are = is_all;
      within = omega (
        arith,
        ap (λ (l : List ℕ). length l) is_all,
        length-take (length (octets ++ piece)) (drop at file),
      );
    }

pub read_more : (found : Option File) (file : File) (octets buf piece : List ℕ) (at n : ℕ) → found ≡ Some file
    → IsSomeAnd found (λ f. Gives f (at + length octets) buf n) → IsReadFrom file.shown at octets
    → piece ≡ take n buf → IsReadFrom file.shown at (octets ++ piece)
read_more None file octets buf piece at n found gives before is = absurd gives
read_more (Some f) file octets buf piece at n found gives before is =
    let same : f.shown ≡ file.shown = cc in
    let part : piece ≡ take n (drop (at + length octets) file.shown) =
    is ∙ gives.octets ∙ ap (λ (l : List ℕ). take n (drop (at + length octets) l)) same in
    let within : n ≤ length (drop (at + length octets) file.shown) =
    subst (λ (l : List ℕ). n ≤ length (drop (at + length octets) l)) same gives.within in
    more_octets file.shown octets piece at n before part within

-- what stands before the end of the lines among the last octets stands there in the file
before_end : (file octets : List ℕ) (at n : ℕ) → IsTail file at octets → 0 < n → slice_index octets (n - 1) ≡ 10
    → slice_index file (at + n - 1) ≡ 10
before_end file octets at n tail some here =
    let e : at + (n - 1) ≡ at + n - 1 = omega arith in
    subst (λ (k : ℕ). slice_index file k ≡ 10) e
    (sym (get_or-drop at file (n - 1) 0) ∙ ap (λ (l : List ℕ). get_or l (n - 1) 0) (sym tail.octets_are) ∙ here)

pub zero_or_some : (n : ℕ) → (n ≡ 0) ⊎ (0 < n)
zero_or_some zero = inl refl
zero_or_some (suc n) = inr (omega arith)

-- there is a line feed before the end, where there is anything
end_case : (file octets : List ℕ) (at n : ℕ) → IsTail file at octets → slice_index octets (n - 1) ≡ 10 → at ≡ 0
    → (at + n ≡ 0) ⊎ (slice_index file (at + n - 1) ≡ 10)
end_case file octets at n tail here first =
    elim (zero_or_some n) [
      | inl none ↦ inl (omega arith)
      | inr some ↦ inr (before_end file octets at n tail some here)
    ]

-- the lines of a file end where they do among its last octets, if one ends there or the octets are all
pub end_in_tail : (file octets : List ℕ) (at n : ℕ) → IsTail file at octets → IsLinesEnd octets n
    → (at ≡ 0) ⊎ (0 < n) → IsLinesEnd file (at + n)
end_in_tail file octets at n tail end all =
    let size : length octets ≡ length file - at = ap (λ (l : List ℕ). length l) tail.octets_are ∙ length-drop at file in
    let fits : at ≤ length file = tail.within in
    let inside : n ≤ length octets = end.within in
    record {
      within = omega arith;
      behind = λ i above below.
          let e : at + (i - at) ≡ i = omega arith in
          let here : slice_index octets (i - at) ≡ slice_index file i =
          ap (λ (l : List ℕ). get_or l (i - at) 0) tail.octets_are
          ∙ get_or-drop at file (i - at) 0
          ∙ ap (λ (k : ℕ). get_or file k 0) e in
          let from : n ≤ i - at = omega arith in
          let to : i - at < length octets = omega arith in
          subst (λ (x : ℕ). x ≢ 10) here (end.behind (i - at) from to);
      before = elim end.before [
        | inl none ↦ elim all [
          | inl first ↦ inl (omega arith)
          | inr some ↦ absurd (omega arith)
        ]
        | inr here ↦ elim all [
          | inl first ↦ end_case file octets at n tail here first
          | inr some ↦ inr (before_end file octets at n tail some here)
        ]
      ];
    }

-- ---- a disk stays as it is

pub unchanged_then : (a b c : State) → IsUnchanged a b → IsUnchanged b c → IsUnchanged a c
unchanged_then a b c x y = record {
  entries = λ name. y.entries name ∙ x.entries name;
  lost = y.lost ∙ x.lost;
}

-- what holds of each text that a read may show holds of the ledger's
pub of_text : (state : State) (name : List ℕ) (P : List ℕ → Type 0) → IsSome (state.entries name).now
    → ((file : List ℕ) → shown_now (state.entries name) ≡ Some file → P file) → P (ledger_text state name)
of_text state name P some h = by_file (state.entries name).now refl some
  where
    by_file : (o : Option File) → (state.entries name).now ≡ o → IsSome o → P (ledger_text state name)
    by_file None is none = absurd (cc none)
    by_file (Some file) is there =
        let shows : shown_now (state.entries name) ≡ Some file.shown =
        ap (λ (o : Option File). option_map (λ (f : File). f.shown) o) is in
        subst P (sym (ap text_in shows)) (h file.shown shows)
