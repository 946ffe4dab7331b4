-- Where the chain of a ledger stands.
use Rattle.std.proofs.Common.{◌≡◌, ◌≢◌, ◌⊎◌, ℕ, zero, suc, ◌+◌, ◌-◌, ◌<◌, ◌≤◌, Bool, true, List, [], ◌∷◌, ◌++◌, Option}
use Rattle.std.proofs.Common.{None, Some, inl, inr, refl, sym, ap, subst, ◌∙◌, arith, length, take, drop, get_or}
use Rattle.std.proofs.Common.{length-append, append_assoc}
use Rattle.std.proofs.Math.Seq.{drop-append_seam, get_or-append_seam, take-add}
use Rattle.std.proofs.lemmas.List.{get_or-take, length-drop, length-take-le, take-append-drop, take_all}
use Rattle.std.specs.Prelude.{IfSome, MatchOption, slice_index}
use Rattle.ledger.specs.Chains.{EndsAt, start}
use Rattle.ledger.specs.declared.head.ChainHead.{ChainHead}
use Rattle.ledger_disk.specs.Ends.{IsBehindLast}
use Rattle.ledger_disk.specs.Ledgers.{IsBehind, IsLast, IsLinesEnd, IsTail}
use Rattle.ledger_disk.proofs.Tails.{end_in_tail, zero_or_some}

-- the last one of lines, from where those before it end
pub last_is : (lines rest : List ℕ) (x end : ℕ) → IsLinesEnd lines (length lines) → lines ≡ rest ++ x ∷ []
    → length rest + 1 ≡ length lines → IsLinesEnd rest end
    → IsLast lines (take end rest) (take (length rest - end) (drop end rest))
last_is lines rest x end whole is size ends =
    let fits : end ≤ length rest = ends.within in
    let all : take (length rest - end) (drop end rest) ≡ drop end rest =
    take_all (length rest - end) (drop end rest) (omega (arith, length-drop end rest)) in
    let parts : take end rest ++ take (length rest - end) (drop end rest) ≡ rest =
    ap (λ (l : List ℕ). take end rest ++ l) all ∙ take-append-drop end rest in
    let feed : x ≡ 10 = elim whole.before [
      | inl none ↦ absurd (omega arith)
      | inr here ↦
          let at : length lines - 1 ≡ length rest = omega arith in
          sym (get_or-append_seam rest x [] 0) ∙ ap (λ (l : List ℕ). get_or l (length rest) 0) (sym is)
          ∙ ap (λ (k : ℕ). get_or lines k 0) (sym at) ∙ here
    ] in
    let len : length (take end rest) ≡ end = length-take-le end rest fits in
    record {
      lines_are = is ∙ ap (λ (k : ℕ). rest ++ k ∷ []) feed ∙ ap (λ (l : List ℕ). l ++ 10 ∷ []) (sym parts);
      ends = subst (λ (l : List ℕ). IsLinesEnd l (length (take end rest))) (sym parts)
          (subst (λ (k : ℕ). IsLinesEnd rest k) (sym len) ends);
    }

-- whole lines end where they end
pub lines_taken : (text : List ℕ) (n : ℕ) → IsLinesEnd text n → IsLinesEnd (take n text) (length (take n text))
lines_taken text n end =
    let size : length (take n text) ≡ n = length-take-le n text end.within in
    record {
      within = omega arith;
      behind = λ i above below. absurd (omega arith);
      before = elim end.before [
        | inl none ↦ inl (size ∙ none)
        | inr here ↦ elim (zero_or_some n) [
          | inl none ↦ inl (size ∙ none)
          | inr some ↦
              let below : n - 1 < n = omega arith in
              inr (ap (λ (k : ℕ). get_or (take n text) (k - 1) 0) size ∙ get_or-take n text (n - 1) 0 below ∙ here)
        ]
      ];
    }

-- octets before lines, of which some end there
ends_behind : (front text : List ℕ) (n : ℕ) → IsLinesEnd text n → (length front ≡ 0) ⊎ (0 < n)
    → IsLinesEnd (front ++ text) (length front + n)
ends_behind front text n end some =
    let tail : IsTail (front ++ text) (length front) text = record {
      within = omega (arith, length-append front text);
      octets_are = sym (drop-append_seam front text);
    } in
    end_in_tail (front ++ text) text (length front) n tail end some

first_or_not : (front : List ℕ) (at : ℕ) (are_all : Bool) → (front ≡ [] → are_all ≡ true) → (are_all ≡ true → at ≡ 0)
    → (at ≡ 0) ⊎ (0 < length front)
first_or_not [] at are_all none all = inl (all (none refl))
first_or_not (x ∷ front) at are_all none all = inr (omega arith)

none_left : (l : List ℕ) → l ≡ [] → length l ≡ 0
none_left l is = ap (λ (k : List ℕ). length k) is

-- the last line among the last octets of a file is the last one of the file
pub last_in_file : (file octets : List ℕ) (at len : ℕ) (front last : List ℕ) → IsTail file at octets
    → (at ≡ 0) ⊎ (0 < length front) → IsLast (take len octets) front last
    → IsLast (take (at + len) file) (take at file ++ front) last
last_in_file file octets at len front last tail some is =
    let begin = take at file in
    let front_is : length begin ≡ at = length-take-le at file tail.within in
    let whole : take (at + len) file ≡ begin ++ take len octets =
    take-add at len file ∙ ap (λ (l : List ℕ). begin ++ take len l) (sym tail.octets_are) in
    let apart : begin ++ (front ++ last) ≡ (begin ++ front) ++ last = sym (append_assoc begin front last) in
    let first : (length begin ≡ 0) ⊎ (0 < length front) = elim some [
      | inl zero_at ↦ inl (front_is ∙ zero_at)
      | inr more ↦ inr more
    ] in
    record {
      lines_are = whole ∙ ap (λ (l : List ℕ). begin ++ l) is.lines_are
          ∙ sym (append_assoc begin (front ++ last) (10 ∷ []))
          ∙ ap (λ (l : List ℕ). l ++ 10 ∷ []) apart;
      ends = subst (λ (k : ℕ). IsLinesEnd ((begin ++ front) ++ last) k) (sym (length-append begin front))
          (subst (λ (l : List ℕ). IsLinesEnd l (length begin + length front)) apart
          (ends_behind begin (front ++ last) (length front) is.ends first));
    }

-- the chain stands behind the lines of a file as it does behind the last of them
pub behind_all : (file octets : List ℕ) (at len : ℕ) (head : ChainHead) (are_all : Bool) → IsTail file at octets
    → IsLinesEnd octets len → (at ≡ 0) ⊎ (0 < len) → (are_all ≡ true → at ≡ 0)
    → IsBehindLast are_all (take len octets) head → IsBehind (take (at + len) file) head
behind_all file octets at len head are_all tail end some all behind =
    let size : length (take len octets) ≡ len = length-take-le len octets end.within in
    elim behind [
      | inl (none, is) ↦
          let no_len : len ≡ 0 = sym size ∙ none_left (take len octets) none in
          let first : at ≡ 0 = elim some [ inl zero_at ↦ zero_at | inr more ↦ absurd (omega arith) ] in
          let nothing : at + len ≡ 0 = omega arith in
          inl (ap (λ (k : ℕ). take k file) nothing, is)
      | inr (front, last, is, ends, none) ↦
          let first : (at ≡ 0) ⊎ (0 < length front) = first_or_not front at are_all none all in
          inr (take at file ++ front, last, last_in_file file octets at len front last tail first is, ends)
    ]

pub last_size : (lines front last : List ℕ) → IsLast lines front last
    → length lines ≡ length front + length last + 1
last_size lines front last is = omega (
  arith,
  ap (λ (l : List ℕ). length l) is.lines_are,
  length-append (front ++ last) (10 ∷ []),
  length-append front last,
)

pub no_front : (lines front last : List ℕ) (P : Type 0) → IsLast lines front last → length last + 1 < length lines
    → front ≡ [] → P
no_front lines front last P is more none =
    absurd (omega (arith, last_size lines front last is, none_left front none))

pub behind_some : (found : Option ChainHead) (P : Type 0) (lines front last : List ℕ) (are_all : Bool)
    → MatchOption found P (λ h. EndsAt h last) → IsLast lines front last → (front ≡ [] → are_all ≡ true)
    → IfSome found (IsBehindLast are_all lines)
behind_some None P lines front last are_all ends is none = tt
behind_some (Some head) P lines front last are_all ends is none = inr (front, last, is, ends, none)
