-- The length before an entry, as its octets come.
use Rattle.std.proofs.Common.{◌≡◌, ℕ, ◌+◌, ◌<◌, ◌≤◌, List, [], ◌∷◌, ◌++◌, length, take, drop, refl, sym, ap, subst, ◌∙◌}
use Rattle.std.proofs.Common.{append_assoc, arith, inl, inr}
use Rattle.std.specs.Prelude.{Bool, Err, IsErrOf}
use Rattle.std.specs.Fmt.{decimal}
use Rattle.std.proofs.lemmas.Fmt.{length-decimal-le}
use Rattle.std.proofs.lemmas.Bool.{cases_lt}
use Rattle.std.proofs.lemmas.List.{append-nil, length-append, length-drop, length-take, take-append-drop}
use Rattle.std.proofs.lemmas.List.{take-append-le, take-take, take_all, drop_at}
use Rattle.std.proofs.lemmas.List.{take_at}
use Rattle.octet_language.specs.Language.{AnyOf, Begins}
use Rattle.syslog_frame.specs.Frames.{CanCarry, framed}
use Rattle.syslog_frame.specs.MsgLen.{IsMsgLen, MsgLen}
use Rattle.syslog_frame.specs.declared.count.MsgLen.TheVariants.{Whole, Bad}
use Rattle.syslog_frame.specs.declared.framing.Framing.TheVariants.{Counted}
use Rattle.syslog_frame.proofs.Counts.{Begins-count, HasPrefix-msg_len, NoPrefix-count}
use Rattle.archive_text.specs.Faults.{BeginsWithOctets, IsBadFrame, IsTooLong}
use Rattle.archive_text.specs.declared.limits.TheConstants.{ENTRY_MAX}
use Rattle.archive_streams.specs.Counting.{IsUnfinished}
use Rattle.archive_streams.specs.EntryTexts.{HasCounted, IsCounted}
use Rattle.archive_streams.specs.Faults.{IsCut, IsSideFault}
use Rattle.archive_streams.specs.declared.fault.InputFault.{InputFault}
use Rattle.archive_streams.specs.declared.fault.InputFault.TheVariants.{Device, Endless}
use Rattle.archive_streams.specs.declared.fault.SideFault.TheVariants.{Input}
use Rattle.archive_streams.specs.declared.pieces.Pieces.{Pieces}
use Rattle.octet_devices.specs.declared.loops.TheConstants.{READER_CALLS}
use Rattle.octet_language.proofs.FaultOffset.{NoPrefix-longer, IsFaultOffset-longer}

-- nothing is unfinished
pub unfinished_nil : IsUnfinished []
unfinished_nil = record {
  none = NoPrefix-count (AnyOf MsgLen) HasPrefix-msg_len 0 [] (omega arith) (inl (refl, refl));
  begins = Begins-count 0 [] (omega arith) (inl (refl, refl));
}

-- a length that is not read to its space has ten octets at most
pub unfinished_short : (s : List ℕ) → IsUnfinished s → length s ≤ 10
unfinished_short s u = short u.begins.0 u.begins.1
  where
    short : (more : List ℕ) → AnyOf MsgLen (s ++ more) → length s ≤ 10
    short [] h = absurd (u.none s [] (sym (append-nil s)) (subst (AnyOf MsgLen) (append-nil s) h))
    short (x ∷ more) (n, (some, low, e)) =
        omega (
          arith,
          ap length e,
          length-append s (x ∷ more),
          length-append (decimal n) (32 ∷ []),
          length-decimal-le 10 n (omega arith) (omega (arith, low)) (omega (arith, low)),
        )

-- with one octet more, a length that is whole is all of the text
pub whole_all : (s m text : List ℕ) (count used : ℕ) → IsUnfinished s → text ≡ s ++ m → length m ≤ 1
    → IsMsgLen text (Whole count used) → MsgLen count text
whole_all s m text count used u e few h =
    elim (cases_lt used (length text)) [
      | inl less ↦
          let within : used ≤ length s = omega (arith, less, ap length e, length-append s m) in
          let same : take used text ≡ take used s = ap (take used) e ∙ take-append-le used s m within in
          absurd (u.none (take used s) (drop used s) (sym (take-append-drop used s))
          (subst (AnyOf MsgLen) same (count, h.1)))
      | inr all ↦ subst (MsgLen count) (take_all used text all) h.1
    ]

-- a bad length, however the octets go on
pub bad_count : (most : ℕ) (text rest : List ℕ) (at : ℕ) → IsMsgLen text (Bad at) → IsBadFrame most (text ++ rest) at
bad_count most text rest at h = inl (
  NoPrefix-longer (AnyOf MsgLen) text rest h.0 h.1,
  IsFaultOffset-longer (AnyOf MsgLen) text rest at h.1 h.2,
)

-- it is inside the text
pub bad_within : (text : List ℕ) (at : ℕ) → IsMsgLen text (Bad at) → at < length text
bad_within text at h =
    elim (cases_lt at (length text)) [
      | inl less ↦ less
      | inr all ↦ absurd (h.1 (subst (Begins (AnyOf MsgLen)) (take_all at text all) h.2.begins))
    ]

-- a length that the end cuts
pub cut_count : (most : ℕ) (text rest : List ℕ) → IsUnfinished text → rest ≡ []
    → IsBadFrame most (text ++ rest) (length text)
cut_count most text rest u e =
    let all : text ++ rest ≡ text = ap (λ (s : List ℕ). text ++ s) e ∙ append-nil text in
    subst (λ (s : List ℕ). IsBadFrame most s (length text)) (sym all)
    (inl (
      u.none,
      record {
        within = omega arith;
        begins =
            subst (Begins (AnyOf MsgLen)) (sym (take_all (length text) text (omega arith))) u.begins;
        longest =
            λ m within h. within;
      },
    ))

-- an entry that the end cuts
pub cut_entry : (most count : ℕ) (head octets text rest : List ℕ) → MsgLen count head → text ≡ head ++ octets
    → count ≤ most → length octets < count → rest ≡ []
    → IsBadFrame most (text ++ rest) (length text)
cut_entry most count head octets text rest h e fits less none =
    let all : text ++ rest ≡ text = ap (λ (s : List ℕ). text ++ s) none ∙ append-nil text in
    subst (λ (s : List ℕ). IsBadFrame most s (length text)) (sym all)
    (inr (count, octets, (head, e, h), fits, less, refl))

-- where nothing more is given
pub cut_here : (most : ℕ) (text rest : List ℕ) → rest ≡ [] → IsBadFrame most (text ++ rest) (length text)
    → IsBadFrame most (text ++ rest) (length (text ++ rest))
cut_here most text rest none cut =
    let all : text ++ rest ≡ text = ap (λ (s : List ℕ). text ++ s) none ∙ append-nil text in
    subst (IsBadFrame most (text ++ rest)) (sym (ap length all)) cut

-- no more is given, since the reader failed or was called as often as it may be
pub input_fault : (fault : InputFault) (rest : List ℕ) (p : Pieces) → IsCut rest
    → (IsErrOf {T = Bool} (Err fault) Endless → (p.calls ≡ READER_CALLS) × (p.ends ≡ 0))
    → IsSideFault (Input fault) rest p
input_fault Device rest p cut endless = cut
input_fault Endless rest p cut endless = let counts = endless refl in (cut, counts.0, counts.1)

-- a length above the limit
pub too_long : (most count : ℕ) (text rest : List ℕ) → MsgLen count text → most < count → IsTooLong most (text ++ rest)
too_long most count text rest h more = (count, rest, (text, refl, h), more)

-- the octets that a length counts
pub framed_octets : (count : ℕ) (head octets text : List ℕ) → MsgLen count head → text ≡ head ++ octets
    → length octets ≡ count → text ≡ framed Counted octets
framed_octets count head octets text h e size =
    e ∙ ap (λ (s : List ℕ). s ++ octets) (h.2 ∙ ap (λ (n : ℕ). decimal n ++ 32 ∷ []) (sym size))
    ∙ append_assoc (decimal (length octets)) (32 ∷ []) octets

pub carried : (count : ℕ) (head octets : List ℕ) → MsgLen count head → length octets ≡ count → CanCarry Counted octets
carried count head octets h size = (omega (arith, h.0, size), omega (arith, h.1, size))

-- octets behind their length
counted : (count start : ℕ) (text : List ℕ) → start ≤ length text → MsgLen count (take start text)
    → length (drop start text) ≡ count → count ≤ ENTRY_MAX → IsCounted start text
counted count start text within h size fits = record {
  within = within;
  fits = omega (arith, size, fits);
  carries = carried count (take start text) (drop start text) h size;
  text_is = framed_octets count (take start text) (drop start text) text h (sym (take-append-drop start text)) size;
}

-- in octets that begin with them
pub counted_in : (count used size : ℕ) (rest text : List ℕ) → IsMsgLen rest (Whole count used) → size ≡ used + count
    → size ≤ length rest → size ≤ ENTRY_MAX → text ≡ take size rest → IsCounted used text
counted_in count used size rest text h sum within low same =
    let len : length text ≡ size = omega (arith, ap length same, length-take size rest, within) in
    let front : take used text ≡ take used rest =
    ap (take used) same ∙ take-take used size rest (omega (arith, sum)) in
    counted count used text (omega (arith, len, sum)) (subst (MsgLen count) (sym front) h.1)
    (omega (arith, length-drop used text, len, sum)) (omega (arith, low, sum))

-- read behind their length
pub counted_behind : (count start : ℕ) (head text : List ℕ) → MsgLen count head → HasCounted count head text
    → length head ≡ start → count ≤ ENTRY_MAX → IsCounted start text
counted_behind count start head text h k is fits =
    let front : take start text ≡ head = ap (take start) k.parts ∙ take_at head k.octets start is in
    let back : drop start text ≡ k.octets = ap (drop start) k.parts ∙ drop_at head k.octets start is in
    counted count start text (omega (arith, is, ap length k.parts, length-append head k.octets))
    (subst (MsgLen count) (sym front) h) (ap length back ∙ k.size) fits

pub begins_counted : (start : ℕ) (text rest : List ℕ) → IsCounted start text
    → BeginsWithOctets ENTRY_MAX (text ++ rest) (drop start text)
begins_counted start text rest k = (k.carries, k.fits, (rest, ap (λ (s : List ℕ). s ++ rest) k.text_is))
