-- The frame that octets begin with, where all of it is there.
use Rattle.std.proofs.Common.{◌≡◌, ℕ, ◌+◌, ◌<◌, ◌≤◌, List, [], ◌∷◌, ◌++◌, length, take, drop, get_or, refl, sym, ap}
use Rattle.std.proofs.Common.{◌∙◌, append_assoc, arith, subst}
use Rattle.std.specs.Fmt.{decimal}
use Rattle.std.proofs.lemmas.List.{length-append, length-take, take-append-drop, take_all}
use Rattle.memchr.specs.Find.{Nowhere, Passes, is_byte}
use Rattle.octet_language.specs.Language.{NoPrefix}
use Rattle.syslog_frame.specs.Count.{IsCount, IsRefused}
use Rattle.syslog_frame.specs.Frames.{CanCarry, Frame, IsLine, Whole, framed}
use Rattle.syslog_frame.specs.declared.limits.TheConstants.{COUNT_MAX}
use Rattle.syslog_frame.specs.declared.framing.Framing.{Framing}
use Rattle.syslog_frame.specs.declared.framing.Framing.TheVariants.{Counted, Lf}
use Rattle.syslog_frame.proofs.Counts.{Refusal, NoPrefix-count, NoPrefix-refusal}
use Rattle.syslog_frame.proofs.Cuts.{one_taken, parted_at, take_add}
use Rattle.syslog_frame.proofs.FrameLaws.{one_frame, same_count}
use Rattle.syslog_frame.proofs.Lines.{nowhere}
use Rattle.syslog_frame.proofs.Standing.{HasPrefix-counted, none_in_line}

-- no frame comes first, or only frames that are too long
abbrev pub NoneLent : ℕ → Framing → List ℕ → Type 0
NoneLent most kind octets = (f rest : List ℕ) → CanCarry kind f → octets ≡ framed kind f ++ rest → most < length f

none_lent : (most : ℕ) (kind : Framing) (octets : List ℕ) → NoPrefix (Whole kind) octets → NoneLent most kind octets
none_lent most kind octets none f rest carries e = absurd (none (framed kind f) rest e (f, (carries, refl)))

-- ---- a count

pub none_unfinished : (most count : ℕ) (octets : List ℕ) → count ≤ COUNT_MAX → IsCount count octets
    → NoneLent most Counted octets
none_unfinished most count octets small is =
    none_lent most Counted octets (NoPrefix-count (Whole Counted) HasPrefix-counted count octets small is)

pub none_broken : (most count at : ℕ) (octets : List ℕ) → count ≤ COUNT_MAX → at < length octets
    → IsRefused count (get_or octets at 0) → IsCount count (take at octets) → NoneLent most Counted octets
none_broken most count at octets small less refuses is =
    let r : Refusal count (take at octets) (get_or octets at 0) =
    record { small = small; digits = is; refuses = refuses } in
    none_lent most Counted octets
    (NoPrefix-refusal (Whole Counted) HasPrefix-counted count (get_or octets at 0) (take at octets)
    (drop (at + 1) octets) octets r (parted_at octets at less))

-- a frame that comes first has the count that was read, and lies behind it
behind_count : (count used : ℕ) (octets f rest : List ℕ) → count ≤ COUNT_MAX
    → take used octets ≡ decimal count ++ 32 ∷ [] → CanCarry Counted f → octets ≡ framed Counted f ++ rest
    → (count ≡ length f) × (drop used octets ≡ f ++ rest)
behind_count count used octets f rest small digits carries e =
    same_count count (length f) (drop used octets) (f ++ rest) small carries.1
    (sym (append_assoc (decimal count) (32 ∷ []) (drop used octets))
    ∙ ap (λ (u : List ℕ). u ++ drop used octets) (sym digits) ∙ take-append-drop used octets ∙ e
    ∙ append_assoc (decimal (length f)) (32 ∷ f) rest)

pub none_counted_long : (most count used : ℕ) (octets : List ℕ) → count ≤ COUNT_MAX
    → take used octets ≡ decimal count ++ 32 ∷ [] → most < count → NoneLent most Counted octets
none_counted_long most count used octets small digits more f rest carries e =
    omega (arith, (behind_count count used octets f rest small digits carries e).0, more)

pub none_counted_short : (most count used : ℕ) (octets : List ℕ) → count ≤ COUNT_MAX
    → take used octets ≡ decimal count ++ 32 ∷ [] → length (drop used octets) < count → NoneLent most Counted octets
none_counted_short most count used octets small digits less f rest carries e =
    let is = behind_count count used octets f rest small digits carries e in
    absurd (omega (arith, is.0, less, ap length is.1, length-append f rest))

pub counted_borrowed : (count used : ℕ) (octets : List ℕ) → 0 < count → count ≤ COUNT_MAX → used ≤ length octets
    → take used octets ≡ decimal count ++ 32 ∷ [] → count ≤ length (drop used octets)
    → Frame Counted (take count (drop used octets)) (take (used + count) octets)
counted_borrowed count used octets some small within digits le =
    let f = take count (drop used octets) in
    let n : length f ≡ count = omega (arith, length-take count (drop used octets), le) in (
      (omega (arith, n, some), omega (arith, n, small)),
      take_add used count octets ∙ ap (λ (u : List ℕ). u ++ f) digits ∙ append_assoc (decimal count) (32 ∷ []) f
          ∙ ap (λ (k : ℕ). decimal k ++ 32 ∷ f) (sym n),
    )

-- ---- a line

pub none_line : (most : ℕ) (octets : List ℕ) → Nowhere (Passes (is_byte 10) octets) 0 (length octets)
    → NoneLent most Lf octets
none_line most octets none = none_lent most Lf octets
    (none_in_line octets (subst IsLine (take_all (length octets) octets (omega arith))
    (nowhere octets (length octets) (omega arith) none)))

pub line_borrowed : (octets : List ℕ) (at : ℕ) → at < length octets → Nowhere (Passes (is_byte 10) octets) 0 at
    → get_or octets at 0 ≡ 10 → Frame Lf (take at octets) (take (at + 1) octets)
line_borrowed octets at less none is = (
  nowhere octets at (omega arith) none,
  one_taken [] octets at less ∙ ap (λ (k : ℕ). take at octets ++ k ∷ []) is,
)

pub none_line_long : (most at : ℕ) (octets : List ℕ) → at < length octets
    → Nowhere (Passes (is_byte 10) octets) 0 at → get_or octets at 0 ≡ 10 → most < at → NoneLent most Lf octets
none_line_long most at octets less none is more f rest carries e =
    let borrowed = line_borrowed octets at less none is in
    let same = one_frame Lf f (take at octets) rest (drop (at + 1) octets) carries borrowed.0
    (sym e ∙ sym (take-append-drop (at + 1) octets) ∙ ap (λ (u : List ℕ). u ++ drop (at + 1) octets) borrowed.1) in
    omega (arith, ap length same, length-take at octets, less, more)
