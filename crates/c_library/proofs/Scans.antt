-- Frames that are too long, passed over piece by piece.
use Rattle.std.proofs.Common.{◌≡◌, ℕ, ◌+◌, ◌-◌, ◌<◌, ◌≤◌, List, [], ◌∷◌, ◌++◌, length, take, get_or, ap, append_assoc, arith, inl, inr, refl, subst, sym, ◌∙◌}
use Rattle.std.specs.Prelude.{decimal}
use Rattle.std.proofs.lemmas.List.{length-append, length-take-le}
use Rattle.octet_language.proofs.Lists.{AllByRecursion-append}
use Rattle.syslog_frame.specs.Frames.{Frame, IsLine}
use Rattle.syslog_frame.specs.declared.framing.Framing.{Framing}
use Rattle.syslog_frame.specs.declared.framing.Framing.TheVariants.{Counted, Lf}
use Rattle.syslog_frame.proofs.Cuts.{one_taken}
use Rattle.c_library.specs.Frames.{IsAwaited, IsComplete}
use Rattle.c_library.specs.Scanning.{IsAt, IsFound, IsWaiting, PassesCounted}
use Rattle.c_library.specs.declared.scan.Scanned.{Scanned}
use Rattle.c_library.specs.declared.scan.SyslogboxScanner.{SyslogboxScanner}

-- the end of a frame that is too long
abbrev pub EndsLong : Framing → ℕ → List ℕ → List ℕ → ℕ → Type 0
EndsLong kind longest p piece used =
    (used ≤ length piece) × (f : List ℕ) × Frame kind f (p ++ take used piece) × (longest < length f)

-- all of a piece belongs to a counted frame
abbrev pub in_counted : ℕ → SyslogboxScanner
in_counted left = record { inside = 1; left = left }

abbrev pub in_line : SyslogboxScanner
in_line = record { inside = 2; left = 0 }

-- ---- counted frames

pub counted_over : (longest left : ℕ) (p piece : List ℕ) → PassesCounted longest left p → left ≤ length piece
    → EndsLong Counted longest p piece left
counted_over longest left p piece h fits =
    let more : List ℕ = take left piece in
    let f : List ℕ = h.octets ++ more in
    let size : length f ≡ h.count =
    omega (arith, length-append h.octets more, length-take-le left piece fits, h.left_is) in (
      fits,
      f,
      (
        (omega (arith, size, h.long), omega (arith, size, h.small)),
        ap (λ (u : List ℕ). u ++ more) h.text ∙ append_assoc (decimal h.count) (32 ∷ h.octets) more
            ∙ ap (λ (k : ℕ). decimal k ++ 32 ∷ f) (sym size),
      ),
      omega (arith, size, h.long),
    )

pub counted_on : (longest left : ℕ) (p piece : List ℕ) → PassesCounted longest left p → length piece < left
    → IsWaiting Counted longest p piece (length piece) (in_counted (left - length piece))
counted_on longest left p piece h less = inr (
  refl,
  inr (inl (
    refl,
    refl,
    record {
      count = h.count;
      octets = h.octets ++ piece;
      small = h.small;
      long = h.long;
      left_is = omega (arith, length-append h.octets piece, h.left_is, less);
      more = omega (arith, less);
      text = ap (λ (u : List ℕ). u ++ piece) h.text ∙ append_assoc (decimal h.count) (32 ∷ h.octets) piece;
    },
  )),
)

pub counted_begun : (longest : ℕ) (piece : List ℕ) (start end : ℕ) → IsAwaited Counted piece start end → longest < end - start
    → IsWaiting Counted longest [] piece (length piece) (in_counted (end - length piece))
counted_begun longest piece start end (inl (count, rest, follows, begins, ends, short)) long = inr (
  refl,
  inr (inl (
    refl,
    refl,
    record {
      count = count;
      octets = rest;
      small = follows.2.1;
      long = omega (arith, long, begins, ends);
      left_is = omega (arith, begins, ends, short);
      more = omega (arith, short);
      text =
          follows.1 ∙ ap (λ (u : List ℕ). u ++ rest) follows.2.2 ∙ append_assoc (decimal count) (32 ∷ []) rest;
    },
  )),
)
counted_begun longest piece start end (inr (none, begins, ends)) long = absurd (omega (arith, long, begins, ends))

-- ---- lines

pub line_over : (longest at : ℕ) (p piece : List ℕ) → IsLine p → longest < length p → at < length piece
    → IsLine (take at piece) → get_or piece at 0 ≡ 10 → EndsLong Lf longest p piece (at + 1)
line_over longest at p piece line long within free is = (
  omega (arith, within),
  p ++ take at piece,
  (
    AllByRecursion-append _ p (take at piece) line free,
    one_taken p piece at within ∙ ap (λ (k : ℕ). (p ++ take at piece) ++ k ∷ []) is,
  ),
  omega (arith, long, length-append p (take at piece)),
)

pub line_on : (longest : ℕ) (p piece : List ℕ) → IsLine p → longest < length p → IsLine piece
    → IsWaiting Lf longest p piece (length piece) in_line
line_on longest p piece line long free = inr (
  refl,
  inr (inr (
    refl,
    refl,
    AllByRecursion-append _ p piece line free,
    omega (arith, long, length-append p piece),
  )),
)

pub line_begun : (longest : ℕ) (piece : List ℕ) → IsLine piece → longest < length piece
    → IsWaiting Lf longest [] piece (length piece) in_line
line_begun longest piece line long = inr (refl, inr (inr (refl, refl, line, long)))

-- ---- whole frames

pub whole_long : (kind : Framing) (longest : ℕ) (piece : List ℕ) (start end used : ℕ) → IsComplete kind piece start end used
    → longest < end - start → EndsLong kind longest [] piece used
whole_long kind longest piece start end used h long =
    (h.within, h.frame, h.whole, omega (arith, long, h.end_is))

-- ---- within a line

pub found_in_line : (kind : Framing) (longest : ℕ) (s : SyslogboxScanner) (p piece : List ℕ) (found : Scanned) → s.inside ≡ 2
    → ((m : ℕ) (q : List ℕ) → IsLine q → m < length q → IsFound Lf m q piece found) → IsAt kind longest s p
    → IsFound kind longest p piece found
found_in_line kind longest s p piece found two finds (inl (inside, none)) = absurd (omega (arith, two, inside))
found_in_line kind longest s p piece found two finds (inr (inl (inside, counted, more))) = absurd (omega (arith, two, inside))
found_in_line kind longest s p piece found two finds (inr (inr (inside, lf, line, long))) =
    subst (λ (k : Framing). IsFound k longest p piece found) (sym lf) (finds longest p line long)
