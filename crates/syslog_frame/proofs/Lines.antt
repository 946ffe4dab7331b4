-- A piece up to its line feed.
use Rattle.std.proofs.Common.{◌≡◌, ◌≢◌, ℕ, ◌+◌, ◌<◌, ◌≤◌, List, [], ◌∷◌, ◌++◌, length, take, get_or, ap, subst, ◌∙◌}
use Rattle.std.proofs.Common.{arith, eq-eqb}
use Rattle.memchr.specs.Find.{Nowhere, Passes, is_byte}
use Rattle.std.proofs.lemmas.List.{take_all}
use Rattle.syslog_frame.specs.Frames.{IsLine}
use Rattle.syslog_frame.specs.Scan.{Keeps, Holds}
use Rattle.syslog_frame.specs.declared.framing.Framing.TheVariants.{Lf}
use Rattle.syslog_frame.specs.declared.phase.Phase.TheVariants.{Inside, Ended}
use Rattle.octet_language.proofs.Lists.{AllByRecursion-append}
use Rattle.syslog_frame.proofs.Cuts.{free_prefix, one_taken}

pub nowhere : (s : List ℕ) (n : ℕ) → n ≤ length s → Nowhere (Passes (is_byte 10) s) 0 n → IsLine (take n s)
nowhere s n within h = free_prefix 10 s n within (λ k less e. h k (omega arith) less (eq-eqb (get_or s k 0) 10 e))

pub line_ends : (most size at : ℕ) (kept new p piece : List ℕ) → at < length piece
    → Nowhere (Passes (is_byte 10) piece) 0 at → get_or piece at 0 ≡ 10
    → ((r : List ℕ) → Keeps most size kept r → Keeps most (size + at) new (r ++ take at piece))
    → Holds most Lf Inside 0 size kept p → Holds most Lf Ended 0 (size + at) new (p ++ take (at + 1) piece)
line_ends most size at kept new p piece less none is keeps h = (
  p ++ take at piece,
  AllByRecursion-append (λ y. y ≢ 10) p (take at piece) h.0
      (nowhere piece at (omega arith) none),
  keeps p h.1,
  one_taken p piece at less
      ∙ ap (λ (k : ℕ). (p ++ take at piece) ++ k ∷ []) is,
)

pub line_goes_on : (most size : ℕ) (kept new p piece : List ℕ) → Nowhere (Passes (is_byte 10) piece) 0 (length piece)
    → ((r : List ℕ) → Keeps most size kept r → Keeps most (size + length piece) new (r ++ piece))
    → Holds most Lf Inside 0 size kept p → Holds most Lf Inside 0 (size + length piece) new
    (p ++ take (length piece) piece)
line_goes_on most size kept new p piece none keeps h =
    rw (take_all (length piece) piece (omega arith)) (
      AllByRecursion-append (λ y. y ≢ 10) p piece h.0
          (subst IsLine (take_all (length piece) piece (omega arith))
          (nowhere piece (length piece) (omega arith) none)),
      keeps p h.1,
    )
