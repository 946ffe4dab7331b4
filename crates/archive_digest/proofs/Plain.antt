-- A digest without roots is that of the plain lines.
use Rattle.std.proofs.Common.{ℕ, List, Option, Result, Ok, Err, subst}
use Rattle.std.specs.Prelude.{MatchResult}
use Rattle.octet_devices.specs.Device.{InputState}
use Rattle.archive_sets.specs.declared.fault.SelectFault.{SelectFault}
use Rattle.archive_sets.specs.declared.fault.SelectFault.TheVariants.{Archive, Read, Endless, Write, Memory}
use Rattle.archive_text.specs.declared.period.Period.{Period}
use Rattle.archive_digest.specs.Digested.{Digested, Stopped}
use Rattle.archive_digest.specs.DigestedWith.{DigestedWith, StoppedWith}
use Rattle.archive_digest.specs.Digesting.{IsFresh}
use Rattle.archive_digest.specs.declared.digesting.Digesting.{Digesting}
use Rattle.archive_digest.specs.declared.roots.Roots.{Roots}
use Rattle.archive_digest.specs.declared.roots.Roots.TheVariants.{Without}

module _ (period : Period) (d e : InputState) (a b : Option (List ℕ)) where
  -- what was answered with or without roots
  abbrev pub RanWith : Roots → Result ℕ SelectFault → Type 0
  RanWith roots r =
      MatchResult r (λ n. DigestedWith roots period d e a b n) (λ fault. StoppedWith roots period fault d e a b)

  -- a call that begins afresh has the roots that it was begun with
  pub begun_with : (roots : Roots) (s : Digesting) (r : Result ℕ SelectFault) → IsFresh roots s
      → RanWith s.tally.roots r → RanWith roots r
  begun_with roots s r fresh h = subst (λ (x : Roots). RanWith x r) fresh.none_counted.same h

  pub plain : (r : Result ℕ SelectFault) → RanWith Without r
      → MatchResult r (λ n. Digested period d e a b n) (λ fault. Stopped period fault d e a b)
  plain (Ok n) h = record {
    xs = h.xs;
    parts = h.parts;
    whole = h.whole;
    divided = h.divided;
    written = h.written;
    count = h.count;
  }
  plain (Err (Archive fault)) h =
      record { xs = h.xs; parts = h.parts; read = h.read; divided = h.divided; written = h.written }
  plain (Err Read) h =
      record { xs = h.xs; parts = h.parts; read = h.read; divided = h.divided; written = h.written }
  plain (Err Endless) h =
      record { xs = h.xs; parts = h.parts; read = h.read; divided = h.divided; written = h.written }
  plain (Err (Write sent)) h = record {
    xs = h.xs;
    parts = h.parts;
    read = h.read;
    divided = h.divided;
    written = record {
      text = h.written.text;
      whose = h.written.whose;
      some_left = h.written.some_left;
      written = h.written.written;
    };
  }
  plain (Err Memory) h =
      record { xs = h.xs; parts = h.parts; read = h.read; divided = h.divided; written = tt }
