-- Counts of what was dropped.
use Rattle.std.proofs.Common.{◌≡◌, ◌∙◌, ◌⊎◌, ℕ, ◌+◌, ◌-◌, ◌^◌, ◌<◌, ◌≤◌, ap, arith, inl, inr, refl, sym}
use Rattle.std.specs.Prelude.{min}
use Rattle.std.proofs.lemmas.Bool.{cases_lt}
use Rattle.std.proofs.Math.Nat.{add_assoc, min-eq_left, min-eq_right}
use Rattle.collect_engine.specs.declared.receiving.Received.{Received}
use Rattle.collect_engine.specs.declared.receiving.Received.TheVariants as received
use Rattle.serve_engine.specs.Counts.{CountsBroken, CountsCommit, CountsDropped, CountsEnd, CountsOpening, GoesUp, broken_counted}
use Rattle.serve_engine.specs.Counts.{commit_counted, count_up}
use Rattle.serve_engine.specs.declared.counts.ServeCounts.{ServeCounts}

-- nothing was dropped
pub dropped_none : (c d : ServeCounts) → d ≡ c → CountsDropped c d
dropped_none c d is = is ∙ ap (λ (x : ServeCounts). record c { dropped = x.dropped; quiet = x.quiet }) (sym is)

-- and then more was
pub dropped_twice : (a b c : ServeCounts) → CountsDropped a b → CountsDropped b c → CountsDropped a c
dropped_twice a b c one more = more ∙ ap (λ (x : ServeCounts). record x { dropped = c.dropped; quiet = c.quiet }) one

-- behind what was counted
pub dropped_behind : (a b c : ServeCounts) → b ≡ a → CountsDropped b c → CountsDropped a c
dropped_behind a b c is more = more ∙ ap (λ (x : ServeCounts). record x { dropped = c.dropped; quiet = c.quiet }) is

-- behind a commit
pub commit_behind : (a b c : ServeCounts) → CountsCommit a b → CountsDropped b c → CountsCommit a c
commit_behind a b c (inl none) more = inl (dropped_twice a b c none more)
commit_behind a b c (inr (taken, one)) more = inr (taken, dropped_twice (commit_counted a taken) b c one more)

-- a count goes up twice
up_again : (a m n : ℕ) → count_up (count_up a m) n ≡ count_up a (m + n)
up_again a m n = by (cases_lt (a + m) (2 ^ 64 - 1))
  where
    by : (a + m < 2 ^ 64 - 1) ⊎ (2 ^ 64 - 1 ≤ a + m) → count_up (count_up a m) n ≡ count_up a (m + n)
    by (inl less) = ap (λ (k : ℕ). count_up k n) (min-eq_left (omega (arith, less)))
        ∙ ap (λ (k : ℕ). min k (2 ^ 64 - 1)) (add_assoc a m n)
    by (inr more) = ap (λ (k : ℕ). count_up k n) (min-eq_right more)
        ∙ (min-eq_right (omega arith) ∙ sym (min-eq_right (omega (arith, more))))

up_twice : (a b c : ℕ) → GoesUp a b → GoesUp b c → GoesUp a c
up_twice a b c (inl one) (inl more) = inl (more ∙ one)
up_twice a b c (inl one) (inr (n, more)) = inr (n, more ∙ ap (λ (k : ℕ). count_up k n) one)
up_twice a b c (inr (m, one)) (inl more) = inr (m, more ∙ one)
up_twice a b c (inr (m, one)) (inr (n, more)) =
    inr (m + n, more ∙ (ap (λ (k : ℕ). count_up k n) one ∙ up_again a m n))

-- a bad count was counted
pub broken_one : (c d : ServeCounts) → CountsDropped (broken_counted c) d → CountsBroken c d
broken_one c d is = (
  inr (1, ap (λ (x : ServeCounts). x.broken) is),
  is ∙ ap (λ (n : ℕ). record c { broken = n; dropped = d.dropped; quiet = d.quiet })
      (sym (ap (λ (x : ServeCounts). x.broken) is)),
)

pub broken_twice : (a b c : ServeCounts) → CountsBroken a b → CountsBroken b c → CountsBroken a c
broken_twice a b c one more = (
  up_twice a.broken b.broken c.broken one.0 more.0,
  more.1 ∙ ap (λ (x : ServeCounts). record x { broken = c.broken; dropped = c.dropped; quiet = c.quiet }) one.1,
)

-- a connection that was not opened is not counted
pub none_opened : (r : Received) (old new : ServeCounts) → ¬ (r ≡ received.Accepted) → CountsDropped old new
    → CountsOpening r old new
none_opened received.Accepted old new other kept = absurd (other refl)
none_opened (received.Unterminated start) old new other kept = kept
none_opened received.Refused old new other kept = kept
none_opened received.Memory old new other kept = kept

-- how a connection ended is told behind what was counted
pub ended_behind : (r : Received) (a b c : ServeCounts) → CountsEnd r a b → CountsDropped b c → CountsEnd r a c
ended_behind received.Accepted a b c one more = dropped_twice a b c one more
ended_behind (received.Unterminated start) a b c one more = dropped_twice (broken_counted a) b c one more
ended_behind received.Refused a b c one more = dropped_twice a b c one more
ended_behind received.Memory a b c one more = dropped_twice a b c one more
