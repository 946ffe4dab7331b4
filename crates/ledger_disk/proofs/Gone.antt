-- A segment is gone, and told.
use Rattle.std.proofs.Common.{◌≡◌, ◌≢◌, ℕ, ◌+◌, ◌<◌, ◌≤◌, List, ◌∷◌, ◌++◌, Option, length, take, codes}
use Rattle.std.proofs.Common.{sym, ap, subst, ◌∙◌, arith, length-append}
use Rattle.std.specs.Prelude.{IsSome, IsSomeAnd, None, Some}
use Rattle.disk.specs.Calls.{IsUnchanged}
use Rattle.disk.specs.Files.{File}
use Rattle.disk.specs.Memory.{shown_now}
use Rattle.disk.specs.States.{Entry, State}
use Rattle.ledger.specs.Lines.{Said}
use Rattle.ledger.specs.declared.entry.Event.TheVariants.{Gone}
use Rattle.ledger.specs.declared.entry.Removal.{Removal}
use Rattle.ledger.specs.declared.standing.Listed.{Listed}
use Rattle.ledger.specs.declared.standing.Standing.{Standing}
use Rattle.ledger_disk.specs.Disks.{IsSegmentName, TellsGone, TellsSeal, ledger_name, listed_in, seal_said}
use Rattle.ledger_disk.specs.Ledgers.{EndsWith, GainsLine, IsLinesEnd, ledger_text, text_in}

-- the ledger is no segment
pub apart : (name : List ℕ) → IsSegmentName name → name ≢ ledger_name
apart name (period, text, segment) is =
    let whole : length name ≡ 6 = ap (λ (l : List ℕ). length l) is in
    let size : length name ≡ length (period ++ 46 ∷ segment.digest ++ codes ".archive") =
    ap (λ (l : List ℕ). length l) segment.name_is in
    let parts = length-append (period ++ 46 ∷ segment.digest) (codes ".archive") in
    let front = length-append period (46 ∷ segment.digest) in
    let long : length segment.digest ≡ 64 = segment.long in
    omega arith

pub gains_after : (a b c : State) (name : List ℕ) (s : Said) → IsUnchanged a b → GainsLine b c name s
    → GainsLine a c name s
gains_after a b c name s same gains n end =
    let e : ledger_text b name ≡ ledger_text a name =
    ap (λ (entry : Entry). text_in (shown_now entry)) (same.entries name) in
    subst (λ (t : List ℕ). EndsWith c name (take n t) s) e
    (gains n (subst (λ (t : List ℕ). IsLinesEnd t n) (sym e) end))

pub there_after : (a b : State) (name : List ℕ) → IsUnchanged a b → IsSome (a.entries name).now
    → IsSome (b.entries name).now
there_after a b name same some = subst (λ (entry : Entry). IsSome entry.now) (sym (same.entries name)) some

pub told_gone : (a b c d : State) (name said : List ℕ) (removal : Removal) (count octets : ℕ) → said ≡ name
    → IsUnchanged a b → IsUnchanged b c
    → GainsLine c d ledger_name (record { event = Gone removal; name = said; count = count; octets = octets })
    → TellsGone a d name
told_gone a b c d name said removal count octets is one two gains =
    let s : List ℕ → Said = λ n. record { event = Gone removal; name = n; count = count; octets = octets } in (
      removal,
      count,
      octets,
      subst (λ (n : List ℕ). GainsLine a d ledger_name (s n)) is
          (gains_after a b d ledger_name (s said) one (gains_after b c d ledger_name (s said) two gains)),
    )

pub seals_after : (a b c : State) (standing : Option Standing) (name root : List ℕ) → IsUnchanged a b
    → TellsSeal b c standing name root → TellsSeal a c standing name root
seals_after a b c standing name root same = by_listed (listed_in standing name)
  where
    by_listed : (o : Option Listed) → IsSomeAnd o (λ l. GainsLine b c ledger_name (seal_said name root l))
        → IsSomeAnd o (λ l. GainsLine a c ledger_name (seal_said name root l))
    by_listed None h = h
    by_listed (Some l) h = gains_after a b c ledger_name (seal_said name root l) same h
