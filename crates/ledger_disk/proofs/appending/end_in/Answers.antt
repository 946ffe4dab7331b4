use Rattle.std.proofs.Common.{◌≡◌, ◌+◌, ◌-◌, List, ℕ, true, nat_eq, ap, arith, length, subst, sym, take, ◌∙◌, rules}
use Rattle.std.proofs.lemmas.List.{length-drop}
use Rattle.ledger_disk.specs.Ends.{IsBehindLast}
use Rattle.ledger_disk.specs.Ledgers.{IsBehind, IsLinesEnd}
use Rattle.ledger_disk.proofs.Behind.{behind_all, lines_taken}
use Rattle.ledger_disk.proofs.appending.end_in.Goals as goal

pub returns : goal.returns
returns c file tail =
    let at = c.args.tail.now.at in
    let octets = c.args.tail.now.octets.items in
    let len = c.in-Some.len in
    let head = c.in-Some-head_behind.head in
    let whole : c.in-Some-checked_add.whole ≡ at + len = omega arith in
    let size : length octets ≡ length file - at = ap (λ (l : List ℕ). length l) tail.octets_are ∙ length-drop at file in
    let count : c.len.result ≡ length octets = search rules in
    let here = c.in-Some.ensures.here in
    let first : nat_eq at 0 ≡ true → at ≡ 0 = λ is. grind (arith, is) in
    let behind : IsBehindLast (nat_eq at 0) (take len octets) head =
    subst (λ (l : List ℕ). IsBehindLast (nat_eq at 0) (take len l) head) c.deref.ensures.value
    (c.in-Some-head_behind.ensures (subst (λ (l : List ℕ). IsLinesEnd (take len l) (length (take len l)))
    (sym c.deref.ensures.value) (lines_taken octets len here))) in
    record {
      lines = subst (λ (k : ℕ). IsLinesEnd file k) (sym whole) (c.in-Some.ensures.end file tail);
      torn = λ is. grind (arith, is, size, count, whole);
      behind = subst (λ (k : ℕ). IsBehind (take k file) head) (sym whole)
          (behind_all file octets at len head (nat_eq at 0) tail here c.in-Some.ensures.some first behind);
    }
