use Rattle.std.proofs.Common.{◌≡◌, ◌∙◌, ℕ, ◌<◌, ◌≤◌, List, true, false, ap, arith, get_or, length, rules, sym, take}
use Rattle.std.specs.Prelude.{◌==◌}
use Rattle.std.proofs.lemmas.List.Sums.{position_or_len_is}
use Rattle.std.proofs.lemmas.List.{take_all}
use Rattle.server_metrics.specs.Requests.{path_of}
use Rattle.server_metrics.proofs.asking.path_of.Goals as goal

-- so many octets come before the first question mark
first_at : (target : List ℕ) (i : ℕ) → i ≤ length target → ((k : ℕ) → k < i → (get_or target k 0 == 63) ≡ false)
    → (i < length target → (get_or target i 0 == 63) ≡ true) → take i target ≡ path_of target
first_at target i within before here =
    ap (λ n. take n target) (sym (position_or_len_is (λ octet. octet == 63) target i 0 within before here))

pub returns-then-target-at-eq63 : goal.returns-then-target-at-eq63
returns-then-target-at-eq63 c =
    first_at c.args.target.now c.loop-at.at (omega arith) c.loop-at.invariant (λ within. search rules)

pub returns : goal.returns
returns c =
    sym (take_all (length c.args.target.now) c.args.target.now (omega arith))
    ∙ first_at c.args.target.now (length c.args.target.now) (omega arith) (λ k below. c.loop-at.invariant k (omega arith))
    (λ within. absurd (omega arith))
