use Rattle.std.proofs.Common.{ℕ, ◌+◌, ◌-◌, ◌*◌, ◌/◌, ◌%◌, ◌^◌, get_or, ap, ◌∙◌, mod-lt, lit<}
use Rattle.std.proofs.lemmas.Nat.{and_mask}
use Rattle.crc32c.specs.declared.remainders.TheConstants.{REMAINDERS}
use Rattle.crc32c.proofs.Tables.{remainder_at}
use Rattle.crc32c.proofs.remainder.Goals as goal

pub returns : goal.returns
returns c =
    let moved : ℕ = c.args.word / 2 ^ (8 * (7 - c.args.row)) in
    ap (λ n. get_or REMAINDERS (256 * c.args.row + n) 0) (and_mask moved 8)
    ∙ remainder_at c.args.row (moved % 256) c.requires (mod-lt moved (lit< tt))
