-- The octets of copies.
use Rattle.std.proofs.Common.{◌≡◌, ℕ, ◌+◌, ◌-◌, ◌^◌, min, List, [], ◌∷◌, ◌++◌, arith}
use Rattle.store_backup.specs.declared.outcome.CopiedFile.{CopiedFile}
use Rattle.backup_engine.specs.Lines.{octets_of, sum_of}

sum_push : (cs : List CopiedFile) (c : CopiedFile) → sum_of (cs ++ c ∷ []) ≡ sum_of cs + c.octets
sum_push [] c = omega arith
sum_push (x ∷ cs) c = omega (arith, sum_push cs c)

-- those of one copy more
pub octets_push : (cs : List CopiedFile) (c : CopiedFile) (octets more : ℕ) → octets ≡ octets_of cs
    → more ≡ min (octets + c.octets) (2 ^ 64 - 1) → more ≡ octets_of (cs ++ c ∷ [])
octets_push cs c octets more is then = omega (arith, is, then, sum_push cs c)
