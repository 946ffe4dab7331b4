-- The octets of a file are read and written.
use Rattle.std.proofs.Common.{◌≡◌, ℕ, ◌+◌, ◌-◌, ◌^◌, ◌≤◌, min, List, [], ◌++◌, Option, None, Some, refl, sym, ap, ◌∙◌}
use Rattle.std.proofs.Common.{append-nil, arith, length, length-append, length-take, take}
use Rattle.std.proofs.KnownBytes.{Consumes-trans}
use Rattle.std.specs.Io.KnownBytes.{Consumes, IsAtEnd}
use Rattle.store_reading.specs.Damages.{position}

-- what was read of a file so far, hashed, counted and written
pub record HasRead (before now : Option (List ℕ)) (Hashed : List ℕ → Type 0) (octets : ℕ) (Written : List ℕ → Type 0) :
    Type 0 where
  pub done : List ℕ
  pub given : Consumes before now done
  pub hashed : Hashed done
  pub count : octets ≡ position (length done)
  pub written : Written done

-- at the end it is the whole file
pub whole_read : (before now : Option (List ℕ)) (done text : List ℕ) → Consumes before now done → IsAtEnd now
    → before ≡ Some text → done ≡ text
whole_read None now done text given end is = absurd (cc is)
whole_read (Some x) None done text given end is = absurd given
whole_read (Some x) (Some y) done text given end is =
    let same : x ≡ text = cc is in
    sym (append-nil done) ∙ ap (λ (l : List ℕ). done ++ l) (sym end) ∙ sym given ∙ same

-- a piece more
pub counted_more : (octets more n : ℕ) (done piece : List ℕ) → octets ≡ position (length done) → n ≤ length piece
    → more ≡ min (octets + n) (2 ^ 64 - 1) → more ≡ position (length (done ++ take n piece))
counted_more octets more n done piece count within is =
    omega (arith, count, within, is, length-append done (take n piece), length-take n piece)

-- a read that gives nothing is at the end
pub end_read : (before mid now : Option (List ℕ)) (done piece text : List ℕ) (n : ℕ) → Consumes before mid done
    → Consumes mid now (take n piece) → n ≡ 0 → IsAtEnd now → before ≡ Some text → done ≡ text
end_read before mid now done piece text n given more none end is =
    let nothing : take n piece ≡ [] = rw none refl in
    whole_read before now done text
    (rw append-nil at (rw nothing at (Consumes-trans before mid now done (take n piece) given more))) end is
