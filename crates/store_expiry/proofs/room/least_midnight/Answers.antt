use Rattle.std.proofs.Common.{◌≤◌, ◌⊎◌, inl, inr, ℕ, ℤ, arith, subst, sym}
use Rattle.std.proofs.lemmas.Bool.{cases_lt}
use Rattle.store_expiry.specs.Room.{IsLeft, midnight}
use Rattle.store_expiry.proofs.Rooms.{falls}
use Rattle.store_expiry.proofs.room.least_midnight.Goals as goal

pub returns : goal.returns
returns c =
    let u = c.args.undated in
    let segments = c.args.segments.now in
    let found = c.first_day.ensures in
    let left = found.fits.left in
    record {
      number = c.first_day.result;
      within = found.within;
      is = c.midnight.ensures;
      left = left;
      left_is = subst (λ (z : ℤ). IsLeft u segments z left) (sym c.midnight.ensures) found.fits.left_is;
      fits = elim (cases_lt c.args.room left) [
        | inl more ↦ inr (λ n least within is. omega (
          arith,
          more,
          found.fits.fits,
          c.max-most.ensures,
          c.from.ensures,
          falls u segments n 3_652_424 least c.left_at-least.result within is c.left_at-least.ensures,
        ))
        | inr fits ↦ inl fits
      ];
      needed = λ n more less is.
          let above = found.needed n more less is in (
            omega (arith, above, c.max-most.ensures, c.from.ensures),
            omega (arith, above, found.fits.fits),
          );
    }
