use Rattle.std.proofs.Common.{arith, refl}
use Rattle.archive_vec.proofs.Layouts.{laid_out_new}
use Rattle.archive_vec.proofs.entry_list.EntryList.insert.Goals as goal

pub invariant_of-self-2 : goal.invariant_of-self-2
invariant_of-self-2 c =
    (laid_out_new _ _ _ _ _ _ _ _ _ c.self.invariant c.self.view_is c.requires.gap c.requires.entry c.requires.fits
    (omega arith) refl (omega arith) refl
    c.in_ok-extend_from_slice.ensures.items c.in_ok-reserve.ensures.items c.in_ok-insert.ensures.items).0

pub returns-clause-ok : goal.returns-clause-ok
returns-clause-ok c =
    (laid_out_new _ _ _ _ _ _ _ _ _ c.self.invariant c.self.view_is c.requires.gap c.requires.entry c.requires.fits
    (omega arith) refl (omega arith) refl
    c.in_ok-extend_from_slice.ensures.items c.in_ok-reserve.ensures.items c.in_ok-insert.ensures.items).1
