use Rattle.std.proofs.Common.{refl, ◌∙◌, ap}
use Rattle.archive_streams.specs.declared.fault.InputFault.TheVariants.{Device, Endless}
use Rattle.archive_streams.specs.declared.fault.SideFault.TheVariants.{Archive, Input}
use Rattle.archive_streams.proofs.Halts.{right_halts}
use Rattle.archive_streams.proofs.Merges.{right_read}
use Rattle.archive_streams.proofs.merge.Merge.advance_right.Goals as goal

pub returns-in-Ok-clause-ready : goal.returns-in-Ok-clause-ready
returns-in-Ok-clause-ready g c = λ dl el dr start now s.
    right_read c.args.self.now _ dl el dr _ _ start now refl refl refl refl c.in-Ok.ensures.ready s

pub returns-in-Err-Archive-clause-halted : goal.returns-in-Err-Archive-clause-halted
returns-in-Err-Archive-clause-halted g c =
    λ dl el dr start now s. right_halts (Archive c.in-Err-Archive.fault) _ _ c.args.self.now dl el dr _ _ start now
    c.requires.room c.advance.ensures.size c.in-Err-Archive.field-0-is c.in-Err-Archive.ensures.stop s

pub returns-in-Err-Input-Device-clause-halted : goal.returns-in-Err-Input-Device-clause-halted
returns-in-Err-Input-Device-clause-halted g c =
    λ dl el dr start now s. right_halts (Input Device) _ _ c.args.self.now dl el dr _ _ start now c.requires.room
    c.advance.ensures.size
    (c.in-Err-Input-Device.field-0-is ∙ ap Input c.in-Err-Input-Device.field-0-0-is) c.in-Err-Input-Device.ensures.stop
    s

pub returns-in-Err-Input-Endless-clause-halted : goal.returns-in-Err-Input-Endless-clause-halted
returns-in-Err-Input-Endless-clause-halted g c =
    λ dl el dr start now s. right_halts (Input Endless) _ _ c.args.self.now dl el dr _ _ start now c.requires.room
    c.advance.ensures.size
    (c.in-Err-Input-Endless.field-0-is ∙ ap Input c.in-Err-Input-Endless.field-0-0-is)
    c.in-Err-Input-Endless.ensures.stop s
