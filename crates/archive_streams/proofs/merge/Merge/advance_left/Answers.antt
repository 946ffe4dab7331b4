use Rattle.std.proofs.Common.{refl, ◌∙◌, ap}
use Rattle.archive_streams.specs.declared.fault.InputFault.TheVariants.{Device, Endless}
use Rattle.archive_streams.specs.declared.fault.SideFault.TheVariants.{Archive, Input}
use Rattle.archive_streams.proofs.Halts.{left_halts, left_halts_first}
use Rattle.archive_streams.proofs.Merges.{left_read, left_read_first}
use Rattle.archive_streams.proofs.merge.Merge.advance_left.Goals as goal

pub returns-in-Ok-clause-ready : goal.returns-in-Ok-clause-ready
returns-in-Ok-clause-ready g c = record {
  alone = λ dl dr er start now s.
      left_read c.args.self.now _ dl _ _ dr er start now refl refl refl refl c.in-Ok.ensures.ready s;
  first = λ dl dr er start now s.
      left_read_first c.args.self.now _ dl _ _ dr er start now refl refl refl refl c.in-Ok.ensures.ready s;
}

pub returns-in-Err-Archive-clause-halted : goal.returns-in-Err-Archive-clause-halted
returns-in-Err-Archive-clause-halted g c =
    let at = Archive c.in-Err-Archive.fault in
    let is = c.in-Err-Archive.field-0-is in
    let stop = c.in-Err-Archive.ensures.stop in
    record {
      alone = λ dl dr er start now s.
          left_halts at _ _ c.args.self.now dl _ _ dr er start now c.requires.room c.advance.ensures.size is stop s;
      first = λ dl dr er start now s.
          left_halts_first at _ _ c.args.self.now dl _ _ dr er start now c.requires.room c.advance.ensures.size is stop s;
    }

pub returns-in-Err-Input-Device-clause-halted : goal.returns-in-Err-Input-Device-clause-halted
returns-in-Err-Input-Device-clause-halted g c =
    let is = c.in-Err-Input-Device.field-0-is ∙ ap Input c.in-Err-Input-Device.field-0-0-is in
    let stop = c.in-Err-Input-Device.ensures.stop in
    record {
      alone = λ dl dr er start now s.
          left_halts (Input Device) _ _ c.args.self.now dl _ _ dr er start now c.requires.room c.advance.ensures.size is stop s;
      first = λ dl dr er start now s.
          left_halts_first (Input Device) _ _ c.args.self.now dl _ _ dr er start now c.requires.room c.advance.ensures.size is stop s;
    }

pub returns-in-Err-Input-Endless-clause-halted : goal.returns-in-Err-Input-Endless-clause-halted
returns-in-Err-Input-Endless-clause-halted g c =
    let is = c.in-Err-Input-Endless.field-0-is ∙ ap Input c.in-Err-Input-Endless.field-0-0-is in
    let stop = c.in-Err-Input-Endless.ensures.stop in
    record {
      alone = λ dl dr er start now s.
          left_halts (Input Endless) _ _ c.args.self.now dl _ _ dr er start now c.requires.room c.advance.ensures.size is stop s;
      first = λ dl dr er start now s.
          left_halts_first (Input Endless) _ _ c.args.self.now dl _ _ dr er start now c.requires.room c.advance.ensures.size is stop s;
    }
