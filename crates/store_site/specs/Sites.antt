-- What becomes of a store to which records are added.
use Rattle.std.specs.Prelude.{◌≡◌, ◌⊎◌, List, [], Some}
use Rattle.disk.specs.States.{State}
use Rattle.octet_devices.specs.Device.{InputState}
use Rattle.archive_text.specs.Entries.{Entry, Has}
use Rattle.archive_text.specs.Text.{text_of}
use Rattle.reconcile.specs.Ranges.{AreThose}
use Rattle.store_addition.specs.Additions.{AddsPart, TakesIn}
use Rattle.store_addition.specs.declared.addition.Addition.{Addition}
use Rattle.store_addition.specs.declared.fault.AddFault.{AddFault}
use Rattle.store_addition.specs.declared.fault.AddFault.TheVariants.{Input, Segment, Memory}

-- the entries are on the disk; where there are none, it was not written to
abbrev pub TakesNew : State → State → List Entry → Type 0
TakesNew old new es = ((es ≡ []) × (new ≡ old)) ⊎ TakesIn old new es es

-- of these entries the first were put on the disk, in their order, or nothing was written for want of memory
pub record TakesSome (tells failed : Type 0) (old new : State) (es : List Entry) (fault : AddFault) : Type 0 where
  pub before : InputState
  pub after : InputState
  pub added : Addition
  pub text : before.left ≡ Some (text_of es)
  pub part : AddsPart tells failed before after old new added fault

abbrev pub TakesPart : Type 0 → Type 0 → State → State → List Entry → AddFault → Type 0
TakesPart tells failed old new es fault = TakesSome tells failed old new es fault ⊎ ((fault ≡ Memory) × (new ≡ old))

-- those of some entries that a set lacks are on the disk
pub record TakesLacking (old new : State) (set es : List Entry) : Type 0 where
  pub lacking : List Entry
  pub those : AreThose (λ x. ¬ (Has set x)) es lacking
  pub takes : TakesNew old new lacking
