-- An empty journal is made.
use Rattle.std.proofs.Common.{◌≡◌, ℕ, Bool, if◌then◌else◌, List, [], ◌∷◌, sym, ◌∙◌, ap}
use Rattle.std.specs.Prelude.{Option, Some, false}
use Rattle.disk.specs.Files.{File, settled, appended}
use Rattle.disk.specs.States.{Entry, State, kept}
use Rattle.disk.specs.Calls.{ChangesFile, CreatesFile, SettlesNames}
use Rattle.journal.specs.Journals.{Stands}
use Rattle.journal.specs.declared.journal.Journal.{Journal}

-- the file under a name is this, whatever was there before
record Now (state : State) (name : List ℕ) (file : File) : Type 0 where
  now : (state.entries name).now ≡ Some file
  sound : state.lost ≡ false

now_changes : (old new : State) (name : List ℕ) (file : File) (change : File → File) → Now old name file
    → ChangesFile old new name change → Now new name (change file)
now_changes old new name file change at changes =
    let some : Some changes.file ≡ Some file = sym changes.was ∙ at.now in
    let same : changes.file ≡ file = cc some in
    record {
      now = ap (λ (e : Entry). e.now) changes.entry.here ∙ ap (λ (f : File). Some (change f)) same;
      sound = changes.entry.lost ∙ at.sound;
    }

-- the four calls
pub made : (s0 s1 s2 s3 s4 : State) (name : List ℕ) (journal : Journal) → s0.lost ≡ false → CreatesFile s0 s1 name
    → ChangesFile s1 s2 name (appended (254 ∷ []))
    → ChangesFile s2 s3 name (λ f. if s2.lost then f else settled f.shown) → SettlesNames s3 s4 → journal.name ≡ name
    → journal.end ≡ 0 → Stands journal s4 []
made s0 s1 s2 s3 s4 name journal sound creates appends syncs settles name_is end_is =
    let one : Now s1 name (settled []) = record {
      now = ap (λ (e : Entry). e.now) creates.entry.here;
      sound
          = creates.entry.lost ∙ sound;
    } in
    let two = now_changes s1 s2 name (settled []) (appended (254 ∷ [])) one appends in
    let three = now_changes s2 s3 name (appended (254 ∷ []) (settled [])) (λ f. if s2.lost then f else settled f.shown)
    two syncs in
    let shown : (s3.entries name).now ≡ Some (settled (254 ∷ [])) =
    three.now ∙ ap (λ (b : Bool). Some (if b then appended (254 ∷ []) (settled []) else settled (254 ∷ []))) two.sound in
    record {
      gate = 254;
      closed = λ zero_is. absurd (cc zero_is);
      entry =
          ap s4.entries name_is ∙ settles.entries name
          ∙ ap (λ (b : Bool). if b then s3.entries name else kept (s3.entries name)) three.sound
          ∙ ap (λ (o : Option File). record { now = o; past = []; moved = false }) shown;
      sound = settles.lost ∙ three.sound;
      end = end_is;
      sized = tt;
    }
