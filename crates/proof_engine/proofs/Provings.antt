-- The steps of reading an archive for the proofs of records.
use Rattle.std.proofs.Common.{◌≡◌, ◌+◌, ◌^◌, ◌<◌, List, [], ◌∷◌, ◌++◌, true, false, length, sym, subst, arith}
use Rattle.std.specs.Prelude.{Result, Ok, Err, OnOk}
use Rattle.std.specs.Result.{is_err}
use Rattle.std.proofs.lemmas.List.{length-append}
use Rattle.octet_devices.specs.Device.{InputState}
use Rattle.archive_text.specs.Entries.{Entry}
use Rattle.archive_text.specs.Text.{IsArchive}
use Rattle.archive_text.specs.declared.limits.TheConstants.{ENTRY_MAX}
use Rattle.archive_streams.specs.Entries.{current, IsBegun, Reads, ReadsOne}
use Rattle.archive_streams.specs.declared.entries.ArchiveEntries.{ArchiveEntries}
use Rattle.archive_streams.proofs.EntrySteps.{begun}
use Rattle.archive_sets.specs.Selecting.{IsHalt}
use Rattle.archive_sets.specs.declared.fault.SelectFault.{SelectFault}
use Rattle.archive_sets.specs.declared.fault.SelectFault.TheVariants.{Archive, Read, Endless, Write, Memory}
use Rattle.archive_proof.specs.Proving.{IsProving}
use Rattle.archive_proof.specs.declared.prover.Prover.{Prover}
use Rattle.proof_engine.proofs.Steps.{few_read}
use Rattle.proof_engine.specs.Proving.{Halted, IsFresh, Taking}
use Rattle.proof_engine.specs.declared.proving.Proving.{Proving}

pub none_taken : (rs : List Entry) (s : Proving) (d : InputState) → IsFresh rs s → Taking rs s d d
none_taken rs s d fresh = record { xs = []; reads = fresh.none_read d; taken = fresh.none_taken }

-- one entry more is read, and the proofs go on with it
pub takes_entry : (rs : List Entry) (s m t : Proving) (d e f : InputState) → m.prover ≡ s.prover
    → ReadsOne s.entries m.entries e f → t.entries ≡ m.entries
    → ((qs xs : List Entry) → length xs + 1 < 2 ^ 64 → IsArchive ENTRY_MAX (xs ++ current m.entries ∷ [])
    → IsProving qs m.prover xs → IsProving qs t.prover (xs ++ current m.entries ∷ []))
    → Taking rs s d e → Taking rs t d f
takes_entry rs s m t d e f prover one same takes_it w =
    let x : Entry = current m.entries in
    let reads : Reads m.entries d f (w.xs ++ x ∷ []) = one.reads d w.xs w.reads in
    let so_far : IsBegun d f (w.xs ++ x ∷ []) = begun m.entries d f (w.xs ++ x ∷ []) reads in
    let few : length (w.xs ++ x ∷ []) < 2 ^ 63 = few_read d f (w.xs ++ x ∷ []) so_far in
    let room : length w.xs + 1 < 2 ^ 64 = omega (arith, length-append w.xs (x ∷ []), few) in
    let taken : IsProving rs m.prover w.xs = subst (λ (p : Prover). IsProving rs p w.xs) (sym prover) w.taken in
    record {
      xs = w.xs ++ x ∷ [];
      reads = subst (λ n. Reads n d f (w.xs ++ x ∷ [])) (sym same) reads;
      taken = takes_it rs w.xs room so_far.archive taken;
    }

-- or a fault halts it
pub halts_reading : (fault : SelectFault) (s m : ArchiveEntries) (d e f : InputState) (xs : List Entry)
    → IsHalt fault s m e f → Reads s d e xs → Halted fault d f
halts_reading (Archive a) s m d e f xs h reads = record { xs = xs; read = h.cut_short d xs reads; cause = tt }
halts_reading Read s m d e f xs h reads = record { xs = xs; read = h.cut_short d xs reads; cause = tt }
halts_reading Endless s m d e f xs h reads = record { xs = xs; read = h.cut_short d xs reads; cause = tt }
halts_reading (Write sent) s m d e f xs h reads = absurd h
halts_reading Memory s m d e f xs h reads = absurd h

-- what a call promises where it does not fail
pub went_well : {T E : Type 0} (r : Result T E) (P : Type 0) → is_err r ≡ false → OnOk r P → P
went_well (Ok x) P none h = h
went_well (Err e) P none h = absurd (let k : true ≡ false = none in cc)
