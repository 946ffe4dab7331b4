-- The steps of reading an archive into its tree.
use Rattle.std.proofs.Common.{◌≡◌, ℕ, ◌+◌, ◌^◌, ◌<◌, List, [], ◌∷◌, ◌++◌, Option, length, refl, sym, ap, subst}
use Rattle.std.proofs.Common.{arith}
use Rattle.std.proofs.lemmas.List.{length-append}
use Rattle.octet_devices.specs.Device.{InputState}
use Rattle.archive_text.specs.Entries.{Entry}
use Rattle.archive_text.specs.Text.{text_of}
use Rattle.archive_streams.specs.Entries.{current, IsBegun, Reads, ReadsOne}
use Rattle.archive_streams.proofs.EntrySteps.{begun}
use Rattle.archive_sets.proofs.Selecting.{no_more_than_octets}
use Rattle.archive_sets.specs.Selecting.{IsHalt}
use Rattle.archive_sets.specs.declared.fault.SelectFault.{SelectFault}
use Rattle.archive_sets.specs.declared.fault.SelectFault.TheVariants.{Archive, Read, Endless, Write, Memory}
use Rattle.archive_tree.specs.Archives.{texts_of}
use Rattle.archive_tree.specs.Trees.{HasTaken}
use Rattle.archive_tree.specs.declared.stream.TreeStream.{TreeStream}
use Rattle.archive_tree.proofs.Archives.{count_of_texts, texts_append}
use Rattle.proof_engine.specs.Rooted.{Stopped}
use Rattle.proof_engine.specs.Rooting.{Halted, IsFresh, Taking}
use Rattle.proof_engine.specs.declared.rooting.Rooting.{Rooting}

pub taking_none : (s : Rooting) (d : InputState) → IsFresh s → Taking s d d
taking_none s d fresh = record { xs = []; reads = fresh.none_read d; taken = fresh.none_taken }

-- an archive that was read has far fewer entries than 2 ^ 63
pub few_read : (d e : InputState) (xs : List Entry) → IsBegun d e xs → length xs < 2 ^ 63
few_read d e xs b =
    omega (arith, no_more_than_octets xs, b.short, ap length b.parts, length-append (text_of xs) b.rest)

-- one entry more is read, and goes into the tree
pub takes : (s m t : Rooting) (d e f : InputState) → m.tree ≡ s.tree → ReadsOne s.entries m.entries e f
    → t.entries ≡ m.entries
    → ((xs : List (List ℕ)) → length xs + 1 < 2 ^ 64 → HasTaken m.tree xs
    → HasTaken t.tree (xs ++ (current m.entries).octets ∷ []))
    → Taking s d e → Taking t d f
takes s m t d e f tree one same takes_it w =
    let x : Entry = current m.entries in
    let reads : Reads m.entries d f (w.xs ++ x ∷ []) = one.reads d w.xs w.reads in
    let few : length (w.xs ++ x ∷ []) < 2 ^ 63 = few_read d f (w.xs ++ x ∷ []) (begun m.entries d f (w.xs ++ x ∷ [])
    reads) in
    let room : length (texts_of w.xs) + 1 < 2 ^ 64 =
    omega (arith, count_of_texts w.xs, length-append w.xs (x ∷ []), few) in
    let taken : HasTaken m.tree (texts_of w.xs) = subst (λ (n : TreeStream). HasTaken n (texts_of w.xs)) (sym tree)
    w.taken in
    record {
      xs = w.xs ++ x ∷ [];
      reads = subst (λ n. Reads n d f (w.xs ++ x ∷ [])) (sym same) reads;
      taken = subst (λ (l : List (List ℕ)). HasTaken t.tree l) (sym (texts_append w.xs x))
          (takes_it (texts_of w.xs) room taken);
    }

-- or a fault halts it
pub halts : (fault : SelectFault) (s m : Rooting) (d e f : InputState) → IsHalt fault s.entries m.entries e f
    → Taking s d e → Halted fault d f
halts (Archive a) s m d e f h w = record { xs = w.xs; read = h.cut_short d w.xs w.reads; cause = tt }
halts Read s m d e f h w = record { xs = w.xs; read = h.cut_short d w.xs w.reads; cause = tt }
halts Endless s m d e f h w = record { xs = w.xs; read = h.cut_short d w.xs w.reads; cause = tt }
halts (Write sent) s m d e f h w = absurd h
halts Memory s m d e f h w = absurd h

-- nothing is written then
pub unwritten : (fault : SelectFault) (d e : InputState) (taken : Option (List ℕ)) → Halted fault d e
    → Stopped fault d e taken taken
unwritten (Archive a) d e taken h = record { xs = h.xs; read = h.read; same = refl }
unwritten Read d e taken h = record { xs = h.xs; read = h.read; same = refl }
unwritten Endless d e taken h = record { xs = h.xs; read = h.read; same = refl }
unwritten (Write sent) d e taken h = absurd h.cause
unwritten Memory d e taken h = absurd h.cause
