-- The steps of a selection.
use Rattle.std.proofs.Common.{◌≡◌, ℕ, ◌+◌, ◌^◌, ◌<◌, ◌≤◌, List, [], ◌∷◌, ◌++◌, Option, length, sym, ap, subst}
use Rattle.std.proofs.Common.{◌∙◌, arith}
use Rattle.std.proofs.lemmas.List.{length-append}
use Rattle.octet_devices.specs.Device.{InputState}
use Rattle.octet_devices.specs.Held.{Carries, Held, StopsWithin}
use Rattle.octet_devices.proofs.Carrying.{Carries-new}
use Rattle.archive_text.specs.Entries.{Entry}
use Rattle.archive_text.specs.Text.{entry_text, text_of}
use Rattle.archive_text.proofs.Texts.{text_length, text_push}
use Rattle.archive_streams.specs.Entries.{current, IsBegun, Reads, ReadsOne}
use Rattle.archive_streams.specs.declared.entries.ArchiveEntries.{ArchiveEntries}
use Rattle.archive_streams.proofs.EntrySteps.{begun}
use Rattle.archive_sets.specs.Selecting.{Halted, IsFresh, KeepsOutput, Looking, Selecting, Selects}
use Rattle.archive_sets.specs.declared.fault.SelectFault.TheVariants.{Write}
use Rattle.archive_sets.specs.declared.selection.Selection.{Selection}
use Rattle.archive_sets.proofs.Selecting.{no_more_than_octets, selection_nil, selection_passes, selection_takes}

-- before the first entry
pub selecting_none : (meets : Entry → Type 0) (s : Selection) (d : InputState) (start : Option (List ℕ)) → IsFresh s
    → Selecting meets s d d start start
selecting_none meets s d start fresh = record {
  xs = [];
  ys = [];
  reads = fresh.none_read d;
  selects = record {
    selection = selection_nil meets;
    short = omega arith;
    carries = Carries-new start s.held fresh.none_held;
    count = fresh.count;
  };
}

-- what is selected does not hang on what is read
selects_same : (meets : Entry → Type 0) (s t : Selection) (xs ys : List Entry) (start now : Option (List ℕ))
    → KeepsOutput s t → Selects meets s xs ys start now → Selects meets t xs ys start now
selects_same meets s t xs ys start now same x = record {
  selection = x.selection;
  short = x.short;
  carries = subst (λ (h : Held). Carries start now h (text_of ys)) (sym same.held) x.carries;
  count = same.count ∙ x.count;
}

-- an entry is read
pub looks : (meets : Entry → Type 0) (s t : Selection) (d e f : InputState) (start now : Option (List ℕ))
    → KeepsOutput s t → ReadsOne s.entries t.entries e f → Selecting meets s d e start now
    → Looking meets t d f start now
looks meets s t d e f start now same one w = record {
  xs = w.xs;
  ys = w.ys;
  reads = one.reads d w.xs w.reads;
  selects = selects_same meets s t w.xs w.ys start now same w.selects;
}

-- the text of what is selected is no longer than what was given
short_begun : (d e : InputState) (xs ys : List Entry) → IsBegun d e xs → length (text_of ys) ≤ length (text_of xs)
    → length (text_of ys) < 2 ^ 63
short_begun d e xs ys b short =
    omega (arith, short, b.short, ap length b.parts, length-append (text_of xs) b.rest)

-- ---- the entry that was read last

-- the entries that were read, with it
read_so_far : (meets : Entry → Type 0) (s : Selection) (d e : InputState) (start now : Option (List ℕ))
    → (w : Looking meets s d e start now) → IsBegun d e (w.xs ++ current s.entries ∷ [])
read_so_far meets s d e start now w =
    begun s.entries d e (w.xs ++ current s.entries ∷ []) w.reads

-- few are selected
pub few_selected : (meets : Entry → Type 0) (s : Selection) (d e : InputState) (start now : Option (List ℕ))
    → Looking meets s d e start now → s.count < 2 ^ 63
few_selected meets s d e start now w =
    let x = current s.entries in
    omega (
      arith,
      w.selects.count,
      no_more_than_octets w.ys,
      short_begun d e (w.xs ++ x ∷ []) w.ys (read_so_far meets s d e start now w)
          (omega (arith, w.selects.short, text_length w.xs (x ∷ []))),
    )

-- it does not meet the condition
pub passes : (meets : Entry → Type 0) (s : Selection) (d e : InputState) (start now : Option (List ℕ))
    → ¬ (meets (current s.entries)) → Looking meets s d e start now → Selecting meets s d e start now
passes meets s d e start now fails w =
    let x = current s.entries in
    record {
      xs = w.xs ++ x ∷ [];
      ys = w.ys;
      reads = w.reads;
      selects = record {
        selection = selection_passes meets w.xs w.ys x w.selects.selection fails;
        short = omega (arith, w.selects.short, text_length w.xs (x ∷ []));
        carries = w.selects.carries;
        count = w.selects.count;
      };
    }

-- one entry more is selected
one_more : (xs ys : List Entry) (x : Entry) → length (text_of ys) ≤ length (text_of xs)
    → length (text_of (ys ++ x ∷ [])) ≤ length (text_of (xs ++ x ∷ []))
one_more xs ys x short = omega (arith, short, text_length xs (x ∷ []), text_length ys (x ∷ []))

-- it does, and is put
pub takes : (meets : Entry → Type 0) (s t : Selection) (x : Entry) (d e : InputState) (start a b : Option (List ℕ))
    → x ≡ current s.entries → meets x → t.entries ≡ s.entries → t.count ≡ s.count + 1
    → ((text : List ℕ) → Carries start a s.held text → Carries start b t.held (text ++ entry_text x))
    → Looking meets s d e start a → Selecting meets t d e start b
takes meets s t x d e start a b is meet same count puts w =
    let reads : Reads s.entries d e (w.xs ++ x ∷ []) =
    subst (λ (y : Entry). Reads s.entries d e (w.xs ++ y ∷ [])) (sym is) w.reads in
    let read = begun s.entries d e (w.xs ++ x ∷ []) reads in
    record {
      xs = w.xs ++ x ∷ [];
      ys = w.ys ++ x ∷ [];
      reads = subst (λ (n : ArchiveEntries). Reads n d e (w.xs ++ x ∷ [])) (sym same) reads;
      selects = record {
        selection = selection_takes meets w.xs w.ys x read.archive.ascending w.selects.selection meet;
        short = one_more w.xs w.ys x w.selects.short;
        carries = subst (Carries start b t.held) (sym (text_push w.ys x)) (puts (text_of w.ys) w.selects.carries);
        count = omega (arith, count, w.selects.count, length-append w.ys (x ∷ []));
      };
    }

-- or the writer fails
pub put_stops : (meets : Entry → Type 0) (s : Selection) (held : Held) (x : Entry) (d e : InputState)
    (start a b : Option (List ℕ)) (sent : ℕ)
    → x ≡ current s.entries → meets x
    → ((text : List ℕ) → Carries start a s.held text → StopsWithin start b (text ++ entry_text x) sent)
    → Looking meets s d e start a → Halted meets (Write sent) held d e start b
put_stops meets s held x d e start a b sent is meet stops w =
    let reads : Reads s.entries d e (w.xs ++ x ∷ []) =
    subst (λ (y : Entry). Reads s.entries d e (w.xs ++ y ∷ [])) (sym is) w.reads in
    let read = begun s.entries d e (w.xs ++ x ∷ []) reads in
    record {
      xs = w.xs ++ x ∷ [];
      ys = w.ys ++ x ∷ [];
      read = read;
      selection = selection_takes meets w.xs w.ys x read.archive.ascending w.selects.selection meet;
      short = omega (
        arith,
        short_begun d e (w.xs ++ x ∷ []) (w.ys ++ x ∷ []) read (one_more w.xs w.ys x w.selects.short),
      );
      under_way = subst (λ (text : List ℕ). StopsWithin start b text sent) (sym (text_push w.ys x))
          (stops (text_of w.ys) w.selects.carries);
    }
