-- Files are opened one after the other.
use Rattle.std.proofs.Common.{◌≡◌, ℕ, ◌+◌, ◌<◌, List, [], ◌∷◌, ◌++◌, None, Some, IfSome, ap, arith, codes, drop}
use Rattle.std.proofs.Common.{Result, Ok, Err, false, if◌then◌else◌}
use Rattle.std.specs.Result.{is_err, is_ok}
use Rattle.std.proofs.Common.{get_or, length, map, subst, sym, take, ◌∙◌}
use Rattle.std.proofs.lemmas.List.{drop_more, length-map, length-take, map-append, take-append-drop, take_more}
use Rattle.octet_devices.specs.Device.{InputState, OutputState}
use Rattle.driver.specs.declared.status.TheConstants.{FAULT}
use Rattle.set_engine.specs.Combining.{input_words}
use Rattle.driver.specs.Ended.{TellsLine}
use Rattle.set_engine.specs.declared.combination.Combination.{Combination}
use Rattle.commands.specs.JoinedFiles.{AreOpened, HaveFiles, LacksOne}
use Rattle.commands.specs.Stored.{Opens, Stored}
use Rattle.commands.proofs.RunLemmas.{has_file}

pub opened_more : (stored : Stored) (names : List (List ℕ)) (ds : List InputState) (name : List ℕ) (d : InputState)
    → AreOpened stored names ds → Opens stored name d → AreOpened stored (names ++ name ∷ []) (ds ++ d ∷ [])
opened_more stored [] [] name d all one = (one, tt)
opened_more stored [] (e ∷ ds) name d all one = absurd all
opened_more stored (n ∷ names) [] name d all one = absurd all
opened_more stored (n ∷ names) (e ∷ ds) name d (first, all) one =
    (first, opened_more stored names ds name d all one)

-- names that were opened have files
pub have_files : (stored : Stored) (names : List (List ℕ)) (ds : List InputState) → AreOpened stored names ds
    → HaveFiles stored names
have_files None names ds all = tt
have_files (Some octets) [] [] all = tt
have_files (Some octets) [] (d ∷ ds) all = absurd all
have_files (Some octets) (name ∷ names) [] all = absurd all
have_files (Some octets) (name ∷ names) (d ∷ ds) (first, all) =
    (has_file (Some octets) name d.left first.0, have_files (Some octets) names ds all)

-- ---- the names of a list in turn

-- one more of them was opened
pub opened_at : {A : Type 0} (f : A → List ℕ) (stored : Stored) (xs : List A) (i : ℕ) (x : A) (ds : List InputState)
    (d : InputState) → i < length xs → AreOpened stored (map f (take i xs)) ds → Opens stored (f (get_or xs i x)) d
    → AreOpened stored (map f (take (i + 1) xs)) (ds ++ d ∷ [])
opened_at f stored xs i x ds d less all one =
    let names = ap (map f) (take_more xs i x less) ∙ map-append f (take i xs) (get_or xs i x ∷ []) in
    subst (λ (ns : List (List ℕ)). AreOpened stored ns (ds ++ d ∷ [])) (sym names)
    (opened_more stored (map f (take i xs)) ds (f (get_or xs i x)) d all one)

-- one of them has no file
pub lacks_at : {A : Type 0} (f : A → List ℕ) (how : Combination) (stored : Stored) (xs : List A) (i : ℕ) (x : A)
    (ds : List InputState) (n n_new : OutputState) (status : ℕ) → i < length xs
    → AreOpened stored (map f (take i xs)) ds → IfSome stored (λ octets. octets (f (get_or xs i x)) ≡ None)
    → TellsLine (input_words how i ++ codes "no file\n") FAULT n n_new status
    → LacksOne how stored (map f xs) n n_new status
lacks_at f how stored xs i x ds n n_new status less all lacks told = record {
  before = map f (take i xs);
  name = f (get_or xs i x);
  later = map f (drop (i + 1) xs);
  names_are = ap (map f) (sym (take-append-drop i xs) ∙ ap (λ ys. take i xs ++ ys) (drop_more xs i x less))
      ∙ map-append f (take i xs) (get_or xs i x ∷ drop (i + 1) xs);
  have = have_files stored (map f (take i xs)) ds all;
  lacks = lacks;
  told =
      let count : length (map f (take i xs)) ≡ i = omega (arith, length-map (take i xs) f, length-take i xs, less) in
      subst (λ (k : ℕ). TellsLine (input_words how k ++ codes "no file\n") FAULT n n_new status) (sym count) told;
}

-- the reader of the next one was kept
pub opened_next : {A R X E : Type 0} (f : A → List ℕ) (state : R → InputState) (stored : Stored) (xs : List A) (i : ℕ)
    (x : A) (rs new : List R) (r : R) (pushed : Result X E) → i < length xs
    → AreOpened stored (map f (take i xs)) (map state rs) → Opens stored (f (get_or xs i x)) (state r)
    → is_err pushed ≡ false → new ≡ (if is_ok pushed then rs ++ r ∷ [] else rs)
    → AreOpened stored (map f (take (i + 1) xs)) (map state new)
opened_next f state stored xs i x rs new r (Ok y) less all one sound items =
    subst (λ (ds : List InputState). AreOpened stored (map f (take (i + 1) xs)) ds)
    (sym (ap (map state) items ∙ map-append state rs (r ∷ [])))
    (opened_at f stored xs i x (map state rs) (state r) less all one)
opened_next f state stored xs i x rs new r (Err e) less all one sound items = absurd cc
