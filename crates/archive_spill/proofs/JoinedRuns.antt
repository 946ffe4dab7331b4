-- What is joined of runs that were written.
use Rattle.std.proofs.Common.{◌≡◌, ◌∙◌, ℕ, ◌+◌, ◌<◌, ◌≤◌, Bool, List, [], ◌∷◌, ◌++◌, length, take, Option, Some, None}
use Rattle.std.proofs.Common.{refl, sym, ap, subst, arith, append-nil}
use Rattle.std.specs.Prelude.{◌^◌}
use Rattle.std.specs.List.{AllByRecursion}
use Rattle.std.specs.Io.KnownBytes.{Appends, Consumes, IsAtEnd}
use Rattle.std.specs.Prelude.{Err}
use Rattle.std.proofs.KnownBytes.{Appends-nil}
use Rattle.std.proofs.lemmas.List.{length-append}
use Rattle.std.proofs.lemmas.Grind.{common_steps}
use Rattle.octet_devices.specs.Device.{InputState, OutputState}
use Rattle.octet_devices.specs.Held.{StopsWithin}
use Rattle.archive_text.specs.Entries.{Entry, IsAscending}
use Rattle.archive_text.specs.Text.{IsArchive, entry_text, text_of}
use Rattle.archive_text.specs.declared.limits.TheConstants.{ENTRY_MAX}
use Rattle.archive_text.proofs.Prefixes.{longest_whole}
use Rattle.archive_text.proofs.Texts.{same_text}
use Rattle.archive_streams.specs.Entries.{IsWhole}
use Rattle.archive_join.specs.Holders.{AreKept, kept_text}
use Rattle.archive_join.specs.Inputs.{AreGiven, AreWhole, MayBeFront, MayBeFronts}
use Rattle.archive_join.specs.Failures.{WriteFailures}
use Rattle.archive_join.specs.Joined.{Joined, Stopped, StopsUpTo}
use Rattle.archive_join.specs.declared.fault.JoinFault.{JoinFault}
use Rattle.archive_join.specs.declared.fault.JoinFault.TheVariants.{Archive, Read, Endless, Write}
use Rattle.archive_join.specs.declared.fault.JoinFault.TheVariants.{Memory as join_Memory}
use Rattle.archive_join.proofs.JoinLaws.{IsKeptAlways, begins_alike, kept_archive, one_list}
use Rattle.archive_spill.specs.Faults.{fault_of}
use Rattle.archive_spill.specs.Runs.{AreRunsOf, AreUnited, IsRunOf}
use Rattle.archive_spill.specs.Writing.{IsOfRuns, WroteLess, WrotePrefix, WritesOut}
use Rattle.archive_spill.specs.declared.fault.SpillFault.{SpillFault}
use Rattle.archive_spill.specs.declared.fault.SpillFault.TheVariants.{TooLong, Spill, Output, Memory}
use Rattle.std.proofs.Math.Seq.{take-append_seam}

-- ---- what was read of runs

same_some : (a b : List ℕ) → Some a ≡ Some b → a ≡ b
same_some a b e = cc e

one_whole : (l r : Option (List ℕ)) (t u : List ℕ) → l ≡ Some t → Consumes l r u → IsAtEnd r → u ≡ t
one_whole None r t u same took end = absurd (cc same)
one_whole (Some a) None t u same took end = absurd took
one_whole (Some a) (Some b) t u same took end =
    sym (sym (same_some a t same) ∙ took ∙ ap (λ (x : List ℕ). u ++ x) end ∙ append-nil u)

run_whole : (d e : InputState) (xs ys : List Entry) → IsRunOf d xs → IsWhole d e ys → ys ≡ xs
run_whole d e xs ys run w =
    same_text ENTRY_MAX ENTRY_MAX ys xs (omega arith) (omega arith) w.archive run.1
    (one_whole d.left e.left (text_of xs) (text_of ys) run.0 w.consumed w.none_left)

-- all that was read of runs is what they hold
runs_whole : (ds es : List InputState) (xss yss : List (List Entry)) → AreRunsOf ds xss → AreWhole ds es yss → yss ≡ xss
runs_whole [] [] [] [] h w = refl
runs_whole [] [] [] (ys ∷ yss) h w = absurd w
runs_whole [] (e ∷ es) [] yss h w = absurd w
runs_whole [] es (xs ∷ xss) yss h w = absurd h
runs_whole (d ∷ ds) es [] yss h w = absurd h
runs_whole (d ∷ ds) [] (xs ∷ xss) yss h w = absurd w
runs_whole (d ∷ ds) (e ∷ es) (xs ∷ xss) [] h w = absurd w
runs_whole (d ∷ ds) (e ∷ es) (xs ∷ xss) (ys ∷ yss) h w =
    ap (λ (l : List Entry). l ∷ yss) (run_whole d e xs ys h.0 w.0)
    ∙ ap (λ (l : List (List Entry)). xs ∷ l) (runs_whole ds es xss yss h.1 w.1)

one_front : (l r : Option (List ℕ)) (given : List ℕ) (xs : List Entry) → IsArchive ENTRY_MAX xs → l ≡ Some (text_of xs)
    → Consumes l r given → (e : InputState) → e.left ≡ r → MayBeFront e given xs
one_front None r given xs archive same took e is = absurd (cc same)
one_front (Some a) None given xs archive same took e is = absurd took
one_front (Some a) (Some b) given xs archive same took e is = (
  b,
  [],
  subst (λ (l : Option (List ℕ)). IsAtEnd l → b ≡ []) (sym is) (λ end. end),
  longest_whole ENTRY_MAX (given ++ b) xs (omega arith) archive (sym took ∙ same_some a (text_of xs) same),
)

-- the fronts of what was read of runs may be what they hold
runs_fronts : (ds es : List InputState) (given : List (List ℕ)) (xss : List (List Entry)) → AreRunsOf ds xss
    → AreGiven ds es given → MayBeFronts es given xss
runs_fronts [] [] [] [] h g = tt
runs_fronts [] [] (x ∷ given) xss h g = absurd g
runs_fronts [] (e ∷ es) given xss h g = absurd g
runs_fronts [] [] [] (xs ∷ xss) h g = absurd h
runs_fronts (d ∷ ds) es given [] h g = absurd h
runs_fronts (d ∷ ds) [] given (xs ∷ xss) h g = absurd g
runs_fronts (d ∷ ds) (e ∷ es) [] (xs ∷ xss) h g = absurd g
runs_fronts (d ∷ ds) (e ∷ es) (x ∷ given) (xs ∷ xss) h g =
    (one_front d.left e.left x xs h.0.1 h.0.0 g.0.consumed e refl, runs_fronts ds es given xss h.1 g.1)

runs_archives : (ds : List InputState) (xss : List (List Entry)) → AreRunsOf ds xss
    → AllByRecursion (IsArchive ENTRY_MAX) xss
runs_archives [] [] h = tt
runs_archives [] (xs ∷ xss) h = absurd h
runs_archives (d ∷ ds) [] h = absurd h
runs_archives (d ∷ ds) (xs ∷ xss) h = (h.0.1, runs_archives ds xss h.1)

-- ---- what was joined

-- how the union of archives is written
abbrev pub union_text : List Bool → Entry → List ℕ
union_text have e = entry_text e

kept_of : (xss : List (List Entry)) (ys : List Entry) → IsAscending ys → AreUnited xss ys → AreKept IsKeptAlways xss ys
kept_of xss ys ascending u = record {
  ascending = ascending;
  members = λ e. (λ h. ((u e).0 h, tt), λ h. (u e).1 h.0);
}

appended : (a b : Option (List ℕ)) (t : List ℕ) → a ≡ Some [] → Appends a b t → b ≡ Some t
appended None b t same h = absurd (cc same)
appended (Some x) None t same h = absurd h
appended (Some x) (Some y) t same h = ap Some (h ∙ ap (λ (l : List ℕ). l ++ t) (same_some x [] same))

-- what became of runs that were joined into one
pub record IsOneOf (xss : List (List Entry)) (taken : Option (List ℕ)) : Type 0 where
  pub ys : List Entry
  pub text : taken ≡ Some (text_of ys)
  pub archive : IsArchive ENTRY_MAX ys
  pub united : AreUnited xss ys

pub joined_run : (ds es : List InputState) (a b : Option (List ℕ)) (n : ℕ) (xss : List (List Entry)) → a ≡ Some []
    → AreRunsOf ds xss → Joined IsKeptAlways union_text ds es a b n → IsOneOf xss b
joined_run ds es a b n xss empty runs j =
    let same = runs_whole ds es xss j.xss runs j.whole in
    let kept : AreKept IsKeptAlways xss j.ys =
    subst (λ (l : List (List Entry)). AreKept IsKeptAlways l j.ys) same j.kept in
    record {
      ys = j.ys;
      text = appended a b (text_of j.ys) empty j.written;
      archive = kept_archive IsKeptAlways ENTRY_MAX xss j.ys (runs_archives ds xss runs) kept;
      united = λ e. (λ h. ((kept.members e).0 h).0, λ h. (kept.members e).1 (h, tt));
    }

-- all was written
pub joined_out : (ds es : List InputState) (a b : Option (List ℕ)) (n : ℕ) (xss : List (List Entry)) (ys : List Entry)
    → AreRunsOf ds xss → IsArchive ENTRY_MAX ys → AreUnited xss ys → Joined IsKeptAlways union_text ds es a b n
    → Appends a b (text_of ys)
joined_out ds es a b n xss ys runs archive united j =
    let same = runs_whole ds es xss j.xss runs j.whole in
    let kept : AreKept IsKeptAlways xss j.ys =
    subst (λ (l : List (List Entry)). AreKept IsKeptAlways l j.ys) same j.kept in
    let one = one_list IsKeptAlways xss j.ys ys kept (kept_of xss ys archive.ascending united) in
    subst (λ (l : List Entry). Appends a b (text_of l)) one j.written

-- what was written at a fault begins the text of all
record Begun (W : List ℕ → Type 0) (text : List ℕ) : Type 0 where
  front : List ℕ
  more : List ℕ
  parts : text ≡ front ++ more
  written : W front

begun : (W : List ℕ → Type 0) (fault : JoinFault) (ds es : List InputState) (xss : List (List Entry)) (ys : List Entry)
    → AreRunsOf ds xss → IsArchive ENTRY_MAX ys → AreUnited xss ys → StopsUpTo IsKeptAlways union_text fault ds es W
    → Begun W (text_of ys)
begun W fault ds es xss ys runs archive united s =
    let w = s.written xss (runs_fronts ds es s.given xss runs s.read) in
    let more = begins_alike IsKeptAlways union_text xss s.bound w.0 ys w.1 (kept_of xss ys archive.ascending united) in
    record { front = kept_text union_text xss w.0; more = more.0; parts = more.1; written = w.2 }

take_front : (n : ℕ) (xs ys : List ℕ) → n ≤ length xs → take n (xs ++ ys) ≡ take n xs
take_front n xs ys h = grind (arith, common_steps)

prefix : (a b : OutputState) (text : List ℕ) → Begun (λ (t : List ℕ). Appends a.taken b.taken t) text
    → b.failures ≡ a.failures → WrotePrefix a b text
prefix a b text s sound = record {
  n = length s.front;
  octets = subst (λ (t : List ℕ). Appends a.taken b.taken t)
      (sym (ap (λ (t : List ℕ). take (length s.front) t) s.parts ∙ take-append_seam s.front s.more)) s.written;
  no_failure = sound;
}

less : (a b : OutputState) (text : List ℕ) (sent : ℕ) → Begun (λ (t : List ℕ). StopsWithin a.taken b.taken t sent) text
    → (a.failures < 2 ^ 63 → a.failures < b.failures) → WroteLess a b text
less a b text sent s cause = record {
  n = s.written.n;
  some_left = omega (arith, s.written.some_left, ap length s.parts, length-append s.front s.more);
  octets = subst (λ (t : List ℕ). Appends a.taken b.taken t)
      (sym (ap (λ (t : List ℕ). take s.written.n t) s.parts
      ∙ take_front s.written.n s.front s.more (omega (arith, s.written.some_left)))) s.written.appends;
  cause = cause;
}

-- at a fault a prefix was written
pub stopped_out : (A B : Type 0) (fault : JoinFault) (ds es : List InputState) (a b : OutputState)
    (xss : List (List Entry)) (ys : List Entry) → AreRunsOf ds xss → IsArchive ENTRY_MAX ys → AreUnited xss ys
    → Stopped IsKeptAlways union_text fault ds es a.taken b.taken
    → WriteFailures {X = A} (Err fault) a.failures b.failures
    → WritesOut {A = B} a b (text_of ys) (Err (fault_of fault Output))
stopped_out A B (Archive input f) ds es a b xss ys runs archive united s w =
    prefix a b (text_of ys) (begun _ (Archive input f) ds es xss ys runs archive united s) w
stopped_out A B (Read input) ds es a b xss ys runs archive united s w =
    prefix a b (text_of ys) (begun _ (Read input) ds es xss ys runs archive united s) w
stopped_out A B (Endless input) ds es a b xss ys runs archive united s w =
    prefix a b (text_of ys) (begun _ (Endless input) ds es xss ys runs archive united s) w
stopped_out A B join_Memory ds es a b xss ys runs archive united s w =
    prefix a b (text_of ys) (begun _ join_Memory ds es xss ys runs archive united s) w
stopped_out A B (Write sent) ds es a b xss ys runs archive united s w =
    less a b (text_of ys) sent (begun _ (Write sent) ds es xss ys runs archive united s) w

-- nothing was written
pub none_out : (A : Type 0) (fault : SpillFault) (a : OutputState) (text : List ℕ) → IsOfRuns {A = A} (Err fault)
    → WritesOut {A = A} a a text (Err fault)
none_out A Spill a text of_runs = record { n = 0; octets = Appends-nil a.taken; no_failure = refl }
none_out A Memory a text of_runs = record { n = 0; octets = Appends-nil a.taken; no_failure = refl }
none_out A Output a text of_runs = absurd of_runs
none_out A TooLong a text of_runs = absurd of_runs
