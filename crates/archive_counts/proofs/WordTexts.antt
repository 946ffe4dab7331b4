-- The words of a record under keys: there is one text of them, and no word has a space.
use Rattle.std.proofs.Common.{◌≡◌, ℕ, zero, suc, ◌+◌, ◌%◌, ◌/◌, ◌<◌, ◌≤◌, List, [], ◌∷◌, ◌++◌, Option, None, Some, length, take, drop, get_or}
use Rattle.std.proofs.Common.{true, false, refl, sym, ap, subst, ◌∙◌, append-nil, append_assoc, arith, nat_lt}
use Rattle.std.specs.Prelude.{◌↔◌, ◌≢◌, ◌&&◌, Bool, ℤ, codes, IfSome}
use Rattle.std.proofs.lemmas.Bool.Decides.{nat_tests}
use Rattle.std.proofs.lemmas.Grind.{common_steps}
use Rattle.std.specs.List.{AllByRecursion}
use Rattle.std.proofs.lemmas.List.{append_cancel_left, take-append-drop, take_all, take_more}
use Rattle.std.proofs.lemmas.List.Concat.{flat_map-append}
use Rattle.octet_language.specs.Language.{Only}
use Rattle.octet_language.proofs.Lists.{AllByRecursion-append, AllByRecursion-left, AllByRecursion-weaker, same_until, tails}
use Rattle.syslog_value.specs.Facilities.{facility_name}
use Rattle.syslog_value.specs.Parts.{IsPrintable, IsRecord, IsWord, Parts}
use Rattle.syslog_value.specs.Severities.{severity_name}
use Rattle.syslog_value.specs.declared.civil.Civil.{Civil}
use Rattle.syslog_value.specs.declared.facility.Facility.{Facility}
use Rattle.syslog_value.specs.declared.facility.Facility.TheVariants as facility
use Rattle.syslog_value.specs.declared.severity.Severity.{Severity}
use Rattle.syslog_value.specs.declared.severity.Severity.TheVariants as severity
use Rattle.syslog_value.proofs.Tables.{facility_once, severity_once}
use Rattle.syslog_fields.specs.Canonical.{civil_text, word_form}
use Rattle.syslog_fields.specs.Appending.{Adds}
use Rattle.syslog_fields.specs.Time.{padded}
use Rattle.syslog_fields.proofs.CanonicalTexts.{time_once}
use Rattle.syslog_reading.proofs.Laws.{one_meaning}
use Rattle.syslog_reading.proofs.Valid.{well_formed_valid}
use Rattle.archive_text.specs.Entries.{Entry}
use Rattle.archive_counts.specs.Words.{AreSpaced, AreWordsOf, HasText, HasWords, IsFree, IsPeriodWord, IsWordOf}
use Rattle.archive_counts.specs.Words.{WordsText, spaced}
use Rattle.archive_counts.specs.declared.key.CountKey.{CountKey}
use Rattle.archive_counts.specs.declared.key.CountKey.TheVariants as key

-- ---- one word more

words_more : (keys : List CountKey) (k : CountKey) (r : Parts ℤ) (ws : List (List ℕ)) (w : List ℕ) → AreWordsOf keys r ws
    → IsWordOf k r w → AreWordsOf (keys ++ k ∷ []) r (ws ++ w ∷ [])
words_more [] k r ws w h i =
    subst (λ (l : List (List ℕ)). AreWordsOf (k ∷ []) r (l ++ w ∷ [])) (sym h) (i, refl)
words_more (x ∷ keys) k r [] w h i = absurd h
words_more (x ∷ keys) k r (v ∷ ws) w h i = (h.0, words_more keys k r ws w h.1 i)

spaced_more : (ws : List (List ℕ)) (w : List ℕ) → spaced (ws ++ w ∷ []) ≡ spaced ws ++ 32 ∷ w
spaced_more ws w =
    flat_map-append (λ (x : List ℕ). 32 ∷ x) ws (w ∷ []) ∙ ap (λ (t : List ℕ). spaced ws ++ t) (append-nil (32 ∷ w))

pub text_more : (keys : List CountKey) (k : CountKey) (r : Parts ℤ) (text w : List ℕ) → WordsText keys r text
    → IsWordOf k r w → WordsText (keys ++ k ∷ []) r (text ++ 32 ∷ w)
text_more keys k r text w (ws, are, is) i = (
  ws ++ w ∷ [],
  words_more keys k r ws w are i,
  ap (λ (t : List ℕ). t ++ 32 ∷ w) is ∙ sym (spaced_more ws w),
)

-- ---- a record has one word under a key

period_once : (n : ℕ) (i : Option ℤ) (a b : List ℕ) → IsPeriodWord n i a → IsPeriodWord n i b → a ≡ b
period_once n None a b h k = h ∙ sym k
period_once n (Some i) a b (s, form, is) (t, form', is') =
    is ∙ ap (take n) (time_once (Some i) s t form form') ∙ sym is'

word_once : (k : CountKey) (r : Parts ℤ) (a b : List ℕ) → IsWordOf k r a → IsWordOf k r b → a ≡ b
word_once key.Host r a b h k = h ∙ sym k
word_once key.App r a b h k = h ∙ sym k
word_once key.Proc r a b h k = h ∙ sym k
word_once key.Msgid r a b h k = h ∙ sym k
word_once key.Facility r a b (f, code, is) (g, code', is') =
    is ∙ ap facility_name (facility_once f g (code ∙ sym code')) ∙ sym is'
word_once key.Severity r a b (s, code, is) (t, code', is') =
    is ∙ ap severity_name (severity_once s t (code ∙ sym code')) ∙ sym is'
word_once key.Day r a b h k = period_once 10 r.time a b h k
word_once key.Hour r a b h k = period_once 13 r.time a b h k
word_once key.Minute r a b h k = period_once 16 r.time a b h k

words_once : (keys : List CountKey) (r : Parts ℤ) (ws vs : List (List ℕ)) → AreWordsOf keys r ws → AreWordsOf keys r vs
    → ws ≡ vs
words_once [] r ws vs h k = h ∙ sym k
words_once (x ∷ keys) r [] vs h k = absurd h
words_once (x ∷ keys) r (a ∷ ws) [] h k = absurd k
words_once (x ∷ keys) r (a ∷ ws) (b ∷ vs) h k =
    ap (λ (l : List ℕ). l ∷ ws) (word_once x r a b h.0 k.0)
    ∙ ap (λ (l : List (List ℕ)). b ∷ l) (words_once keys r ws vs h.1 k.1)

-- an entry has one text of words
pub one_text : (keys : List CountKey) (a b : List ℕ) (e : Entry) → HasText keys a e → HasText keys b e → a ≡ b
one_text keys a b e h k =
    let same = one_meaning h.of k.of e.octets h.well_formed k.well_formed in
    let also : WordsText keys k.of a = subst (λ (r : Parts ℤ). WordsText keys r a) same h.holds in
    also.2 ∙ ap spaced (words_once keys k.of also.0 k.holds.0 also.1 k.holds.1) ∙ sym k.holds.2

-- and one list of them
pub same_words : (keys : List CountKey) (ws vs : List (List ℕ)) (e : Entry) → HasWords keys ws e → HasWords keys vs e
    → ws ≡ vs
same_words keys ws vs e h k =
    let same = one_meaning h.of k.of e.octets h.well_formed k.well_formed in
    words_once keys k.of ws vs (subst (λ (r : Parts ℤ). AreWordsOf keys r ws) same h.holds) k.holds

-- ---- no word has a space

abbrev has_none : List ℕ → Bool
has_none [] = true
has_none (x ∷ xs) = nat_lt 32 x && has_none xs

free_from_test : (xs : List ℕ) → has_none xs ≡ true → AllByRecursion IsFree xs
free_from_test [] h = tt
free_from_test (x ∷ xs) h = (first x (has_none xs) h, free_from_test xs (others (nat_lt 32 x) (has_none xs) h))
  where
    first : (y : ℕ) (b : Bool) → (nat_lt 32 y && b) ≡ true → IsFree y
    first y b e = grind (arith, nat_tests, common_steps, e)

    others : (a b : Bool) → (a && b) ≡ true → b ≡ true
    others true b e = e
    others false b e = absurd cc

facility_test : (f : Facility) → has_none (facility_name f) ≡ true
facility_test facility.Kern = refl
facility_test facility.User = refl
facility_test facility.Mail = refl
facility_test facility.Daemon = refl
facility_test facility.Auth = refl
facility_test facility.Syslog = refl
facility_test facility.Lpr = refl
facility_test facility.News = refl
facility_test facility.Uucp = refl
facility_test facility.Cron = refl
facility_test facility.AuthPriv = refl
facility_test facility.Ftp = refl
facility_test facility.Ntp = refl
facility_test facility.Audit = refl
facility_test facility.Alert = refl
facility_test facility.Clock = refl
facility_test facility.Local0 = refl
facility_test facility.Local1 = refl
facility_test facility.Local2 = refl
facility_test facility.Local3 = refl
facility_test facility.Local4 = refl
facility_test facility.Local5 = refl
facility_test facility.Local6 = refl
facility_test facility.Local7 = refl

severity_test : (s : Severity) → has_none (severity_name s) ≡ true
severity_test severity.Emergency = refl
severity_test severity.Alert = refl
severity_test severity.Critical = refl
severity_test severity.Error = refl
severity_test severity.Warning = refl
severity_test severity.Notice = refl
severity_test severity.Informational = refl
severity_test severity.Debug = refl

digit : (n : ℕ) → IsFree (48 + n % 10)
digit n = omega arith

pub padded_free : (w n : ℕ) → AllByRecursion IsFree (padded w n)
padded_free zero n = tt
padded_free (suc w) n =
    AllByRecursion-append IsFree (padded w (n / 10)) ((48 + n % 10) ∷ []) (padded_free w (n / 10)) (digit n, tt)

-- one more number, behind a mark
pub number : (s : List ℕ) (x w n : ℕ) → IsFree x → AllByRecursion IsFree s → AllByRecursion IsFree (s ++ x ∷ padded w n)
number s x w n e h = AllByRecursion-append IsFree s (x ∷ padded w n) h (e, padded_free w n)

civil_free : (c : Civil) → AllByRecursion IsFree (civil_text c)
unfolding civil_text
civil_free c =
    let year : List ℕ = padded 4 c.year in
    let month : List ℕ = year ++ 45 ∷ padded 2 c.month in
    let day : List ℕ = month ++ 45 ∷ padded 2 c.day in
    let hour : List ℕ = day ++ 84 ∷ padded 2 c.hour in
    let minute : List ℕ = hour ++ 58 ∷ padded 2 c.minute in
    let second : List ℕ = minute ++ 58 ∷ padded 2 c.second in
    let micros : List ℕ = second ++ 46 ∷ padded 6 c.micros in
    AllByRecursion-append IsFree micros (90 ∷ [])
    (number second 46 6 c.micros (omega arith) (number minute 58 2 c.second (omega arith)
    (number hour 58 2 c.minute (omega arith) (number day 84 2 c.hour (omega arith)
    (number month 45 2 c.day (omega arith) (number year 45 2 c.month (omega arith)
    (padded_free 4 c.year)))))))
    (omega arith, tt)

taken_free : (n : ℕ) (xs : List ℕ) → AllByRecursion IsFree xs → AllByRecursion IsFree (take n xs)
taken_free n xs h =
    AllByRecursion-left IsFree (take n xs) (drop n xs) (subst (AllByRecursion IsFree) (sym (take-append-drop n xs)) h)

period_free : (n : ℕ) (i : Option ℤ) (w : List ℕ) → IsPeriodWord n i w → AllByRecursion IsFree w
period_free n None w h = subst (AllByRecursion IsFree) (sym h) (free_from_test (codes "undated") refl)
period_free n (Some i) w (time, (c, exists, names, form), is) =
    subst (AllByRecursion IsFree) (sym is)
    (taken_free n time (subst (AllByRecursion IsFree) (sym form) (civil_free c)))

pub field_free : (n : ℕ) (f : Option (List ℕ)) → IfSome f (IsWord n) → AllByRecursion IsFree (word_form f)
field_free n None h = (omega arith, tt)
field_free n (Some w) h = AllByRecursion-weaker IsPrintable IsFree (λ x p. omega (arith, p.0)) w h.printable

word_free : (k : CountKey) (r : Parts ℤ) (w : List ℕ) → IsRecord r → IsWordOf k r w → AllByRecursion IsFree w
word_free key.Host r w v h = subst (AllByRecursion IsFree) (sym h) (field_free 255 r.hostname v.hostname)
word_free key.App r w v h = subst (AllByRecursion IsFree) (sym h) (field_free 48 r.app_name v.app_name)
word_free key.Proc r w v h = subst (AllByRecursion IsFree) (sym h) (field_free 128 r.proc_id v.proc_id)
word_free key.Msgid r w v h = subst (AllByRecursion IsFree) (sym h) (field_free 32 r.msg_id v.msg_id)
word_free key.Facility r w v (f, code, is) =
    subst (AllByRecursion IsFree) (sym is) (free_from_test (facility_name f) (facility_test f))
word_free key.Severity r w v (s, code, is) =
    subst (AllByRecursion IsFree) (sym is) (free_from_test (severity_name s) (severity_test s))
word_free key.Day r w v h = period_free 10 r.time w h
word_free key.Hour r w v h = period_free 13 r.time w h
word_free key.Minute r w v h = period_free 16 r.time w h

abbrev AreFree : List (List ℕ) → Type 0
AreFree ws = AllByRecursion (AllByRecursion IsFree) ws

words_count : (keys : List CountKey) (r : Parts ℤ) (ws : List (List ℕ)) → AreWordsOf keys r ws → length ws ≡ length keys
words_count [] r ws h = ap length h
words_count (k ∷ keys) r [] h = absurd h
words_count (k ∷ keys) r (w ∷ ws) h = omega (arith, words_count keys r ws h.1)

words_free : (keys : List CountKey) (r : Parts ℤ) (ws : List (List ℕ)) → IsRecord r → AreWordsOf keys r ws → AreFree ws
words_free [] r ws v h = subst AreFree (sym h) tt
words_free (k ∷ keys) r [] v h = absurd h
words_free (k ∷ keys) r (w ∷ ws) v h = (word_free k r w v h.0, words_free keys r ws v h.1)

-- ---- so a text has one list of words

no_space : (w : List ℕ) → AllByRecursion IsFree w → AllByRecursion (λ y. y ≢ 32) w
no_space w h = AllByRecursion-weaker IsFree (λ y. y ≢ 32) (λ y above e. omega (arith, above, e)) w h

-- behind a word comes a space, or nothing
behind : (ws vs : List (List ℕ)) (keys : List CountKey) (r q : Parts ℤ) (a b : List ℕ) → AreWordsOf keys r ws
    → AreWordsOf keys q vs → AllByRecursion IsFree a → AllByRecursion IsFree b → a ++ spaced ws ≡ b ++ spaced vs → a ≡ b
behind [] [] keys r q a b h k p s e = sym (append-nil a) ∙ e ∙ append-nil b
behind [] (y ∷ vs) [] r q a b h k p s e = absurd cc
behind [] (y ∷ vs) (x ∷ keys) r q a b h k p s e = absurd h
behind (x ∷ ws) [] [] r q a b h k p s e = absurd cc
behind (x ∷ ws) [] (y ∷ keys) r q a b h k p s e = absurd k
behind (x ∷ ws) (y ∷ vs) keys r q a b h k p s e = same_until 32 a b (x ++ spaced ws) (y ++ spaced vs) (no_space a p) (no_space b s) e

pub one_list : (keys : List CountKey) (r q : Parts ℤ) (ws vs : List (List ℕ)) → IsRecord r → IsRecord q
    → AreWordsOf keys r ws → AreWordsOf keys q vs → spaced ws ≡ spaced vs → ws ≡ vs
one_list [] r q ws vs v u h k e = h ∙ sym k
one_list (x ∷ keys) r q [] vs v u h k e = absurd h
one_list (x ∷ keys) r q (a ∷ ws) [] v u h k e = absurd k
one_list (x ∷ keys) r q (a ∷ ws) (b ∷ vs) v u h k e =
    let rest : a ++ spaced ws ≡ b ++ spaced vs = tails 32 32 (a ++ spaced ws) (b ++ spaced vs) e in
    let same : a ≡ b = behind ws vs keys r q a b h.1 k.1 (word_free x r a v h.0) (word_free x q b u k.0) rest in
    let more : spaced ws ≡ spaced vs = append_cancel_left a (spaced ws) (spaced vs)
    (rest ∙ ap (λ (l : List ℕ). l ++ spaced vs) (sym same)) in
    ap (λ (l : List ℕ). l ∷ ws) same ∙ ap (λ (l : List (List ℕ)). b ∷ l) (one_list keys r q ws vs v u h.1 k.1 more)

pub are_spaced : (keys : List CountKey) (r : Parts ℤ) (ws : List (List ℕ)) (text : List ℕ) → IsRecord r
    → AreWordsOf keys r ws → text ≡ spaced ws → AreSpaced keys ws text
are_spaced keys r ws text v h is =
    record { is = is; free = words_free keys r ws v h; count = words_count keys r ws h }

-- ---- the entries with the words of one of them

-- those whose words are written so have these words
pub has_words : (keys : List CountKey) (ws : List (List ℕ)) (e x : Entry) → HasWords keys ws e
    → HasText keys (spaced ws) x ↔ HasWords keys ws x
has_words keys ws e x h = (
  λ k. record {
    of = k.of;
    well_formed = k.well_formed;
    holds =
        let r = h.of in
        let same : k.holds.0 ≡ ws = one_list keys k.of r k.holds.0 ws (well_formed_valid k.of x.octets k.well_formed)
        (well_formed_valid r e.octets h.well_formed) k.holds.1 h.holds (sym k.holds.2) in
        subst (λ (l : List (List ℕ)). AreWordsOf keys k.of l) same k.holds.1;
  },
  λ k. record { of = k.of; well_formed = k.well_formed; holds = (ws, k.holds, refl) },
)

-- ---- words are appended

pub words_begin : (r : Parts ℤ) (old : List ℕ) → Adds (WordsText [] r) old old
words_begin r old = ([], ([], refl, refl), sym (append-nil old))

pub words_step : (keys : List CountKey) (i : ℕ) (d : CountKey) (r : Parts ℤ) (old out mid new : List ℕ) → i < length keys
    → Adds (WordsText (take i keys) r) old out → Adds (Only (32 ∷ [])) out mid
    → Adds (IsWordOf (get_or keys i d) r) mid new → Adds (WordsText (take (i + 1) keys) r) old new
words_step keys i d r old out mid new within (text, words, e) (space, space_is, f) (word, one, g) = (
  text ++ 32 ∷ word,
  subst (λ (l : List CountKey). WordsText l r (text ++ 32 ∷ word)) (sym (take_more keys i d within))
      (text_more (take i keys) (get_or keys i d) r text word words one),
  g
      ∙ ap (λ (t : List ℕ). t ++ word) (f ∙ ap (λ (t : List ℕ). t ++ space) e)
      ∙ ap (λ (t : List ℕ). old ++ text ++ t ++ word) space_is
      ∙ append_assoc (old ++ text) (32 ∷ []) word
      ∙ append_assoc old text (32 ∷ word),
)

pub words_all : (keys : List CountKey) (i : ℕ) (r : Parts ℤ) (old out : List ℕ) → length keys ≤ i
    → Adds (WordsText (take i keys) r) old out → Adds (WordsText keys r) old out
words_all keys i r old out all h = subst (λ (l : List CountKey). Adds (WordsText l r) old out) (take_all i keys all) h
