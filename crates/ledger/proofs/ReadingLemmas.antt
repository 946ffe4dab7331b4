-- Octets are read, line by line.
use Rattle.std.proofs.Common.{◌≡◌, ◌≢◌, ℕ, zero, suc, ◌+◌, ◌-◌, ◌^◌, ◌<◌, ◌≤◌, List, [], ◌∷◌, ◌++◌, length, min, refl, sym, ap, subst, ◌∙◌, arith, inl, inr}
use Rattle.std.proofs.Common.{append_assoc, append-nil, length-append, rules, Bool, true, false, Option, None, Some, Bor}
use Rattle.std.specs.Prelude.{◌⊎◌, ◌↔◌, EachIndex, IfSome, IsTrue, codes, decimal, slice_index, if◌then◌else◌}
use Rattle.std.specs.Bool.{Decides}
use Rattle.std.specs.Io.KnownBytes.{Consumes, IsAtEnd}
use Rattle.std.proofs.KnownBytes.{Consumes-nil, Consumes-trans}
use Rattle.octet_devices.specs.Device.{InputState}
use Rattle.std.specs.List.{AllByRecursion}
use Rattle.std.specs.Str.{bytes_eq}
use Rattle.std.proofs.lemmas.Fmt.{length-decimal-le}
use Rattle.std.proofs.lemmas.Slice.Eq.{bytes_eq-Decides}
use Rattle.octet_language.specs.Digits.{IsDigit}
use Rattle.octet_language.proofs.Decimal.{digits_decimal}
use Rattle.octet_language.proofs.Lists.{AllByRecursion-append, AllByRecursion-weaker, same_until}
use Rattle.ledger.specs.Chains.{ChainsFrom, Continues, start}
use Rattle.ledger.specs.Lines.{IsEvent, IsLine, IsRemoval, IsSaid, Said, body_text, chain_behind, octets_text, removal_text, said_text, what_word}
use Rattle.ledger.specs.Readings.{AddsLine, Follows, Gives, HasNoEnd, IsReadFault, HasTaken, IsAsked, IsBroken, IsNoLine, IsRead, StandsAmong, TellsBreak, lines_text}
use Rattle.ledger.specs.Standings.{IsStandingOf, TakesLine, behind_line, listed_at, standing_from}
use Rattle.ledger.specs.Words.{IsHash, IsHexDigit, IsNumber, IsPrinted, IsWord, word_and}
use Rattle.ledger.specs.declared.body.TheConstants.{NAME_MAX, TIME_MAX}
use Rattle.ledger.specs.declared.entry.Event.{Event}
use Rattle.ledger.specs.declared.entry.Event.TheVariants.{Added, Joined, Gone, Sealed}
use Rattle.ledger.specs.declared.entry.Removal.{Removal}
use Rattle.ledger.specs.declared.entry.Removal.TheVariants.{Joined as JoinedInto, Expired}
use Rattle.ledger.specs.declared.fault.LedgerFault.{LedgerFault}
use Rattle.ledger.specs.declared.fault.LedgerFault.TheVariants.{Broken, Input, Memory}
use Rattle.ledger.specs.declared.head.ChainHead.{ChainHead}
use Rattle.ledger.specs.declared.head.TheConstants.{LINE_MAX}
use Rattle.ledger.specs.declared.reader.LedgerRead.{LedgerRead}
use Rattle.ledger.specs.declared.reader.Reading.{Reading}
use Rattle.ledger.specs.declared.standing.Listed.{Listed}
use Rattle.ledger.specs.declared.standing.Standing.{Standing}
use Rattle.ledger.proofs.HeadLemmas.{chain_hash}
use Rattle.ledger.proofs.LawLemmas.{chain_size, counted}

-- ---- a line has no line feed, and at most 511 octets

free_at : (P : ℕ → Type 0) → ((x : ℕ) → P x → x ≢ 10) → (w : List ℕ) → EachIndex w (λ k. P (slice_index w k))
    → HasNoEnd w
free_at P apart [] h = tt
free_at P apart (x ∷ w) h =
    (apart x (h zero (omega arith)), free_at P apart w (λ k low. h (suc k) (omega arith)))

word_free : (most : ℕ) (w : List ℕ) → IsWord most w → HasNoEnd w
word_free most w h = free_at IsPrinted (λ x p e. omega (arith, p.0, e)) w h.printed

digit_apart : (x : ℕ) → IsHexDigit x → x ≢ 10
digit_apart x (inl h) e = omega (arith, h.0, e)
digit_apart x (inr h) e = omega (arith, h.0, e)

hash_free : (h : List ℕ) → IsHash h → HasNoEnd h
hash_free h is = free_at IsHexDigit digit_apart h is.digits

number_free : (n : ℕ) → IsNumber n → HasNoEnd (decimal n)
number_free n small =
    AllByRecursion-weaker IsDigit (λ y. y ≢ 10) (λ y d e. omega (arith, d.0, e)) (decimal n) (digits_decimal n small)

and_free : (w rest : List ℕ) → HasNoEnd w → HasNoEnd rest → HasNoEnd (word_and w rest)
and_free w rest p q = AllByRecursion-append (λ y. y ≢ 10) w (32 ∷ rest) p ((λ e. omega arith), q)

what_free : (event : Event) → HasNoEnd (what_word event)
what_free Added = ((λ e. omega arith), ((λ e. omega arith), ((λ e. omega arith), tt)))
what_free Joined = ((λ e. omega arith), ((λ e. omega arith), ((λ e. omega arith), ((λ e. omega arith), tt))))
what_free (Gone removal) = ((λ e. omega arith), ((λ e. omega arith), ((λ e. omega arith), ((λ e. omega arith), tt))))
what_free (Sealed root) = ((λ e. omega arith), ((λ e. omega arith), ((λ e. omega arith), ((λ e. omega arith), tt))))

removal_free : (why : Removal) → IsRemoval why → HasNoEnd (removal_text why)
removal_free Expired h = (
  (λ e. omega arith),
  (
    (λ e. omega arith),
    (
      (λ e. omega arith),
      (
        (λ e. omega arith),
        (
          (λ e. omega arith),
          ((λ e. omega arith), ((λ e. omega arith), tt)),
        ),
      ),
    ),
  ),
)
removal_free (JoinedInto line) h =
    and_free (codes "joined") (decimal line) (
      (λ e. omega arith),
      (
        (λ e. omega arith),
        (
          (λ e. omega arith),
          (
            (λ e. omega arith),
            (
              (λ e. omega arith),
              ((λ e. omega arith), tt),
            ),
          ),
        ),
      ),
    ) (number_free line h)

octets_free : (event : Event) (n : ℕ) → IsEvent event → IsNumber n → HasNoEnd (octets_text event n)
octets_free Added n h small = number_free n small
octets_free Joined n h small = number_free n small
octets_free (Gone removal) n h small =
    and_free (decimal n) (removal_text removal) (number_free n small) (removal_free removal h)
octets_free (Sealed root) n h small = and_free (decimal n) root (number_free n small) (hash_free root h)

said_free : (s : Said) → IsSaid s → HasNoEnd (said_text s)
said_free s h =
    and_free (what_word s.event) _ (what_free s.event)
    (and_free s.name _ (word_free NAME_MAX s.name h.name)
    (and_free (decimal s.count) _ (number_free s.count h.count) (octets_free s.event s.octets h.event h.octets)))

body_free : (n : ℕ) (time : List ℕ) (s : Said) → IsLine n time s → HasNoEnd (body_text n time s)
body_free n time s h =
    and_free (decimal n) _ (number_free n h.number_fits)
    (and_free time _ (word_free TIME_MAX time h.time_word) (said_free s h.said))

line_free : (b : ChainHead) (line : List ℕ) (s : Said) (next : ChainHead) → Continues b line s next → HasNoEnd line
line_free b line s next h =
    subst HasNoEnd (sym h.text)
    (and_free (body_text next.number h.time s) _ (body_free next.number h.time s h.valid)
    (hash_free _ (chain_hash b.chain (body_text next.number h.time s))))

and_length : (w rest : List ℕ) → length (word_and w rest) ≡ length w + 1 + length rest
and_length w rest = omega (arith, length-append w (32 ∷ rest))

number_short : (n : ℕ) → IsNumber n → length (decimal n) ≤ 20
number_short n small = length-decimal-le 20 n (omega arith) (omega arith) small

removal_short : (why : Removal) → IsRemoval why → length (removal_text why) ≤ 27
removal_short Expired h = omega arith
removal_short (JoinedInto line) h = omega (arith, number_short line h, and_length (codes "joined") (decimal line))

octets_short : (event : Event) (n : ℕ) → IsEvent event → IsNumber n → length (octets_text event n) ≤ 85
octets_short Added n h small = omega (arith, number_short n small)
octets_short Joined n h small = omega (arith, number_short n small)
octets_short (Gone removal) n h small =
    omega (arith, number_short n small, removal_short removal h, and_length (decimal n) (removal_text removal))
octets_short (Sealed root) n h small = omega (arith, number_short n small, h.size, and_length (decimal n) root)

what_short : (event : Event) → length (what_word event) ≤ 4
what_short Added = omega arith
what_short Joined = omega arith
what_short (Gone removal) = omega arith
what_short (Sealed root) = omega arith

said_short : (s : Said) → IsSaid s → length (said_text s) ≤ 367
said_short s h =
    omega (
      arith,
      what_short s.event,
      h.name.short,
      number_short s.count h.count,
      octets_short s.event s.octets h.event h.octets,
      and_length (what_word s.event) (word_and s.name (word_and (decimal s.count) (octets_text s.event s.octets))),
      and_length s.name (word_and (decimal s.count) (octets_text s.event s.octets)),
      and_length (decimal s.count) (octets_text s.event s.octets),
    )

line_short : (b : ChainHead) (line : List ℕ) (s : Said) (next : ChainHead) → Continues b line s next
    → length line < LINE_MAX
line_short b line s next h =
    omega (
      arith,
      ap length h.text,
      number_short next.number h.valid.number_fits,
      h.valid.time_word.short,
      said_short s h.valid.said,
      chain_size b.chain (body_text next.number h.time s),
      and_length (body_text next.number h.time s) (chain_behind b.chain (body_text next.number h.time s)),
      and_length (decimal next.number) (word_and h.time (said_text s)),
      and_length h.time (said_text s),
    )

-- ---- a ledger with a line more

pub chains_more : (b h next : ChainHead) (lines : List (List ℕ)) (ss : List Said) (line : List ℕ) (s : Said)
    → ChainsFrom b lines ss h → Continues h line s next → ChainsFrom b (lines ++ line ∷ []) (ss ++ s ∷ []) next
chains_more b h next [] [] line s p k = (next, subst (λ (g : ChainHead). Continues g line s next) (sym p) k, refl)
chains_more b h next [] (t ∷ ss) line s p k = absurd p
chains_more b h next (x ∷ lines) [] line s p k = absurd p
chains_more b h next (x ∷ lines) (t ∷ ss) line s (m, one, p) k = (m, one, chains_more m h next lines ss line s p k)

pub as_many : (b h : ChainHead) (lines : List (List ℕ)) (ss : List Said) → ChainsFrom b lines ss h
    → length ss ≡ length lines
as_many b h [] [] p = refl
as_many b h [] (t ∷ ss) p = absurd p
as_many b h (x ∷ lines) [] p = absurd p
as_many b h (x ∷ lines) (t ∷ ss) (m, one, p) = omega (arith, as_many m h lines ss p)

pub lines_more : (lines : List (List ℕ)) (line : List ℕ) → lines_text (lines ++ line ∷ []) ≡ lines_text lines ++ (line ++ 10 ∷ [])
lines_more [] line = refl
lines_more (x ∷ lines) line =
    ap (λ (l : List ℕ). x ++ 10 ∷ l) (lines_more lines line)
    ∙ sym (append_assoc x (10 ∷ lines_text lines) (line ++ 10 ∷ []))

all_more : {X : Type 0} (P : X → Type 0) (xs : List X) (x : X) → AllByRecursion P xs → P x → AllByRecursion P (xs ++ x ∷ [])
all_more P [] x h p = (p, tt)
all_more P (y ∷ xs) x h p = (h.0, all_more P xs x h.1 p)

regroup : (here asked rest more : Type 0) → (more ↔ (rest ⊎ asked)) → ((here ⊎ more) ↔ ((here ⊎ rest) ⊎ asked))
regroup here asked rest more same = (one, other)
  where
    split : rest ⊎ asked → (here ⊎ rest) ⊎ asked
    split (inl h) = inl (inr h)
    split (inr h) = inr h

    one : here ⊎ more → (here ⊎ rest) ⊎ asked
    one (inl h) = inl (inl h)
    one (inr h) = split (same.0 h)

    other : (here ⊎ rest) ⊎ asked → here ⊎ more
    other (inl (inl h)) = inl h
    other (inl (inr h)) = inr (same.1 (inl h))
    other (inr h) = inr (same.1 (inr h))

among_more : (a : Option (Bor (List ℕ))) (lines : List (List ℕ)) (line : List ℕ)
    → StandsAmong a (lines ++ line ∷ []) ↔ (StandsAmong a lines ⊎ IsAsked a line)
among_more a [] line = (one, other)
  where
    one : IsAsked a line ⊎ ⊥ → ⊥ ⊎ IsAsked a line
    one (inl h) = inr h
    one (inr h) = absurd h

    other : ⊥ ⊎ IsAsked a line → IsAsked a line ⊎ ⊥
    other (inl h) = absurd h
    other (inr h) = inl h
among_more a (x ∷ lines) line =
    regroup (IsAsked a x) (IsAsked a line) (StandsAmong a lines) (StandsAmong a (lines ++ line ∷ []))
    (among_more a lines line)

-- ---- what is listed with a line more

unfoldable pub step : List ℕ → Option Listed → ℕ → Said → Option Listed
step name before number s = if bytes_eq name s.name then behind_line before number s else before

pub standing_more : (name : List ℕ) (o : Option Listed) (k : ℕ) (ss : List Said) (s : Said)
    → standing_from name o k (ss ++ s ∷ []) ≡ step name (standing_from name o k ss) (k + length ss) s
unfolding step
standing_more name o k [] s = let same : k + 0 ≡ k = omega arith in rw same refl
standing_more name o k (t ∷ ss) s =
    let same : (k + 1) + length ss ≡ k + length (t ∷ ss) = omega arith in
    standing_more name (if bytes_eq name t.name then behind_line o k t else o) (k + 1) ss s
    ∙ ap (λ (j : ℕ). step name (standing_from name (if bytes_eq name t.name then behind_line o k t else o) (k + 1) ss) j s)
    same

at_name : (t u : Standing) (name : List ℕ) (number m : ℕ) (old : Option Listed) (s : Said) → number ≡ m
    → listed_at t name ≡ old → TakesLine t u number s → (r : Bool) → r ≡ bytes_eq name s.name → Decides r (name ≡ s.name)
    → listed_at u name ≡ step name old m s
unfolding step
at_name t u name number m old s is h k true e d =
    let same : name ≡ s.name = d.0 refl in
    let before : listed_at t s.name ≡ old = ap (listed_at t) (sym same) ∙ h in
    rw (← e) (ap (listed_at u) same ∙ k.here ∙ ap (λ (o : Option Listed). behind_line o number s) before
    ∙ ap (λ (j : ℕ). behind_line old j s) is)
at_name t u name number m old s is h k false e d =
    let apart : name ≢ s.name = λ same. (let x : false ≡ true = d.1 same in cc) in
    rw (← e) (k.others name apart ∙ h)

listed_more : (t u : Standing) (number : ℕ) (ss : List Said) (s : Said) → number ≡ 1 + length ss → IsStandingOf t ss
    → TakesLine t u number s → IsStandingOf u (ss ++ s ∷ [])
listed_more t u number ss s is h k name =
    at_name t u name number (1 + length ss) (standing_from name None 1 ss) s is (h name) k (bytes_eq name s.name) refl
    (bytes_eq-Decides name s.name) ∙ sym (standing_more name None 1 ss s)

-- ---- a reading

pub nothing_taken : (a : Option (Bor (List ℕ))) (r : LedgerRead) (line : List ℕ) → line ≡ []
    → ((name : List ℕ) → listed_at r.standing name ≡ None) → r.head ≡ start → r.whole ≡ 0 → r.has_line ≡ false
    → IsRead a [] r line
nothing_taken a r line empty none begins whole unset = record {
  lines = [];
  said = [];
  of_text = record {
    parts = sym empty;
    lines_free = tt;
    torn_free = subst HasNoEnd (sym empty) tt;
  };
  short = omega (arith, ap length empty);
  ledger = sym begins;
  listed = none;
  whole = λ small. whole;
  asked = ((λ is. let k : true ≡ false = sym (true_is r.has_line is) ∙ unset in cc), λ h. absurd h);
}
  where
    true_is : (b : Bool) → IsTrue b → b ≡ true
    true_is true h = refl
    true_is false h = absurd (search (rules, h))

whole_more : (text line : List ℕ) (lines : List (List ℕ)) (old new : ℕ) → text ≡ lines_text lines ++ line
    → (length text < 2 ^ 64 → old ≡ length (lines_text lines)) → new ≡ min (old + (length line + 1)) (2 ^ 64 - 1)
    → length (text ++ 10 ∷ []) < 2 ^ 64 → new ≡ length (lines_text (lines ++ line ∷ []))
whole_more text line lines old new parts h is small =
    let one = length-append text (10 ∷ []) in
    let same = h (omega arith) in
    omega (
      arith,
      same,
      one,
      ap length parts,
      length-append (lines_text lines) line,
      ap length (lines_more lines line),
      length-append (lines_text lines) (line ++ 10 ∷ []),
      length-append line (10 ∷ []),
    )

among_is : (old new asked : Type 0) (among more : Type 0) → (old ↔ among) → (new ↔ (old ⊎ asked)) → (more ↔ (among ⊎ asked))
    → (new ↔ more)
among_is old new asked among more p q r = (forth, back)
  where
    one : old ⊎ asked → among ⊎ asked
    one (inl h) = inl (p.0 h)
    one (inr h) = inr h

    two : among ⊎ asked → old ⊎ asked
    two (inl h) = inl (p.1 h)
    two (inr h) = inr h

    forth : new → more
    forth h = r.1 (one (q.0 h))

    back : more → new
    back h = q.1 (two (r.0 h))

pub line_taken : (old new : Reading) (text : List ℕ) → new.against ≡ old.against
    → AddsLine old.read new.read old.against old.line.items → new.line.items ≡ [] → HasTaken old text
    → HasTaken new (text ++ 10 ∷ [])
line_taken old new text asks adds empty h =
    let line = old.line.items in
    record {
      lines = h.lines ++ line ∷ [];
      said = h.said ++ adds.said ∷ [];
      of_text = record {
        parts = ap (λ (l : List ℕ). l ++ 10 ∷ []) h.of_text.parts
            ∙ append_assoc (lines_text h.lines) line (10 ∷ []) ∙ sym (lines_more h.lines line)
            ∙ sym (append-nil (lines_text (h.lines ++ line ∷ [])))
            ∙ ap (λ (l : List ℕ). lines_text (h.lines ++ line ∷ []) ++ l) (sym empty);
        lines_free = all_more HasNoEnd h.lines line h.of_text.lines_free h.of_text.torn_free;
        torn_free = subst HasNoEnd (sym empty) tt;
      };
      short = omega (arith, ap length empty);
      ledger = chains_more start old.read.head new.read.head h.lines h.said line adds.said h.ledger adds.continues;
      listed =
          let number : new.read.head.number ≡ 1 + length h.said =
          omega (
            arith,
            adds.continues.next,
            counted start old.read.head h.lines h.said h.ledger,
            as_many start old.read.head h.lines h.said h.ledger,
          ) in
          listed_more old.read.standing new.read.standing new.read.head.number h.said adds.said number h.listed
          adds.listed;
      whole = whole_more text line h.lines old.read.whole new.read.whole h.of_text.parts h.whole adds.whole;
      asked =
          subst (λ (a : Option (Bor (List ℕ))). IsTrue new.read.has_line ↔ StandsAmong a (h.lines ++ line ∷ []))
          (sym asks)
          (among_is (IsTrue old.read.has_line) (IsTrue new.read.has_line) (IsAsked old.against line)
          (StandsAmong old.against h.lines) (StandsAmong old.against (h.lines ++ line ∷ [])) h.asked adds.asked
          (among_more old.against h.lines line));
    }

pub octet_taken : (old new : Reading) (text : List ℕ) (octet : ℕ) → octet ≢ 10 → new.against ≡ old.against
    → new.read ≡ old.read → new.line.items ≡ old.line.items ++ octet ∷ [] → length old.line.items + 1 < LINE_MAX
    → HasTaken old text → HasTaken new (text ++ octet ∷ [])
octet_taken old new text octet apart asks same is room h =
    subst (λ (l : LedgerRead). IsRead new.against (text ++ octet ∷ []) l new.line.items) (sym same)
    (subst (λ (a : Option (Bor (List ℕ))). IsRead a (text ++ octet ∷ []) old.read new.line.items) (sym asks)
    (record {
      lines = h.lines;
      said = h.said;
      of_text = record {
        parts = ap (λ (l : List ℕ). l ++ octet ∷ []) h.of_text.parts
            ∙ append_assoc (lines_text h.lines) old.line.items (octet ∷ [])
            ∙ ap (λ (l : List ℕ). lines_text h.lines ++ l) (sym is);
        lines_free = h.of_text.lines_free;
        torn_free = subst HasNoEnd (sym is)
            (AllByRecursion-append (λ y. y ≢ 10) old.line.items (octet ∷ []) h.of_text.torn_free (apart, tt));
      };
      short = omega (arith, room, ap length is, length-append old.line.items (octet ∷ []));
      ledger = h.ledger;
      listed = h.listed;
      whole = λ small. h.whole (omega (arith, small, length-append text (octet ∷ [])));
      asked = h.asked;
    }))

-- ---- where it breaks

broken_parts : (text front line more : List ℕ) (octet : ℕ) → text ≡ front ++ line
    → (text ++ octet ∷ []) ++ more ≡ front ++ (line ++ octet ∷ more)
broken_parts text front line more octet parts =
    append_assoc text (octet ∷ []) more ∙ ap (λ (l : List ℕ). l ++ octet ∷ more) parts
    ∙ append_assoc front line (octet ∷ more)

ends_here : (line more : List ℕ) → ¬ HasNoEnd (line ++ 10 ∷ more)
ends_here [] more h = h.0 refl
ends_here (x ∷ line) more h = ends_here line more h.1

pub line_breaks : (old : Reading) (text more : List ℕ) (at : ℕ) → at ≡ old.read.whole
    → ((s : Said) (next : ChainHead) → ¬ Continues old.read.head old.line.items s next) → HasTaken old text
    → IsBroken ((text ++ 10 ∷ []) ++ more) at
line_breaks old text more at is none h =
    record {
      lines = h.lines;
      said = h.said;
      head = old.read.head;
      rest = old.line.items ++ 10 ∷ more;
      parts = broken_parts text (lines_text h.lines) old.line.items more 10 h.of_text.parts;
      ledger = h.ledger;
      place = λ small. is ∙ h.whole (omega (arith, small, length-append (text ++ 10 ∷ []) more, length-append text (10 ∷ [])));
      ended = inl (ends_here old.line.items more);
      none = λ line others s next k same.
          let free = line_free old.read.head line s next k in
          let one : old.line.items ≡ line = same_until 10 old.line.items line more others h.of_text.torn_free free same in
          none s next (subst (λ (l : List ℕ). Continues old.read.head l s next) (sym one) k);
    }

-- free of line feeds, and longer than what ends with one
too_far : (long line rest others : List ℕ) → HasNoEnd long → length line < length long
    → long ++ rest ≢ line ++ 10 ∷ others
too_far [] line rest others free less e = omega arith
too_far (x ∷ long) [] rest others free less e = free.0 (let same : x ∷ (long ++ rest) ≡ 10 ∷ others = e in cc)
too_far (x ∷ long) (y ∷ line) rest others free less e =
    too_far long line rest others free.1 (omega arith)
    (let same : x ∷ (long ++ rest) ≡ y ∷ (line ++ 10 ∷ others) = e in cc)

pub too_long : (old : Reading) (text more : List ℕ) (octet : ℕ) → octet ≢ 10 → LINE_MAX ≤ length old.line.items + 1
    → HasTaken old text → IsBroken ((text ++ octet ∷ []) ++ more) old.read.whole
too_long old text more octet apart long h =
    let size = length-append old.line.items (octet ∷ []) in
    record {
      lines = h.lines;
      said = h.said;
      head = old.read.head;
      rest = old.line.items ++ octet ∷ more;
      parts = broken_parts text (lines_text h.lines) old.line.items more octet h.of_text.parts;
      ledger = h.ledger;
      place = λ small. h.whole (omega (arith, small, length-append (text ++ octet ∷ []) more, length-append text (octet ∷ [])));
      ended = inr (omega (arith, long, length-append old.line.items (octet ∷ more)));
      none = λ line others s next k same.
          let short = line_short old.read.head line s next k in
          too_far (old.line.items ++ octet ∷ []) line more others
          (AllByRecursion-append (λ y. y ≢ 10) old.line.items (octet ∷ []) h.of_text.torn_free (apart, tt))
          (omega arith) (append_assoc old.line.items (octet ∷ []) more ∙ same);
    }

pub line_faults : (old : Reading) (fault : LedgerFault) → IsNoLine old.read old.line.items fault
    → TellsBreak fault (λ at. (text more : List ℕ) → HasTaken old text → IsBroken ((text ++ 10 ∷ []) ++ more) at)
line_faults old (Broken at) h = λ text more taken. line_breaks old text more at h.0 h.1 taken
line_faults old (Input fault) h = h
line_faults old Memory h = h

-- ---- octets, one after the other

pub takes_more : (first old new : Reading) (xs : List ℕ) (octet : ℕ) → Follows first old xs
    → (new.against ≡ old.against) × ((text : List ℕ) → HasTaken old text → HasTaken new (text ++ octet ∷ []))
    → Follows first new (xs ++ octet ∷ [])
takes_more first old new xs octet (same, before) (still, more) = (
  still ∙ same,
  λ text h. subst (HasTaken new) (append_assoc text xs (octet ∷ [])) (more (text ++ xs) (before text h)),
)

pub breaks_more : (first old : Reading) (xs ys : List ℕ) (octet : ℕ) (fault : LedgerFault) → Follows first old xs
    → TellsBreak fault (λ at. (text more : List ℕ) → HasTaken old text → IsBroken ((text ++ octet ∷ []) ++ more) at)
    → TellsBreak fault (λ at. (text more : List ℕ) → HasTaken first text
    → IsBroken ((text ++ (xs ++ octet ∷ ys)) ++ more) at)
breaks_more first old xs ys octet (Broken at) (same, before) breaks =
    λ text more h.
    let parts : ((text ++ xs) ++ octet ∷ []) ++ (ys ++ more) ≡ (text ++ (xs ++ octet ∷ ys)) ++ more =
    simp append_assoc in
    subst (λ (l : List ℕ). IsBroken l at) parts (breaks (text ++ xs) (ys ++ more) (before text h))
breaks_more first old xs ys octet (Input fault) (same, before) breaks = breaks
breaks_more first old xs ys octet Memory (same, before) breaks = breaks

-- ---- an input

pub gives_nothing : (state : InputState) (r : Reading) → Gives state state r r
gives_nothing state r = record {
  given = [];
  consumed = Consumes-nil state.left;
  taken = (refl, λ text h. subst (HasTaken r) (sym (append-nil text)) h);
}

pub gives_more : (a b c : InputState) (first old new : Reading) (octets : List ℕ) → Gives a b first old
    → Consumes b.left c.left octets → Follows old new octets → Gives a c first new
gives_more a b c first old new octets g step (same, goes) = record {
  given = g.given ++ octets;
  consumed = Consumes-trans a.left b.left c.left g.given octets g.consumed step;
  taken = (
    same ∙ g.taken.0,
    λ text h. subst (HasTaken new) (append_assoc text g.given octets) (goes (text ++ g.given) (g.taken.1 text h)),
  );
}

pub gives_end : (a b c : InputState) (first now : Reading) (octets : List ℕ) → Gives a b first now
    → Consumes b.left c.left octets → octets ≡ [] → Gives a c first now
gives_end a b c first now octets g step none = record {
  given = g.given ++ octets;
  consumed = Consumes-trans a.left b.left c.left g.given octets g.consumed step;
  taken = subst (Follows first now) (sym (append-nil g.given) ∙ ap (λ (l : List ℕ). g.given ++ l) (sym none)) g.taken;
}

breaks_at : (a c : Option (List ℕ)) (given : List ℕ) (at : ℕ) → Consumes a c given
    → ((more : List ℕ) → IsBroken (given ++ more) at) → IfSome a (λ text. IsBroken text at)
breaks_at None c given at step h = tt
breaks_at (Some x) None given at step h = absurd step
breaks_at (Some x) (Some y) given at step h = subst (λ (l : List ℕ). IsBroken l at) (sym step) (h y)

pub read_breaks : (a b c : InputState) (first now : Reading) (octets : List ℕ) (fault : LedgerFault) → Gives a b first now
    → Consumes b.left c.left octets
    → TellsBreak fault (λ at. (text more : List ℕ) → HasTaken now text → IsBroken ((text ++ octets) ++ more) at)
    → HasTaken first [] → IsReadFault fault a c
read_breaks a b c first now octets (Broken at) g step breaks begins =
    breaks_at a.left c.left (g.given ++ octets) at
    (Consumes-trans a.left b.left c.left g.given octets g.consumed step)
    (λ more. breaks g.given more (g.taken.1 [] begins))
read_breaks a b c first now octets (Input fault) g step breaks begins = absurd breaks
read_breaks a b c first now octets Memory g step breaks begins = tt

read_at : (a c : Option (List ℕ)) (given : List ℕ) (P : List ℕ → Type 0) → Consumes a c given → IsAtEnd c → P given
    → IfSome a P
read_at None c given P step end h = tt
read_at (Some x) None given P step end h = absurd step
read_at (Some x) (Some y) given P step end h =
    subst P (sym (step ∙ ap (λ (l : List ℕ). given ++ l) end ∙ append-nil given)) h

pub read_whole : (a c : InputState) (first now : Reading) (against : Option (Bor (List ℕ))) → Gives a c first now
    → IsAtEnd c.left → HasTaken first [] → first.against ≡ against
    → IfSome a.left (λ text. (torn : List ℕ) × IsRead against text now.read torn)
read_whole a c first now against g end begins asks =
    read_at a.left c.left g.given (λ text. (torn : List ℕ) × IsRead against text now.read torn) g.consumed end (
      now.line.items,
      subst (λ (o : Option (Bor (List ℕ))). IsRead o g.given now.read now.line.items) (g.taken.0 ∙ asks)
          (g.taken.1 [] begins),
    )
