-- The last parts of a record, which take all octets that are left.
use Rattle.std.proofs.Common.{◌≡◌, ◌≢◌, ℕ, List, [], ◌∷◌, ◌++◌, take, refl, sym, ap, subst, ◌∙◌, inl, inr, ◌⊎◌}
use Rattle.std.proofs.lemmas.List.{append-nil}
use Rattle.octet_language.specs.Language.{Language, Only, ◌⋅◌, AnyOf, Refuses, IsPrefixFree}
use Rattle.octet_language.specs.Reading.{Fails, Follows, Misses}
use Rattle.octet_language.proofs.Chain.{IsPrefixFree-only}
use Rattle.octet_language.proofs.Many.{Many}
use Rattle.octet_language.proofs.Whole.{Misses-field, Misses-behind, Misses-or, Misses-many}
use Rattle.syslog_value.specs.Parts.{MessageParts, AnyOctets, Utf8Text, bom}
use Rattle.syslog_fields.specs.Grammar.{Message, MessagePart}
use Rattle.syslog_fields.specs.Utf8.{IsText, Character, IsCharacter}
use Rattle.syslog_fields.proofs.Characters.{IsPrefixFree-character}

-- two languages with the same texts miss alike
pub Misses-same : (L M : Language) (b : List ℕ) (remaining : ℕ) → ((s : List ℕ) → L s → M s)
    → ((s : List ℕ) → M s → L s) → Misses L b remaining → Misses M b remaining
Misses-same L M b remaining to from m = record {
  none = λ h. m.none (from b h);
  stops = record {
    read = m.stops.read;
    rest = m.stops.rest;
    parts = m.stops.parts;
    count = m.stops.count;
    begins = (m.stops.begins.0, to (m.stops.read ++ m.stops.begins.0) m.stops.begins.1);
    refuses = same_refuses m.stops.read m.stops.rest m.stops.refuses;
  };
}
  where
    same_refuses : (p rest : List ℕ) → Refuses L p rest → Refuses M p rest
    same_refuses p [] r = tt
    same_refuses p (x ∷ rest) r = λ (more, h). r (more, from ((p ++ x ∷ []) ++ more) h)

-- ---- characters up to the end

abbrev Chars : Language
Chars = Many Character (Only [])

chars_text : (s : List ℕ) → Chars s → IsText s
chars_text s (x, y, e, h, k) = subst IsText (sym (e ∙ ap (λ (u : List ℕ). x ++ u) k ∙ append-nil x)) h

text_chars : (s : List ℕ) → IsText s → Chars s
text_chars s h = (s, [], sym (append-nil s), h, refl)

from_character : (s : List ℕ) → AnyOf Character s → IsCharacter s
from_character s (c, (h, e)) = subst IsCharacter (sym e) h

IsPrefixFree-any_character : IsPrefixFree (AnyOf Character)
IsPrefixFree-any_character p s q t h k e = IsPrefixFree-character p s q t (from_character p h) (from_character q k) e

-- what follows the first characters, and the whole
pub record Goes (b rest : List ℕ) : Type 0 where
  pub good : IsText rest → IsText b
  pub bad : (remaining : ℕ) → Misses IsText rest remaining → Misses IsText b remaining

pub goes_all : (b : List ℕ) → Goes b b
goes_all b = record { good = λ h. h; bad = λ remaining m. m }

not_empty : (b p r more : List ℕ) (x : ℕ) → b ≡ p ++ x ∷ r → ¬ (Only [] ((p ++ x ∷ []) ++ more))
not_empty b [] r more x e = λ k. absurd cc
not_empty b (y ∷ p) r more x e = λ k. absurd cc

text_misses : (b : List ℕ) (remaining : ℕ) → b ≢ [] → Misses (AnyOf Character ⋅ Chars) b remaining
    → Misses IsText b remaining
text_misses b remaining some m = Misses-same Chars IsText b remaining chars_text text_chars
    (Misses-many Character (Only []) b remaining some (not_empty b) m)

cons_some : (b rest : List ℕ) (x : ℕ) → b ≡ x ∷ rest → b ≢ []
cons_some b rest x e k = absurd cc

any_character : (b rest : List ℕ) → Follows IsCharacter b rest → Follows (AnyOf Character) b rest
any_character b rest (t, e, h) = (t, e, (t, (h, refl)))

pub goes_more : (b rest after rest' : List ℕ) (x : ℕ) → rest ≡ x ∷ rest' → Follows IsCharacter rest after → Goes b rest
    → Goes b after
goes_more b rest after rest' x e f g = record {
  good = λ h. g.good (one_text h);
  bad = λ remaining m. g.bad remaining (text_misses rest remaining (cons_some rest rest' x e)
      (Misses-behind (AnyOf Character) Chars rest after remaining IsPrefixFree-any_character
      (any_character rest after f) (Misses-same IsText Chars after remaining text_chars chars_text m)));
}
  where
    one_text : IsText after → IsText rest
    one_text (cs, h) = subst IsText (sym f.1) (f.0 ∷ cs, (f.0, after, refl, (f.2, refl), h))

pub goes_bad : (b rest rest' : List ℕ) (x remaining : ℕ) → rest ≡ x ∷ rest' → Fails IsCharacter rest remaining
    → Goes b rest → Misses IsText b remaining
goes_bad b rest rest' x remaining e f g = g.bad remaining
    (text_misses rest remaining (cons_some rest rest' x e)
    (Misses-field (AnyOf Character) Chars rest [] remaining (text_chars [] ([], refl)) any_fails))
  where
    any_fails : Fails (AnyOf Character) rest remaining
    any_fails = record {
      none = λ x y d h. f.none x y d (from_character x h);
      stops = record {
        read = f.stops.read;
        rest = f.stops.rest;
        parts = f.stops.parts;
        count = f.stops.count;
        begins =
            (f.stops.begins.0, (f.stops.read ++ f.stops.begins.0, (f.stops.begins.1, refl)));
        refuses =
            any_refuses f.stops.read f.stops.rest f.stops.refuses;
      };
    }
      where
        any_refuses : (p r : List ℕ) → Refuses IsCharacter p r → Refuses (AnyOf Character) p r
        any_refuses p [] k = tt
        any_refuses p (y ∷ r) k = λ (more, h). k (more, from_character ((p ++ y ∷ []) ++ more) h)

pub goes_end : (b rest : List ℕ) → rest ≡ [] → Goes b rest → IsText b
goes_end b rest e g = g.good (subst IsText (sym e) ([], refl))

-- ---- the message

bom_prefix : (s : List ℕ) → take 3 (bom ++ s) ≡ bom
bom_prefix s = refl

message_read : (s : List ℕ) → AnyOf Message (bom ++ s) → IsText s
message_read s (AnyOctets octets, (h, k, e)) = absurd (k (subst (λ (u : List ℕ). take 3 u ≡ bom) e refl))
message_read s (Utf8Text text, (h, (x, y, e, f, g))) =
    let both : bom ++ s ≡ bom ++ text = e ∙ ap (λ (u : List ℕ). u ++ y) f ∙ ap (λ (u : List ℕ). bom ++ u) g in
    let same : s ≡ text = cc in
    subst IsText (sym same) h

-- after the BOM no text
pub message_misses : (b rest : List ℕ) (remaining : ℕ) → b ≡ bom ++ rest → Misses IsText rest remaining
    → Misses (AnyOf Message) b remaining
message_misses b rest remaining e m = record {
  none = λ h. m.none (message_read rest (subst (AnyOf Message) e h));
  stops = record {
    read = bom ++ m.stops.read;
    rest = m.stops.rest;
    parts = e ∙ ap (λ (u : List ℕ). bom ++ u) m.stops.parts;
    count = m.stops.count;
    begins = (
      m.stops.begins.0,
      (
        Utf8Text (m.stops.read ++ m.stops.begins.0),
        (m.stops.begins.1, (bom, m.stops.read ++ m.stops.begins.0, refl, refl, refl)),
      ),
    );
    refuses = message_refuses m.stops.read m.stops.rest m.stops.refuses;
  };
}
  where
    message_refuses : (p r : List ℕ) → Refuses IsText p r → Refuses (AnyOf Message) (bom ++ p) r
    message_refuses p [] k = tt
    message_refuses p (x ∷ r) k = λ (more, h). k (more, message_read ((p ++ x ∷ []) ++ more) h)

pub bom_message : (b rest : List ℕ) → b ≡ bom ++ rest → IsText rest → Message (Utf8Text rest) b
bom_message b rest e h = (h, (bom, rest, e, refl, refl))

-- ---- nothing, or a space and a message

abbrev pub Spaces : Language
Spaces = Only (32 ∷ []) ⋅ AnyOf Message

to_tail : (s : List ℕ) → Spaces s → AnyOf MessagePart s
to_tail s (x, y, e, h, (m, k)) = (m, inr (x, y, e, h, k))

from_tail : (s : List ℕ) → AnyOf MessagePart s → Spaces s ⊎ Only [] s
from_tail s (m, inl (k, e)) = inr e
from_tail s (m, inr (x, y, e, h, k)) = inl (x, y, e, h, (m, k))

tail_or : (b : List ℕ) (remaining : ℕ) → b ≢ [] → Misses Spaces b remaining → Misses (AnyOf MessagePart) b remaining
tail_or b remaining some m = Misses-or Spaces (Only []) (AnyOf MessagePart) b remaining to_tail from_tail some
    (not_empty b) m

pub empty_message : Message (AnyOctets []) []
empty_message = (tt, (λ e. absurd cc), refl)

no_message : AnyOf Message []
no_message = (AnyOctets [], empty_message)

pub tail_no_space : (b : List ℕ) (remaining : ℕ) → b ≢ [] → Fails (Only (32 ∷ [])) b remaining
    → Misses (AnyOf MessagePart) b remaining
tail_no_space b remaining some f = tail_or b remaining some
    (Misses-field (Only (32 ∷ [])) (AnyOf Message) b [] remaining no_message f)

pub tail_misses : (b rest : List ℕ) (remaining : ℕ) → b ≢ [] → Follows (Only (32 ∷ [])) b rest
    → Misses (AnyOf Message) rest remaining → Misses (AnyOf MessagePart) b remaining
tail_misses b rest remaining some f m = tail_or b remaining some
    (Misses-behind (Only (32 ∷ [])) (AnyOf Message) b rest remaining (IsPrefixFree-only (32 ∷ [])) f m)

pub spaced_tail : (b rest : List ℕ) (m : MessageParts) → Follows (Only (32 ∷ [])) b rest → Message m rest
    → MessagePart m b
spaced_tail b rest m (t, e, h) k = inr (t, rest, e, h, k)

pub empty_tail : (b : List ℕ) → b ≡ [] → MessagePart (AnyOctets b) b
empty_tail b e = inl (ap AnyOctets e, e)
