-- Where the parts of a record lie.
use Rattle.std.proofs.Common.{◌≡◌, ℕ, ◌+◌, ◌-◌, ◌≤◌, List, [], ◌∷◌, ◌++◌, length, refl, sym, ap, subst, ◌∙◌, append_assoc}
use Rattle.std.proofs.Common.{arith, inl, inr}
use Rattle.std.specs.Prelude.{Option, Some, None}
use Rattle.std.proofs.lemmas.List.{append-nil, length-append}
use Rattle.syslog_value.specs.Parts.{MessageParts, AnyOctets, Utf8Text}
use Rattle.syslog_fields.specs.Canonical.{word_form}
use Rattle.syslog_fields.specs.Grammar.{MessagePart, Nilable, Spaced, Word}
use Rattle.syslog_reading.specs.ViewParts.{BehindTime, IsViewOf, ViewParts, octets_of}
use Rattle.c_library.specs.Spans.{LiesAt}

-- ---- texts up to the end

-- the text stands there, and ends the octets
pub record Ends (b : List ℕ) (at : ℕ) (text : List ℕ) : Type 0 where
  pub before : List ℕ
  pub parts : b ≡ before ++ text
  pub at_is : at ≡ length before

pub ends_lies : (b w more : List ℕ) (at : ℕ) → Ends b at (w ++ more) → LiesAt b at w
ends_lies b w more at h = record { before = h.before; behind = more; parts = h.parts; at_is = h.at_is }

pub ends_whole : (b w : List ℕ) (at : ℕ) → Ends b at w → LiesAt b at w
ends_whole b w at h = record {
  before = h.before;
  behind = [];
  parts = h.parts ∙ ap (λ (u : List ℕ). h.before ++ u) (sym (append-nil w));
  at_is = h.at_is;
}

pub ends_later : (b w more : List ℕ) (at next : ℕ) → Ends b at (w ++ more) → next ≡ at + length w → Ends b next more
ends_later b w more at next h is = record {
  before = h.before ++ w;
  parts = h.parts ∙ sym (append_assoc h.before w more);
  at_is = omega (arith, is, h.at_is, length-append h.before w);
}

pub ends_room : (b text : List ℕ) (at : ℕ) → Ends b at text → at + length text ≡ length b
ends_room b text at h = omega (arith, h.at_is, ap length h.parts, length-append h.before text)

pub ends_at : (b before text : List ℕ) (at : ℕ) → b ≡ before ++ text → at ≡ length b - length text → Ends b at text
ends_at b before text at e is = record {
  before = before;
  parts = e;
  at_is = omega (arith, is, ap length e, length-append before text);
}

-- a text within one that lies in the octets
pub lies_within : (b text before w behind : List ℕ) (at inner : ℕ) → LiesAt b at text → text ≡ before ++ (w ++ behind)
    → inner ≡ at + length before → LiesAt b inner w
lies_within b text before w behind at inner h e is = record {
  before = h.before ++ before;
  behind = behind ++ h.behind;
  parts = h.parts ∙ ap (λ (u : List ℕ). h.before ++ (u ++ h.behind)) e
      ∙ ap (λ (u : List ℕ). h.before ++ u)
      (append_assoc before (w ++ behind) h.behind ∙ ap (λ (u : List ℕ). before ++ u) (append_assoc w behind h.behind))
      ∙ sym (append_assoc h.before before (w ++ (behind ++ h.behind)));
  at_is = omega (arith, is, h.at_is, length-append h.before before);
}

pub lies_room : (b text : List ℕ) (at : ℕ) → LiesAt b at text → at + length text ≤ length b
lies_room b text at h =
    omega (arith, h.at_is, ap length h.parts, length-append h.before (text ++ h.behind), length-append text h.behind)

-- ---- the words of a record

nilable_form : (n : ℕ) (w : Option (List ℕ)) (x : List ℕ) → Nilable (Word n) w x → x ≡ word_form w
nilable_form n None x h = h
nilable_form n (Some w) x h = h.1

spaced_form : (n : ℕ) (w : Option (List ℕ)) (x : List ℕ) → Spaced (Nilable (Word n) w) x → x ≡ word_form w ++ 32 ∷ []
spaced_form n w x (a, c, e, h, k) =
    e ∙ ap (λ (u : List ℕ). u ++ c) (nilable_form n w a h) ∙ ap (λ (u : List ℕ). word_form w ++ u) k

-- a word, its space and the rest
unfoldable pub spaced : Option (List ℕ) → List ℕ → List ℕ
spaced w rest = (word_form w ++ 32 ∷ []) ++ rest

pub record Behind (s : ViewParts) : Type 0 where
  pub end : List ℕ
  pub parts : s.behind_time ≡ spaced s.hostname (spaced s.app_name (spaced s.proc_id (spaced s.msg_id (s.elements ++ end))))
  pub message : MessagePart s.message end

pub behind_form : (s : ViewParts) → BehindTime s s.behind_time → Behind s
unfolding spaced
behind_form s (x, y, e, (a, x1, ea, ha, (c, x2, ec, hc, (d, x3, ed, hd, hm))), (m, n, f, k, l)) = record {
  end = n;
  parts = e ∙ ap (λ (u : List ℕ). u ++ y) ea ∙ append_assoc a x1 y
      ∙ ap (λ (u : List ℕ). u ++ (x1 ++ y)) (spaced_form 255 s.hostname a ha)
      ∙ ap (λ (u : List ℕ). (word_form s.hostname ++ 32 ∷ []) ++ u)
      (ap (λ (u : List ℕ). u ++ y) ec ∙ append_assoc c x2 y
      ∙ ap (λ (u : List ℕ). u ++ (x2 ++ y)) (spaced_form 48 s.app_name c hc)
      ∙ ap (λ (u : List ℕ). (word_form s.app_name ++ 32 ∷ []) ++ u)
      (ap (λ (u : List ℕ). u ++ y) ed ∙ append_assoc d x3 y
      ∙ ap (λ (u : List ℕ). u ++ (x3 ++ y)) (spaced_form 128 s.proc_id d hd)
      ∙ ap (λ (u : List ℕ). (word_form s.proc_id ++ 32 ∷ []) ++ u)
      (ap (λ (u : List ℕ). u ++ y) (spaced_form 32 s.msg_id x3 hm)
      ∙ ap (λ (u : List ℕ). (word_form s.msg_id ++ 32 ∷ []) ++ u)
      (f ∙ ap (λ (u : List ℕ). u ++ n) k))));
  message = l;
}

-- the words, the structured data and the end of a record
pub record Laid (b : List ℕ) (s : ViewParts) : Type 0 where
  pub end : List ℕ
  pub ends : Ends b (length b - length s.behind_time)
      (spaced s.hostname (spaced s.app_name (spaced s.proc_id (spaced s.msg_id (s.elements ++ end)))))
  pub message : MessagePart s.message end

pub laid : (b : List ℕ) (s : ViewParts) → IsViewOf b s → Laid b s
laid b s (p, text, inside, distinct, h) =
    let at : ℕ = length b - length s.behind_time in
    let f = behind_form s h.behind_time in
    record {
      end = f.end;
      ends = subst (Ends b at) f.parts (ends_at b h.lies.0 s.behind_time at h.lies.1 refl);
      message = f.message;
    }

-- a word, and what follows it
pub word_lies : (b rest : List ℕ) (w : Option (List ℕ)) (at : ℕ) → Ends b at (spaced w rest) → LiesAt b at (word_form w)
unfolding spaced
word_lies b rest w at h =
    ends_lies b (word_form w) (32 ∷ rest) at (subst (Ends b at) (append_assoc (word_form w) (32 ∷ []) rest) h)

pub word_later : (b rest : List ℕ) (w : Option (List ℕ)) (at next : ℕ) → Ends b at (spaced w rest)
    → next ≡ at + length (word_form w) + 1 → Ends b next rest
unfolding spaced
word_later b rest w at next h is =
    ends_later b (word_form w ++ 32 ∷ []) rest at next h (omega (arith, is, length-append (word_form w) (32 ∷ [])))

pub word_room : (b rest : List ℕ) (w : Option (List ℕ)) (at : ℕ) → Ends b at (spaced w rest)
    → at + length (word_form w) + 1 ≤ length b
unfolding spaced
word_room b rest w at h =
    omega (
      arith,
      ends_room b (spaced w rest) at h,
      length-append (word_form w ++ 32 ∷ []) rest,
      length-append (word_form w) (32 ∷ []),
    )

-- ---- the message

message_ends : (m : MessageParts) (end : List ℕ) → MessagePart m end → (front : List ℕ) × (end ≡ front ++ octets_of m)
message_ends m end (inl (e, f)) = rw (e, f) ([], refl)
message_ends (AnyOctets o) end (inr (x, y, e, h, k)) = (x, e ∙ ap (λ (u : List ℕ). x ++ u) k.2)
message_ends (Utf8Text t) end (inr (x, y, e, h, (i, (c, d, f, g, j)))) = (
  x ++ c,
  e ∙ ap (λ (u : List ℕ). x ++ u) f ∙ ap (λ (u : List ℕ). x ++ (c ++ u)) j ∙ sym (append_assoc x c t),
)

-- what the end of some octets ends with, they end with
joined : (b before h a p m e end front text : List ℕ) → b ≡ before ++ (h ++ (a ++ (p ++ (m ++ (e ++ end)))))
    → end ≡ front ++ text → b ≡ (before ++ (h ++ (a ++ (p ++ (m ++ (e ++ front)))))) ++ text
joined b before h a p m e end front text f g =
    f ∙ ap (λ (u : List ℕ). before ++ (h ++ (a ++ (p ++ (m ++ (e ++ u)))))) g ∙ simp append_assoc

pub message_lies : (b : List ℕ) (s : ViewParts) → IsViewOf b s
    → (before : List ℕ) × (b ≡ before ++ octets_of s.message)
unfolding spaced
message_lies b s seen =
    let l = laid b s seen in
    let m = message_ends s.message l.end l.message in (
      _,
      joined b l.ends.before (word_form s.hostname ++ 32 ∷ []) (word_form s.app_name ++ 32 ∷ [])
          (word_form s.proc_id ++ 32 ∷ []) (word_form s.msg_id ++ 32 ∷ []) s.elements l.end m.0 (octets_of s.message)
          l.ends.parts m.1,
    )
